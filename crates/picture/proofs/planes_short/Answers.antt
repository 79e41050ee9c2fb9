-- `picture::planes_short` meets its contract: the first short plane decides, and the third where the others are not.
-- Assumes nothing.
use Prim.Native.Nat.{ℕ}
use mathlib.Core.Path.{◌≡◌, sym, ◌∙◌}
use Rattle.lent.specs.Sizes.{too_short}
use Rattle.picture.specs.Sizes.{stride_of, rows_of}
use Rattle.picture.proofs.Sizes.{short_1, short_2, short_3}
use Rattle.picture.proofs.planes_short.Goals.{After-rows-rows}
use Rattle.picture.proofs.planes_short.Goals as goal

-- stride and rows are the size's, in each test
sized : (c : After-rows-rows) (n : ℕ) → let z = c.args.size in too_short (stride_of z) (rows_of z) n ≡ too_short c.stride-stride.result c.rows-rows.result n
sized c n = sym (λ i. too_short (c.stride-stride.ensures.0 i) (c.rows-rows.ensures.0 i) n)

pub returns-then-too_short : goal.returns-then-too_short
returns-then-too_short c =
    let k = c.args in
    sym (short_1 _ k.ny k.nu k.nv (sized (goal.at.returns-then-too_short c).After-rows-rows k.ny ∙ sym c.too_short.ensures ∙ c.if-too_short.true))

pub returns-then-too_short-2 : goal.returns-then-too_short-2
returns-then-too_short-2 c =
    let k = c.args in
    sym (short_2 _ k.ny k.nu k.nv (sized (goal.at.returns-then-too_short-2 c).After-rows-rows k.nu ∙ sym c.too_short-2.ensures ∙ c.if-too_short-2.true))

pub returns : goal.returns
returns c =
    let k = c.args in
    let y_long = sized (goal.at.returns c).After-rows-rows k.ny ∙ sym c.too_short.ensures ∙ c.if-too_short.false in
    let u_long = sized (goal.at.returns c).After-rows-rows k.nu ∙ sym c.too_short-2.ensures ∙ c.if-too_short-2.false in
    c.too_short-3.ensures ∙ sym (sized (goal.at.returns c).After-rows-rows k.nv) ∙ sym (short_3 k.size k.ny k.nu k.nv y_long u_long)
