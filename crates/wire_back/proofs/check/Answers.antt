-- `wire_back::check` meets its contract: the payload's number, then 6 for each list, then the writer's of what was read.
-- Assumes nothing.
use Prim.Native.Nat.{ℕ, ◌*◌, ◌≤◌}
use native.Mathlib.Omega.{arith}
use mathlib.Core.Path.{◌≡◌, sym, ap, ◌∙◌}
use Rattle.std.proofs.lemmas.Result.{err_from_is_err_and}
use Rattle.lent.proofs.Answered.{never_0, accepted, refused_as}
use Rattle.wire_read.specs.declared.Avc444.{Avc444}
use Rattle.wire_read.specs.declared.parts.Which.TheVariants.{Luma}
use Rattle.wire_read.specs.Parts.{places_of}
use Rattle.wire_write.specs.declared.number.StreamSizes.{StreamSizes}
use Rattle.wire_back.specs.Back.{sizes_at}
use Rattle.wire_write.specs.Number.{write_number_of}
use Rattle.wire_back.proofs.Again.{number_read, number_luma, number_chroma, number_write}
use Rattle.wire_back.proofs.check.Goals.{Else-lumas-luma}
use Rattle.wire_back.proofs.check.Goals as goal

-- the writer's number, of what was read
writes : (x : ℕ) (a : Avc444) (n : ℕ) {l m : StreamSizes} → l ≡ sizes_at a.luma → m ≡ sizes_at a.chroma → x ≡ write_number_of a.kind l m n → x ≡ write_number_of a.kind (sizes_at a.luma) (sizes_at a.chroma) n
writes x a n f g e = e ∙ (λ i. write_number_of a.kind (f i) (g i) n)

room : (c : Else-lumas-luma) → 4 * (places_of c.args.payload.now Luma).count ≤ c.args.lumas
room c = let e = ap (λ (a : Avc444). a.luma.count) c.in_ok-a.ensures.carried in let h = c.if-lumas-luma.false in omega arith

pub returns-in_err-a : goal.returns-in_err-a
returns-in_err-a c =
    let p = err_from_is_err_and c.from_residual.result c.from_residual.ensures.1 in
    rw (p.1, p.2) (number_read _ _ _ _ (refused_as c.accept.ensures.number c.in_err-a.was) (never_0 _))

pub returns-then-lumas-luma : goal.returns-then-lumas-luma
returns-then-lumas-luma c =
    let e = ap (λ (a : Avc444). a.luma.count) c.in_ok-a.ensures.carried in
    let h = c.if-lumas-luma.true in
    number_luma c.args.payload.now _ _ _ (sym c.in_ok-a.ensures.number) (omega arith)

pub returns-then-chromas-chroma : goal.returns-then-chromas-chroma
returns-then-chromas-chroma c =
    let e = ap (λ (a : Avc444). a.chroma.count) c.in_ok-a.ensures.carried in
    let h = c.if-chromas-chroma.true in
    number_chroma c.args.payload.now _ _ _ (sym c.in_ok-a.ensures.number) (room (goal.at.returns-then-chromas-chroma c).Else-lumas-luma) (omega arith)

pub returns-in_err-check : goal.returns-in_err-check
returns-in_err-check c =
    let p = err_from_is_err_and c.from_residual-in_err-check.result c.from_residual-in_err-check.ensures.1 in
    let e = ap (λ (a : Avc444). a.chroma.count) c.in_ok-a.ensures.carried in
    let i = c.if-chromas-chroma.false in
    rw (p.1, p.2)
    (number_write _ _ _ _ (sym c.in_ok-a.ensures.number) (room (goal.at.returns-in_err-check c).Else-lumas-luma) c.in_ok-a.a (omega arith) c.in_ok-a.ensures.carried
    (writes _ c.in_ok-a.a _ c.sizes_at.ensures c.sizes_at-2.ensures (refused_as c.check.ensures.number c.in_err-check.was)))

pub returns : goal.returns
returns c =
    let e = ap (λ (a : Avc444). a.chroma.count) c.in_ok-a.ensures.carried in
    let h = c.if-chromas-chroma.false in
    number_write _ _ _ _ (sym c.in_ok-a.ensures.number) (room (goal.at.returns c).Else-lumas-luma) c.in_ok-a.a (omega arith) c.in_ok-a.ensures.carried
    (writes _ c.in_ok-a.a _ c.sizes_at.ensures c.sizes_at-2.ensures (sym (accepted c.check.ensures.number c.in_ok-check.was)))
