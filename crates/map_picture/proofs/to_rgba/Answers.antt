-- `map_picture::to_rgba` meets its contract: a short map is refused with nothing run; else the call that has no map is run. Where that is refused no
-- pixel is counted, nor is one in an empty rectangle; any other rectangle lies inside the planes, and its pixels are counted.
-- Assumes nothing.
use Prim.Native.Nat.{ℕ}
use native.Mathlib.Omega.{arith}
use mathlib.Core.Path.{◌≡◌, sym, ap, ◌∙◌}
use mathlib.Core.Bool.{false}
use mathlib.Core.Logic.{⊎_elim}
use mathlib.Core.List.{List, [], ◌∷◌}
use lib.ListN.{length}
use Rattle.lent.specs.Outcome.{lent_after}
use Rattle.lent.proofs.Ends.{lent_refused}
use Rattle.to_rgba.specs.Picture.{to_rgba_count_of, to_rgba_number_of, to_rgba_of}
use Rattle.to_rgba.proofs.Picture.{empty_unfiltered}
use Rattle.map.specs.Map.{map_short}
use Rattle.map_picture.specs.Shown.{map_pixels_of, map_to_rgba_number_of}
use Rattle.map_picture.proofs.Numbers.{map_to_rgba_short, map_to_rgba_planes}
use Rattle.map_picture.proofs.Stale.{stale_empty}
use Rattle.map_picture.proofs.ShownEnds.{stale_is, stale_fits, pixels_none, pixels_passed, pixels_counted, count_made}
use Rattle.map_picture.proofs.to_rgba.Goals.{After-to_rgba-made, Else-made-eq0, Else-map_short, Start}
use Rattle.map_picture.proofs.to_rgba.Goals as goal

-- the call's number
abbrev number : Start → ℕ
number s =
    let a = s.args in
    map_to_rgba_number_of a.size (to_rgba_count_of a.size a.rect) (length a.y.now) (length a.u.now) (length a.v.now) (length a.map.now) (length a.out.now)

-- its output where it is not refused
abbrev written : Start → List ℕ
written s =
    let a = s.args in
    to_rgba_of a.size a.y.now a.u.now a.v.now a.rect a.out.now

pub returns-then-map_short : goal.returns-then-map_short
returns-then-map_short c =
    let a = c.args in
    let one = c.number.ensures in
    let is = one ∙ map_to_rgba_short a.size _ _ _ _ (length a.map.now) _ (sym c.map_short.ensures ∙ c.if-map_short.true) in
    record {
      answer = c.none.ensures ∙ pixels_none is _ _ _ _ (λ e. omega arith);
      buffers = λ i. lent_refused (number (goal.at.returns-then-map_short c).Start) a.out.now (written (goal.at.returns-then-map_short c).Start) (λ e. omega (arith, is ∙ e)) i ∷ [];
    }

long : (k : Else-map_short) → map_short k.args.size (length k.args.map.now) ≡ false
long k = sym k.map_short.ensures ∙ k.if-map_short.false

-- that call's number is this one's
same_number : (n : After-to_rgba-made) → let a = n.args in
    to_rgba_number_of a.size (to_rgba_count_of a.size a.rect) (length a.y.now) (length a.u.now) (length a.v.now) (length a.out.now) ≡ (let inl : (ℕ) = let a = n.args in
    map_to_rgba_number_of a.size (to_rgba_count_of a.size a.rect) (length a.y.now) (length a.u.now) (length a.v.now) (length a.map.now) (length a.out.now) in inl)
same_number n = map_to_rgba_planes _ _ _ _ _ _ _ ((let inl : (map_short n.args.size (length n.args.map.now) ≡ false) = sym n.map_short.ensures ∙ n.if-map_short.false in inl))

pub returns-then-made-ne0 : goal.returns-then-made-ne0
returns-then-made-ne0 c =
    let a = c.args in
    let is = same_number (goal.at.returns-then-made-ne0 c).After-to_rgba-made in
    let call = c.to_rgba-made.ensures in
    record {
      answer = c.none-then-made-ne0.ensures ∙ ⊎_elim
          (λ some. pixels_passed is _ _ _ _ call.answer some)
          (λ none. let empty = sym (count_made _ _ _ call.answer none.0) ∙ none.1 in
          let unfiltered = empty_unfiltered a.size a.rect empty in
          λ i. map_pixels_of (((λ t. (call.answer t).number) ∙ is) i) (sym empty i) (unfiltered a.u.now i) (unfiltered a.v.now i) (stale_empty a.size a.rect a.map.now empty i))
          c.then-made-ne0.either;
      buffers = call.buffers ∙ ap (λ (k : ℕ). lent_after k a.out.now (written (goal.at.returns-then-made-ne0 c).Start) ∷ []) is;
    }

-- where something was written the rectangle is not empty
some : (e : Else-made-eq0) → let a = e.args in to_rgba_count_of a.size a.rect ≡ 0 → ⊥
some e empty =
    let a = e.args in
    e.if-made-eq0.false (count_made _ _ _ e.to_rgba-made.ensures.answer e.if-made-ne0.false ∙ empty)

pub stale_in-requires : goal.stale_in-requires
stale_in-requires c =
    let a = c.args in
    stale_fits a.size a.rect c.clipped-n.ensures c.clipped-h.ensures (length a.map.now) (long (goal.at.stale_in-requires c).Else-map_short) (some (goal.at.stale_in-requires c).Else-made-eq0)

pub returns : goal.returns
returns c =
    let a = c.args in
    let is = same_number (goal.at.returns c).After-to_rgba-made in
    let call = c.to_rgba-made.ensures in
    record {
      answer = pixels_counted is _ _ _ _ call.answer c.if-made-ne0.false
          (c.stale_in.ensures ∙ stale_is a.size a.rect c.clipped-n.ensures c.clipped-h.ensures a.map.now);
      buffers = call.buffers ∙ ap (λ (k : ℕ). lent_after k a.out.now (written (goal.at.returns c).Start) ∷ []) is;
    }
