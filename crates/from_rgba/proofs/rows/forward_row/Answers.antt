-- `from_rgba::rows::forward_row` meets its contract. The invariant: in each row the samples of the first turns, 16 each, are their pixels' converted.
-- `pixels_turn` is one turn, `pixels_rest` what is left.
-- Assumes nothing.
use Prim.Native.Nat.{ℕ, ◌+◌, ◌*◌, ◌/◌, ◌-◌}
use native.Mathlib.Omega.{arith}
use mathlib.Core.Path.{refl, ◌∙◌}
use lib.ListN.{length}
use borrow.Rule.Slice.PartMut.{same_len_mid}
use Rattle.lent.proofs.SoFar.{so_far_none}
use Rattle.from_rgba.proofs.Converted.{turn_fits, rest_fits, pixels_turn, pixels_rest}
use Rattle.from_rgba.proofs.rows.forward_row.Goals as goal

pub loop-turn-init : goal.loop-turn-init
loop-turn-init c = (so_far_none _ _, so_far_none _ _, so_far_none _ _)

pub forward_part-requires : goal.forward_part-requires
forward_part-requires c =
    let a = c.args in
    let before = c.loop-turn.invariant in
    let whole = turn_fits a.pixels.now a.y.now a.u.now a.v.now c.loop-turn.y c.loop-turn.u c.loop-turn.v c.requires before.0.0 before.1.0 before.2.0
    (c.loop-turn.turn * 16) (omega arith) in record { pixels_fit = whole.0; y_len = whole.1 }

pub loop-turn-preserved : goal.loop-turn-preserved
loop-turn-preserved c =
    let a = c.args in
    let px = a.pixels.now in
    let before = c.loop-turn.invariant in
    let k = c.loop-turn.turn * 16 in
    let e = (c.loop-turn.turn + 1) * 16 in (
      pixels_turn a.matrix px a.y.now _ (λ p. p.y) refl c.requires.pixels k e (omega arith) (omega arith) before.0 c.forward_part.ensures.y,
      pixels_turn a.matrix px a.u.now _ (λ p. p.u) c.requires.same_u c.requires.pixels k e (omega arith) (omega arith) before.1 c.forward_part.ensures.u,
      pixels_turn a.matrix px a.v.now _ (λ p. p.v) c.requires.same_v c.requires.pixels k e (omega arith) (omega arith) before.2 c.forward_part.ensures.v,
    )

pub forward_tail-requires : goal.forward_tail-requires
forward_tail-requires c =
    let a = c.args in
    let before = c.loop-turn.invariant in
    rest_fits a.pixels.now a.y.now a.u.now a.v.now c.loop-turn.y c.loop-turn.u c.loop-turn.v c.requires before.0.0 before.1.0 before.2.0 (length a.y.now / 16 * 16) refl

pub shape_of-y : goal.shape_of-y
shape_of-y c =
    let full : ℕ = length c.args.y.now / 16 * 16 in
    same_len_mid full (length c.loop-turn.y - full) c.loop-turn.y c.forward_tail.new.y c.forward_tail.auto.y ∙ c.loop-turn.invariant.0.0

pub shape_of-u : goal.shape_of-u
shape_of-u c =
    let full : ℕ = length c.args.y.now / 16 * 16 in
    same_len_mid full (length c.loop-turn.u - full) c.loop-turn.u c.forward_tail.new.u c.forward_tail.auto.u ∙ c.loop-turn.invariant.1.0

pub shape_of-v : goal.shape_of-v
shape_of-v c =
    let full : ℕ = length c.args.y.now / 16 * 16 in
    same_len_mid full (length c.loop-turn.v - full) c.loop-turn.v c.forward_tail.new.v c.forward_tail.auto.v ∙ c.loop-turn.invariant.2.0

pub returns : goal.returns
returns c =
    let a = c.args in
    let px = a.pixels.now in
    let before = c.loop-turn.invariant in
    let k = c.loop-turn.turn * 16 in
    let full : ℕ = length a.y.now / 16 * 16 in
    record {
      y = pixels_rest a.matrix px a.y.now _ (λ p. p.y) refl c.requires.pixels k full refl (omega arith) (omega arith) before.0 c.forward_tail.ensures.y;
      u = pixels_rest a.matrix px a.u.now _ (λ p. p.u) c.requires.same_u c.requires.pixels k full refl (omega arith) (omega arith) before.1 c.forward_tail.ensures.u;
      v = pixels_rest a.matrix px a.v.now _ (λ p. p.v) c.requires.same_v c.requires.pixels k full refl (omega arith) (omega arith) before.2 c.forward_tail.ensures.v;
    }
