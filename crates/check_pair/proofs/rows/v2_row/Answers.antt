-- `check_pair::rows::v2_row` meets its contract: each row is in halves, luma the odd columns, chroma every fourth column of an odd row.
-- Assumes nothing.
use Prim.Native.Nat.{ℕ}
use native.Mathlib.Omega.{arith}
use mathlib.Core.Path.{◌∙◌, subst}
use lib.ListN.{length}
use Rattle.check_pair.specs.declared.Name.{Name}
use Rattle.check_pair.specs.Rows.{LineFits, EachPlane}
use Rattle.check_pair.proofs.Lines.{wrong_same, line_fits, v2_luma, v2_fourths, v2_between}
use Rattle.check_pair.proofs.rows.v2_row.Goals as goal

pub halves-requires-clause-wide_fits : goal.halves-requires-clause-wide_fits
halves-requires-clause-wide_fits c =
    let a = c.args in
    let f = subst (λ (n : Name). EachPlane a.from (λ (m : ℕ). LineFits n (length a.row.now) m a.from.stride a.line)) c.in-YPlane.is c.requires in
    record {
      y = line_fits f.y 2 _ _ (omega (arith, f.y.whole)) (omega (arith, f.y.room.enough, f.y.room.fours)) (omega arith);
      u = line_fits f.u 2 _ _ (omega (arith, f.u.whole)) (omega (arith, f.u.room.enough, f.u.room.fours)) (omega arith);
      v = line_fits f.v 2 _ _ (omega (arith, f.v.whole)) (omega (arith, f.v.room.enough, f.v.room.fours)) (omega arith);
    }

pub halves-requires-in-UPlane-clause-wide_fits : goal.halves-requires-in-UPlane-clause-wide_fits
halves-requires-in-UPlane-clause-wide_fits c =
    let a = c.args in
    let f = subst (λ (n : Name). EachPlane a.from (λ (m : ℕ). LineFits n (length a.row.now) m a.from.stride a.line)) c.in-UPlane.is c.requires in
    record {
      y = line_fits f.y 4 _ _ (omega (arith, f.y.whole)) (omega (arith, f.y.room.enough, f.y.room.fours)) (omega arith);
      u = line_fits f.u 4 _ _ (omega (arith, f.u.whole)) (omega (arith, f.u.room.enough, f.u.room.fours)) (omega arith);
      v = line_fits f.v 4 _ _ (omega (arith, f.v.whole)) (omega (arith, f.v.room.enough, f.v.room.fours)) (omega arith);
    }

pub halves-requires-in-VPlane-clause-wide_fits : goal.halves-requires-in-VPlane-clause-wide_fits
halves-requires-in-VPlane-clause-wide_fits c =
    let a = c.args in
    let f = subst (λ (n : Name). EachPlane a.from (λ (m : ℕ). LineFits n (length a.row.now) m a.from.stride a.line)) c.in-VPlane.is c.requires in
    record {
      y = line_fits f.y 4 _ _ (omega (arith, f.y.whole)) (omega (arith, f.y.room.enough, f.y.room.fours)) (omega arith);
      u = line_fits f.u 4 _ _ (omega (arith, f.u.whole)) (omega (arith, f.u.room.enough, f.u.room.fours)) (omega arith);
      v = line_fits f.v 4 _ _ (omega (arith, f.v.whole)) (omega (arith, f.v.room.enough, f.v.room.fours)) (omega arith);
    }

pub returns-in-YPlane : goal.returns-in-YPlane
returns-in-YPlane c =
    let a = c.args in
    rw c.in-YPlane.is (c.halves.ensures ∙ wrong_same a.row.now _ _ (λ k h. v2_luma a.from.stride a.from.u.now a.from.v.now a.line (length a.row.now) k))

pub returns-in-UPlane : goal.returns-in-UPlane
returns-in-UPlane c =
    let a = c.args in
    rw c.in-UPlane.is (c.halves-in-UPlane.ensures ∙ wrong_same a.row.now _ _ (λ k h. v2_fourths a.from.stride a.from.u.now a.from.v.now a.line (length a.row.now) k))

pub returns-in-VPlane : goal.returns-in-VPlane
returns-in-VPlane c =
    let a = c.args in
    rw c.in-VPlane.is (c.halves-in-VPlane.ensures ∙ wrong_same a.row.now _ _ (λ k h. v2_between a.from.stride a.from.u.now a.from.v.now a.line (length a.row.now) k))
