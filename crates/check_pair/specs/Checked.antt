-- What a check answers (R88, R89): a number, whether the views are the split, and where they are not.
--
--   Checked                the answer: number; same; named, that a place follows; view, plane, row and column, all 0 where none is named
--   answered_of d           the answer of an accepted check with the verdict d
--   refused_with n          that of a refusal
--   checked_of t z p w m x a    the answer of a check of the views w and x, with the planes m and a, as the split of a picture of the size z
--                          with the planes p that is sent the way t
use Rattle.std.specs.Prelude.{ℕ, true, false, cond, eqb}
use Rattle.picture.specs.declared.Size.{Size}
use Rattle.layout.specs.declared.Way.{Way}
use Rattle.view.specs.declared.View.{View}
use Rattle.split.specs.Split.{lengths_of}
use Rattle.split_views.specs.Views.{Planes}
use Rattle.check_pair.specs.declared.Checked.{Checked}
use Rattle.check_pair.specs.declared.Verdict.{Verdict}
use Rattle.check_pair.specs.declared.Verdict.TheVariants.{Same, Sizes, Wrong}
unfoldable pub use Rattle.check_pair.specs.Number.{check_number_of, sizes_agree}
unfoldable pub use Rattle.check_pair.specs.Verdict.{pair_verdict_of}

abbrev pub answered_of : Verdict → Checked
answered_of Same = record { number = 0; same = true; named = false; view = 0; plane = 0; row = 0; column = 0 }
answered_of Sizes = record { number = 0; same = false; named = false; view = 0; plane = 0; row = 0; column = 0 }
answered_of (Wrong l) = record { number = 0; same = false; named = true; view = l.view; plane = l.plane; row = l.row; column = l.column }

abbrev pub refused_with : ℕ → Checked
refused_with n = record { number = n; same = false; named = false; view = 0; plane = 0; row = 0; column = 0 }

unfoldable pub checked_of : Way → Size → Planes → View → Planes → View → Planes → Checked
checked_of t z p w m x a =
    let n = check_number_of t z (lengths_of p) w (lengths_of m) x (lengths_of a) in
    cond (eqb n 0) (answered_of (pair_verdict_of t z p w m x a)) (refused_with n)
