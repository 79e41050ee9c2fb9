-- Whether a call is refused, as the numbers of the table (R21, R22).
--
--   number_of r       the number of a refusal
--   number_in x       the number of what was found: 0 where it is Ok
--   refused_with r    the answer of a refused call: its count is 0
--   done_with count   the answer of a call that was done, with its count
use Rattle.std.specs.Prelude.{ℕ, Result, Ok, Err}
use Rattle.lent.specs.declared.Answer.{Answer}
use Rattle.lent.specs.declared.refused.Refusal.{Refusal}
use Rattle.lent.specs.declared.refused.Refusal.TheVariants.{
  PictureShort,
  PixelsShort,
  StrideNarrow,
  ViewShort,
  PictureLarge,
  OutputShort,
  ListUneven,
  KindUnknown,
  PayloadShort,
  StreamShort,
  PayloadLong,
  RectangleUnsound,
}

abbrev pub number_of : Refusal → ℕ
number_of PictureShort = 1
number_of PixelsShort = 2
number_of StrideNarrow = 3
number_of ViewShort = 4
number_of PictureLarge = 5
number_of OutputShort = 6
number_of ListUneven = 7
number_of KindUnknown = 8
number_of PayloadShort = 9
number_of StreamShort = 10
number_of PayloadLong = 11
number_of RectangleUnsound = 12

abbrev pub number_in : {A : Type 0} → Result A Refusal → ℕ
number_in (Ok a) = 0
number_in (Err r) = number_of r

abbrev pub refused_with : Refusal → Answer
refused_with r = record { number = number_of r; count = 0 }

abbrev pub done_with : ℕ → Answer
done_with count = record { number = 0; count = count }
