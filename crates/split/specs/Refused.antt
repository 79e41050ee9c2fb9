-- The answer of a split that is refused: a number, and no sizes.
--
--   refused_with r    with the number of the refusal r
use Rattle.lent.specs.declared.refused.Refusal.{Refusal}
use Rattle.lent.specs.Refused.{number_of}
use Rattle.split.specs.declared.number.Views.{Views}

abbrev pub refused_with : Refusal → Views
refused_with r = record { number = number_of r; width = 0; height = 0; luma_stride = 0; chroma_stride = 0 }
