-- Every line of the table is right, by computation. Assumes nothing.
use mathlib.Core.Path.{refl}
use Rattle.colour.specs.Colour.{luma_whole, chroma_u_whole, chroma_v_whole, luma_of, chroma_u_of, chroma_v_of, forward_of, red_of, green_of, blue_of, reverse_of, reversed, filtered_of, applied_of}
use Rattle.colour.specs.Limited.{limited_red_of, limited_green_of, limited_blue_of, limited_reverse_of, limited_luma_whole, limited_u_whole, limited_v_whole, limited_forward_of}
use Rattle.lent.specs.Paint.{within, box, up_to}
use Rattle.apply_main.specs.Main.{main_luma, main_chroma}
use Rattle.apply_main.specs.Columns.{those_below, columns_taken}
use Rattle.worked.specs.Worked.{worked, All}

-- one line after the other
infixr 4 ◌then◌
◌then◌ : {A B : Type 0} → A → B → A × B
a then b = (a, b)

pub worked_right : All worked
unfolding worked luma_whole chroma_u_whole chroma_v_whole luma_of chroma_u_of chroma_v_of forward_of red_of green_of blue_of reverse_of limited_red_of limited_green_of limited_blue_of limited_reverse_of limited_luma_whole limited_u_whole limited_v_whole limited_forward_of reversed filtered_of applied_of main_luma main_chroma up_to box within those_below columns_taken
worked_right =
    -- colours: there, and back
    (refl, refl) then (refl, refl) then (refl, refl) then (refl, refl) then (refl, refl)
    -- limited range: there, and back; and back alone
    then (refl, refl) then (refl, refl) then (refl, refl) then (refl, refl) then (refl, refl)
    then refl then refl
    -- the filter
    then refl then refl then refl then refl then refl
    -- rectangles: luma, and chroma
    then (refl, refl) then (refl, refl) then (refl, refl)
    then tt
