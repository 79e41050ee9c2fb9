-- The text that the program writes, as a list of ASCII codes; R140, R141.
--   decimal_of n      the byte n in decimal
--   number_of n end   n in decimal, then the byte end
--   line_of r g b     the line of a triple: Y U V, then R G B after the reverse
--   short_of n        the last line where n bytes are left over
--   text_of rgb       all lines of the input rgb
--   CutAfter xs      the input may be cut after xs: whatever follows, the text of all is that of xs and then that of the rest
--   Put              what a function leaves that puts text into a lent buffer
use Rattle.std.specs.Prelude.{cond, List, [], ◌∷◌, ◌++◌, ◌≡◌, ℕ, ◌+◌, ltb, get_or, length, take}
use Rattle.colour.specs.Colour.{forward_of, reverse_of}
use Rattle.colours.specs.Digits.{last_digits}

-- "in decimal": as few digits as the byte needs
unfoldable pub decimal_of : ℕ → List ℕ
decimal_of n = last_digits 10 (cond (ltb n 10) 1 (cond (ltb n 100) 2 3)) n

-- a number and the byte after it
unfoldable pub number_of : ℕ → ℕ → List ℕ
number_of n end = decimal_of n ++ (end ∷ [])

-- "Y U V, then R G B after the reverse", "with single spaces" (32); 10 is the line end
unfoldable pub line_of : ℕ → ℕ → ℕ → List ℕ
line_of r g b =
    let p = forward_of r g b in
    let back = reverse_of p.y p.u p.v in
    number_of p.y 32 ++ (number_of p.u 32 ++ (number_of p.v 32 ++
    (number_of (get_or back 0 0) 32 ++ (number_of (get_or back 1 0) 32 ++ number_of (get_or back 2 0) 10))))

-- "a last line `short n`"
unfoldable pub short_of : ℕ → List ℕ
short_of n = 115 ∷ 104 ∷ 111 ∷ 114 ∷ 116 ∷ 32 ∷ number_of n 10

-- "one line for each"; "A remainder of n = 1 or 2 bytes gives a last line"; "Empty input writes nothing"
abbrev pub text_of : List ℕ → List ℕ
text_of [] = []
text_of (_ ∷ []) = short_of 1
text_of (_ ∷ _ ∷ []) = short_of 2
text_of (r ∷ g ∷ b ∷ rest) = line_of r g b ++ text_of rest

-- so a piece of the input that CutAfter holds of is written by itself
abbrev pub CutAfter : List ℕ → Type 0
CutAfter xs = (rest : List ℕ) → text_of (xs ++ rest) ≡ text_of xs ++ text_of rest

-- text stands at `at` and ends at `end`, what is in front of it is as before, and so is the buffer's length
pub record Put (before after : List ℕ) (at end : ℕ) (text : List ℕ) : Type 0 where
  pub front : take end after ≡ take at before ++ text
  pub next : end ≡ at + length text
  pub size : length after ≡ length before
