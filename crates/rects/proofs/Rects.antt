-- Rectangle lists, over any rule and any source: the loop over a list, order and repetition, and the widened area.
-- Assumes nothing.
use Prim.Native.Nat.{ℕ, ◌+◌, ◌-◌, ◌*◌, ◌/◌, ◌<◌, ◌≤◌, min}
use native.Mathlib.Decide.{dec_lt}
use native.Mathlib.Omega.{arith}
use mathlib.Core.Path.{◌≡◌, refl, sym, ap, ◌∙◌}
use mathlib.Core.Bool.{Bool, true, false, true≢false, ◌&&◌}
use mathlib.Core.Logic.{◌↔◌, inl, inr, ⊎_elim}
use mathlib.Core.List.{List, [], ◌∷◌}
use lib.ListN.{length}
use Rattle.lent.specs.Paint.{painted}
use Rattle.lent.specs.Sizes.{round_up}
use Rattle.lent.proofs.Bools.{split, never_true, same_test, both, both_left, both_right}
use Rattle.lent.proofs.Lists.{some_none, some_more, some_facts, some_holds, some_same}
use Rattle.lent.proofs.Painted.{length_painted, painted_none, painted_ext}
use Rattle.lent.proofs.Taken.{box_facts, box_holds}
use Rattle.picture.specs.declared.Size.{Size}
use Rattle.rects.specs.declared.Rect.{Rect}
use Rattle.rects.specs.Rects.{Rule, rect_at_of, by, nth, taken_by, taken, area, NoArea, Touched}

-- ---- the loop over a list: the plane is painted by what the first n rectangles take

module _ (w h : ℕ) (rule : Rule) (rects : List ℕ) (s : ℕ → ℕ → ℕ) (xs : List ℕ) where
  -- the loop's invariant, where ys is what has become of xs
  abbrev pub RectsDone : ℕ → List ℕ → ℕ → Type 0
  RectsDone count ys n = (n ≤ count) × (count ≡ length rects / 4) × (length ys ≡ length xs) × (ys ≡ painted w h (taken_by rule rects n) s xs)

  pub rects_none : RectsDone (length rects / 4) xs 0
  unfolding taken_by
  rects_none = (omega arith, refl, refl, some_none w h (nth rule rects) s xs)

  -- rectangle n was served, where those before it were
  pub rects_more : {count : ℕ} {was ys : List ℕ} (n : ℕ) (rect : Rect) → RectsDone count was n → n < count
      → rect ≡ rect_at_of rects n → ys ≡ painted w h (by rule rect) s was
      → RectsDone count ys (n + 1)
  unfolding taken_by nth
  rects_more n rect before lt this more =
      let next = more ∙ (λ i. painted w h (by rule (this i)) s (before.3 i)) ∙ some_more w h (nth rule rects) s xs n in
      (omega arith, before.1, ap length next ∙ length_painted w h _ s xs, next)

  pub rects_all : {count : ℕ} {ys : List ℕ} (n : ℕ) → RectsDone count ys n → count ≤ n → ys ≡ painted w h (taken rule rects) s xs
  rects_all n done end = let all : n ≡ length rects / 4 = omega arith in done.3 ∙ ap (λ (m : ℕ). painted w h (taken_by rule rects m) s xs) all

-- ---- what `taken` means

module _ (rule : Rule) (rects : List ℕ) (r c : ℕ) where
  pub taken_facts : taken rule rects r c ≡ true → (i : ℕ) × ((i < length rects / 4) × (nth rule rects i r c ≡ true))
  unfolding taken_by
  taken_facts e = some_facts (length rects / 4) (λ i. nth rule rects i r c) e

  pub taken_holds : (i : ℕ) → i < length rects / 4 → nth rule rects i r c ≡ true → taken rule rects r c ≡ true
  unfolding taken_by
  taken_holds i lt e = some_holds (length rects / 4) (λ i. nth rule rects i r c) i lt e

-- each rectangle of one list is in the other
abbrev pub AllIn : List ℕ → List ℕ → Type 0
AllIn ps qs = (i : ℕ) → i < length ps / 4 → (j : ℕ) × ((j < length qs / 4) × (rect_at_of ps i ≡ rect_at_of qs j))

-- order and repetition have no effect: two lists of the same rectangles take the same samples
pub taken_same : (rule : Rule) (ps qs : List ℕ) → AllIn ps qs → AllIn qs ps → (r c : ℕ) → taken rule ps r c ≡ taken rule qs r c
unfolding taken_by nth
taken_same rule ps qs f g r c =
    some_same (length ps / 4) (length qs / 4) (λ i. nth rule ps i r c) (λ j. nth rule qs j r c)
    (λ i lt. let m = f i lt in (m.0, (m.1.0, sym (ap (λ (x : Rect). by rule x r c) m.1.1))))
    (λ j lt. let m = g j lt in (m.0, (m.1.0, sym (ap (λ (x : Rect). by rule x r c) m.1.1))))

-- a rule is another one with a test beside it
pub taken_beside : (rule other : Rule) (beside : Bool) (rects : List ℕ) (r c : ℕ)
    → ((left top right bottom : ℕ) → rule left top right bottom r c ≡ (other left top right bottom r c && beside))
    → taken rule rects r c ≡ (taken other rects r c && beside)
unfolding nth
taken_beside rule other beside rects r c is =
    same_test (taken rule rects r c) (taken other rects r c && beside)
    (λ e. let f = taken_facts rule rects r c e in
    let q = rect_at_of rects f.0 in
    let g = rw (is q.left q.top q.right q.bottom) at f.1.1 in
    let o = other q.left q.top q.right q.bottom r c in
    both (taken other rects r c) beside (taken_holds other rects r c f.0 f.1.0 (both_left o beside g)) (both_right o beside g))
    (λ e. let f = taken_facts other rects r c (both_left (taken other rects r c) beside e) in
    let q = rect_at_of rects f.0 in
    taken_holds rule rects r c f.0 f.1.0
    (rw (is q.left q.top q.right q.bottom) (both (other q.left q.top q.right q.bottom r c) beside f.1.1 (both_right (taken other rects r c) beside e))))

-- ---- what a list leaves, whatever the rule and the source

module _ (w h : ℕ) (rule : Rule) (s : ℕ → ℕ → ℕ) (xs : List ℕ) where
  -- order and repetition have no effect
  pub list_same : (ps qs : List ℕ) → AllIn ps qs → AllIn qs ps → painted w h (taken rule ps) s xs ≡ painted w h (taken rule qs) s xs
  list_same ps qs f g = painted_ext w h _ _ s s xs (λ r c hr hc. taken_same rule ps qs f g r c) (λ r c hr hc e. refl)

  -- a list of which no rectangle takes anything changes nothing
  pub list_none : (rects : List ℕ) → ((i r c : ℕ) → i < length rects / 4 → nth rule rects i r c ≡ true → ⊥) → xs ≡ painted w h (taken rule rects) s xs
  list_none rects f =
      painted_none w h _ s xs (λ r c hr hc. never_true _ (λ e. let m = taken_facts rule rects r c e in f m.0 r c m.1.0 m.1.1))

  -- an empty list changes nothing
  pub list_empty : xs ≡ painted w h (taken rule []) s xs
  list_empty = (rects_none w h rule [] s xs).3

  -- a list of one rectangle takes what the rule says of it
  pub list_one : (left top right bottom : ℕ) → painted w h (taken rule (left ∷ top ∷ right ∷ bottom ∷ [])) s xs ≡ painted w h (rule left top right bottom) s xs
  list_one left top right bottom =
      sym (rects_more w h rule (left ∷ top ∷ right ∷ bottom ∷ []) s xs 0 _ (rects_none w h rule _ s xs) (omega arith) refl refl).3

-- ---- the widened area

module _ (z : Size) (left top right bottom : ℕ) where
  pub area_facts : (r c : ℕ) → area z left top right bottom r c ≡ true
      → (top / 2 * 2 ≤ r) × (r < round_up 2 (min bottom z.height)) × (left / 2 * 2 ≤ c) × (c < round_up 2 (min right z.width))
  area_facts r c e = box_facts _ _ _ _ r c e

  pub area_holds : (r c : ℕ) → top / 2 * 2 ≤ r → r < round_up 2 (min bottom z.height) → left / 2 * 2 ≤ c → c < round_up 2 (min right z.width)
      → area z left top right bottom r c ≡ true
  area_holds r c t b l h = box_holds _ _ _ _ r c t b l h

  -- it is empty unless left < right and top < bottom after rounding
  pub area_empty : ((r c : ℕ) → area z left top right bottom r c ≡ false) ↔ NoArea z left top right bottom
  area_empty = (
    λ none. ⊎_elim (λ l. ⊎_elim (λ t. absurd (true≢false (sym (area_holds _ _ (omega arith) t (omega arith) l) ∙ none (top / 2 * 2) (left / 2 * 2)))) inr (split (top / 2 * 2) _)) inl (split (left / 2 * 2) _),
    λ edges r c. never_true _ (λ e. ⊎_elim (λ h. omega (arith, area_facts r c e)) (λ h. omega (arith, area_facts r c e)) edges),
  )

-- ---- whole blocks, and nothing past them

-- of one side, from a to below b: what rounding adds lies in the block of a place that was there
near : (a b n : ℕ) → a < b → a / 2 * 2 ≤ n → n < round_up 2 b → (p : ℕ) × ((a ≤ p) × (p < b) × (p / 2 ≡ n / 2))
near a b n some low high = from (dec_lt n a)
  where
    below : Dec (n < b) → (a ≤ n) → (p : ℕ) × ((a ≤ p) × (p < b) × (p / 2 ≡ n / 2))
    below (yes l) g = (n, (g, l, refl))
    below (no l) g = (b - 1, (omega arith, omega arith, omega arith))

    from : Dec (n < a) → (p : ℕ) × ((a ≤ p) × (p < b) × (p / 2 ≡ n / 2))
    from (yes l) = (a, (omega arith, some, omega arith))
    from (no l) = below (dec_lt n b) (omega arith)

module _ (z : Size) (left top right bottom : ℕ) (wide : left < min right z.width) (high : top < min bottom z.height) (r c : ℕ) where
  -- THE BUG behind the grey tick: an odd edge widens to whole blocks, never past them
  pub whole_blocks : (area z left top right bottom r c ≡ true) ↔ Touched z left top right bottom r c
  whole_blocks = (
    λ e. let f = area_facts z left top right bottom r c e in
        let p = near top _ r high f.0 f.1 in
        let q = near left _ c wide f.2 f.3 in
        record {
          row = p.0;
          col = q.0;
          from_top = p.1.0;
          above_bottom = p.1.1;
          from_left = q.1.0;
          before_right = q.1.1;
          same_row = p.1.2;
          same_col = q.1.2;
        },
    λ t. area_holds z left top right bottom r c (omega (arith, t.from_top, t.same_row)) (omega (arith, t.above_bottom, t.same_row)) (omega (arith, t.from_left, t.same_col)) (omega (arith, t.before_right, t.same_col)),
  )

-- ---- reversed, and off the picture

module _ (z : Size) (left top right bottom : ℕ) where
  pub reversed_none : right < left → NoArea z left top right bottom
  reversed_none h = inl (omega arith)

  pub reversed_rows_none : bottom < top → NoArea z left top right bottom
  reversed_rows_none h = inr (omega arith)

  pub off_none : z.width < left → NoArea z left top right bottom
  off_none h = inl (omega arith)

  pub off_rows_none : z.height < top → NoArea z left top right bottom
  off_rows_none h = inr (omega arith)
