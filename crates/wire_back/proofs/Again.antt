-- A payload is read and written back by the calls: the number that is found before anything is written, the lists that go to the writer,
-- and how the call ends.
-- Assumes nothing.
use Prim.Native.Nat.{ℕ, ◌*◌, ◌≤◌, ◌<◌}
use native.Mathlib.Omega.{arith}
use mathlib.Core.Path.{◌≡◌, refl, sym, ap, transport, ◌∙◌}
use mathlib.Core.Bool.{Bool, true, false, cond, not, ◌||◌}
use mathlib.Core.Logic.Iff
use mathlib.Core.Logic.{◌↔◌}
use mathlib.Core.List.{List, [], ◌∷◌, ◌++◌}
use lib.Dec.{ltb, eqb}
use lib.ListN.{length, take, drop, length-append}
use lib.Seq.{take-append_seam}
use borrow.Author.Tests.{le-ltb, eq-eqb, ne_eqb, eqb-true, eqb-false}
use Rattle.lent.specs.declared.Answer.{Answer}
use Rattle.lent.specs.Outcome.{answer_of, lent_after}
use Rattle.lent.specs.Refusal.{refusal}
use Rattle.lent.proofs.Bools.{cond-true, cond-false}
use Rattle.lent.proofs.Ends.{answer_refused, answer_done, lent_refused, lent_done}
use Rattle.wire_read.specs.declared.Avc444.{Avc444}
use Rattle.wire_read.specs.Reading.{kind_of, read_number_of, refused_with, carried_of, read_of}
use Rattle.wire_read.specs.declared.parts.Which.{Which}
use Rattle.wire_read.specs.declared.parts.Which.TheVariants.{Luma, Chroma}
use Rattle.wire_read.specs.Parts.{places_of, parts_of, numbers_of, copy_number_of, CopyRectsOutcome}
use Rattle.wire_read.proofs.PartLaws.{copy_first, copy_6, copy_0}
use Rattle.wire_read.proofs.PartsExactly.{copy_0_exactly}
use Rattle.wire_write.specs.Number.{stream_long, first_carried, output_short, write_number_of}
use Rattle.wire_write.specs.Writing.{given, sizes_given, given_number_of, WriteOutcome}
use Rattle.wire_write.proofs.Ends.{number_is, written, count_is, counted}
use Rattle.wire_back.specs.Back.{numbers_in, given_in, AllBelow, Standard, rewritten_of, sizes_at, WriteAgain, refuses, read_write_number_of, RoomFor, ReadWriteOutcome}
use Rattle.wire_back.proofs.Numbers.{pairs_long, h264_long, rects_many, copied}
use Rattle.wire_back.proofs.Rewritten.{known_kind, even_lists, small_counts, rewritten, rewritten_accepted}

-- ---- the first of some numbers that refuses

module _ (n : ℕ) (rest : List (Bool × ℕ)) where
  -- a number that refuses is the first
  first_refuses : (n ≡ 0 → ⊥) → refusal (refuses n ∷ rest) ≡ n
  first_refuses some = cond-true (not (eqb n 0)) n (refusal rest) (ap not (ne_eqb n 0 some))

  -- 0 exactly when it does not refuse, and none after it does
  first_0_exactly : (refusal (refuses n ∷ rest) ≡ 0) ↔ ((n ≡ 0) × (refusal rest ≡ 0))
  first_0_exactly = (go (eqb n 0) refl, λ h. cond-false (not (eqb n 0)) n (refusal rest) (ap not (eq-eqb n 0 h.0)) ∙ h.1)
    where
      go : (b : Bool) → eqb n 0 ≡ b → cond (not b) n (refusal rest) ≡ 0 → (n ≡ 0) × (refusal rest ≡ 0)
      go true e z = (eqb-true n 0 e, z)
      go false e z = absurd (eqb-false n 0 e z)

-- the last number is answered as it is
last_is : (n : ℕ) → refusal (refuses n ∷ []) ≡ n
last_is n = go (eqb n 0) refl
  where
    go : (b : Bool) → eqb n 0 ≡ b → cond (not b) n 0 ≡ n
    go true e = sym (eqb-true n 0 e)
    go false e = refl

-- ---- the number of the call

-- what was read is as much as the writer is given
sizes_are : (s : List ℕ) (w : Which) → sizes_at (places_of s w) ≡ sizes_given (given_in s w)
sizes_are s w = λ i. record { rects = sym (rects_many s w) i; pairs = sym (pairs_long s w) i; «data» = sym (h264_long s w) i }

-- the kind that is answered is the payload's
kind_read : (s : List ℕ) → read_number_of s ≡ 0 → (read_of s).kind ≡ kind_of s
unfolding read_of
kind_read s none = ap (λ (a : Avc444). a.kind) (cond-true (eqb (read_number_of s) 0) (carried_of s) (refused_with (read_number_of s)) (eq-eqb (read_number_of s) 0 none))

module _ (s : List ℕ) (n m k : ℕ) where
  abbrev writes : ℕ
  writes = given_number_of (kind_of s) (given_in s Luma) (given_in s Chroma) k

  abbrev after_luma : List (Bool × ℕ)
  after_luma = refuses (copy_number_of s Chroma m) ∷ refuses writes ∷ []

  -- 0 exactly when neither copy nor the writer refuses
  pub read_write_0_exactly : (read_write_number_of s n m k ≡ 0) ↔ ((copy_number_of s Luma n ≡ 0) × ((copy_number_of s Chroma m ≡ 0) × (writes ≡ 0)))
  unfolding read_write_number_of
  read_write_0_exactly =
      Iff.trans (first_0_exactly (copy_number_of s Luma n) after_luma)
      (Iff.and (λ e. e, λ e. e) (Iff.trans (first_0_exactly (copy_number_of s Chroma m) (refuses writes ∷ [])) (Iff.and (λ e. e, λ e. e) (λ e. sym (last_is writes) ∙ e, λ e. last_is writes ∙ e))))

  -- a payload that is refused is refused with its own number
  pub number_read : {x : ℕ} → x ≡ read_number_of s → (x ≡ 0 → ⊥) → x ≡ read_write_number_of s n m k
  unfolding read_write_number_of
  number_read is some = let e = copy_first s Luma n is some in e ∙ sym (first_refuses (copy_number_of s Luma n) after_luma (λ z. some (e ∙ z)))

  module _ (none : read_number_of s ≡ 0) where
    -- 6, where the luma list is too short for its rectangles
    pub number_luma : n < 4 * (places_of s Luma).count → 6 ≡ read_write_number_of s n m k
    unfolding read_write_number_of
    number_luma h = simp (copy_6 s Luma n none h) refl

    module _ (room : 4 * (places_of s Luma).count ≤ n) where
      -- 6, where the luma list has room and the chroma list has not
      pub number_chroma : m < 4 * (places_of s Chroma).count → 6 ≡ read_write_number_of s n m k
      unfolding read_write_number_of
      number_chroma h = simp (copy_0 s Luma n none room, copy_6 s Chroma m none h) refl

      -- and then the writer's, of what was read
      pub number_write : {x : ℕ} (a : Avc444) → 4 * (places_of s Chroma).count ≤ m → a ≡ read_of s → x ≡ write_number_of a.kind (sizes_at a.luma) (sizes_at a.chroma) k → x ≡ read_write_number_of s n m k
      unfolding read_write_number_of
      number_write a h is e =
          let all : read_write_number_of s n m k ≡ writes = simp (copy_0 s Luma n none room, copy_0 s Chroma m none h) (last_is writes) in
          e ∙ (λ i. write_number_of (is i).kind (sizes_at (is i).luma) (sizes_at (is i).chroma) k)
          ∙ (λ i. write_number_of (kind_read s none i) (sizes_are s Luma i) (sizes_are s Chroma i) k)
          ∙ sym all

-- the number in plain tests
module _ (s : List ℕ) (n m k : ℕ) (h : AllBelow 256 s) where
  abbrev long : Bool
  long = stream_long (first_carried (kind_of s) (sizes_given (given_in s Luma)) (sizes_given (given_in s Chroma)))

  abbrev short : Bool
  short = output_short (kind_of s) (sizes_given (given_in s Luma)) (sizes_given (given_in s Chroma)) k

  abbrev after_read : List (Bool × ℕ)
  after_read = (ltb n (4 * (places_of s Luma).count), 6) ∷ (ltb m (4 * (places_of s Chroma).count), 6) ∷ (long, 11) ∷ (short, 6) ∷ []

  -- a test whose number is 6, as a number
  six : (b : Bool) (rest : List (Bool × ℕ)) → refusal (refuses (cond b 6 0) ∷ rest) ≡ refusal ((b, 6) ∷ rest)
  six true rest = refl
  six false rest = refl

  module _ (none : read_number_of s ≡ 0) where
    -- of an accepted payload a copy refuses a short list alone
    copy_plainly : (w : Which) (l : ℕ) → copy_number_of s w l ≡ cond (ltb l (4 * (places_of s w).count)) 6 0
    unfolding copy_number_of
    copy_plainly w l = simp (eq-eqb (read_number_of s) 0 none) refl

    -- and the writer a long stream and a short output alone
    writes_plainly : writes s n m k ≡ refusal ((long, 11) ∷ (short, 6) ∷ [])
    unfolding write_number_of
    writes_plainly =
        simp (le-ltb 2 (kind_of s) (known_kind s h none), even_lists s h none) (λ i. refusal ((or_none long _ (small_counts s h none) i, 11) ∷ (short, 6) ∷ []))
      where
        or_none : (a b : Bool) → b ≡ false → (a || b) ≡ a
        or_none true b e = refl
        or_none false b e = e

    -- both together
    accepted_plainly : read_write_number_of s n m k ≡ refusal after_read
    unfolding read_write_number_of
    accepted_plainly =
        (λ i. refusal (refuses (copy_plainly Luma n i) ∷ refuses (copy_plainly Chroma m i) ∷ refuses (writes s n m k) ∷ []))
        ∙ six (ltb n (4 * (places_of s Luma).count)) (refuses (cond (ltb m (4 * (places_of s Chroma).count)) 6 0) ∷ refuses (writes s n m k) ∷ [])
        ∙ ap (λ (x : ℕ). cond (ltb n (4 * (places_of s Luma).count)) 6 x)
        (six (ltb m (4 * (places_of s Chroma).count)) (refuses (writes s n m k) ∷ []) ∙ ap (λ (x : ℕ). cond (ltb m (4 * (places_of s Chroma).count)) 6 x) (last_is (writes s n m k) ∙ writes_plainly))

  -- the payload's number, 6 for each list that is too short, and of the writer's 11 and 6 alone
  pub read_write_plainly : read_write_number_of s n m k ≡ refusal (refuses (read_number_of s) ∷ after_read)
  read_write_plainly = go (eqb (read_number_of s) 0) refl
    where
      go : (b : Bool) → eqb (read_number_of s) 0 ≡ b → read_write_number_of s n m k ≡ refusal (refuses (read_number_of s) ∷ after_read)
      go true e = accepted_plainly (eqb-true (read_number_of s) 0 e) ∙ sym (cond-false (not (eqb (read_number_of s) 0)) (read_number_of s) (refusal after_read) (ap not e))
      go false e = let some = eqb-false (read_number_of s) 0 e in sym (number_read s n m k refl some) ∙ sym (first_refuses (read_number_of s) after_read some)

-- ---- a list after its copy

module _ (s : List ℕ) (w : Which) (ls : List ℕ) {r : Answer} {after : List ℕ} (o : CopyRectsOutcome s w ls r (after ∷ [])) where
  -- the list is all that the copy leaves
  list_after : after ≡ lent_after (copy_number_of s w (length ls)) ls (numbers_of s w ls)
  list_after = let e = o.buffers in cc

  module _ (none : copy_number_of s w (length ls) ≡ 0) where
    -- the count is the numbers of the rectangles
    numbers_counted : r.count ≡ 4 * (places_of s w).count
    numbers_counted = ap (λ (a : Answer). a.count) (o.answer ∙ sym (answer_done none refl))

    -- a copy that does not refuse leaves the rectangles' numbers in front
    pub list_is : after ≡ numbers_of s w ls
    list_is = list_after ∙ sym (lent_done (copy_number_of s w (length ls)) ls (numbers_of s w ls) none)

    abbrev ns : List ℕ
    ns = numbers_in (parts_of s w).rects

    abbrev rest : List ℕ
    rest = drop (4 * (places_of s w).count) ls

    -- these numbers, and what stood behind them
    front : after ≡ ns ++ rest
    front = list_is ∙ copied s w ls ((copy_0_exactly s w (length ls)).0 none).1

    -- the list is long enough to lend its front
    pub list_fits : r.count ≤ length after
    list_fits = let e = ap length front in let f = length-append ns rest in let g = rects_many s w in let h = numbers_counted in omega arith

    -- its front, as the code lends it, is the list that the writer is given
    pub list_front : take r.count after ≡ ns
    list_front =
        let e : r.count ≡ length ns = let g = rects_many s w in let h = numbers_counted in omega arith in
        (λ i. take (e i) (front i)) ∙ take-append_seam ns rest

-- ---- how the call ends

module _ (s ls cs out : List ℕ) where
  abbrev found : ℕ
  found = read_write_number_of s (length ls) (length cs) (length out)

  -- what 0 says of the three calls
  pub none_refuses : found ≡ 0 → (copy_number_of s Luma (length ls) ≡ 0) × ((copy_number_of s Chroma (length cs) ≡ 0) × (given_number_of (kind_of s) (given_in s Luma) (given_in s Chroma) (length out) ≡ 0))
  none_refuses = (read_write_0_exactly s (length ls) (length cs) (length out)).0

  module _ (h : AllBelow 256 s) where
    -- nothing of a standard payload is refused where there is room
    has_room : read_number_of s ≡ 0 → Standard s → RoomFor s ls cs out → found ≡ 0
    has_room none t room =
        (read_write_0_exactly s (length ls) (length cs) (length out)).1
        (copy_0 s Luma (length ls) none room.luma_room, (copy_0 s Chroma (length cs) none room.chroma_room, rewritten_accepted s h none t (length out) room.out_room))

    -- a refusal is answered with nothing written
    pub refused_back : {n : ℕ} → n ≡ found → (n ≡ 0 → ⊥) → ReadWriteOutcome s ls cs out (record { number = n; count = 0 }) ls cs out
    refused_back is some =
        let f : found ≡ 0 → ⊥ = λ z. some (is ∙ z) in
        record {
          ends = record {
            answer = answer_refused (length (rewritten_of s)) is some;
            buffers = λ i. lent_refused found ls (numbers_of s Luma ls) f i ∷ lent_refused found cs (numbers_of s Chroma cs) f i ∷ lent_refused found out (rewritten_of s ++ drop (length (rewritten_of s)) out) f i ∷ [];
          };
          accepted = λ none t room. is ∙ has_room none t room;
          same = λ z t. absurd (some z);
        }

    module _ (zero_number : found ≡ 0) where
      abbrev luma_copied : copy_number_of s Luma (length ls) ≡ 0
      luma_copied = (none_refuses zero_number).0

      abbrev chroma_copied : copy_number_of s Chroma (length cs) ≡ 0
      chroma_copied = (none_refuses zero_number).1.0

      abbrev all_written : given_number_of (kind_of s) (given_in s Luma) (given_in s Chroma) (length out) ≡ 0
      all_written = (none_refuses zero_number).1.1

      -- 0 says that the payload is accepted
      accepted_read : read_number_of s ≡ 0
      accepted_read = ((copy_0_exactly s Luma (length ls)).0 luma_copied).0

      -- from what the three calls answered: p and q for the copies, r for the writer
      module _ {p q r : Answer} {ls' cs' after : List ℕ} (l : CopyRectsOutcome s Luma ls p (ls' ∷ [])) (c : CopyRectsOutcome s Chroma cs q (cs' ∷ []))
          (o : WriteAgain s (take p.count ls') (take q.count cs') out r (after ∷ [])) where
        -- the writer was given what was read
        again : WriteOutcome (kind_of s) (given_in s Luma) (given_in s Chroma) out r (after ∷ [])
        again =
            transport (λ i. WriteOutcome (kind_read s accepted_read i) (given (list_front s Luma ls l luma_copied i) (parts_of s Luma).pairs (parts_of s Luma).h264)
            (given (list_front s Chroma cs c chroma_copied i) (parts_of s Chroma).pairs (parts_of s Chroma).h264) out r (after ∷ [])) o

        -- R124: what is written of a standard payload is the payload
        same_bytes : Standard s → (r.count ≡ length s) × (take (length s) after ≡ s)
        same_bytes t =
            let e = rewritten s h accepted_read t in
            let n = count_is (kind_of s) (given_in s Luma) (given_in s Chroma) out again all_written ∙ ap length e in
            (n, ap (λ (k : ℕ). take k after) (sym n) ∙ counted (kind_of s) (given_in s Luma) (given_in s Chroma) out again all_written ∙ e)

        -- all of it: the answer, both lists and the output
        pub written_back : ReadWriteOutcome s ls cs out r ls' cs' after
        written_back =
            record {
              ends = record {
                answer = again.answer ∙ (λ i. answer_of ((all_written ∙ sym zero_number) i) (length (rewritten_of s)));
                buffers = λ i. (list_is s Luma ls l luma_copied ∙ lent_done found ls (numbers_of s Luma ls) zero_number) i
                    ∷ (list_is s Chroma cs c chroma_copied ∙ lent_done found cs (numbers_of s Chroma cs) zero_number) i
                    ∷ (written (kind_of s) (given_in s Luma) (given_in s Chroma) out again all_written ∙ lent_done found out (rewritten_of s ++ drop (length (rewritten_of s)) out) zero_number) i
                    ∷ [];
              };
              accepted = λ none t room. number_is (kind_of s) (given_in s Luma) (given_in s Chroma) out again ∙ all_written;
              same = λ z t. same_bytes t;
            }

-- the one way in which it ends
pub read_write_unique : (s ls cs out : List ℕ) (r q : Answer) (x y z x' y' z' : List ℕ) → ReadWriteOutcome s ls cs out r x y z → ReadWriteOutcome s ls cs out q x' y' z'
    → (r ≡ q) × (x ∷ y ∷ z ∷ [] ≡ x' ∷ y' ∷ z' ∷ [])
read_write_unique s ls cs out r q x y z x' y' z' a b = (a.ends.answer ∙ sym b.ends.answer, a.ends.buffers ∙ sym b.ends.buffers)
