-- `wire_read::accept` meets its contract: the first number is sound, then each stream that is carried is found or runs past its end.
-- Assumes nothing.
use Prim.Native.Nat.{ℕ, ◌≤◌}
use native.Mathlib.Nat.{le_refl}
use mathlib.Core.Path.{◌≡◌, sym, subst, ◌∙◌}
use lib.ListN.{length}
use Rattle.std.proofs.lemmas.Result.{err_from_is_err_and}
use Rattle.lent.proofs.Answered.{never_0, accepted, refused_as}
use Rattle.wire_fields.specs.Kinds.{number_of}
use Rattle.wire_read.specs.Reading.{follows, head_number_of}
use Rattle.wire_read.proofs.Reading.{head_facts, follows_in, head_refused, luma_is, chroma_is, first_past, second_past, both_whole}
use Rattle.wire_read.proofs.accept.Goals.{In_ok-head}
use Rattle.wire_read.proofs.accept.Goals as goal

good : (c : In_ok-head) → head_number_of c.args.payload.now ≡ 0
good c = accepted c.read_head.ensures.number c.in_ok-head.was

-- past the first stream, or elsewhere in the payload
between : (c : In_ok-head) (p other : ℕ) → p ≡ follows (number_of c.in_ok-head.head.kind) c.in_ok-head.head.size other
    → 4 ≤ other → other ≤ length c.args.payload.now
    → (4 ≤ p) × (p ≤ length c.args.payload.now)
between c p other is h k =
    let s = c.args.payload.now in
    let e = c.in_ok-head.ensures.head in
    subst (λ (x : ℕ). (4 ≤ x) × (x ≤ length s)) (sym (is ∙ (λ i. follows (e.0 i) (e.1 i) other))) (follows_in s (head_facts s (good c)) other h k)

pub returns-in_err-head-clause-number : goal.returns-in_err-head-clause-number
returns-in_err-head-clause-number c =
    let p = err_from_is_err_and c.from_residual.result c.from_residual.ensures.1 in
    rw (p.1, p.2) (head_refused _ _ (refused_as c.read_head.ensures.number c.in_err-head.was) (never_0 _))

pub find_carried-requires : goal.find_carried-requires
find_carried-requires c =
    let o = (goal.at.find_carried-requires c).In_ok-head in
    between o _ _ c.past_first.ensures (head_facts _ (good o)).four (le_refl _)

pub returns-in_default-clause-number : goal.returns-in_default-clause-number
returns-in_default-clause-number c =
    let e = c.in_ok-head.ensures.head in
    let says = c.find_carried.ensures ∙ luma_is _ e.0 e.1 c.has_luma.ensures c.past_first.ensures in
    first_past _ e.0 e.1 (good (goal.at.returns-in_default-clause-number c).In_ok-head) says c.in_default.is

pub find_carried-requires-2 : goal.find_carried-requires-2
find_carried-requires-2 c =
    let o = (goal.at.find_carried-requires-2 c).In_ok-head in
    ((between o _ 4 c.past_first-2.ensures (le_refl 4) (head_facts _ (good o)).four).1, le_refl _)

pub returns-in_default-find_carried-clause-number : goal.returns-in_default-find_carried-clause-number
returns-in_default-find_carried-clause-number c =
    let e = c.in_ok-head.ensures.head in
    let says = c.find_carried-2.ensures ∙ chroma_is _ e.0 e.1 c.has_chroma.ensures c.past_first-2.ensures in
    second_past _ e.0 e.1 (good (goal.at.returns-in_default-find_carried-clause-number c).In_ok-head) says c.in_default-find_carried.is

pub returns : goal.returns
returns c =
    let e = c.in_ok-head.ensures.head in
    let first = c.find_carried.ensures ∙ luma_is _ e.0 e.1 c.has_luma.ensures c.past_first.ensures in
    let second = c.find_carried-2.ensures ∙ chroma_is _ e.0 e.1 c.has_chroma.ensures c.past_first-2.ensures in
    let both = both_whole _ e.0 e.1 (good (goal.at.returns c).In_ok-head) first c.in-Some.is second c.in-Some-find_carried.is in
    record {
      number = both.0;
      carried = (λ i. record { number = 0; kind = c.number.ensures i; luma = c.in-Some.luma; chroma = c.in-Some-find_carried.chroma }) ∙ both.1;
    }
