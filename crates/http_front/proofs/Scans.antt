-- A scan goes on by a byte, and by bytes that come behind.
use Rattle.std.proofs.Common.{◌≡◌, ◌≢◌, ◌∙◌, inl, inr, ℕ, ◌+◌, ◌≤◌, ◌<◌, List, [], ◌∷◌, ◌++◌, length, drop, get_or, arith, sym, ap, subst, Option, Some, None, IfSome, append_assoc, append-nil}
use Rattle.std.proofs.lemmas.List.{drop_all, drop_more, drop-append-le}
use Rattle.std.specs.Prelude.{MatchOption}
use Rattle.std.specs.Io.KnownBytes.{IsAtEnd, prepend_known}
use Rattle.http_spec.specs.HeadText.{HasNoHead}
use Rattle.http_spec.specs.HeadEnd.{Place, on, ended, line_ends, line_goes_on, step, head_at, head_from}
use Rattle.http_spec.proofs.HeadEnds.{not_feed, went_on, stopped, none_left, unfinished, out_of_reach}
use Rattle.http_front.specs.Fronts.{HasHead, EndsInHead, AsksForHead}
use Rattle.http_spec.specs.Limits.{most_head}

-- whatever comes behind the bytes, the head ends where it ends from place p at byte `at` on
abbrev Scanned : Place → ℕ → List ℕ → Type 0
Scanned p at bytes = (more : List ℕ) → head_at (bytes ++ more) ≡ head_from p (drop at bytes ++ more)

-- ---- one byte

at_feed : (p : Place) (c : ℕ) → c ≡ 10 → step p c ≡ line_ends p.behind p.line
at_feed p c h = ap (step p) h

pub feed_step : (p q : Place) (c : ℕ) (r : Option ℕ) → c ≡ 10 → MatchOption r (line_ends p.behind p.line ≡ on q) (λ n. line_ends p.behind p.line ≡ ended n) → MatchOption r (step p c ≡ on q) (λ n. step p c ≡ ended n)
feed_step p q c r h k = subst (λ n. MatchOption r (n ≡ on q) (λ m. n ≡ ended m)) (sym (at_feed p c h)) k

pub other_step : (p q : Place) (c : ℕ) → c ≢ 10 → line_goes_on p.behind p.line c ≡ on q → step p c ≡ on q
other_step p q c h k = not_feed p c h ∙ k

-- ---- bytes one after the other

next_byte : (bytes more : List ℕ) (at : ℕ) → at < length bytes → drop at bytes ++ more ≡ get_or bytes at 0 ∷ (drop (at + 1) bytes ++ more)
next_byte bytes more at h = ap (λ xs. xs ++ more) (drop_more bytes at 0 h)

pub goes_on : (p q : Place) (at next : ℕ) (bytes : List ℕ) → Scanned p at bytes → at < length bytes → next ≡ at + 1 → step p (get_or bytes at 0) ≡ on q → Scanned q next bytes
goes_on p q at next bytes h inside e is_step more =
    h more ∙ ap (head_from p) (next_byte bytes more at inside) ∙ went_on p q (get_or bytes at 0) (drop (at + 1) bytes ++ more) is_step
    ∙ ap (λ n. head_from q (drop n bytes ++ more)) (sym e)

pub ends_there : (p : Place) (at next n : ℕ) (bytes : List ℕ) → Scanned p at bytes → at < length bytes → next ≡ at + 1 → step p (get_or bytes at 0) ≡ ended n
    → (more : List ℕ) → head_at (bytes ++ more) ≡ Some (n, drop next bytes ++ more)
ends_there p at next n bytes h inside e is_step more =
    h more ∙ ap (head_from p) (next_byte bytes more at inside) ∙ stopped p (get_or bytes at 0) n (drop (at + 1) bytes ++ more) is_step
    ∙ ap (λ k. Some (n, drop k bytes ++ more)) (sym e)

-- more bytes came
pub still_scanned : (p : Place) (at : ℕ) (old fresh new : List ℕ) → at ≤ length old → new ≡ old ++ fresh → Scanned p at old → Scanned p at new
still_scanned p at old fresh new inside e h = subst (Scanned p at) (sym e) longer
  where
    longer : Scanned p at (old ++ fresh)
    longer more =
        ap head_at (append_assoc old fresh more) ∙ h (fresh ++ more)
        ∙ ap (head_from p) (sym (append_assoc (drop at old) fresh more) ∙ ap (λ xs. xs ++ more) (sym (drop-append-le at old fresh inside)))

alone : (p : Place) (at : ℕ) (bytes : List ℕ) → Scanned p at bytes → head_at bytes ≡ head_from p (drop at bytes)
alone p at bytes h = ap head_at (sym (append-nil bytes)) ∙ h [] ∙ ap (head_from p) (append-nil (drop at bytes))

-- all that a head may have was looked through
pub no_head_in_reach : (p : Place) (at : ℕ) (bytes : List ℕ) → Scanned p at bytes → most_head ≤ at → at ≤ length bytes → (most_head ≤ length bytes) × HasNoHead bytes
no_head_in_reach p at bytes h far inside = (omega arith, out_of_reach bytes at p far inside (alone p at bytes h))

nothing_left : (at : ℕ) (bytes : List ℕ) → at ≡ length bytes → drop at bytes ≡ []
nothing_left at bytes h = drop_all at bytes (omega (arith, h))

-- all that is buffered was looked through, and no head ends in it
pub in_head : (p : Place) (at : ℕ) (bytes : List ℕ) → Scanned p at bytes → at ≡ length bytes → length bytes < most_head → EndsInHead bytes
in_head p at bytes h e short =
    let none : head_at bytes ≡ None = alone p at bytes h ∙ ap (head_from p) (nothing_left at bytes e) ∙ none_left p in
    (short, unfinished bytes none)

-- so where the link wasn't asked before, the first bytes end within a head
pub ends_in_head : (Stays : Type 0) (p : Place) (at : ℕ) (old now : List ℕ) → AsksForHead Stays old now → Scanned p at now → at ≡ length now → length now < most_head → EndsInHead old
ends_in_head Stays p at old now (inl same) h e short = subst EndsInHead same.1 (in_head p at now h e short)
ends_in_head Stays p at old now (inr there) h e short = there

-- all that there is was looked through
pub no_head_to_end : (p : Place) (at : ℕ) (bytes : List ℕ) (left : Option (List ℕ)) → Scanned p at bytes → at ≡ length bytes → length bytes < most_head → IsAtEnd left
    → IfSome (prepend_known bytes left) EndsInHead
no_head_to_end p at bytes None h e short end = tt
no_head_to_end p at bytes (Some more) h e short end =
    let all : bytes ++ more ≡ bytes = ap (λ xs. bytes ++ xs) end ∙ append-nil bytes in
    subst EndsInHead (sym all) (in_head p at bytes h e short)

pub has_head : (len lines : ℕ) (bytes : List ℕ) → len ≤ length bytes → len ≤ most_head → ((more : List ℕ) → head_at (bytes ++ more) ≡ Some (lines, drop len bytes ++ more)) → HasHead len lines bytes
has_head len lines bytes inside short h = record {
  inside = inside;
  short = short;
  ends = ap head_at (sym (append-nil bytes)) ∙ h [] ∙ ap (λ xs. Some (lines, xs)) (append-nil (drop len bytes));
}
