-- A link has one reading: its requests, and how it ends.
use Rattle.std.proofs.Common.{◌≡◌, ◌≢◌, ◌∙◌, ◌⊎◌, inl, inr, ℕ, zero, suc, ◌+◌, ◌≤◌, ◌<◌, List, [], ◌∷◌, ◌++◌, length, arith, refl, sym, ap, subst, true, false, length-append}
use Rattle.std.specs.Prelude.{codes, nat_lt, slice_index}
use Rattle.std.specs.List.{AllByRecursion, list_all}
use Rattle.std.proofs.lemmas.List.{append_cancel_right}
use Rattle.std.proofs.lemmas.List.Elements.{All-nil}
use Rattle.std.proofs.lemmas.List.Sums.{AllPass-from_list_all}
use Rattle.std.proofs.lemmas.Str.{IsUtf8-from_ascii}
use Rattle.httparse.specs.Grammar.{crlf, print_blank, IsField, RequestHead, IsRequestHead, print_request, ReadsRequest, is_token_byte, is_uri_byte}
use Rattle.json_tree.proofs.of_plain_laws.Booleans.{both_true}
use Rattle.httparse.specs.Ascii.{crlf_bytes}
use Rattle.httparse.proofs.GrammarLemmas.{print_request-append}
use Rattle.http_spec.specs.declared.request.Request.{Request}
use Rattle.http_spec.specs.declared.request.HttpFault.TheVariants as fault
use Rattle.http_spec.specs.HeadText.{IsFilled, IsHeadText, HasNoHead}
use Rattle.http_spec.specs.Requests.{BeginsWithRequest, HasFault, IsFront, Front, request, bad, cut, End, closed, faulty, ended, AreRequests}
use Rattle.http_spec.specs.Examples.{two_requests, nodes_request}
use Rattle.http_spec.proofs.HeadEnds.{one_head}
use Rattle.http_spec.proofs.Fronts.{one_front, reads_itself}
use Rattle.http_spec.specs.Limits.{most_head, most_lines}

-- ---- requests take bytes

pub some_in : (a b c : List ℕ) → 0 < length (a ++ ((b ++ 10 ∷ []) ++ c))
some_in a b c = omega (arith, length-append a ((b ++ 10 ∷ []) ++ c), length-append (b ++ 10 ∷ []) c, length-append b (10 ∷ []))

head_some : (text : List ℕ) (lines : List (List ℕ)) → IsHeadText text lines → 0 < length text
head_some text lines h = subst (λ t. 0 < length t) (sym h.text_is) (some_in (print_blank h.blank) h.first _)

pub takes_some : (r : Request) (bytes after : List ℕ) → BeginsWithRequest r bytes after → length after < length bytes
takes_some r bytes after x =
    let begins = x.begins in
    let all : length bytes ≡ length begins.text + length x.rest = ap length begins.found.bytes_are ∙ length-append begins.text x.rest in
    let behind : length x.rest ≡ length x.body + length after = ap length x.rest_is ∙ length-append x.body after in
    omega (arith, all, behind, head_some begins.text begins.lines begins.found.is_head)

-- ---- a head that is too large

no_shorter_head : (text more : List ℕ) (lines : List (List ℕ)) → IsHeadText text lines → most_head < length text → HasNoHead (text ++ more)
no_shorter_head text more lines h long other rest others x =
    let same = (one_head (text ++ more) text other more rest lines others h x.is_head refl x.bytes_are).1 in
    let texts : text ≡ other = append_cancel_right text other more (x.bytes_are ∙ ap (λ r. other ++ r) (sym same)) in
    omega (arith, long, x.short, ap length texts)

pub too_large : (text more : List ℕ) (lines : List (List ℕ)) → IsHeadText text lines → (most_head < length text) ⊎ (most_lines < length lines) → HasFault fault.HeadTooLarge (text ++ more)
too_large text more lines h (inl long) = inl (omega (arith, long, length-append text more), no_shorter_head text more lines h long)
too_large text more lines h (inr many) = by_length (nat_compare (length text))
  where
    nat_compare : (n : ℕ) → (n ≤ most_head) ⊎ (most_head < n)
    nat_compare n = grind arith

    by_length : (length text ≤ most_head) ⊎ (most_head < length text) → HasFault fault.HeadTooLarge (text ++ more)
    by_length (inl short) = inr (text, more, lines, record { is_head = h; bytes_are = refl; short = short }, many)
    by_length (inr long) = inl (omega (arith, long, length-append text more), no_shorter_head text more lines h long)

-- ---- the reading of a link

-- what stands at the front where no request does
abbrev front_of : End → Front
front_of closed = cut
front_of (faulty f) = bad f
front_of ended = cut

stands_at_end : (bytes : List ℕ) (end : End) → AreRequests bytes [] end → IsFront (front_of end) bytes bytes
stands_at_end bytes closed h = absurd h
stands_at_end bytes (faulty f) h = (h, refl)
stands_at_end bytes ended h = (h, refl)

no_request : (bytes after : List ℕ) (r : Request) (end : End) → AreRequests bytes [] end → BeginsWithRequest r bytes after → ⊥
no_request bytes after r closed h x = h
no_request bytes after r (faulty f) h x = let apart : bad f ≡ request r = (one_front bytes (bad f) (request r) bytes after (h, refl) x).0 in cc
no_request bytes after r ended h x = let apart : cut ≡ request r = (one_front bytes cut (request r) bytes after (h, refl) x).0 in cc

same_end : (bytes : List ℕ) (d e : End) → AreRequests bytes [] d → AreRequests bytes [] e → d ≡ e
same_end bytes closed e h k = absurd h
same_end bytes (faulty f) closed h k = absurd k
same_end bytes (faulty f) (faulty g) h k = let same : bad f ≡ bad g = (one_front bytes (bad f) (bad g) bytes bytes (h, refl) (k, refl)).0 in cc
same_end bytes (faulty f) ended h k = absurd (let apart : bad f ≡ cut = (one_front bytes (bad f) cut bytes bytes (h, refl) (k, refl)).0 in cc)
same_end bytes ended closed h k = absurd k
same_end bytes ended (faulty f) h k = absurd (let apart : cut ≡ bad f = (one_front bytes cut (bad f) bytes bytes (h, refl) (k, refl)).0 in cc)
same_end bytes ended ended h k = refl

abbrev GoesOn : Request → List ℕ → List Request → End → Type 0
GoesOn r after requests end = ((r.ends ≡ true) × (requests ≡ []) × (end ≡ closed)) ⊎ ((r.ends ≡ false) × AreRequests after requests end)

abbrev Same : List Request → List Request → End → End → Type 0
Same rs ss d e = (rs ≡ ss) × (d ≡ e)

goes_on_alike : (r : Request) (after : List ℕ) (rs ss : List Request) (d e : End) → (AreRequests after rs d → AreRequests after ss e → Same rs ss d e) → GoesOn r after rs d → GoesOn r after ss e → Same rs ss d e
goes_on_alike r after rs ss d e recur (inl h) (inl k) = (h.1 ∙ sym k.1, h.2 ∙ sym k.2)
goes_on_alike r after rs ss d e recur (inl h) (inr k) = absurd (let apart : true ≡ false = sym h.0 ∙ k.0 in cc)
goes_on_alike r after rs ss d e recur (inr h) (inl k) = absurd (let apart : true ≡ false = sym k.0 ∙ h.0 in cc)
goes_on_alike r after rs ss d e recur (inr h) (inr k) = recur h.1 k.1

one_more : (bytes : List ℕ) (r s : Request) (rs ss : List Request) (d e : End) → AreRequests bytes (r ∷ rs) d → AreRequests bytes (s ∷ ss) e
    → ((after : List ℕ) → AreRequests after rs d → AreRequests after ss e → Same rs ss d e) → Same (r ∷ rs) (s ∷ ss) d e
one_more bytes r s rs ss d e h k recur = (λ i. requests i ∷ rest.0 i, rest.1)
  where
    front : (request r ≡ request s) × (h.0 ≡ k.0)
    front = one_front bytes (request r) (request s) h.0 k.0 h.1 k.1

    requests : r ≡ s
    requests = let same : request r ≡ request s = front.0 in cc

    moved : GoesOn r h.0 ss e
    moved = subst (λ q. GoesOn q h.0 ss e) (sym requests) (subst (λ a. GoesOn s a ss e) (sym front.1) k.2)

    rest : Same rs ss d e
    rest = goes_on_alike r h.0 rs ss d e (recur h.0) h.2 moved

pub one_reading : (bytes : List ℕ) (rs ss : List Request) (d e : End) → AreRequests bytes rs d → AreRequests bytes ss e → Same rs ss d e
one_reading bytes [] [] d e h k = (refl, same_end bytes d e h k)
one_reading bytes [] (s ∷ ss) d e h k = absurd (no_request bytes k.0 s d h k.1)
one_reading bytes (r ∷ rs) [] d e h k = absurd (no_request bytes h.0 r e k h.1)
one_reading bytes (r ∷ rs) (s ∷ ss) d e h k = one_more bytes r s rs ss d e h k (λ after. one_reading after rs ss d e)

-- ---- two requests

space_before : (a b c : List ℕ) → AllByRecursion (λ x. x ≢ 32) (a ++ (b ++ 32 ∷ c)) → ⊥
space_before [] [] c h = h.0 refl
space_before [] (x ∷ b) c h = space_before [] b c h.1
space_before (x ∷ a) b c h = space_before a b c h.1

no_space_no_head : (text behind : List ℕ) (h : RequestHead) → AllByRecursion (λ x. x ≢ 32) text → ReadsRequest text h behind → ⊥
no_space_no_head text behind h none reads =
    space_before (print_blank h.blank) h.method _ (subst (AllByRecursion (λ x. x ≢ 32)) (reads.1 ∙ print_request-append h behind) none)

abbrev second_text : List ℕ
second_text = codes "BAD" ++ crlf_bytes ++ crlf_bytes

line_is_filled : IsFilled (codes "BAD" ++ 13 ∷ [])
line_is_filled = record {
  no_feed = ((λ e. omega (arith, e)), ((λ e. omega (arith, e)), ((λ e. omega (arith, e)), ((λ e. omega (arith, e)), tt))));
  some = (λ e. cc);
  more = (λ e. cc);
}

second_is_bad : HasFault fault.BadHead second_text
second_is_bad = (
  second_text,
  [],
  [],
  record {
    is_head = record { blank = []; first = codes "BAD" ++ 13 ∷ []; last = crlf; first_filled = line_is_filled; lines_filled = tt; text_is = refl };
    bytes_are = refl;
    short = omega arith;
  },
  omega arith,
  (λ h behind reads few. no_space_no_head second_text behind h ((λ e. omega (arith, e)), ((λ e. omega (arith, e)), ((λ e. omega (arith, e)), ((λ e. omega (arith, e)), ((λ e. omega (arith, e)), ((λ e. omega (arith, e)), ((λ e. omega (arith, e)), tt))))))) reads),
)

pub all_ascii : (bytes : List ℕ) → list_all (λ c. nat_lt c 128) bytes ≡ true → (i : ℕ) → slice_index bytes i < 128
all_ascii [] h i = omega arith
all_ascii (c ∷ bytes) h zero = let both = both_true (nat_lt c 128) (list_all (λ c. nat_lt c 128) bytes) h in grind (arith, both)
all_ascii (c ∷ bytes) h (suc i) = all_ascii bytes (both_true (nat_lt c 128) (list_all (λ c. nat_lt c 128) bytes) h).1 i

abbrev first_head : RequestHead
first_head = record { blank = []; method = codes "GET"; target = codes "/pdb/query/v4/nodes"; minor = 1; line_end = crlf; fields = []; last = crlf }

first_is_head : IsRequestHead first_head
unfolding is_token_byte
first_is_head = record {
  method = (omega arith, AllPass-from_list_all is_token_byte (codes "GET") refl);
  target = (omega arith, AllPass-from_list_all is_uri_byte (codes "/pdb/query/v4/nodes") refl);
  target_text = IsUtf8-from_ascii (codes "/pdb/query/v4/nodes") (all_ascii (codes "/pdb/query/v4/nodes") refl);
  minor = omega arith;
  fields = All-nil IsField;
}

first_bytes : two_requests ≡ print_request first_head ++ ([] ++ second_text)
unfolding print_request
first_bytes = refl

first_short : length (print_request first_head) ≤ most_head
unfolding print_request
first_short = omega arith

pub two_are_read : AreRequests two_requests (nodes_request ∷ []) (faulty fault.BadHead)
two_are_read = (
  second_text,
  subst (λ xs. BeginsWithRequest nodes_request xs second_text) (sym first_bytes)
      (reads_itself first_head [] second_text nodes_request first_is_head (omega arith) first_short refl
      (record { method = refl; target = refl; headers = refl; body_is = refl; ends = refl })),
  inr (refl, second_is_bad),
)
