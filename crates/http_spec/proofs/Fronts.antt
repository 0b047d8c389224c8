-- What stands at the front of bytes: one thing, whatever comes behind it.
use Rattle.std.proofs.Common.{◌≡◌, ◌∙◌, inl, inr, ℕ, ◌+◌, ◌≤◌, ◌<◌, List, [], ◌∷◌, ◌++◌, length, take, drop, arith, refl, sym, ap, subst, Bool, true, false, append_assoc, append-nil, length-append}
use Rattle.std.specs.Prelude.{map, if◌then◌else◌, nat_le, nat_lt, ◌&&◌, bytes_eq, codes}
use Rattle.std.specs.List.{list_all}
use Rattle.std.specs.Str.Parse.{digits_value}
use Rattle.std.proofs.lemmas.List.{append_cancel_right, take-append-le, take-append-drop}
use Rattle.json_tree.proofs.of_plain_laws.Lists.{take-whole, drop-whole}
use Rattle.httparse.specs.Grammar.{RequestHead, IsRequestHead, print_request, ReadsRequest}
use Rattle.httparse.proofs.GrammarLemmas.{request_unique}
use Rattle.http_spec.specs.declared.request.Head.{Head}
use Rattle.http_spec.specs.declared.request.Request.{Request}
use Rattle.http_spec.specs.declared.request.HttpFault.{HttpFault}
use Rattle.http_spec.specs.declared.request.HttpFault.TheVariants as fault
use Rattle.http_spec.specs.HeadText.{BeginsWithHead, HasNoHead}
use Rattle.http_spec.specs.Framing.{Framing, sized, refused, heads_of, framing, by_codings, within_limit, values_of, is_length, ends_link}
use Rattle.http_spec.specs.Requests.{BeginsWithRequestHead, IsBadHead, IsRefused, HasFault, IsCut, IsRequestOf, BeginsWithRequest, Front, request, bad, cut, IsFront}
use Rattle.http_spec.proofs.HeadEnds.{one_head}
use Rattle.http_spec.proofs.GrammarHeads.{printed_is_text, field_line, as_many_lines}
use Rattle.json_tree.specs.Limits.{most_payload}
use Rattle.http_spec.specs.Limits.{most_head, most_lines}

-- ---- one head at most

-- how the reading of a head goes
data Kind : Type 0 where
  none : Kind
  many : Kind
  other : Kind
  head : RequestHead → List ℕ → Kind

abbrev HasMany : List ℕ → Type 0
HasMany bytes = (text : List ℕ) × (rest : List ℕ) × (lines : List (List ℕ)) × BeginsWithHead bytes text rest lines × (most_lines < length lines)

abbrev IsKind : Kind → List ℕ → Type 0
IsKind none bytes = HasNoHead bytes
IsKind many bytes = HasMany bytes
IsKind other bytes = IsBadHead bytes
IsKind (head h rest) bytes = BeginsWithRequestHead bytes h rest

module _ (bytes a b r q : List ℕ) (ls ks : List (List ℕ)) (x : BeginsWithHead bytes a r ls) (y : BeginsWithHead bytes b q ks) where
  pub same_rest : r ≡ q
  same_rest = (one_head bytes a b r q ls ks x.is_head y.is_head x.bytes_are y.bytes_are).1

  same_lines : length ls ≡ length ks
  same_lines = (one_head bytes a b r q ls ks x.is_head y.is_head x.bytes_are y.bytes_are).0

  pub same_text : a ≡ b
  same_text = append_cancel_right a b r (sym x.bytes_are ∙ y.bytes_are ∙ ap (λ s. b ++ s) (sym same_rest))

one_grammar_head : (bytes r q : List ℕ) (h k : RequestHead) → BeginsWithRequestHead bytes h r → BeginsWithRequestHead bytes k q → (h ≡ k) × (r ≡ q)
one_grammar_head bytes r q h k x y =
    let reads = subst (λ t. ReadsRequest t k y.behind) (sym (same_text bytes x.text y.text r q x.lines y.lines x.found y.found)) y.reads in (
      (request_unique x.text h k x.behind y.behind x.reads reads).0,
      same_rest bytes x.text y.text r q x.lines y.lines x.found y.found,
    )

not_both : (bytes : List ℕ) → HasMany bytes → (text rest : List ℕ) (lines : List (List ℕ)) → BeginsWithHead bytes text rest lines → length lines ≤ most_lines → ⊥
not_both bytes m text rest lines h few = omega (arith, m.4, few, same_lines bytes m.0 text m.1 rest m.2 lines m.3 h)

not_other : (bytes r : List ℕ) (h : RequestHead) → IsBadHead bytes → BeginsWithRequestHead bytes h r → ⊥
not_other bytes r h o x =
    o.5 h x.behind (subst (λ t. ReadsRequest t h x.behind) (sym (same_text bytes o.0 x.text o.1 r o.2 x.lines o.3 x.found)) x.reads) x.few_fields

one_kind : (bytes : List ℕ) (a b : Kind) → IsKind a bytes → IsKind b bytes → a ≡ b
one_kind bytes none none x y = refl
one_kind bytes none many x y = absurd (x _ _ _ y.3)
one_kind bytes none other x y = absurd (x _ _ _ y.3)
one_kind bytes none (head h r) x y = absurd (x _ _ _ y.found)
one_kind bytes many none x y = absurd (y _ _ _ x.3)
one_kind bytes many many x y = refl
one_kind bytes many other x y = absurd (not_both bytes x y.0 y.1 y.2 y.3 y.4)
one_kind bytes many (head h r) x y = absurd (not_both bytes x y.text r y.lines y.found y.few)
one_kind bytes other none x y = absurd (y _ _ _ x.3)
one_kind bytes other many x y = absurd (not_both bytes y x.0 x.1 x.2 x.3 x.4)
one_kind bytes other other x y = refl
one_kind bytes other (head h r) x y = absurd (not_other bytes r h x y)
one_kind bytes (head h r) none x y = absurd (y _ _ _ x.found)
one_kind bytes (head h r) many x y = absurd (not_both bytes y x.text r x.lines x.found x.few)
one_kind bytes (head h r) other x y = absurd (not_other bytes r h y x)
one_kind bytes (head h r) (head k q) x y =
    let same = one_grammar_head bytes r q h k x y in λ i. head (same.0 i) (same.1 i)

-- ---- what the head decides

abbrev request_of : RequestHead → List ℕ → Request
request_of h body = record { method = h.method; target = h.target; headers = heads_of h.fields; body = body; ends = ends_link h.minor (heads_of h.fields) }

same_request : (h : RequestHead) (body : List ℕ) (r : Request) → IsRequestOf h body r → r ≡ request_of h body
same_request h body r x = λ i. record { method = x.method i; target = x.target i; headers = x.headers i; body = x.body_is i; ends = x.ends i }

abbrev by_framing : RequestHead → Framing → List ℕ → List ℕ → Front × List ℕ
by_framing h (refused f) bytes rest = (bad f, bytes)
by_framing h (sized n) bytes rest = if nat_lt (length rest) n then (cut, bytes) else (request (request_of h (take n rest)), drop n rest)

abbrev decided : Kind → List ℕ → Front × List ℕ
decided none bytes = if nat_le most_head (length bytes) then (bad fault.HeadTooLarge, bytes) else (cut, bytes)
decided many bytes = (bad fault.HeadTooLarge, bytes)
decided other bytes = (bad fault.BadHead, bytes)
decided (head h rest) bytes = by_framing h (framing h.method (heads_of h.fields)) bytes rest

abbrev IsDecided : Front → List ℕ → List ℕ → Type 0
IsDecided front bytes after = (kind : Kind) × IsKind kind bytes × (◌≡◌ {A = Front × List ℕ} (front, after) (decided kind bytes))

at_least : (m n : ℕ) → m ≤ n → nat_le m n ≡ true
at_least m n h = grind arith

below : (m n : ℕ) → m < n → nat_le n m ≡ false
below m n h = grind arith

less : (m n : ℕ) → m < n → nat_lt m n ≡ true
less m n h = grind arith

not_less : (m n : ℕ) → n ≤ m → nat_lt m n ≡ false
not_less m n h = grind arith

is_refused : (f : HttpFault) (bytes after : List ℕ) → IsRefused f bytes → after ≡ bytes → IsDecided (bad f) bytes after
is_refused f bytes after (h, rest, begins, why) e = (
  head h rest,
  begins,
  ap (λ a. (bad f, a)) e ∙ sym (ap (λ g. by_framing h g bytes rest) why),
)

is_fault : (f : HttpFault) (bytes after : List ℕ) → HasFault f bytes → after ≡ bytes → IsDecided (bad f) bytes after
is_fault fault.HeadTooLarge bytes after (inl h) e = (
  none,
  h.1,
  ap (λ a. (bad fault.HeadTooLarge, a)) e ∙ sym (ap (λ (b : Bool). if b then (bad fault.HeadTooLarge, bytes) else (cut, bytes)) (at_least most_head (length bytes) h.0)),
)
is_fault fault.HeadTooLarge bytes after (inr h) e = (many, h, ap (λ a. (bad fault.HeadTooLarge, a)) e)
is_fault fault.BadHead bytes after h e = (other, h, ap (λ a. (bad fault.BadHead, a)) e)
is_fault fault.NoLength bytes after h e = is_refused fault.NoLength bytes after h e
is_fault fault.BadLength bytes after h e = is_refused fault.BadLength bytes after h e
is_fault fault.BodyTooLarge bytes after h e = is_refused fault.BodyTooLarge bytes after h e

is_cut : (bytes after : List ℕ) → IsCut bytes → after ≡ bytes → IsDecided cut bytes after
is_cut bytes after (inl h) e = (
  none,
  h.1,
  ap (λ a. (cut, a)) e ∙ sym (ap (λ (b : Bool). if b then (bad fault.HeadTooLarge, bytes) else (cut, bytes)) (below (length bytes) most_head h.0)),
)
is_cut bytes after (inr (h, rest, size, begins, why, short)) e = (
  head h rest,
  begins,
  ap (λ a. (cut, a)) e
      ∙ sym (ap (λ (b : Bool). if b then (cut, bytes) else (request (request_of h (take size rest)), drop size rest)) (less (length rest) size short))
      ∙ sym (ap (λ g. by_framing h g bytes rest) why),
)

is_request : (r : Request) (bytes after : List ℕ) → BeginsWithRequest r bytes after → IsDecided (request r) bytes after
is_request r bytes after x =
    let n = length x.body in
    let long : n ≤ length x.rest = omega (arith, ap length x.rest_is ∙ length-append x.body after) in
    let body_is : take n x.rest ≡ x.body = ap (take n) x.rest_is ∙ take-whole x.body after in
    let after_is : drop n x.rest ≡ after = ap (drop n) x.rest_is ∙ drop-whole x.body after in (
      head x.head x.rest,
      x.begins,
      (λ i. (request (same_request x.head x.body r x.request i), after))
          ∙ sym (λ i. (request (request_of x.head (body_is i)), after_is i))
          ∙ sym (ap (λ (b : Bool). if b then (cut, bytes) else (request (request_of x.head (take n x.rest)), drop n x.rest)) (not_less (length x.rest) n long))
          ∙ sym (ap (λ g. by_framing x.head g bytes x.rest) x.size),
    )

is_decided : (front : Front) (bytes after : List ℕ) → IsFront front bytes after → IsDecided front bytes after
is_decided (request r) bytes after h = is_request r bytes after h
is_decided (bad f) bytes after h = is_fault f bytes after h.0 h.1
is_decided cut bytes after h = is_cut bytes after h.0 h.1

pub one_front : (bytes : List ℕ) (x y : Front) (a b : List ℕ) → IsFront x bytes a → IsFront y bytes b → (x ≡ y) × (a ≡ b)
one_front bytes x y a b h k =
    let first = is_decided x bytes a h in
    let second = is_decided y bytes b k in
    let same : ◌≡◌ {A = Front × List ℕ} (x, a) (y, b) = first.2 ∙ ap (λ kind. decided kind bytes) (one_kind bytes first.0 second.0 first.1 second.1) ∙ sym second.2 in
    (ap (λ p. p.0) same, ap (λ p. p.1) same)

-- ---- a request is read as itself

pub printed_begins : (h : RequestHead) (rest : List ℕ) → IsRequestHead h → length h.fields ≤ most_lines → length (print_request h) ≤ most_head → BeginsWithRequestHead (print_request h ++ rest) h rest
printed_begins h rest is_head few short = record {
  text = print_request h;
  lines = map field_line h.fields;
  found = record { is_head = printed_is_text h is_head; bytes_are = refl; short = short };
  few = omega (arith, as_many_lines h.fields, few);
  behind = [];
  reads = (is_head, sym (append-nil (print_request h)));
  few_fields = few;
}

pub reads_itself : (h : RequestHead) (body more : List ℕ) (r : Request) → IsRequestHead h → length h.fields ≤ most_lines → length (print_request h) ≤ most_head
    → framing h.method (heads_of h.fields) ≡ sized (length body) → IsRequestOf h body r → IsFront (request r) (print_request h ++ (body ++ more)) more
reads_itself h body more r is_head few short size is_request = record {
  head = h;
  rest = body ++ more;
  body = body;
  begins = printed_begins h (body ++ more) is_head few short;
  size = size;
  rest_is = refl;
  request = is_request;
}

-- ---- more bytes behind

still_begins : (bytes more text rest : List ℕ) (lines : List (List ℕ)) → BeginsWithHead bytes text rest lines → BeginsWithHead (bytes ++ more) text (rest ++ more) lines
still_begins bytes more text rest lines h = record {
  is_head = h.is_head;
  bytes_are = ap (λ xs. xs ++ more) h.bytes_are ∙ append_assoc text rest more;
  short = h.short;
}

still_begins_head : (bytes more rest : List ℕ) (h : RequestHead) → BeginsWithRequestHead bytes h rest → BeginsWithRequestHead (bytes ++ more) h (rest ++ more)
still_begins_head bytes more rest h x = record {
  text = x.text;
  lines = x.lines;
  found = still_begins bytes more x.text rest x.lines x.found;
  few = x.few;
  behind = x.behind;
  reads = x.reads;
  few_fields = x.few_fields;
}

-- a front of the longer bytes that isn't longer than the bytes is one of them
front_within : (bytes more text rest : List ℕ) → bytes ++ more ≡ text ++ rest → length text ≤ length bytes → bytes ≡ text ++ drop (length text) bytes
front_within bytes more text rest e h =
    let n = length text in
    let front : take n bytes ≡ text = sym (take-append-le n bytes more h) ∙ ap (take n) e ∙ take-whole text rest in
    sym (take-append-drop n bytes) ∙ ap (λ t. t ++ drop n bytes) front

pub no_head_behind : (bytes more : List ℕ) → most_head ≤ length bytes → HasNoHead bytes → HasNoHead (bytes ++ more)
no_head_behind bytes more long h text rest lines x =
    let short : length text ≤ length bytes = omega (arith, long, x.short) in
    h text (drop (length text) bytes) lines (record { is_head = x.is_head; bytes_are = front_within bytes more text rest x.bytes_are short; short = x.short })

still_refused : (f : HttpFault) (bytes more : List ℕ) → IsRefused f bytes → IsRefused f (bytes ++ more)
still_refused f bytes more (h, rest, begins, why) = (h, rest ++ more, still_begins_head bytes more rest h begins, why)

pub still_fault : (f : HttpFault) (bytes more : List ℕ) → HasFault f bytes → HasFault f (bytes ++ more)
still_fault fault.HeadTooLarge bytes more (inl h) = inl (omega (arith, h.0, length-append bytes more), no_head_behind bytes more h.0 h.1)
still_fault fault.HeadTooLarge bytes more (inr (text, rest, lines, h, long)) = inr (text, rest ++ more, lines, still_begins bytes more text rest lines h, long)
still_fault fault.BadHead bytes more (text, rest, lines, h, few, no_head) = (text, rest ++ more, lines, still_begins bytes more text rest lines h, few, no_head)
still_fault fault.NoLength bytes more h = still_refused fault.NoLength bytes more h
still_fault fault.BadLength bytes more h = still_refused fault.BadLength bytes more h
still_fault fault.BodyTooLarge bytes more h = still_refused fault.BodyTooLarge bytes more h

pub still_request : (r : Request) (bytes more after : List ℕ) → IsFront (request r) bytes after → IsFront (request r) (bytes ++ more) (after ++ more)
still_request r bytes more after x = record {
  head = x.head;
  rest = x.rest ++ more;
  body = x.body;
  begins = still_begins_head bytes more x.rest x.head x.begins;
  size = x.size;
  rest_is = ap (λ xs. xs ++ more) x.rest_is ∙ append_assoc x.body after more;
  request = x.request;
}

-- ---- bytes that are cut are few

limited : (b : Bool) (m n : ℕ) → nat_le m most_payload ≡ b → (if b then sized m else refused fault.BodyTooLarge) ≡ sized n → n ≤ most_payload
limited true m n test h = let same : m ≡ n = cc in grind arith
limited false m n test h = absurd (let apart : refused fault.BodyTooLarge ≡ sized n = h in cc)

by_post : (b : Bool) (n : ℕ) → (if b then refused fault.NoLength else sized 0) ≡ sized n → n ≤ most_payload
by_post true n h = absurd (let apart : refused fault.NoLength ≡ sized n = h in cc)
by_post false n h = let same : 0 ≡ n = cc in omega (arith, same)

by_values : (b : Bool) (m n : ℕ) → (if b then within_limit m else refused fault.BadLength) ≡ sized n → n ≤ most_payload
by_values true m n h = limited (nat_le m most_payload) m n refl h
by_values false m n h = absurd (let apart : refused fault.BadLength ≡ sized n = h in cc)

by_codings_small : (method : List ℕ) (codings lengths : List (List ℕ)) (n : ℕ) → by_codings method codings lengths ≡ sized n → n ≤ most_payload
by_codings_small method [] [] n h = by_post (bytes_eq method (codes "POST")) n h
by_codings_small method [] (value ∷ values) n h =
    by_values (is_length value && list_all (λ other. bytes_eq other value) values) (digits_value 10 value) n h
by_codings_small method (_ ∷ _) lengths n h = absurd (let apart : refused fault.NoLength ≡ sized n = h in cc)

pub sizes_are_small : (method : List ℕ) (heads : List Head) (n : ℕ) → framing method heads ≡ sized n → n ≤ most_payload
sizes_are_small method heads n h = by_codings_small method (values_of (codes "transfer-encoding") heads) (values_of (codes "content-length") heads) n h

pub cut_is_short : (bytes : List ℕ) → IsCut bytes → length bytes < most_head + most_payload
cut_is_short bytes (inl h) = omega (arith, h.0)
cut_is_short bytes (inr (h, rest, size, begins, why, short)) =
    let all : length bytes ≡ length begins.text + length rest = ap length begins.found.bytes_are ∙ length-append begins.text rest in
    omega (arith, all, begins.found.short, sizes_are_small h.method (heads_of h.fields) size why, short)

-- ---- a head is refused for one of three reasons

limit_refuses : (b : Bool) (n : ℕ) (f : HttpFault) (bytes : List ℕ) → (if b then sized n else refused fault.BodyTooLarge) ≡ refused f → IsRefused f bytes → HasFault f bytes
limit_refuses true n f bytes h x = absurd (let apart : sized n ≡ refused f = h in cc)
limit_refuses false n f bytes h x = let same : fault.BodyTooLarge ≡ f = cc in subst (λ g. HasFault g bytes) same (subst (λ g. IsRefused g bytes) (sym same) x)

post_refuses : (b : Bool) (f : HttpFault) (bytes : List ℕ) → (if b then refused fault.NoLength else sized 0) ≡ refused f → IsRefused f bytes → HasFault f bytes
post_refuses true f bytes h x = let same : fault.NoLength ≡ f = cc in subst (λ g. HasFault g bytes) same (subst (λ g. IsRefused g bytes) (sym same) x)
post_refuses false f bytes h x = absurd (let apart : sized 0 ≡ refused f = h in cc)

values_refuse : (b : Bool) (n : ℕ) (f : HttpFault) (bytes : List ℕ) → (if b then within_limit n else refused fault.BadLength) ≡ refused f → IsRefused f bytes → HasFault f bytes
values_refuse true n f bytes h x = limit_refuses (nat_le n most_payload) n f bytes h x
values_refuse false n f bytes h x = let same : fault.BadLength ≡ f = cc in subst (λ g. HasFault g bytes) same (subst (λ g. IsRefused g bytes) (sym same) x)

codings_refuse : (f : HttpFault) (method : List ℕ) (codings lengths : List (List ℕ)) (bytes : List ℕ) → by_codings method codings lengths ≡ refused f → IsRefused f bytes → HasFault f bytes
codings_refuse f method [] [] bytes h x = post_refuses (bytes_eq method (codes "POST")) f bytes h x
codings_refuse f method [] (value ∷ values) bytes h x =
    values_refuse (is_length value && list_all (λ other. bytes_eq other value) values) (digits_value 10 value) f bytes h x
codings_refuse f method (_ ∷ _) lengths bytes h x = let same : fault.NoLength ≡ f = cc in subst (λ g. HasFault g bytes) same (subst (λ g. IsRefused g bytes) (sym same) x)

pub refusals_are_three : (f : HttpFault) (method : List ℕ) (heads : List Head) (bytes : List ℕ) → framing method heads ≡ refused f → IsRefused f bytes → HasFault f bytes
refusals_are_three f method heads bytes h x = codings_refuse f method (values_of (codes "transfer-encoding") heads) (values_of (codes "content-length") heads) bytes h x
