-- Of any bytes something stands at the front, and a link has a reading: it can't be that none does, or that it has none.
use Rattle.std.proofs.Common.{◌≡◌, ◌∙◌, ◌⊎◌, inl, inr, ℕ, zero, suc, ◌≤◌, ◌<◌, List, [], ◌∷◌, ◌++◌, length, take, drop, arith, refl, sym, ap, subst, Bool, true, false, Option, Some, None}
use Rattle.std.proofs.lemmas.List.{length-take-le, take-append-drop}
use Rattle.httparse.specs.Grammar.{RequestHead, IsRequestHead, print_request}
use Rattle.http_spec.specs.declared.request.Request.{Request}
use Rattle.http_spec.specs.declared.request.HttpFault.{HttpFault}
use Rattle.http_spec.specs.declared.request.HttpFault.TheVariants as fault
use Rattle.http_spec.specs.HeadText.{IsHeadText, BeginsWithHead, HasNoHead}
use Rattle.http_spec.specs.HeadEnd.{head_at}
use Rattle.http_spec.specs.Framing.{Framing, sized, refused, heads_of, framing, ends_link}
use Rattle.http_spec.specs.Requests.{BeginsWithRequestHead, BeginsWithRequest, HasFault, Front, request, bad, cut, IsFront, End, closed, faulty, ended, AreRequests, RequestsOf}
use Rattle.http_spec.proofs.HeadEnds.{head_stands, unfinished}
use Rattle.http_spec.proofs.Fronts.{printed_begins, refusals_are_three}
use Rattle.http_spec.proofs.Links.{takes_some, too_large}
use Rattle.http_spec.specs.Limits.{most_head, most_lines, most_link}

abbrev Nothing : List ℕ → Type 0
Nothing bytes = (x : Front) (after : List ℕ) → ¬ IsFront x bytes after

compared : (m n : ℕ) → (m < n) ⊎ (n ≤ m)
compared m n = grind arith

-- ---- no head

without_head : (bytes : List ℕ) → HasNoHead bytes → Nothing bytes → ⊥
without_head bytes h nothing = by_length (compared (length bytes) most_head)
  where
    by_length : (length bytes < most_head) ⊎ (most_head ≤ length bytes) → ⊥
    by_length (inl short) = nothing cut bytes (inl (short, h), refl)
    by_length (inr long) = nothing (bad fault.HeadTooLarge) bytes (inl (long, h), refl)

-- ---- a head of the grammar: its fields decide

module _ (bytes rest : List ℕ) (h : RequestHead) (begins : BeginsWithRequestHead bytes h rest) (nothing : Nothing bytes) where
  whole_body : (n : ℕ) → framing h.method (heads_of h.fields) ≡ sized n → n ≤ length rest → ⊥
  whole_body n e long =
      nothing (request (record { method = h.method; target = h.target; headers = heads_of h.fields; body = take n rest; ends = ends_link h.minor (heads_of h.fields) })) (drop n rest)
      (record {
        head = h;
        rest = rest;
        body = take n rest;
        begins = begins;
        size = e ∙ ap sized (sym (length-take-le n rest long));
        rest_is = sym (take-append-drop n rest);
        request = record { method = refl; target = refl; headers = refl; body_is = refl; ends = refl };
      })

  by_size : (n : ℕ) → framing h.method (heads_of h.fields) ≡ sized n → (length rest < n) ⊎ (n ≤ length rest) → ⊥
  by_size n e (inl short) = nothing cut bytes (inr (h, rest, n, begins, e, short), refl)
  by_size n e (inr long) = whole_body n e long

  by_fields : (f : Framing) → framing h.method (heads_of h.fields) ≡ f → ⊥
  by_fields (sized n) e = by_size n e (compared (length rest) n)
  by_fields (refused f) e = nothing (bad f) bytes (refusals_are_three f h.method (heads_of h.fields) bytes e (h, rest, begins, e), refl)

  with_fields : ⊥
  with_fields = by_fields (framing h.method (heads_of h.fields)) refl

-- ---- a head's text

module _ (bytes text rest : List ℕ) (lines : List (List ℕ)) (nothing : Nothing bytes) (h : IsHeadText text lines) (e : bytes ≡ text ++ rest) where
  large : (most_head < length text) ⊎ (most_lines < length lines) → ⊥
  large l = nothing (bad fault.HeadTooLarge) bytes (subst (HasFault fault.HeadTooLarge) (sym e) (too_large text rest lines h l), refl)

  begins_so : length text ≤ most_head → BeginsWithHead bytes text rest lines
  begins_so short = record { is_head = h; bytes_are = e; short = short }

  small : length text ≤ most_head → length lines ≤ most_lines → ⊥
  small short few =
      nothing (bad fault.BadHead) bytes
      ((text, rest, lines, begins_so short, few, (λ head behind reads few_fields. with_fields bytes rest head (record { text = text; lines = lines; found = begins_so short; few = few; behind = behind; reads = reads; few_fields = few_fields }) nothing)), refl)

  by_measure : (most_head < length text) ⊎ (length text ≤ most_head) → (most_lines < length lines) ⊎ (length lines ≤ most_lines) → ⊥
  by_measure (inl long) c = large (inl long)
  by_measure (inr short) (inl many) = large (inr many)
  by_measure (inr short) (inr few) = small short few

  with_head : ⊥
  with_head = by_measure (compared most_head (length text)) (compared most_lines (length lines))

pub something : (bytes : List ℕ) → Nothing bytes → ⊥
something bytes nothing = by_end (head_at bytes) refl
  where
    by_end : (r : Option (ℕ × List ℕ)) → head_at bytes ≡ r → ⊥
    by_end None e = without_head bytes (unfinished bytes e) nothing
    by_end (Some (n, rest)) e =
        let there = head_stands bytes rest n e in
        with_head bytes there.0 rest there.1 nothing there.2 there.3

-- ---- a link has a reading

abbrev HasNone : List ℕ → Type 0
HasNone bytes = (rs : List Request) (d : End) → ¬ AreRequests bytes rs d

module _ (bytes : List ℕ) (none : HasNone bytes) where
  request_reads : (r : Request) (after : List ℕ) → BeginsWithRequest r bytes after → (HasNone after → ⊥) → (b : Bool) → r.ends ≡ b → ⊥
  request_reads r after x more true e = none (r ∷ []) closed (after, x, inl (e, refl, refl))
  request_reads r after x more false e = more (λ rs d k. none (r ∷ rs) d (after, x, inr (e, k)))

  front_reads : (x : Front) (after : List ℕ) → IsFront x bytes after → ((r : Request) → BeginsWithRequest r bytes after → HasNone after → ⊥) → ⊥
  front_reads (request r) after h more = request_reads r after h (more r h) r.ends refl
  front_reads (bad f) after h more = none [] (faulty f) h.0
  front_reads cut after h more = none [] ended h.0

some_reading : (n : ℕ) (bytes : List ℕ) → length bytes < n → HasNone bytes → ⊥
some_reading zero bytes h none = omega (arith, h)
some_reading (suc n) bytes h none =
    something bytes (λ x after k. front_reads bytes none x after k (λ r begins. some_reading n after (omega (arith, h, takes_some r bytes after begins))))

pub a_reading : (bytes : List ℕ) → ((rs : List Request) (d : End) → ¬ RequestsOf bytes rs d) → ⊥
a_reading bytes none = some_reading (suc (length (take most_link bytes))) (take most_link bytes) (omega arith) none

-- ---- a head that is refused for its fields

pub refused_so : (h : RequestHead) (more : List ℕ) (f : HttpFault) → IsRequestHead h → length h.fields ≤ most_lines → length (print_request h) ≤ most_head
    → framing h.method (heads_of h.fields) ≡ refused f → HasFault f (print_request h ++ more)
refused_so h more f is_head few short e =
    refusals_are_three f h.method (heads_of h.fields) (print_request h ++ more) e (h, more, printed_begins h more is_head few short, e)
