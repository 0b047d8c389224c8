-- What is answered, by the head that stands in the buffer.
use Rattle.std.proofs.Common.{◌≡◌, ◌∙◌, ◌⊎◌, inl, inr, ℕ, ◌≤◌, ◌<◌, List, [], ◌++◌, length, take, drop, arith, refl, sym, ap, subst, Option, Some, None, IfSome, append_assoc, append-nil}
use Rattle.std.proofs.lemmas.List.{take-append-drop, append_cancel_right, length-take-le}
use Rattle.std.specs.Io.KnownBytes.{Keeps, Consumes, prepend_known}
use Rattle.std.proofs.KnownBytes.{Consumes-trans}
use Rattle.httparse.specs.Grammar.{RequestHead, ReadsRequest}
use Rattle.http_spec.specs.declared.request.Request.{Request}
use Rattle.http_spec.specs.declared.request.HttpFault.{HttpFault}
use Rattle.http_spec.specs.declared.request.HttpFault.TheVariants as fault
use Rattle.http_spec.specs.HeadText.{IsHeadText, BeginsWithHead, HasNoHead}
use Rattle.http_spec.specs.Framing.{sized, refused, heads_of, framing, ends_link}
use Rattle.http_spec.specs.Requests.{BeginsWithRequestHead, IsCut}
use Rattle.http_spec.proofs.HeadEnds.{head_stands}
use Rattle.http_spec.proofs.Fronts.{refusals_are_three}
use Rattle.http_front.specs.declared.head.Parts.{Parts}
use Rattle.http_front.specs.declared.incoming.NextRequest.{NextRequest}
use Rattle.http_front.specs.declared.incoming.NextRequest.TheVariants as next
use Rattle.http_front.specs.Heads.{ArePartsOf}
use Rattle.http_front.specs.Fronts.{HasHead, EndsInHead, AsksForHead}
use Rattle.http_front.specs.Inside.{IsShort}
use Rattle.http_front.specs.Bodies.{IsOfParts, IsWithBody}
use Rattle.http_front.proofs.Links.{after_kept}
use Rattle.http_front.specs.Next.{IfRequest, IfBad, IfEnded, Gives, BeginsWith, IsBad, IsEnded, IsNext, StopsIn}
use Rattle.http_spec.specs.Limits.{most_head, most_lines}

-- ---- the head's text is the front

record FrontText (len lines : ℕ) (bytes : List ℕ) : Type 0 where
  all_lines : List (List ℕ)
  is_head : IsHeadText (take len bytes) all_lines
  count : length all_lines ≡ lines

front_text : (len lines : ℕ) (bytes : List ℕ) → HasHead len lines bytes → FrontText len lines bytes
front_text len lines bytes h =
    let there = head_stands bytes (drop len bytes) lines h.ends in
    let text : there.0 ≡ take len bytes = append_cancel_right there.0 (take len bytes) (drop len bytes) (sym there.3 ∙ sym (take-append-drop len bytes)) in
    record { all_lines = there.1; is_head = subst (λ t. IsHeadText t there.1) text there.2; count = there.4 }

begins_front : (len lines : ℕ) (bytes rest : List ℕ) (h : HasHead len lines bytes) → BeginsWithHead (take len bytes ++ rest) (take len bytes) rest (front_text len lines bytes h).all_lines
begins_front len lines bytes rest h = record {
  is_head = (front_text len lines bytes h).is_head;
  bytes_are = refl;
  short = omega (arith, length-take-le len bytes h.inside, h.short);
}

begins_head : (len lines : ℕ) (bytes rest : List ℕ) (parts : Parts) → HasHead len lines bytes → lines ≤ most_lines → (p : ArePartsOf parts (take len bytes)) → BeginsWithRequestHead (take len bytes ++ rest) p.head rest
begins_head len lines bytes rest parts h few p = record {
  text = take len bytes;
  lines = (front_text len lines bytes h).all_lines;
  found = begins_front len lines bytes rest h;
  few = omega (arith, (front_text len lines bytes h).count, few);
  behind = p.behind;
  reads = p.reads;
  few_fields = p.few;
}

all_known : (bytes : List ℕ) (left : Option (List ℕ)) → BeginsWith (prepend_known bytes left) bytes
all_known bytes None = tt
all_known bytes (Some more) = (more, refl)

front_known : (len : ℕ) (bytes : List ℕ) (left : Option (List ℕ)) → BeginsWith (prepend_known bytes left) (take len bytes)
front_known len bytes None = tt
front_known len bytes (Some more) =
    (drop len bytes ++ more, ap (λ xs. xs ++ more) (sym (take-append-drop len bytes)) ∙ append_assoc (take len bytes) (drop len bytes) more)

same_framing : (parts : Parts) (text : List ℕ) (p : ArePartsOf parts text) → framing parts.method parts.headers ≡ framing p.head.method (heads_of p.head.fields)
same_framing parts text p = λ i. framing (p.method i) (p.headers i)

-- ---- faults

pub bad_head : (len lines : ℕ) (bytes : List ℕ) (left : Option (List ℕ)) → HasHead len lines bytes → lines ≤ most_lines
    → ((head : RequestHead) (behind : List ℕ) → ReadsRequest (take len bytes) head behind → length head.fields ≤ most_lines → ⊥) → IsBad fault.BadHead (prepend_known bytes left)
bad_head len lines bytes left h few no_head = record {
  front = take len bytes ++ [];
  has_fault = (take len bytes, [], (front_text len lines bytes h).all_lines, begins_front len lines bytes [] h, omega (arith, (front_text len lines bytes h).count, few), no_head);
  begins = subst (BeginsWith (prepend_known bytes left)) (sym (append-nil (take len bytes))) (front_known len bytes left);
}

pub refused_head : (len lines : ℕ) (bytes : List ℕ) (left : Option (List ℕ)) (parts : Parts) (f : HttpFault) → HasHead len lines bytes → lines ≤ most_lines → ArePartsOf parts (take len bytes)
    → framing parts.method parts.headers ≡ refused f → IsBad f (prepend_known bytes left)
refused_head len lines bytes left parts f h few p why = record {
  front = take len bytes ++ [];
  has_fault = refusals_are_three f p.head.method (heads_of p.head.fields) (take len bytes ++ []) (sym (same_framing parts (take len bytes) p) ∙ why)
      (p.head, [], begins_head len lines bytes [] parts h few p, sym (same_framing parts (take len bytes) p) ∙ why);
  begins = subst (BeginsWith (prepend_known bytes left)) (sym (append-nil (take len bytes))) (front_known len bytes left);
}

pub many_lines : (len lines : ℕ) (bytes : List ℕ) (left : Option (List ℕ)) → HasHead len lines bytes → most_lines < lines → IsBad fault.HeadTooLarge (prepend_known bytes left)
many_lines len lines bytes left h many = record {
  front = take len bytes ++ [];
  has_fault = inr (take len bytes, [], (front_text len lines bytes h).all_lines, begins_front len lines bytes [] h, omega (arith, (front_text len lines bytes h).count, many));
  begins = subst (BeginsWith (prepend_known bytes left)) (sym (append-nil (take len bytes))) (front_known len bytes left);
}

pub out_of_reach : (bytes : List ℕ) (left : Option (List ℕ)) → (most_head ≤ length bytes) × HasNoHead bytes → IsBad fault.HeadTooLarge (prepend_known bytes left)
out_of_reach bytes left h = record { front = bytes; has_fault = inl h; begins = all_known bytes left }

-- ---- requests, and bytes that end within one

front_taken : (len : ℕ) (bytes : List ℕ) (left : Option (List ℕ)) → Consumes (prepend_known bytes left) (prepend_known (drop len bytes) left) (take len bytes)
front_taken len bytes None = tt
front_taken len bytes (Some more) = ap (λ xs. xs ++ more) (sym (take-append-drop len bytes)) ∙ append_assoc (take len bytes) (drop len bytes) more

gives : (len lines size : ℕ) (bytes : List ℕ) (left new : Option (List ℕ)) (parts : Parts) (r : Request) (body : List ℕ) → HasHead len lines bytes → lines ≤ most_lines → ArePartsOf parts (take len bytes)
    → framing parts.method parts.headers ≡ sized size → length body ≡ size → Consumes (prepend_known (drop len bytes) left) new body → IsOfParts r parts body → Gives r (prepend_known bytes left) new
gives len lines size bytes left new parts r body h few p is_size count taken of_parts = record {
  text = take len bytes ++ body;
  is_request = record {
    head = p.head;
    rest = body;
    body = body;
    begins = begins_head len lines bytes body parts h few p;
    size = sym (same_framing parts (take len bytes) p) ∙ is_size ∙ ap sized (sym count);
    rest_is = sym (append-nil body);
    request = record {
      method = of_parts.method ∙ p.method;
      target = of_parts.target ∙ p.target;
      headers = of_parts.headers ∙ p.headers;
      body_is = of_parts.body_is;
      ends = of_parts.ends ∙ (λ i. ends_link (p.minor i) (p.headers i));
    };
  };
  taken = Consumes-trans (prepend_known bytes left) (prepend_known (drop len bytes) left) new (take len bytes) body (front_taken len bytes left) taken;
}

cut_in_body : (len lines size : ℕ) (bytes : List ℕ) (left : Option (List ℕ)) (parts : Parts) → HasHead len lines bytes → lines ≤ most_lines → ArePartsOf parts (take len bytes)
    → framing parts.method parts.headers ≡ sized size → IfSome (prepend_known (drop len bytes) left) (λ all. length all < size) → IsEnded (prepend_known bytes left)
cut_in_body len lines size bytes None parts h few p is_size short = tt
cut_in_body len lines size bytes (Some more) parts h few p is_size short =
    let rest = drop len bytes ++ more in
    let all : take len bytes ++ rest ≡ bytes ++ more = sym (append_assoc (take len bytes) (drop len bytes) more) ∙ ap (λ xs. xs ++ more) (take-append-drop len bytes) in
    subst IsCut all (inr (p.head, rest, size, begins_head len lines bytes rest parts h few p, sym (same_framing parts (take len bytes) p) ∙ is_size, short))

-- ---- the link is asked only where the bytes ahead are cut

pub asks_head : (Stays : Type 0) (old mid new : List ℕ) → mid ≡ old → AsksForHead Stays mid new → Stays ⊎ IsCut old
asks_head Stays old mid new e (inl same) = inl same.0
asks_head Stays old mid new e (inr there) = inr (subst IsCut e (inl there))

pub asks_request : {X : Type 0} (first second third : X) (old mid new : List ℕ) → mid ≡ old → AsksForHead (second ≡ first) mid new → (third ≡ second) ⊎ IsCut new → (third ≡ first) ⊎ IsCut old
asks_request first second third old mid new e (inr there) k = inr (subst IsCut e (inl there))
asks_request first second third old mid new e (inl same) (inl stays) = inl (stays ∙ same.0)
asks_request first second third old mid new e (inl same) (inr is_cut) = inr (subst IsCut (same.1 ∙ e) is_cut)

pub asks_body : (Stays : Type 0) (len lines size : ℕ) (bytes now : List ℕ) (parts : Parts) → HasHead len lines bytes → lines ≤ most_lines → ArePartsOf parts (take len bytes)
    → framing parts.method parts.headers ≡ sized size → now ≡ drop len bytes → Stays ⊎ (length now < size) → Stays ⊎ IsCut bytes
asks_body Stays len lines size bytes now parts h few p is_size e (inl stays) = inl stays
asks_body Stays len lines size bytes now parts h few p is_size e (inr short) =
    let rest = drop len bytes in
    let within : IsCut (take len bytes ++ rest) =
    inr (p.head, rest, size, begins_head len lines bytes rest parts h few p, sym (same_framing parts (take len bytes) p) ∙ is_size, subst (λ xs. length xs < size) e short) in
    inr (subst IsCut (take-append-drop len bytes) within)

-- the answer of the body's reader is the answer
pub body_next : (len lines size : ℕ) (bytes : List ℕ) (left mid new : Option (List ℕ)) (parts : Parts) → HasHead len lines bytes → lines ≤ most_lines → ArePartsOf parts (take len bytes)
    → framing parts.method parts.headers ≡ sized size → mid ≡ prepend_known (drop len bytes) left → (answer : NextRequest) → IsWithBody answer parts size mid new → IsNext answer (prepend_known bytes left) new
body_next len lines size bytes left mid new parts h few p is_size mid_is (next.Request r) x =
    gives len lines size bytes left new parts r x.0 h few p is_size x.1 (subst (λ m. Consumes m new x.0) mid_is x.2) x.3
body_next len lines size bytes left mid new parts h few p is_size mid_is (next.Bad f) x = absurd x
body_next len lines size bytes left mid new parts h few p is_size mid_is next.Ended x =
    cut_in_body len lines size bytes left parts h few p is_size (subst (λ m. IfSome m (λ all. length all < size)) mid_is x)
body_next len lines size bytes left mid new parts h few p is_size mid_is next.ReadFault x = tt
body_next len lines size bytes left mid new parts h few p is_size mid_is next.Memory x = tt

-- ---- what was taken before a read that failed

pub stops_in_body : (len lines size : ℕ) (bytes : List ℕ) (left mid rest : Option (List ℕ)) (parts : Parts) → HasHead len lines bytes → lines ≤ most_lines → ArePartsOf parts (take len bytes)
    → framing parts.method parts.headers ≡ sized size → mid ≡ prepend_known (drop len bytes) left → IsShort size mid rest → StopsIn (prepend_known bytes left) rest
stops_in_body len lines size bytes left mid rest parts h few p is_size mid_is s = record {
  taken = take len bytes ++ s.part;
  is_taken =
      Consumes-trans (prepend_known bytes left) (prepend_known (drop len bytes) left) rest (take len bytes) s.part (front_taken len bytes left)
      (subst (λ m. Consumes m rest s.part) mid_is s.is_taken);
  is_cut = inr (p.head, s.part, size, begins_head len lines bytes s.part parts h few p, sym (same_framing parts (take len bytes) p) ∙ is_size, s.short);
}

pub stops_in_head : (old rest : Option (List ℕ)) (bytes : List ℕ) → Keeps old (prepend_known bytes rest) → EndsInHead bytes → StopsIn old rest
stops_in_head old rest bytes kept h = record { taken = bytes; is_taken = all_taken old rest kept; is_cut = inl h }
  where
    all_taken : (old rest : Option (List ℕ)) → Keeps old (prepend_known bytes rest) → Consumes old rest bytes
    all_taken None rest kept = tt
    all_taken (Some xs) None kept = absurd kept
    all_taken (Some xs) (Some ys) kept = sym kept

-- ---- what was read ahead changes nothing

pub kept_stops : (old mid rest : Option (List ℕ)) → Keeps old mid → StopsIn mid rest → StopsIn old rest
kept_stops old mid rest h s = record { taken = s.taken; is_taken = after_kept old mid rest s.taken h s.is_taken; is_cut = s.is_cut }

kept_gives : (r : Request) (old mid new : Option (List ℕ)) → Keeps old mid → Gives r mid new → Gives r old new
kept_gives r old mid new h g = record { text = g.text; is_request = g.is_request; taken = after_kept old mid new g.text h g.taken }

pub kept_bad : (f : HttpFault) (old mid : Option (List ℕ)) → Keeps old mid → IsBad f mid → IsBad f old
kept_bad f old mid h b = record { front = b.front; has_fault = b.has_fault; begins = step old mid h b.begins }
  where
    step : (old mid : Option (List ℕ)) → Keeps old mid → BeginsWith mid b.front → BeginsWith old b.front
    step None mid h k = tt
    step (Some x) None h k = absurd h
    step (Some x) (Some y) h k = (k.0, sym h ∙ k.1)

pub kept_ended : (old mid : Option (List ℕ)) → Keeps old mid → IsEnded mid → IsEnded old
kept_ended None mid h k = tt
kept_ended (Some x) None h k = absurd h
kept_ended (Some x) (Some y) h k = subst IsCut h k

pub kept_next : (old mid new : Option (List ℕ)) → Keeps old mid → (answer : NextRequest) → IsNext answer mid new → IsNext answer old new
kept_next old mid new kept (next.Request r) x = kept_gives r old mid new kept x
kept_next old mid new kept (next.Bad f) x = kept_bad f old mid kept x
kept_next old mid new kept next.Ended x = kept_ended old mid kept x
kept_next old mid new kept next.ReadFault x = tt
kept_next old mid new kept next.Memory x = tt

-- ---- the clauses one by one

pub request_next : (answer : NextRequest) (old new : Option (List ℕ)) → IsNext answer old new → IfRequest answer (λ r. Gives r old new)
request_next (next.Request r) old new x = x
request_next (next.Bad f) old new x = tt
request_next next.Ended old new x = tt
request_next next.ReadFault old new x = tt
request_next next.Memory old new x = tt

pub bad_next : (answer : NextRequest) (old new : Option (List ℕ)) → IsNext answer old new → IfBad answer (λ f. IsBad f old)
bad_next (next.Request r) old new x = tt
bad_next (next.Bad f) old new x = x
bad_next next.Ended old new x = tt
bad_next next.ReadFault old new x = tt
bad_next next.Memory old new x = tt

pub ended_next : (Q : Type 0) (answer : NextRequest) (old new : Option (List ℕ)) → IsNext answer old new → IfEnded answer (Q → IsEnded old)
ended_next Q (next.Request r) old new x = tt
ended_next Q (next.Bad f) old new x = tt
ended_next Q next.Ended old new x = λ q. x
ended_next Q next.ReadFault old new x = tt
ended_next Q next.Memory old new x = tt

-- ---- a head that is cut

pub cut_head : (left : Option (List ℕ)) → IfSome left EndsInHead → IsEnded left
cut_head None h = tt
cut_head (Some all) h = inl h
