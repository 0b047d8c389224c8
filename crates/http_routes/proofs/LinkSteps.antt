-- What is served on a link, request by request, over any notion of an answer.
use Rattle.std.proofs.Common.{◌≡◌, ◌∙◌, inl, inr, ℕ, ◌+◌, List, [], ◌∷◌, ◌++◌, length, take, arith, refl, sym, ap, subst, Bool, true, false, Option, Some, None, Result, Ok, Err, append-nil}
use Rattle.std.proofs.lemmas.List.{length-append}
use Rattle.std.proofs.Math.Seq.{take-append-add}
use Rattle.std.proofs.KnownBytes.{Appends-nil, Appends-trans}
use Rattle.std.specs.Io.KnownBytes.{Appends, Consumes}
use Rattle.std.specs.List.{flat_map}
use Rattle.http_spec.specs.declared.answer.Answer.{Answer}
use Rattle.http_spec.specs.declared.request.Request.{Request}
use Rattle.http_spec.specs.declared.request.HttpFault.{HttpFault}
use Rattle.http_spec.specs.Answers.{answer_text, fault_answer, memory_answer}
use Rattle.http_spec.specs.Requests.{closed, faulty, ended, IsCut, HasFault, BeginsWithRequest}
use Rattle.httparse.specs.Grammar.{print_blank, print_end}
use Rattle.http_spec.specs.HeadText.{print_line, HasNoHead}
use Rattle.http_spec.proofs.Fronts.{still_fault, still_request}
use Rattle.http_spec.proofs.Links.{some_in}
use Rattle.http_front.specs.Next.{Gives, IsBad, IsEnded, StopsIn}
use Rattle.routes_spec.specs.Links.{Stop, whole, cut_off, broken, AreAnsweredBy, written}
use Rattle.http_routes.specs.declared.link.LinkEnd.{LinkEnd}
use Rattle.http_routes.specs.declared.link.LinkEnd.TheVariants.{Closed, ReadFault, WriteFault}
use Rattle.http_routes.specs.declared.sending.Sent.{Sent}
use Rattle.http_routes.specs.declared.sending.Sent.TheVariants.{Whole, Memory, Failed}
use Rattle.http_routes.specs.Course.{IsPart, IsSent, IfFaultAnswer, answer_in, end_behind, end_of, AreKnown, AreWritten, ServesBy, ServedSoFarBy, GoesOnBy, IsAnsweredBy, IsServedNextBy}

-- ---- bytes

-- what is left, as far as it is known
abbrev rest_of : Option (List ℕ) → List ℕ
rest_of None = []
rest_of (Some bytes) = bytes

rest_is_known : (left : Option (List ℕ)) → AreKnown left (rest_of left)
rest_is_known None = tt
rest_is_known (Some bytes) = refl

pub known_more : (known left : Option (List ℕ)) (text bytes : List ℕ) → Consumes known left text → AreKnown left bytes → AreKnown known (text ++ bytes)
known_more None left text bytes taken is = tt
known_more (Some xs) None text bytes taken is = absurd taken
known_more (Some xs) (Some ys) text bytes taken is = ap (λ zs. text ++ zs) is ∙ sym taken

alone : (text : List ℕ) (held holds : Option (List ℕ)) → Appends held holds text → Appends held holds (text ++ [])
alone text held holds h = subst (Appends held holds) (sym (append-nil text)) h

part_alone : (text : List ℕ) (held holds : Option (List ℕ)) → IsPart text held holds → IsPart (text ++ []) held holds
part_alone text held holds h = subst (λ t. IsPart t held holds) (sym (append-nil text)) h

-- what was written before comes in front
pub written_more : (end : LinkEnd) (stop : Stop) (front text : List ℕ) (held between holds : Option (List ℕ)) → Appends held between front → AreWritten end stop text between holds
    → AreWritten end stop (front ++ text) held holds
written_more Closed stop front text held between holds first (is, behind) = (is, Appends-trans held between holds front text first behind)
written_more ReadFault stop front text held between holds first (is, behind) = (is, Appends-trans held between holds front text first behind)
written_more WriteFault stop front text held between holds first (n, fewer, behind) =
    let split = take-append-add front text n in (
      length front + n,
      omega (arith, fewer, length-append front text),
      subst (Appends held holds) (sym split) (Appends-trans held between holds front (take n text) first behind),
    )

no_bytes_are_cut : IsCut []
no_bytes_are_cut = inl (omega arith, no_head)
  where
    no_head : HasNoHead []
    no_head text rest lines begins =
        let h = begins.is_head in
        let some = some_in (print_blank h.blank) h.first (flat_map print_line lines ++ print_end h.last) in
        let size = ap length h.text_is in
        let all = ap length begins.bytes_are in
        omega (arith, some, size, all, length-append text rest)

module _ {M X : Type 0} (Given : Request → M → Answer → Type 0) (Before : Request → M → Type 0) (Changes : M → X → X → Type 0) where
  -- ---- a request more

  abbrev pub served_more : (end : LinkEnd) (known left : Option (List ℕ)) (old mid new : X) (held between holds : Option (List ℕ))
      → GoesOnBy Given Before Changes known left old mid held between → ServesBy Given Before Changes end left mid new between holds → ServesBy Given Before Changes end known old new held holds
  served_more end known left old mid new held between holds first behind = record {
    bytes = first.gives.text ++ behind.bytes;
    requests = first.request ∷ behind.requests;
    stop = behind.stop;
    mets = first.met ∷ behind.mets;
    answers = first.answer ∷ behind.answers;
    are_known = known_more known left first.gives.text behind.bytes first.gives.taken behind.are_known;
    answered = (behind.bytes, still_request first.request first.gives.text behind.bytes [] first.gives.is_request, inl (first.given, inr (first.stays, behind.answered)));
    moved = (mid, first.moved, behind.moved);
    written_are = written_more end behind.stop (answer_text first.answer) (written behind.answers) held between holds first.appended behind.written_are;
  }

  -- ---- the last request

  module _ (r : Request) (known left : Option (List ℕ)) (old new : X) (held holds : Option (List ℕ)) (gives : Gives r known left) where
    begins : BeginsWithRequest r (gives.text ++ rest_of left) (rest_of left)
    begins = still_request r gives.text (rest_of left) [] gives.is_request

    -- it has this answer, behind which answering stops so
    last : (end : LinkEnd) (stop : Stop) (met : M) (a : Answer) → Changes met old new → AreAnsweredBy Given Before (gives.text ++ rest_of left) (r ∷ []) stop (met ∷ []) (a ∷ [])
        → AreWritten end stop (answer_text a ++ []) held holds → ServesBy Given Before Changes end known old new held holds
    last end stop met a moved answered is_written = record {
      bytes = gives.text ++ rest_of left;
      requests = r ∷ [];
      stop = stop;
      mets = met ∷ [];
      answers = a ∷ [];
      are_known = known_more known left gives.text (rest_of left) gives.taken (rest_is_known left);
      answered = answered;
      moved = (new, moved, refl);
      written_are = is_written;
    }

    -- it ends the link
    closing : (met : M) (a : Answer) → r.ends ≡ true → Given r met a
        → AreAnsweredBy Given Before (gives.text ++ rest_of left) (r ∷ []) (whole closed) (met ∷ []) (a ∷ [])
    closing met a ends given =
        (rest_of left, begins, inl (given, inl (record { ends = ends; requests_are = refl; stop_is = refl; mets_are = refl; answers_are = refl })))

    -- the link broke behind it
    breaking : (met : M) (a : Answer) → r.ends ≡ false → Given r met a
        → AreAnsweredBy Given Before (gives.text ++ rest_of left) (r ∷ []) broken (met ∷ []) (a ∷ [])
    breaking met a stays given = (rest_of left, begins, inl (given, inr (stays, (refl, refl))))

    -- there was no memory for its answer
    cutting : (met : M) → Before r met → AreAnsweredBy Given Before (gives.text ++ rest_of left) (r ∷ []) cut_off (met ∷ []) (memory_answer ∷ [])
    cutting met before = (rest_of left, begins, inr (record { met_before = before; no_memory = refl }, refl, refl, refl, refl))

    -- all of its answer was sent
    whole_sent : (ends : Bool) (met : M) (a : Answer) → r.ends ≡ ends → Changes met old new → Given r met a → Appends held holds (answer_text a)
        → IsServedNextBy Given Before Changes (end_of Whole ends) known left old new held holds
    whole_sent true met a is moved given sent = last Closed (whole closed) met a moved (closing met a is given) (tt, alone (answer_text a) held holds sent)
    whole_sent false met a is moved given sent =
        record { request = r; met = met; answer = a; gives = gives; stays = is; given = given; moved = moved; appended = sent }

    -- a part of it was
    part_sent : (ends : Bool) (met : M) (a : Answer) → r.ends ≡ ends → Changes met old new → Given r met a → IsPart (answer_text a) held holds
        → ServesBy Given Before Changes WriteFault known old new held holds
    part_sent true met a is moved given part = last WriteFault (whole closed) met a moved (closing met a is given) (part_alone (answer_text a) held holds part)
    part_sent false met a is moved given part = last WriteFault broken met a moved (breaking met a is given) (part_alone (answer_text a) held holds part)

    memory_sent : (met : M) → Changes met old new → Before r met → Appends held holds (answer_text memory_answer)
        → ServesBy Given Before Changes Closed known old new held holds
    memory_sent met moved before sent = last Closed cut_off met memory_answer moved (cutting met before) (tt, alone (answer_text memory_answer) held holds sent)

    memory_part : (met : M) → Changes met old new → Before r met → IsPart (answer_text memory_answer) held holds
        → ServesBy Given Before Changes WriteFault known old new held holds
    memory_part met moved before part = last WriteFault cut_off met memory_answer moved (cutting met before) (part_alone (answer_text memory_answer) held holds part)

    -- what happened with an answer may also happen before memory runs out
    pub request_served : {E : Type 0} (given_before : (met : M) (a : Answer) → Given r met a → Before r met) (sent : Sent) (answer : Result Answer E) → IsAnsweredBy Given Before Changes r old new answer → IsSent sent (answer_in answer) held holds
        → IsServedNextBy Given Before Changes (end_of sent r.ends) known left old new held holds
    request_served given_before Whole (Ok a) (met, moved, given) sent = whole_sent r.ends met a refl moved given sent
    request_served given_before Whole (Err e) (met, moved, before) sent = absurd sent
    request_served given_before Memory (Ok a) (met, moved, given) sent = memory_sent met moved (given_before met a given) sent
    request_served given_before Memory (Err e) (met, moved, before) sent = memory_sent met moved before sent
    request_served given_before Failed (Ok a) (met, moved, given) (inl part) = part_sent r.ends met a refl moved given part
    request_served given_before Failed (Ok a) (met, moved, given) (inr part) = memory_part met moved (given_before met a given) part
    request_served given_before Failed (Err e) (met, moved, before) part = memory_part met moved before part

  -- ---- reading failed behind bytes that end within a request

  pub stopped_served : (known rest : Option (List ℕ)) (old : X) (held holds : Option (List ℕ)) → holds ≡ held → StopsIn known rest → ServedSoFarBy Given Before Changes known rest old old held holds
  stopped_served known rest old held holds same s = record {
    taken = s.taken;
    is_taken = s.is_taken;
    serves = record {
      bytes = s.taken;
      requests = [];
      stop = whole ended;
      mets = [];
      answers = [];
      are_known = refl;
      answered = (s.is_cut, refl, refl);
      moved = refl;
      written_are = (tt, subst (λ h. Appends held h []) (sym same) (Appends-nil held));
    };
    ended = refl;
  }

  -- ---- no further request

  module _ (known : Option (List ℕ)) (old : X) (held holds : Option (List ℕ)) where
    none : (end : LinkEnd) (stop : Stop) (bytes : List ℕ) (answers : List Answer) → AreKnown known bytes → AreAnsweredBy Given Before bytes [] stop [] answers
        → AreWritten end stop (written answers) held holds → ServesBy Given Before Changes end known old old held holds
    none end stop bytes answers is answered is_written = record {
      bytes = bytes;
      requests = [];
      stop = stop;
      mets = [];
      answers = answers;
      are_known = is;
      answered = answered;
      moved = refl;
      written_are = is_written;
    }

    -- for want of memory
    pub memory_served : (sent : Sent) → IsSent sent None held holds → ServesBy Given Before Changes (end_behind sent) known old old held holds
    memory_served Whole sent = absurd sent
    memory_served Memory sent = none Closed cut_off (rest_of known) (memory_answer ∷ []) (rest_is_known known) (refl, refl) (tt, alone (answer_text memory_answer) held holds sent)
    memory_served Failed part = none WriteFault cut_off (rest_of known) (memory_answer ∷ []) (rest_is_known known) (refl, refl) (part_alone (answer_text memory_answer) held holds part)

    -- for a fault of the bytes
    faulty_bytes : (f : HttpFault) (known : Option (List ℕ)) → IsBad f known → (bytes : List ℕ) × AreKnown known bytes × HasFault f bytes
    faulty_bytes f None bad = (bad.front, tt, bad.has_fault)
    faulty_bytes f (Some xs) bad =
        (bad.front ++ bad.begins.0, sym bad.begins.1, still_fault f bad.front bad.begins.0 bad.has_fault)

    pub bad_served : {E : Type 0} (f : HttpFault) (sent : Sent) (answer : Result Answer E) → IsBad f known → IfFaultAnswer f answer → IsSent sent (answer_in answer) held holds
        → ServesBy Given Before Changes (end_behind sent) known old old held holds
    bad_served f Whole (Ok a) bad is sent =
        let found = faulty_bytes f known bad in
        none Closed (whole (faulty f)) found.0 (fault_answer f ∷ []) found.1 (found.2, refl, refl)
        (tt, alone (answer_text (fault_answer f)) held holds (subst (λ x. Appends held holds (answer_text x)) is sent))
    bad_served f Whole (Err e) bad is sent = absurd sent
    bad_served f Memory answer bad is sent = memory_served Memory sent
    bad_served f Failed (Ok a) bad is (inl part) =
        let found = faulty_bytes f known bad in
        none WriteFault (whole (faulty f)) found.0 (fault_answer f ∷ []) found.1 (found.2, refl, refl)
        (part_alone (answer_text (fault_answer f)) held holds (subst (λ x. IsPart (answer_text x) held holds) is part))
    bad_served f Failed (Ok a) bad is (inr part) = memory_served Failed part
    bad_served f Failed (Err e) bad is part = memory_served Failed part

    -- where the bytes end
    pub ended_served : IsEnded known → holds ≡ held → ServesBy Given Before Changes Closed known old old held holds
    ended_served is same = by_known known refl is
      where
        nothing : Appends held holds []
        nothing = subst (λ h. Appends held h []) (sym same) (Appends-nil held)

        by_known : (k : Option (List ℕ)) → known ≡ k → IsEnded k → ServesBy Given Before Changes Closed known old old held holds
        by_known None is_known cut =
            none Closed (whole ended) [] [] (subst (λ k. AreKnown k []) (sym is_known) tt) (no_bytes_are_cut, refl, refl) (tt, nothing)
        by_known (Some bytes) is_known cut =
            none Closed (whole ended) bytes [] (subst (λ k. AreKnown k bytes) (sym is_known) refl) (cut, refl, refl) (tt, nothing)

    -- where the link counted a fault as it was read
    pub unread_served : holds ≡ held → ServesBy Given Before Changes ReadFault known old old held holds
    unread_served same =
        none ReadFault broken (rest_of known) [] (rest_is_known known) (refl, refl) (refl, subst (λ h. Appends held h []) (sym same) (Appends-nil held))

-- ---- with answers that are also those of another notion

module _ {M X : Type 0} (Given Given2 : Request → M → Answer → Type 0) (Before Before2 : Request → M → Type 0) (Changes : M → X → X → Type 0)
    (given_on : (r : Request) (met : M) (a : Answer) → Given r met a → Given2 r met a) (before_on : (r : Request) (met : M) → Before r met → Before2 r met)
  where
    pub answered_on : (bytes : List ℕ) (requests : List Request) (stop : Stop) (mets : List M) (answers : List Answer) → AreAnsweredBy Given Before bytes requests stop mets answers
        → AreAnsweredBy Given2 Before2 bytes requests stop mets answers
    answered_on bytes [] stop mets answers h = h
    answered_on bytes (r ∷ requests) stop [] answers h = absurd h
    answered_on bytes (r ∷ requests) stop (m ∷ mets) [] h = absurd h
    answered_on bytes (r ∷ requests) stop (m ∷ mets) (a ∷ answers) (after, begins, inl (given, inl closing)) = (after, begins, inl (given_on r m a given, inl closing))
    answered_on bytes (r ∷ requests) stop (m ∷ mets) (a ∷ answers) (after, begins, inl (given, inr (goes, rest))) =
        (after, begins, inl (given_on r m a given, inr (goes, answered_on after requests stop mets answers rest)))
    answered_on bytes (r ∷ requests) stop (m ∷ mets) (a ∷ answers) (after, begins, inr (cut, no_requests, stop_is, no_mets, no_answers)) =
        (after, begins, inr (record { met_before = before_on r m cut.met_before; no_memory = cut.no_memory }, no_requests, stop_is, no_mets, no_answers))

    abbrev pub served_on : (end : LinkEnd) (known : Option (List ℕ)) (old new : X) (held holds : Option (List ℕ)) → ServesBy Given Before Changes end known old new held holds
        → ServesBy Given2 Before2 Changes end known old new held holds
    served_on end known old new held holds s = record {
      bytes = s.bytes;
      requests = s.requests;
      stop = s.stop;
      mets = s.mets;
      answers = s.answers;
      are_known = s.are_known;
      answered = answered_on s.bytes s.requests s.stop s.mets s.answers s.answered;
      moved = s.moved;
      written_are = s.written_are;
    }

    pub so_far_on : (known rest : Option (List ℕ)) (old new : X) (held holds : Option (List ℕ)) → ServedSoFarBy Given Before Changes known rest old new held holds
        → ServedSoFarBy Given2 Before2 Changes known rest old new held holds
    so_far_on known rest old new held holds s =
        record { taken = s.taken; is_taken = s.is_taken; serves = served_on Closed (Some s.taken) old new held holds s.serves; ended = s.ended }
