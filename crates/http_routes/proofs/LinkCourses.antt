-- The course of a link: what was served so far, and what comes behind it.
use Rattle.std.proofs.Common.{◌≡◌, ◌∙◌, ℕ, ◌+◌, ◌<◌, ℤ, List, [], ◌++◌, length, arith, refl, sym, ap, subst, Bool, Option, Some, None, IfSome, append_assoc}
use Rattle.std.proofs.lemmas.List.{length-append, length-take}
use Rattle.std.proofs.KnownBytes.{Consumes-nil, Consumes-trans}
use Rattle.std.specs.Io.KnownBytes.{prepend_known}
use Rattle.routes_spec.specs.fleet_ports.Counts.{Counts}
use Rattle.http_spec.specs.declared.answer.Answer.{Answer}
use Rattle.http_spec.specs.declared.request.Request.{Request}
use Rattle.http_spec.proofs.Links.{takes_some}
use Rattle.http_front.specs.Link.{limited}
use Rattle.http_front.specs.Next.{Gives, unread}
use Rattle.http_front.specs.Reading.{Reading}
use Rattle.routes_spec.specs.fleet_rows.declared.command.Command.{Command}
use Rattle.routes_spec.specs.means_spec.OutRows.{OutRows}
use Rattle.routes_spec.specs.means_spec.World.{World}
use Rattle.query_engine.specs.Tables.{world_of}
use Rattle.routes_spec.specs.table_machine.Table.{Table}
use Rattle.routes_spec.specs.Links.{IsGiven, IsMetBefore}
use Rattle.fleet_rows.specs.declared.submitted.Submitted.{Submitted}
use Rattle.http_routes.specs.declared.link.LinkEnd.{LinkEnd}
use Rattle.http_routes.specs.declared.link.LinkEnd.TheVariants.{Closed}
use Rattle.http_routes.specs.Course.{Outside, MovesOutside, ServesBy, ServedSoFarBy, GoesOnBy, ContinuesBy, GoesSoFarBy, Serves, ServedSoFar, GoesOn, Continues, GoesSoFar, AreFew, AreFewIfTold}
use Rattle.http_routes.proofs.LinkSteps.{served_more, ended_served}
use Rattle.http_spec.specs.Limits.{most_link}

-- ---- each request takes a byte

pub few_at_first : (left : Option (List ℕ)) → AreFewIfTold (limited 0 left) 0 (limited 0 left)
few_at_first None = tt
few_at_first (Some bytes) = omega (arith, length-take most_link bytes)

few_more : (r : Request) (n : ℕ) (known left : Option (List ℕ)) → Gives r known left → AreFew n known → AreFew (n + 1) left
few_more r n None left gives few = absurd few
few_more r n (Some xs) None gives few = absurd gives.taken
few_more r n (Some xs) (Some ys) gives few =
    let some = takes_some r gives.text [] gives.is_request in
    let size = ap length gives.taken in
    omega (arith, few, some, size, length-append gives.text ys)

pub still_few : (r : Request) (n : ℕ) (first known left : Option (List ℕ)) → Gives r known left → AreFewIfTold first n known → AreFewIfTold first (n + 1) left
still_few r n None known left gives few = tt
still_few r n (Some bytes) known left gives few = few_more r n known left gives few

too_many : {P : Type 0} (n : ℕ) (known : Option (List ℕ)) → most_link < n → AreFew n known → P
too_many n None many few = absurd few
too_many n (Some bytes) many few = absurd (omega (arith, many, few))

-- ---- the world stays

pub same_world : (t u : Table) (f g : List ℕ → List ℕ → Bool) → t ≡ u → ((p s : List ℕ) → f p s ≡ g p s) → world_of t f ≡ world_of u g
same_world t u f g tables says = λ i. world_of (tables i) (λ p s. says p s i)

module _ {M X : Type 0} (Given : Request → M → Answer → Type 0) (Before : Request → M → Type 0) (Changes : M → X → X → Type 0) where
  -- ---- what is served from here on

  told_or_not : (first : Option (List ℕ)) (P : Type 0) → P → IfSome first (λ (_ : List ℕ). P)
  told_or_not None P p = tt
  told_or_not (Some bytes) P p = p

  untold : (end : LinkEnd) (known : Option (List ℕ)) (old new : X) (held holds : Option (List ℕ)) → ServesBy Given Before Changes end known old new held holds
      → ServesBy Given Before Changes end None old new held holds
  untold end known old new held holds s = record {
    bytes = s.bytes;
    requests = s.requests;
    stop = s.stop;
    mets = s.mets;
    answers = s.answers;
    are_known = tt;
    answered = s.answered;
    moved = s.moved;
    written_are = s.written_are;
  }

  pub from_first : (first : Option (List ℕ)) (start : X) (held : Option (List ℕ)) → ContinuesBy Given Before Changes first start held first start held
  from_first None start held end left new holds same s = untold end left start new held holds s
  from_first (Some bytes) start held end left new holds same s = subst (λ k. ServesBy Given Before Changes end k start new held holds) same s

  -- where nothing is told, a step says nothing of the bytes
  goes_untold : (known left other : Option (List ℕ)) (old new : X) (held holds : Option (List ℕ)) → GoesOnBy Given Before Changes known left old new held holds
      → GoesOnBy Given Before Changes None other old new held holds
  goes_untold known left other old new held holds g = record {
    request = g.request;
    met = g.met;
    answer = g.answer;
    gives = record { text = g.gives.text; is_request = g.gives.is_request; taken = tt };
    stays = g.stays;
    given = g.given;
    moved = g.moved;
    appended = g.appended;
  }

  pub one_more : (first : Option (List ℕ)) (start : X) (held known left : Option (List ℕ)) (mid new : X) (between holds : Option (List ℕ))
      → ContinuesBy Given Before Changes first start held known mid between → GoesOnBy Given Before Changes known left mid new between holds → ContinuesBy Given Before Changes first start held left new holds
  one_more None start held known left mid new between holds before step end there final all same s =
      before end None final all tt (served_more Given Before Changes end None there mid new final between holds all (goes_untold known left there mid new between holds step) s)
  one_more (Some bytes) start held known left mid new between holds before step end there final all same s =
      before end known final all refl
      (served_more Given Before Changes end known left mid new final between holds all step (subst (λ k. ServesBy Given Before Changes end k new final holds all) same s))

  pub at_end : (first : Option (List ℕ)) (start : X) (held known : Option (List ℕ)) (mid new : X) (between holds : Option (List ℕ)) (end : LinkEnd)
      → ContinuesBy Given Before Changes first start held known mid between → ServesBy Given Before Changes end known mid new between holds → ServesBy Given Before Changes end first start new held holds
  at_end first start held known mid new between holds end before s = before end known new holds (told_or_not first (known ≡ known) refl) s

  -- ---- what was served before reading failed

  pub so_far_first : (first : Option (List ℕ)) (start : X) (held : Option (List ℕ)) → GoesSoFarBy Given Before Changes first start held first start held
  so_far_first first start held = ([], Consumes-nil first, λ bytes new holds s. (s, refl))

  -- a step is one over any bytes that come behind its request
  goes_over : (bytes : List ℕ) (known left : Option (List ℕ)) (old new : X) (held holds : Option (List ℕ)) (g : GoesOnBy Given Before Changes known left old new held holds)
      → GoesOnBy Given Before Changes (Some (g.gives.text ++ bytes)) (Some bytes) old new held holds
  goes_over bytes known left old new held holds g = record {
    request = g.request;
    met = g.met;
    answer = g.answer;
    gives = record { text = g.gives.text; is_request = g.gives.is_request; taken = refl };
    stays = g.stays;
    given = g.given;
    moved = g.moved;
    appended = g.appended;
  }

  pub so_far_more : (first : Option (List ℕ)) (start : X) (held known left : Option (List ℕ)) (mid new : X) (between holds : Option (List ℕ))
      → GoesSoFarBy Given Before Changes first start held known mid between → GoesOnBy Given Before Changes known left mid new between holds → GoesSoFarBy Given Before Changes first start held left new holds
  so_far_more first start held known left mid new between holds (front, gone, before) step = (
    front ++ step.gives.text,
    Consumes-trans first known left front step.gives.text gone step.gives.taken,
    λ bytes final all s.
        let more =
        before (step.gives.text ++ bytes) final all
        (served_more Given Before Changes Closed (Some (step.gives.text ++ bytes)) (Some bytes) mid new final between holds all (goes_over bytes known left mid new between holds step) s) in
        subst (λ xs. (t : ServesBy Given Before Changes Closed (Some xs) start final held all) × (t.stop ≡ s.stop)) (sym (append_assoc front step.gives.text bytes)) more,
  )

  pub so_far_last : (first : Option (List ℕ)) (start : X) (held known : Option (List ℕ)) (mid : X) (between rest : Option (List ℕ)) (new : X) (holds : Option (List ℕ))
      → GoesSoFarBy Given Before Changes first start held known mid between → ServedSoFarBy Given Before Changes known rest mid new between holds → ServedSoFarBy Given Before Changes first rest start new held holds
  so_far_last first start held known mid between rest new holds (front, gone, before) s =
      let more = before s.taken new holds s.serves in
      record { taken = front ++ s.taken; is_taken = Consumes-trans first known rest front s.taken gone s.is_taken; serves = more.0; ended = more.1 ∙ s.ended }

  -- no link has more requests than bytes
  pub without_end : (first : Option (List ℕ)) (start : X) (held known : Option (List ℕ)) (mid : X) (between : Option (List ℕ)) (n : ℕ)
      → ContinuesBy Given Before Changes first start held known mid between → AreFewIfTold first n known → most_link < n → ServesBy Given Before Changes Closed first start mid held between
  without_end None start held known mid between n before few many =
      before Closed None mid between tt (ended_served Given Before Changes None mid between between tt refl)
  without_end (Some bytes) start held known mid between n before few many = too_many n known many few

-- ---- at the first byte

pub unread_at_first : (reading : Reading) (left : Option (List ℕ)) → reading.ahead ≡ [] → reading.taken ≡ 0 → unread reading left ≡ limited 0 left
unread_at_first reading left ahead taken =
    (λ i. prepend_known (ahead i) (limited (taken i) left)) ∙ nothing_in_front (limited 0 left)
  where
    nothing_in_front : (known : Option (List ℕ)) → prepend_known [] known ≡ known
    nothing_in_front None = refl
    nothing_in_front (Some bytes) = refl

-- ---- where the tables and the patterns tell the same as at first

module _ {H : Type 0} (Step : Command → Submitted → H → H → Type 0) (w v : World) (same : v ≡ w) (print : OutRows → List ℕ) (now : ℤ) (first : Option (List ℕ)) (start : Outside H) (held known left : Option (List ℕ)) (mid new : Outside H)
    (between holds : Option (List ℕ)) (before : Continues Step w print now first start held known mid between)
  where
    pub goes_more : GoesOn Step v print now known left mid new between holds → Continues Step w print now first start held left new holds
    goes_more step =
        one_more (IsGiven w print now) (IsMetBefore w print now) (MovesOutside Step) first start held known left mid new between holds before (subst (λ x. GoesOn Step x print now known left mid new between holds) same step)

    pub ends_so : (end : LinkEnd) → Serves Step v print now end known mid new between holds → Serves Step w print now end first start new held holds
    ends_so end served = at_end (IsGiven w print now) (IsMetBefore w print now) (MovesOutside Step) first start held known mid new between holds end before (subst (λ x. Serves Step x print now end known mid new between holds) same served)

module _ {H : Type 0} (Step : Command → Submitted → H → H → Type 0) (w v : World) (same : v ≡ w) (print : OutRows → List ℕ) (now : ℤ) (first : Option (List ℕ)) (start : Outside H) (held known left : Option (List ℕ)) (mid new : Outside H)
    (between holds : Option (List ℕ)) (before : GoesSoFar Step w print now first start held known mid between)
  where
    pub so_far_then : GoesOn Step v print now known left mid new between holds → GoesSoFar Step w print now first start held left new holds
    so_far_then step = so_far_more (IsGiven w print now) (IsMetBefore w print now) (MovesOutside Step) first start held known left mid new between holds before (subst (λ x. GoesOn Step x print now known left mid new between holds) same step)

    pub so_far_so : ServedSoFar Step v print now known left mid new between holds → ServedSoFar Step w print now first left start new held holds
    so_far_so s = so_far_last (IsGiven w print now) (IsMetBefore w print now) (MovesOutside Step) first start held known mid between left new holds before (subst (λ x. ServedSoFar Step x print now known left mid new between holds) same s)

-- ---- counts of faults

pub counts_from : {P Q : Type 0} (first before later : ℕ) → before ≡ first → (P → Q) → (Q → P) → Counts before later P → Counts first later Q
counts_from {P} {Q} first before later is to from counts =
    subst (λ n. Counts n later Q) is (record { later = counts.later; cause = λ q. counts.cause (from q); calm = λ none. counts.calm (λ p. none (to p)) })

pub counts_none : {P : Type 0} (first later : ℕ) → later ≡ first → (P → ⊥) → Counts first later P
counts_none first later is never = record { later = omega (arith, is); cause = λ p. absurd (never p); calm = λ _. is }
