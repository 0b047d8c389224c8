-- A link, request by request: each stretch of a lane with what was served in it.
use Rattle.std.proofs.Common.{◌≡◌, ◌∙◌, ◌<◌, ℕ, ◌+◌, ℤ, List, Bool, Option, Some, None, Result, sym, ap, subst}
use Rattle.live_stage.specs.lock_calls.turn_lock.Seen.{PassView}
use Rattle.http_spec.specs.declared.answer.Answer.{Answer}
use Rattle.http_spec.specs.declared.request.Request.{Request}
use Rattle.http_spec.specs.declared.request.HttpFault.{HttpFault}
use Rattle.http_spec.specs.Limits.{most_link}
use Rattle.http_front.specs.Link.{limited}
use Rattle.http_front.specs.Next.{Gives, IsBad, IsEnded, StopsIn}
use Rattle.http_routes.specs.pattern_port.Refused.{Asked}
use Rattle.http_routes.specs.declared.link.LinkEnd.{LinkEnd}
use Rattle.http_routes.specs.declared.link.LinkEnd.TheVariants as link_end
use Rattle.http_routes.specs.declared.sending.Sent.{Sent}
use Rattle.http_routes.specs.Course.{IsSent, IfFaultAnswer, answer_in, end_behind, end_of, IsAnsweredBy, AreFewIfTold}
use Rattle.http_routes.proofs.Ends.{never_read, never_read_behind}
use Rattle.http_routes.proofs.LinkSteps.{request_served, bad_served, ended_served, unread_served, stopped_served, memory_served}
use Rattle.http_routes.proofs.LinkCourses.{from_first, so_far_first, one_more, at_end, so_far_more, so_far_last, without_end, few_at_first, still_few}
use Rattle.live_stage.specs.core_ends.core_course.Sight.{Sight}
use Rattle.live_stage.specs.declared.note.Staged.{Staged}
use Rattle.live_links.specs.Answers.{LiveMet, IsLiveGiven, IsLiveMetBefore, AnswersFrom}
use Rattle.live_links.specs.Lanes.{Lane, LaneMoves, LaneGoes, AnswersOne}
use Rattle.live_links.specs.Links.{LiveServes, LiveServesNext, LiveServedSoFar, LiveNext, LiveSoFar, LiveEnds}
use Rattle.live_links.proofs.Goes.{goes_still, goes_then, goes_as}
use Rattle.live_links.proofs.Holds.{one_goes}
use Rattle.live_links.proofs.OnAnswers.{given_before}

-- an end that is told is none of reading
told_end : (x y : LinkEnd) → Some x ≡ Some y → x ≡ y
told_end x y h = cc

module _ {D K : Type 0} (w : Sight D K) (says : List ℕ → List ℕ → Bool) (now : ℤ) where
  abbrev Gives_in : List (Staged D K) → Request → LiveMet → Answer → Type 0
  Gives_in final = IsLiveGiven (AnswersFrom w says final) now

  abbrev Before_in : List (Staged D K) → Request → LiveMet → Type 0
  Before_in final = IsLiveMetBefore (AnswersFrom w says final) now

  module _ (generation : K → ℕ) (known left rest held holds : Option (List ℕ)) where
    -- ---- one request

    module _ {E : Type 0} (r : Request) (gives : Gives r known left) (before after : PassView (Staged D K)) (asked then : Option (List Asked)) (count later : ℕ) (sent : Sent) (answer : Result Answer E) (end : Option LinkEnd) where
      request_next : end ≡ end_of sent r.ends → IsSent sent (answer_in answer) held holds → (final : List (Staged D K)) (old new : Lane) → IsAnsweredBy (Gives_in final) (Before_in final) LaneMoves r old new answer
          → LiveNext w says now final end known left rest old new held holds
      request_next is sends final old new answered = (
        subst (λ e. LiveServesNext w says now final e known left old new held holds) (sym is)
            (request_served (Gives_in final) (Before_in final) LaneMoves r known left old new held holds gives (λ met a h. given_before (AnswersFrom w says final) now r met a h) sent answer answered sends),
        λ h. absurd (never_read sent r.ends (sym is ∙ h)),
      )

      pub request_goes : end ≡ end_of sent r.ends → IsSent sent (answer_in answer) held holds → AnswersOne w generation says now r before after asked then count later answer
          → LaneGoes w generation before after asked then count later (λ final old new. LiveNext w says now final end known left rest old new held holds)
      request_goes is sends one =
          goes_as w generation before after asked then count later (λ final old new. IsAnsweredBy (Gives_in final) (Before_in final) LaneMoves r old new answer)
          (λ final old new. LiveNext w says now final end known left rest old new held holds) (one_goes w generation says now r before after asked then count later answer one) (request_next is sends)

    -- ---- no further request

    module _ (pass : PassView (Staged D K)) (asked : Option (List Asked)) (count : ℕ) where
      abbrev Stays : LinkEnd → Type 0
      Stays end = LaneGoes w generation pass pass asked asked count count (λ final old new. LiveNext w says now final (Some end) known left rest old new held holds)

      stays : (end : LinkEnd) → ((final : List (Staged D K)) (old : Lane) → LiveNext w says now final (Some end) known left rest old old held holds) → Stays end
      stays end next = goes_still w generation pass asked count (λ final old new. LiveNext w says now final (Some end) known left rest old new held holds) (λ final old same. next final old)

      pub bad_goes : {E : Type 0} (f : HttpFault) (sent : Sent) (answer : Result Answer E) (end : LinkEnd) → end ≡ end_behind sent → IsBad f known → IfFaultAnswer f answer → IsSent sent (answer_in answer) held holds → Stays end
      bad_goes f sent answer end is bad told sends =
          stays end (λ final old. (
            subst (λ e. LiveServes w says now final e known old old held holds) (sym is) (bad_served (Gives_in final) (Before_in final) LaneMoves known old held holds f sent answer bad told sends),
            λ h. absurd (never_read_behind sent (sym is ∙ told_end end link_end.ReadFault h)),
          ))

      pub memory_goes : (sent : Sent) (end : LinkEnd) → end ≡ end_behind sent → IsSent sent None held holds → Stays end
      memory_goes sent end is sends =
          stays end (λ final old. (
            subst (λ e. LiveServes w says now final e known old old held holds) (sym is) (memory_served (Gives_in final) (Before_in final) LaneMoves known old held holds sent sends),
            λ h. absurd (never_read_behind sent (sym is ∙ told_end end link_end.ReadFault h)),
          ))

      pub ended_goes : IsEnded known → holds ≡ held → Stays link_end.Closed
      ended_goes ends same = stays link_end.Closed (λ final old. (ended_served (Gives_in final) (Before_in final) LaneMoves known old held holds ends same, λ h. cc))

      pub unread_goes : StopsIn known rest → holds ≡ held → Stays link_end.ReadFault
      unread_goes stops same =
          stays link_end.ReadFault (λ final old. (
            unread_served (Gives_in final) (Before_in final) LaneMoves known old held holds same,
            λ h. stopped_served (Gives_in final) (Before_in final) LaneMoves known rest old held holds same stops,
          ))

  -- ---- all requests so far

  module _ (generation : K → ℕ) (comes held : Option (List ℕ)) where
    -- and there were few
    abbrev pub SoFar : ℕ → Option (List ℕ) → Option (List ℕ) → List (Staged D K) → Lane → Lane → Type 0
    SoFar n known between final old mid = LiveSoFar w says now final (limited 0 comes) old held known mid between × AreFewIfTold (limited 0 comes) n known

    pub none_so_far : (pass : PassView (Staged D K)) (asked : Option (List Asked)) (count : ℕ) (known : Option (List ℕ)) → known ≡ limited 0 comes
        → LaneGoes w generation pass pass asked asked count count (SoFar 0 known held)
    none_so_far pass asked count known is =
        subst (λ k. LaneGoes w generation pass pass asked asked count count (SoFar 0 k held)) (sym is)
        (goes_still w generation pass asked count (SoFar 0 (limited 0 comes) held) (λ final old same. (
          (from_first (Gives_in final) (Before_in final) LaneMoves (limited 0 comes) old held, so_far_first (Gives_in final) (Before_in final) LaneMoves (limited 0 comes) old held),
          few_at_first comes,
        )))

    module _ (a b c : PassView (Staged D K)) (asked then last : Option (List Asked)) (count later latest : ℕ) (n : ℕ) (known between : Option (List ℕ)) (before : LaneGoes w generation a b asked then count later (SoFar n known between)) (left rest holds : Option (List ℕ)) where
      pub one_so_far : LaneGoes w generation b c then last later latest (λ final old new. LiveNext w says now final None known left rest old new between holds)
          → LaneGoes w generation a c asked last count latest (SoFar (n + 1) left holds)
      one_so_far step =
          goes_then w generation a b c asked then last count later latest (SoFar n known between) (λ final old new. LiveNext w says now final None known left rest old new between holds) (SoFar (n + 1) left holds) before step
          (λ final old mid new p q. (
            (
              one_more (Gives_in final) (Before_in final) LaneMoves (limited 0 comes) old held known left mid new between holds p.0.0 q.0,
              so_far_more (Gives_in final) (Before_in final) LaneMoves (limited 0 comes) old held known left mid new between holds p.0.1 q.0,
            ),
            still_few q.0.request n (limited 0 comes) known left q.0.gives p.1,
          ))

      pub ends_so : (end : LinkEnd) (taken : ℕ) (unread : Option (List ℕ)) → rest ≡ limited taken unread → LaneGoes w generation b c then last later latest (λ final old new. LiveNext w says now final (Some end) known left rest old new between holds)
          → LaneGoes w generation a c asked last count latest (λ final old new. LiveEnds w says now final end comes unread old new held holds)
      ends_so end taken unread is step =
          goes_then w generation a b c asked then last count later latest (SoFar n known between) (λ final old new. LiveNext w says now final (Some end) known left rest old new between holds)
          (λ final old new. LiveEnds w says now final end comes unread old new held holds) before step
          (λ final old mid new p q. (
            at_end (Gives_in final) (Before_in final) LaneMoves (limited 0 comes) old held known mid new between holds end p.0.0 q.0,
            λ h. (
              taken,
              so_far_last (Gives_in final) (Before_in final) LaneMoves (limited 0 comes) old held known mid between (limited taken unread) new holds p.0.1
                  (subst (λ k. LiveServedSoFar w says now final known k mid new between holds) is (q.1 (ap Some h))),
            ),
          ))

    -- there are no more requests than bytes
    pub all_so_far : (a b : PassView (Staged D K)) (asked then : Option (List Asked)) (count later : ℕ) (n : ℕ) (known between unread : Option (List ℕ)) → LaneGoes w generation a b asked then count later (SoFar n known between) → most_link < n
        → LaneGoes w generation a b asked then count later (λ final old new. LiveEnds w says now final link_end.Closed comes unread old new held between)
    all_so_far a b asked then count later n known between unread before many =
        goes_as w generation a b asked then count later (SoFar n known between) (λ final old new. LiveEnds w says now final link_end.Closed comes unread old new held between) before
        (λ final old new p. (without_end (Gives_in final) (Before_in final) LaneMoves (limited 0 comes) old held known new between n p.0.0 p.1 many, λ h. cc))
