-- The numbers that answers print, one by one and along a link.
use Rattle.std.proofs.Common.{◌≡◌, ◌∙◌, inl, inr, ℕ, ◌≤◌, ℤ, List, [], ◌∷◌, ◌++◌, Bool, true, false, Option, Some, None, Ok, Err, refl, sym, ap, subst, arith}
use Rattle.std.specs.Option.{option_to_list}
use Rattle.http_spec.specs.declared.answer.Answer.{Answer}
use Rattle.http_spec.specs.declared.request.Request.{Request}
use Rattle.http_spec.specs.Requests.{closed, faulty, ended}
use Rattle.http_routes.specs.fleet_rows.declared.command.Command.{Command as Handed}
use Rattle.http_routes.specs.fleet_rows.declared.settings.Kinds.{Kinds}
use Rattle.fleet_rows.specs.declared.submitted.Submitted.{Submitted}
use Rattle.http_routes.specs.means_spec.OutRows.{OutRows}
use Rattle.http_routes.specs.means_spec.World.{World}
use Rattle.http_routes.specs.pattern_port.Refused.{Asked}
use Rattle.http_routes.specs.routes.declared.route.Route.{Route}
use Rattle.http_routes.specs.routes.declared.route.Route.TheVariants.{Commands, Queries, RowsOf}
use Rattle.http_routes.specs.routes.Answers.{Met, nothing_met as none_met, IsPostAnswer, IsRouteAnswer, IsMethodAnswer, IsPathAnswer}
use Rattle.http_routes.specs.routes.Commands.{Checked}
use Rattle.http_routes.specs.routes.Links.{Stop, whole, cut_off, broken, IsLast, AreAnsweredBy}
use Rattle.http_routes.specs.routes.Routes.{route_at, path_of, takes_method, is_post}
use Rattle.http_routes.specs.declared.routed.Routed.{Routed}
use Rattle.http_routes.specs.declared.routed.Routed.TheVariants.{Command, Query, Done}
use Rattle.http_routes.specs.Course.{AllMoveBy}
use Rattle.http_routes.specs.Routed.{IsAnsweredAlone, IsRouted}
use Rattle.live_stage.specs.core_ends.core_course.Sight.{Sight}
use Rattle.live_stage.specs.declared.note.Staged.{Staged}
use Rattle.live_links.specs.Answers.{LiveMet, IsSweepAnswer, IsSweepMethodAnswer, IsLookedAnswer, IsLiveQueryAnswer, IsRoutedAnswer, IsAnswerOn, IsLiveGiven, IsLiveMetBefore, AnswersFrom}
use Rattle.live_links.specs.Headers.{lacks}
use Rattle.live_links.specs.Lanes.{Lane, LaneMoves, Rises, number_in}
use Rattle.live_links.specs.Laws.{NeverFall, printed, NumbersArePrinted, PrintedNeverFall}
use Rattle.live_links.specs.Sweeps.{is_sweep}
use Rattle.live_links.specs.declared.header.Least.{Least}
use Rattle.live_links.specs.declared.header.Least.TheVariants.{Any, AtLeast, Bad}
use Rattle.live_links.proofs.LaneLaws.{one_rises}

abbrev seen_in : Answer → Option ℕ
seen_in a = a.seen

abbrev number_met : LiveMet → Option ℕ
number_met met = number_in met.call

-- ---- a request that is neither a query nor a command

no_world : World
no_world = record { rows = λ e. []; is_inactive = λ node. false; matches = λ pattern text. false }

no_print : OutRows → List ℕ
no_print rows = []

module _ (now : ℤ) (r : Request) (a : Answer) (alone : IsAnsweredAlone now r a) where
  posted_alone : (posted : Checked Handed) → IsPostAnswer r.ends posted none_met a → a.seen ≡ None
  posted_alone (Err text) (none, told) = ap seen_in told
  posted_alone (Ok c) (came, met, told) =
      let apart : ◌≡◌ {A = Option (Handed × Submitted)} None (Some (c, came)) = ap (λ (m : Met). m.submitted) met in
      cc

  route_alone : (route : Route) → route_at (path_of r.target) ≡ Some route → takes_method route r.method ≡ true → IsRouteAnswer no_world no_print now route r none_met a → a.seen ≡ None
  route_alone Commands is takes (posted, is_posted, h) = posted_alone posted h
  route_alone Queries is takes h = absurd (alone.no_query (record { route = Queries; has_path = is; takes = takes; asks = λ e. cc }))
  route_alone (RowsOf entity) is takes h = absurd (alone.no_query (record { route = RowsOf entity; has_path = is; takes = takes; asks = λ e. cc }))

  method_alone : (route : Route) → route_at (path_of r.target) ≡ Some route → (b : Bool) → takes_method route r.method ≡ b → IsMethodAnswer no_world no_print now b route r none_met a → a.seen ≡ None
  method_alone route is true takes h = route_alone route is takes h
  method_alone route is false takes (none, told) = ap seen_in told

  path_alone : (o : Option Route) → route_at (path_of r.target) ≡ o → IsPathAnswer no_world no_print now o r none_met a → a.seen ≡ None
  path_alone None is (none, told) = ap seen_in told
  path_alone (Some route) is h = method_alone route is (takes_method route r.method) refl h

  alone_prints_none : a.seen ≡ None
  alone_prints_none = path_alone (route_at (path_of r.target)) refl (alone.is_answer no_world no_print)

-- ---- any request

module _ (At : ℕ → Request → List Asked → Answer → Type 0) (now : ℤ) where
  sweep_prints : (ends : Bool) (asked : Checked (Kinds × ℤ)) (met : LiveMet) (a : Answer) → IsSweepAnswer ends asked met a → a.seen ≡ number_in met.call
  sweep_prints ends (Err text) met a (none, told) = ap seen_in told ∙ sym (ap number_met none)
  sweep_prints ends (Ok (kinds, m)) met a (came, n, call, told) = ap seen_in told ∙ sym (ap number_met call)

  method_prints : (post : Bool) (r : Request) (met : LiveMet) (a : Answer) → IsSweepMethodAnswer post r met a → a.seen ≡ number_in met.call
  method_prints false r met a (none, told) = ap seen_in told ∙ sym (ap number_met none)
  method_prints true r met a (asked, is, h) = sweep_prints r.ends asked met a h

  looked_prints : (few : Bool) (n : ℕ) (r : Request) (asked : List Asked) (a : Answer) → IsLookedAnswer At few n r asked a → a.seen ≡ Some n
  looked_prints true n r asked a (none, told) = ap seen_in told
  looked_prints false n r asked a (plain, is, told) = ap seen_in told

  query_prints : (least : Least) (r : Request) (met : LiveMet) (a : Answer) → IsLiveQueryAnswer At least r met a → a.seen ≡ number_in met.call
  query_prints Bad r met a (none, told) = ap seen_in told ∙ sym (ap number_met none)
  query_prints Any r met a (n, call, h) = looked_prints (lacks Any n) n r met.asked a h ∙ sym (ap number_in call)
  query_prints (AtLeast m) r met a (n, call, h) = looked_prints (lacks (AtLeast m) n) n r met.asked a h ∙ sym (ap number_in call)

  routed_prints : (routed : Routed) (r : Request) (met : LiveMet) (a : Answer) → IsRouted now r routed → IsRoutedAnswer At now routed r met a → a.seen ≡ number_in met.call
  routed_prints (Command c) r met a is (came, n, call, told) = ap seen_in told ∙ sym (ap number_met call)
  routed_prints (Query q) r met a is (least, asks, h) = query_prints least r met a h
  routed_prints (Done plain) r met a is (none, told) = ap seen_in told ∙ (alone_prints_none now r plain is ∙ sym (ap number_met none))

  answer_prints : (sweep : Bool) (r : Request) (met : LiveMet) (a : Answer) → IsAnswerOn At now sweep r met a → a.seen ≡ number_in met.call
  answer_prints true r met a h = method_prints (is_post r.method) r met a h
  answer_prints false r met a (routed, is, h) = routed_prints routed r met a is h

-- ---- a link

module _ {D K : Type 0} (w : Sight D K) where
  pub numbers_are_printed : NumbersArePrinted w
  numbers_are_printed says now final r met a h = answer_prints (AnswersFrom w says final) now (is_sweep r.target) r met a h

  -- nothing is printed behind the last request
  last_prints : (bytes : List ℕ) (stop : Stop) (mets : List LiveMet) (answers : List Answer) → IsLast bytes stop mets answers → (mets ≡ []) × (printed answers ≡ [])
  last_prints bytes (whole closed) mets answers h = absurd h
  last_prints bytes (whole (faulty f)) mets answers (fault, none, told) = (none, ap printed told)
  last_prints bytes (whole ended) mets answers (cut, none, told) = (none, ap printed told)
  last_prints bytes cut_off mets answers (none, told) = (none, ap printed told)
  last_prints bytes broken mets answers (none, told) = (none, ap printed told)

  stays : (mets : List LiveMet) (old new : Lane) → mets ≡ [] → AllMoveBy LaneMoves mets old new → old.seen ≤ new.seen
  stays mets old new none moved =
      let same : new ≡ old = subst (λ ms. AllMoveBy LaneMoves ms old new) none moved in
      let is : new.seen ≡ old.seen = ap (λ (l : Lane). l.seen) same in
      omega (arith, is)

  none_more : (mets : List LiveMet) (answers : List Answer) (old new : Lane) → mets ≡ [] → printed answers ≡ [] → AllMoveBy LaneMoves mets old new → NeverFall old.seen (printed answers) new.seen
  none_more mets answers old new none told moved = subst (λ ns. NeverFall old.seen ns new.seen) (sym told) (stays mets old new none moved)

  rises_over : (o : Option ℕ) (old new : ℕ) → Rises o old new → old ≤ new
  rises_over None old new same = omega (arith, same)
  rises_over (Some n) old new (le, same) = omega (arith, le, same)

  module _ (says : List ℕ → List ℕ → Bool) (now : ℤ) (final : List (Staged D K)) where
    one_prints : (r : Request) (met : LiveMet) (a : Answer) (answers : List Answer) (old mid new : Lane) → IsLiveGiven (AnswersFrom w says final) now r met a → LaneMoves met old mid → NeverFall mid.seen (printed answers) new.seen
        → NeverFall old.seen (printed (a ∷ answers)) new.seen
    one_prints r met a answers old mid new given moves rest =
        subst (λ o. NeverFall old.seen (option_to_list o ++ printed answers) new.seen) (sym (numbers_are_printed says now final r met a given.is_answer))
        (one_rises (number_in met.call) old.seen mid.seen new.seen (printed answers) moves.rises rest)

    link_prints : (bytes : List ℕ) (requests : List Request) (stop : Stop) (mets : List LiveMet) (answers : List Answer) (old new : Lane)
        → AreAnsweredBy (IsLiveGiven (AnswersFrom w says final) now) (IsLiveMetBefore (AnswersFrom w says final) now) bytes requests stop mets answers → AllMoveBy LaneMoves mets old new → NeverFall old.seen (printed answers) new.seen
    link_prints bytes [] stop mets answers old new last moved =
        let l = last_prints bytes stop mets answers last in
        none_more mets answers old new l.0 l.1 moved
    link_prints bytes (r ∷ requests) stop [] answers old new h moved = absurd h
    link_prints bytes (r ∷ requests) stop (met ∷ mets) [] old new h moved = absurd h
    link_prints bytes (r ∷ requests) stop (met ∷ mets) (a ∷ answers) old new (after, begins, inl (given, inl closing)) (mid, moves, rest) =
        one_prints r met a answers old mid new given moves (none_more mets answers mid new closing.mets_are (ap printed closing.answers_are) rest)
    link_prints bytes (r ∷ requests) stop (met ∷ mets) (a ∷ answers) old new (after, begins, inl (given, inr (opens, more))) (mid, moves, rest) =
        one_prints r met a answers old mid new given moves (link_prints after requests stop mets answers mid new more rest)
    link_prints bytes (r ∷ requests) stop (met ∷ mets) (a ∷ answers) old new (after, begins, inr (cut, last, stopped, no_mets, no_answers)) (mid, moves, rest) =
        let none : printed (a ∷ answers) ≡ [] = ap (λ (x : Answer). option_to_list x.seen ++ printed answers) cut.no_memory ∙ ap printed no_answers in
        let first : old.seen ≤ mid.seen = rises_over (number_in met.call) old.seen mid.seen moves.rises in
        let then : mid.seen ≤ new.seen = stays mets mid new no_mets rest in
        let all : old.seen ≤ new.seen = omega (arith, first, then) in
        subst (λ ns. NeverFall old.seen ns new.seen) (sym none) all

  pub printed_never_fall : PrintedNeverFall w
  printed_never_fall says now final end comes old new held holds s = link_prints says now final s.bytes s.requests s.stop s.mets s.answers old new s.answered s.moved
