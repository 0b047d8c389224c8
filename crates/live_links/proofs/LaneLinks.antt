-- Links that a lane served, one after the other.
use Rattle.std.proofs.Common.{◌≡◌, ◌≢◌, ◌∙◌, ℕ, ℤ, List, [], ◌∷◌, ◌++◌, Bool, true, false, Option, refl, sym, ap, subst, append_assoc, append-nil}
use Rattle.live_stage.specs.lock_calls.turn_lock.Seen.{PassView}
use Rattle.live_stage.proofs.of_lock_calls.Calls.{call_is_known}
use Rattle.front_port.specs.Links.{Given}
use Rattle.http_routes.specs.pattern_port.Refused.{Asked}
use Rattle.http_routes.specs.declared.link.LinkEnd.{LinkEnd}
use Rattle.link_serving.specs.Serving.{EndsBy}
use Rattle.live_front.specs.declared.entry.Passing.{Passing}
use Rattle.live_front.specs.declared.entry.Taken.{Taken}
use Rattle.live_front.specs.declared.entry.Taken.TheVariants as taken
use Rattle.live_front.specs.lock_calls.Calls.{OneCall}
use Rattle.live_front.specs.FrontCalls.{took, gave, entries_added, FrontCallDoes}
use Rattle.live_stage.specs.core_ends.core_course.Sight.{Sight}
use Rattle.live_stage.specs.declared.note.Staged.{Staged}
use Rattle.live_links.specs.Lanes.{Lane, LaneGoes}
use Rattle.live_links.specs.Links.{LiveEnds, ServesLiveLinks, front_calls, seen_links, IsNoLink, KnowsFrontCalls, ServesSome, ServesOne, ServesLane}
use Rattle.live_links.proofs.Goes.{goes_still, goes_then, goes_as}

module _ {L : Type 0} where
  -- what is no link
  pub no_link : (told : Taken L) → ((link : L) → told ≢ taken.Link link) → IsNoLink told
  no_link (taken.Link link) other = absurd (other link refl)
  no_link taken.Ended other = tt
  no_link taken.Failed other = tt
  no_link taken.Over other = tt

  calls_behind : (links : List (L × L)) (out back : L) → front_calls (links ++ (out, back) ∷ []) ≡ front_calls links ++ front_calls ((out, back) ∷ [])
  calls_behind [] out back = refl
  calls_behind ((x, y) ∷ links) out back = ap (λ cs. took (taken.Link x) ∷ gave y ∷ cs) (calls_behind links out back)

  seen_behind : (seen : L → Given) (links : List (L × L)) (out back : L) → seen_links seen (links ++ (out, back) ∷ []) ≡ seen_links seen links ++ (seen out, seen back) ∷ []
  seen_behind seen [] out back = refl
  seen_behind seen ((x, y) ∷ links) out back = ap (λ ls. (seen x, seen y) ∷ ls) (seen_behind seen links out back)

module _ {D K : Type 0} (w : Sight D K) (says : List ℕ → List ℕ → Bool) (now : ℤ) (final : List (Staged D K)) where
  links_behind : (links : List (Given × Given)) (out back : Given) (old mid new : Lane) → ServesLiveLinks w says now final links old mid → ServesLiveLinks w says now final ((out, back) ∷ []) mid new
      → ServesLiveLinks w says now final (links ++ (out, back) ∷ []) old new
  links_behind [] out back old mid new same one = subst (λ l. ServesLiveLinks w says now final ((out, back) ∷ []) l new) same one
  links_behind ((x, y) ∷ links) out back old mid new (between, first, more) one = (between, first, links_behind links out back between mid new more one)

module _ {D K F L : Type 0} (w : Sight D K) (generation : K → ℕ) (says : List ℕ → List ℕ → Bool) (now : ℤ) (seen : L → Given) where
  -- ---- one link

  pub link_served : (out back : L) (end : LinkEnd) (front_before front_mid front_after : PassView (Passing F L)) (before after : PassView (Staged D K)) (asked then : Option (List Asked)) (count later : ℕ)
      → OneCall entries_added FrontCallDoes (took (taken.Link out)) front_before front_mid → OneCall entries_added FrontCallDoes (gave back) front_mid front_after → EndsBy end (seen back)
      → LaneGoes w generation before after asked then count later (λ final old new. LiveEnds w says now final end (seen out).left (seen back).left old new (seen out).held (seen back).held)
      → ServesOne w generation says now seen true front_before front_after before after asked then count later
  link_served out back end front_before front_mid front_after before after asked then count later take give ends goes = (
    out,
    back,
    record {
      front = λ calls knows.
          let had = call_is_known entries_added FrontCallDoes (took (taken.Link out)) calls front_before front_mid knows take in
          subst (KnowsFrontCalls w generation says now seen front_after) (append_assoc calls (took (taken.Link out) ∷ []) (gave back ∷ []))
          (call_is_known entries_added FrontCallDoes (gave back) (calls ++ took (taken.Link out) ∷ []) front_mid front_after had give);
      serves = goes_as w generation before after asked then count later (λ final old new. LiveEnds w says now final end (seen out).left (seen back).left old new (seen out).held (seen back).held)
          (λ final old new. ServesLiveLinks w says now final (seen_links seen ((out, back) ∷ [])) old new) goes
          (λ final old new h. (new, record { end = end; ends = ends; serves = h }, refl));
    },
  )

  pub none_served : (last : Taken L) (front_before front_after : PassView (Passing F L)) (pass : PassView (Staged D K)) (asked : Option (List Asked)) (count : ℕ) → IsNoLink last
      → OneCall entries_added FrontCallDoes (took last) front_before front_after → ServesOne w generation says now seen false front_before front_after pass pass asked asked count count
  none_served last front_before front_after pass asked count none take =
      (record { last = last; none = none; front = λ calls knows. call_is_known entries_added FrontCallDoes (took last) calls front_before front_after knows take }, refl, refl, refl)

  -- ---- one after the other

  abbrev SomeLinks : List (L × L) → PassView (Passing F L) → PassView (Passing F L) → PassView (Staged D K) → PassView (Staged D K) → Option (List Asked) → Option (List Asked) → ℕ → ℕ → Type 0
  SomeLinks = ServesSome w generation says now seen

  pub no_links : (front_pass : PassView (Passing F L)) (pass : PassView (Staged D K)) (asked : Option (List Asked)) (count : ℕ) → SomeLinks [] front_pass front_pass pass pass asked asked count count
  no_links front_pass pass asked count = record {
    front = λ calls knows. subst (KnowsFrontCalls w generation says now seen front_pass) (sym (append-nil calls)) knows;
    serves = goes_still w generation pass asked count (λ final old new. ServesLiveLinks w says now final [] old new) (λ final old same. refl);
  }

  pub links_served : (links : List (L × L)) (out back : L) (fa fb fc : PassView (Passing F L)) (a b c : PassView (Staged D K)) (asked then latest : Option (List Asked)) (count later last : ℕ)
      → SomeLinks links fa fb a b asked then count later → SomeLinks ((out, back) ∷ []) fb fc b c then latest later last → SomeLinks (links ++ (out, back) ∷ []) fa fc a c asked latest count last
  links_served links out back fa fb fc a b c asked then latest count later last first one = record {
    front = λ calls knows.
        subst (KnowsFrontCalls w generation says now seen fc) (append_assoc calls (front_calls links) (front_calls ((out, back) ∷ [])) ∙ ap (λ cs. calls ++ cs) (sym (calls_behind links out back)))
        (one.front (calls ++ front_calls links) (first.front calls knows));
    serves = goes_then w generation a b c asked then latest count later last (λ final old new. ServesLiveLinks w says now final (seen_links seen links) old new) (λ final old new. ServesLiveLinks w says now final (seen_links seen ((out, back) ∷ [])) old new)
        (λ final old new. ServesLiveLinks w says now final (seen_links seen (links ++ (out, back) ∷ [])) old new) first.serves one.serves
        (λ final old mid new p q. subst (λ ls. ServesLiveLinks w says now final ls old new) (sym (seen_behind seen links out back)) (links_behind w says now final (seen_links seen links) (seen out) (seen back) old mid new p q));
  }

  -- some links were served so far
  abbrev pub Served : PassView (Passing F L) → PassView (Passing F L) → PassView (Staged D K) → PassView (Staged D K) → Option (List Asked) → Option (List Asked) → ℕ → ℕ → Type 0
  Served fa fb a b asked then count later = (links : List (L × L)) × SomeLinks links fa fb a b asked then count later

  pub none_so_far : (front_pass : PassView (Passing F L)) (pass : PassView (Staged D K)) (asked : Option (List Asked)) (count : ℕ) → Served front_pass front_pass pass pass asked asked count count
  none_so_far front_pass pass asked count = ([], no_links front_pass pass asked count)

  pub one_more : (fa fb fc : PassView (Passing F L)) (a b c : PassView (Staged D K)) (asked then latest : Option (List Asked)) (count later last : ℕ) → Served fa fb a b asked then count later
      → ServesOne w generation says now seen true fb fc b c then latest later last → Served fa fc a c asked latest count last
  one_more fa fb fc a b c asked then latest count later last (links, some) (out, back, one) = (links ++ (out, back) ∷ [], links_served links out back fa fb fc a b c asked then latest count later last some one)

  pub lane_ends : (fa fb fc : PassView (Passing F L)) (a b c : PassView (Staged D K)) (asked then latest : Option (List Asked)) (count later last : ℕ) → Served fa fb a b asked then count later
      → ServesOne w generation says now seen false fb fc b c then latest later last → ServesLane w generation says now seen fa fc a c asked latest count last
  lane_ends fa fb fc a b c asked then latest count later last (links, some) (told, same, texts, number) = record {
    links = links;
    between = fb;
    serves =
        subst (λ p. SomeLinks links fa fb a p asked latest count last) (sym same)
        (subst (λ o. SomeLinks links fa fb a b asked o count last) (sym texts) (subst (λ n. SomeLinks links fa fb a b asked then count n) (sym number) some));
    told = told;
  }
