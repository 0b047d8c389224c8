-- The steps of a shelf lead to the end of the live trace.
use Rattle.std.proofs.Common.{◌≡◌, ◌∙◌, ℕ, zero, suc, ◌+◌, List, [], ◌∷◌, ◌++◌, length, take, drop, Option, Some, None, Result, Ok, refl, sym, ap, subst, option_to_list, arith, append_assoc, length-append, drop_of_length-le}
use Rattle.std.specs.List.{AllByRecursion}
use Rattle.std.specs.Option.{option_map}
use Rattle.std.proofs.lemmas.List.{take-append-drop, drop-drop}
use Rattle.core_ends.specs.fleet_rows.declared.change.Change.{Change}
use Rattle.core_ends.specs.fleet_rows.declared.command.Command.{Command}
use Rattle.core_ends.specs.fleet_rows.declared.refusal.Refusal.{Refusal}
use Rattle.core_ends.specs.history_spec.Trace.{Trace, TraceEvent, IsTrace, applied, applied_as, swept}
use Rattle.core_ends.specs.core_spec.declared.event.Event.TheVariants.{Submit, Claim, Release, Apply, Supersede, Fail, Discard, Sweep, Restart}
use Rattle.core_ends.specs.core_spec.Commands.{answer_of}
use Rattle.core_ends.specs.core_spec.History.{History, command, with_applied, trace_of}
use Rattle.core_ends.proofs.of_core_state.of_plain_laws.Members.{all_drop}
use Rattle.live_stage.specs.declared.shelf.Step.{Step}
use Rattle.live_stage.specs.Shelf.{IsEventOf, IsLawfulStep, LeadsTo, KeepsNewest}
use Rattle.live_stage.specs.Trace.{applied_count, sweep_count}

-- ---- steps one behind the other

pub leads_on : (base : Trace) (xs ys : List Step) (mid whole : Trace) → LeadsTo base xs mid → LeadsTo mid ys whole → LeadsTo base (xs ++ ys) whole
leads_on base [] ys mid whole a b = subst (λ (t : Trace). LeadsTo t ys whole) a b
leads_on base (s ∷ xs) ys mid whole a b = (a.0, a.1, leads_on (a.0 ∷ base) xs ys mid whole a.2 b)

pub leads_split : (base : Trace) (xs ys : List Step) (whole : Trace) → LeadsTo base (xs ++ ys) whole → (mid : Trace) × LeadsTo base xs mid × LeadsTo mid ys whole
leads_split base [] ys whole a = (base, refl, a)
leads_split base (s ∷ xs) ys whole a = let r = leads_split (a.0 ∷ base) xs ys whole a.2 in (r.0, (a.0, a.1, r.1), r.2)

-- the oldest may be forgotten
pub leads_dropped : (n : ℕ) (base : Trace) (steps : List Step) (whole : Trace) → LeadsTo base steps whole → (mid : Trace) × LeadsTo mid (drop n steps) whole
leads_dropped n base steps whole a =
    let r = leads_split base (take n steps) (drop n steps) whole (subst (λ (l : List Step). LeadsTo base l whole) (sym (take-append-drop n steps)) a) in (r.0, r.2)

pub leads_newest : (all kept : List Step) (base whole : Trace) → KeepsNewest all kept → LeadsTo base all whole → (mid : Trace) × LeadsTo mid kept whole
leads_newest all kept base whole is a = let r = leads_dropped is.0 base all whole a in (r.0, subst (λ (l : List Step). LeadsTo r.0 l whole) (sym is.1) r.1)

pub leads_none : (kept : List Step) (whole : Trace) → kept ≡ [] → (mid : Trace) × LeadsTo mid kept whole
leads_none kept whole none = (whole, subst (λ (l : List Step). LeadsTo whole l whole) (sym none) refl)

pub one_more : (base : Trace) (steps : List Step) (whole : Trace) (s : Step) (e : TraceEvent) → IsEventOf s e → LeadsTo base steps whole → LeadsTo base (steps ++ s ∷ []) (e ∷ whole)
one_more base steps whole s e is a = leads_on base steps (s ∷ []) whole (e ∷ whole) a (e, is, refl)

-- as many events as steps
pub leads_cut : (base : Trace) (steps : List Step) (whole : Trace) → LeadsTo base steps whole → (fresh : Trace) × (length fresh ≡ length steps) × (whole ≡ fresh ++ base)
leads_cut base [] whole a = ([], refl, a)
leads_cut base (s ∷ steps) whole a =
    let r = leads_cut (a.0 ∷ base) steps whole a.2 in (
      r.0 ++ a.0 ∷ [],
      (let n = r.1 in let l : length (r.0 ++ a.0 ∷ []) ≡ length r.0 + 1 = length-append r.0 (a.0 ∷ []) in omega arith),
      r.2 ∙ sym (append_assoc r.0 (a.0 ∷ []) base),
    )

-- ---- parts of a trace are traces

pub base_trace : (base : Trace) (steps : List Step) (whole : Trace) → LeadsTo base steps whole → IsTrace whole → IsTrace base
base_trace base [] whole a is = subst IsTrace a is
base_trace base (s ∷ steps) whole a is = earlier a.0 (base_trace (a.0 ∷ base) steps whole a.2 is)
  where
    earlier : (e : TraceEvent) → IsTrace (e ∷ base) → IsTrace base
    earlier (applied x) is = is.4
    earlier (swept kinds m) is = is.1

-- ---- the events of a history

-- events of neither kind leave the trace
pub silent_trace : (more earlier : History) → applied_count more ≡ 0 → sweep_count more ≡ 0 → trace_of (more ++ earlier) ≡ trace_of earlier
silent_trace [] earlier a s = refl
silent_trace (Apply r t ∷ more) earlier a s = absurd (omega (arith, a))
silent_trace (Sweep kinds m ∷ more) earlier a s = absurd (omega (arith, s))
silent_trace (Submit r c ∷ more) earlier a s = silent_trace more earlier a s
silent_trace (Claim r ∷ more) earlier a s = silent_trace more earlier a s
silent_trace (Release r ∷ more) earlier a s = silent_trace more earlier a s
silent_trace (Supersede q p ∷ more) earlier a s = silent_trace more earlier a s
silent_trace (Fail r before after ∷ more) earlier a s = silent_trace more earlier a s
silent_trace (Discard r why ∷ more) earlier a s = silent_trace more earlier a s
silent_trace (Restart ∷ more) earlier a s = silent_trace more earlier a s

-- the event of an applied command
pub applied_event : (r : ℕ) (c : Command) (change : Change) (earlier : History) → command r earlier ≡ Some c → answer_of c ≡ Ok change
    → trace_of (Apply r (Some c.received) ∷ earlier) ≡ applied (applied_as r (Some c.received) change) ∷ trace_of earlier
applied_event r c change earlier is decodes =
    ap (λ o. with_applied r (Some c.received) o (trace_of earlier)) (ap (option_map answer_of) is ∙ ap (λ (a : Result Change Refusal). Some a) decodes)

-- ---- the newest steps

pub newest_lawful : (all kept : List Step) → KeepsNewest all kept → AllByRecursion IsLawfulStep all → AllByRecursion IsLawfulStep kept
newest_lawful all kept is a = subst (λ (l : List Step). AllByRecursion IsLawfulStep l) (sym is.1) (all_drop IsLawfulStep is.0 all a)

-- the newest of the newest are the newest
pub newest_newest : (all some kept : List Step) → KeepsNewest all some → KeepsNewest some kept → KeepsNewest all kept
newest_newest all some kept a b = (a.0 + b.0, b.1 ∙ (ap (drop b.0) a.1 ∙ drop-drop b.0 a.0 all))

-- none, one or all are forgotten
pub newest_same : (all kept : List Step) → kept ≡ all → KeepsNewest all kept
newest_same all kept same = (0, same)

pub newest_none : (all kept : List Step) → kept ≡ [] → KeepsNewest all kept
newest_none all kept none = (length all, none ∙ sym (drop_of_length-le all {i = length all} (omega arith)))

pub newest_popped : (all rest : List Step) (r : Option Step) → all ≡ option_to_list r ++ rest → KeepsNewest all rest
newest_popped all rest None is = (0, sym is)
newest_popped all rest (Some s) is = (1, sym (ap (λ (l : List Step). drop 1 l) is))
