-- The trace of a legal history is a trace, and so it is with its superseded commands applied.
use Rattle.std.proofs.Common.{◌≡◌, ◌≢◌, ◌∙◌, ◌⊎◌, inl, inr, ℕ, ℤ, zero, suc, ◌≤◌, ◌==◌, true, List, [], ◌∷◌, ◌++◌, arith, refl, sym, subst, Option, Some, None, Result, Ok, Err}
use Rattle.std.specs.List.{AllByRecursion}
use Rattle.std.specs.Option.{option_map}
use Rattle.core_machine.specs.fleet_rows.declared.change.Change.{Change}
use Rattle.core_machine.specs.fleet_rows.declared.command.Command.{Command}
use Rattle.core_machine.specs.fleet_rows.declared.refusal.Refusal.{Refusal}
use Rattle.core_machine.specs.fleet_rows.declared.settings.Ttls.{Ttls}
use Rattle.core_machine.specs.wire_spec.Decode.{DecodeOf}
use Rattle.core_machine.specs.history_spec.Lawful.{IfMoment}
use Rattle.core_machine.specs.history_spec.Trace.{Trace, IsTrace, receipts}
use Rattle.core_machine.specs.history_spec.Thread.{with_answer}
use Rattle.checkpoint_spec.proofs.of_wire_laws.LawfulChanges.{decoded_changes_are_lawful}
use Rattle.core_machine.specs.core_spec.declared.event.Event.{Event}
use Rattle.core_machine.specs.core_spec.declared.event.Event.TheVariants.{Submit, Claim, Release, Apply, Supersede, Fail, Discard, Sweep, Restart}
use Rattle.core_machine.specs.core_spec.Commands.{answer_of}
use Rattle.core_machine.specs.core_spec.History.{History, command, answer, Standing, unknown, queued, claimed, standing, with_applied, trace_of}
use Rattle.core_machine.specs.core_spec.Legal.{IsLegal}
use Rattle.core_machine.proofs.Receipts.{receipts_are_new}
use Rattle.core_laws.specs.Traces.{LegalHistoriesHaveTraces}
use Rattle.core_laws.proofs.Endings.{IsEnded, ended_stays}
use Rattle.core_laws.proofs.Entries.{IsBounded, submitted_are_bounded}
use Rattle.core_laws.proofs.Keys.{answer_decodes}
use Rattle.core_laws.proofs.Reordered.{as_received, all_of}

-- what is in the trace has ended
pub record Ends (history : History) (trace : Trace) : Type 0 where
  pub is_trace : IsTrace trace
  pub ended : AllByRecursion (λ r. IsEnded (standing r history)) (receipts trace)

module _ (ttls : Ttls) where
  all_stay : (e : Event) (history : History) (rs : List ℕ) → IsLegal ttls (e ∷ history) → AllByRecursion (λ r. IsEnded (standing r history)) rs → AllByRecursion (λ r. IsEnded (standing r (e ∷ history))) rs
  all_stay e history [] l h = tt
  all_stay e history (r ∷ rs) l h = (subst IsEnded (sym (ended_stays ttls e history r l h.0)) h.0, all_stay e history rs l h.1)

  kept : (e : Event) (history : History) (trace : Trace) → IsLegal ttls (e ∷ history) → Ends history trace → Ends (e ∷ history) trace
  kept e history trace l h = record { is_trace = h.is_trace; ended = all_stay e history (receipts trace) l h.ended }

  others : (r : ℕ) (history : History) (rs : List ℕ) → (IsEnded (standing r history) → ⊥) → AllByRecursion (λ q. IsEnded (standing q history)) rs → AllByRecursion (λ q. q ≢ r) rs
  others r history [] going h = tt
  others r history (q ∷ rs) going h = ((λ same. going (subst (λ n. IsEnded (standing n history)) same h.0)), others r history rs going h.1)

  counts_from_1 : (r : ℕ) (history : History) → IsLegal ttls history → standing r history ≢ unknown → 1 ≤ r
  counts_from_1 zero history l known = absurd (known (receipts_are_new ttls history 0 l (λ p. absurd (omega (arith, p)))).unknown)
  counts_from_1 (suc r) history l known = omega arith

  -- a command that waits is applied, with a moment that a stamp names or with none
  added : (e : Event) (r : ℕ) (t : Option ℤ) (history : History) (trace : Trace) (found : Option Command) → command r history ≡ found → IsLegal ttls (e ∷ history) → IfMoment t
      → (s : Standing) → standing r history ≡ s → (IsEnded s → ⊥) → s ≢ unknown → IsEnded (standing r (e ∷ history)) → Ends history trace → Ends (e ∷ history) (with_applied r t (option_map answer_of found) trace)
  added e r t history trace None f l moment s is going known ended h = kept e history trace l h
  added e r t history trace (Some c) f l moment s is going known ended h = decoded (answer_of c) refl
    where
      decoded : (a : Result Change Refusal) → answer_of c ≡ a → Ends (e ∷ history) (with_applied r t (Some a) trace)
      decoded (Err refusal) g = kept e history trace l h
      decoded (Ok change) g = record {
        is_trace = (
          decoded_changes_are_lawful c change (omega (arith, (submitted_are_bounded ttls r c history l.1 f).payload)) (subst (DecodeOf c) g (answer_decodes c)),
          moment,
          counts_from_1 r history l.1 (λ none. known (sym is ∙ none)),
          others r history (receipts trace) (λ x. going (subst IsEnded is x)) h.ended,
          h.is_trace,
        );
        ended = (ended, all_stay e history (receipts trace) l h.ended);
      }

  -- or with the moment at which it was received
  with_answer_is : (r : ℕ) (m : ℤ) (a : Result Change Refusal) (trace : Trace) → with_applied r (Some m) (Some a) trace ≡ with_answer r m a trace
  with_answer_is r m (Ok change) trace = refl
  with_answer_is r m (Err refusal) trace = refl

  taken : (e : Event) (r : ℕ) (history : History) (trace : Trace) (found : Option Command) → command r history ≡ found → IsLegal ttls (e ∷ history)
      → (s : Standing) → standing r history ≡ s → (IsEnded s → ⊥) → s ≢ unknown → IsEnded (standing r (e ∷ history)) → Ends history trace → Ends (e ∷ history) (as_received r found trace)
  taken e r history trace None f l s is going known ended h = kept e history trace l h
  taken e r history trace (Some c) f l s is going known ended h =
      subst (Ends (e ∷ history)) (with_answer_is r c.received (answer_of c) trace)
      (added e r (Some c.received) history trace (Some c) f l (submitted_are_bounded ttls r c history l.1 f).received s is going known ended h)

  claimed_known : claimed ≢ unknown
  claimed_known e = cc

  queued_known : queued ≢ unknown
  queued_known e = cc

  by_apply : (r : ℕ) (t : Option ℤ) (history : History) → IsEnded (standing r (Apply r t ∷ history))
  by_apply r t history = rw (same r) tt
    where
      same : (r : ℕ) → (r == r) ≡ true
      same r = grind arith

  by_supersede : (r p : ℕ) (history : History) → IsEnded (standing r (Supersede r p ∷ history))
  by_supersede r p history = rw (same r) tt
    where
      same : (r : ℕ) → (r == r) ≡ true
      same r = grind arith

  if_moment : (t : Option ℤ) (c : Command) → IsBounded c → (t ≡ None) ⊎ (t ≡ Some c.received) → IfMoment t
  if_moment t c b (inl e) = subst IfMoment (sym e) tt
  if_moment t c b (inr e) = subst IfMoment (sym e) b.received

  applies : (r : ℕ) (t : Option ℤ) (history : History) (trace : Trace) → IsLegal ttls (Apply r t ∷ history) → Ends history trace → Ends (Apply r t ∷ history) (with_applied r t (answer r history) trace)
  applies r t history trace l h =
      added (Apply r t) r t history trace (command r history) refl l (if_moment t l.0.command_is (submitted_are_bounded ttls r l.0.command_is history l.1 l.0.submitted) l.0.received)
      claimed l.0.claimed (λ x. x) claimed_known (by_apply r t history) h

  takes : (r : ℕ) (t : Option ℤ) (history : History) (trace : Trace) → IsLegal ttls (Apply r t ∷ history) → Ends history trace → Ends (Apply r t ∷ history) (as_received r (command r history) trace)
  takes r t history trace l h = taken (Apply r t) r history trace (command r history) refl l claimed l.0.claimed (λ x. x) claimed_known (by_apply r t history) h

  supersedes : (r p : ℕ) (history : History) (trace : Trace) → IsLegal ttls (Supersede r p ∷ history) → Ends history trace → Ends (Supersede r p ∷ history) (as_received r (command r history) trace)
  supersedes r p history trace l h = taken (Supersede r p) r history trace (command r history) refl l queued l.0.queued (λ x. x) queued_known (by_supersede r p history) h

  pub trace_ends : (history : History) → IsLegal ttls history → Ends history (trace_of history)
  trace_ends [] l = record { is_trace = tt; ended = tt }
  trace_ends (Submit r c ∷ history) l = kept (Submit r c) history _ l (trace_ends history l.1)
  trace_ends (Claim r ∷ history) l = kept (Claim r) history _ l (trace_ends history l.1)
  trace_ends (Release r ∷ history) l = kept (Release r) history _ l (trace_ends history l.1)
  trace_ends (Apply r t ∷ history) l = applies r t history (trace_of history) l (trace_ends history l.1)
  trace_ends (Supersede r p ∷ history) l = kept (Supersede r p) history _ l (trace_ends history l.1)
  trace_ends (Fail r before after ∷ history) l = kept (Fail r before after) history _ l (trace_ends history l.1)
  trace_ends (Discard r cause ∷ history) l = kept (Discard r cause) history _ l (trace_ends history l.1)
  trace_ends (Sweep kinds m ∷ history) l = let rest = kept (Sweep kinds m) history _ l (trace_ends history l.1) in record { is_trace = (l.0, rest.is_trace); ended = rest.ended }
  trace_ends (Restart ∷ history) l = kept Restart history _ l (trace_ends history l.1)

  module _ (start : History) where
    pub all_end : (run : History) → IsLegal ttls (run ++ start) → Ends (run ++ start) (all_of start run)
    all_end [] l = trace_ends start l
    all_end (Submit r c ∷ run) l = kept (Submit r c) (run ++ start) _ l (all_end run l.1)
    all_end (Claim r ∷ run) l = kept (Claim r) (run ++ start) _ l (all_end run l.1)
    all_end (Release r ∷ run) l = kept (Release r) (run ++ start) _ l (all_end run l.1)
    all_end (Apply r t ∷ run) l = takes r t (run ++ start) (all_of start run) l (all_end run l.1)
    all_end (Supersede r p ∷ run) l = supersedes r p (run ++ start) (all_of start run) l (all_end run l.1)
    all_end (Fail r before after ∷ run) l = kept (Fail r before after) (run ++ start) _ l (all_end run l.1)
    all_end (Discard r cause ∷ run) l = kept (Discard r cause) (run ++ start) _ l (all_end run l.1)
    all_end (Sweep kinds m ∷ run) l = let rest = kept (Sweep kinds m) (run ++ start) _ l (all_end run l.1) in record { is_trace = (l.0, rest.is_trace); ended = rest.ended }
    all_end (Restart ∷ run) l = kept Restart (run ++ start) _ l (all_end run l.1)

pub legal_histories_have_traces : LegalHistoriesHaveTraces
legal_histories_have_traces ttls history l = (trace_ends ttls history l).is_trace
