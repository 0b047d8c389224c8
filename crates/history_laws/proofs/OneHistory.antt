-- One thread makes one history of what comes to it.
use Rattle.std.proofs.Common.{◌≡◌, ◌∙◌, ℕ, suc, List, [], ◌∷◌, ◌++◌, Bool, true, false, not, cond, if◌then◌else◌, ◌==◌, refl, sym, subst}
use Rattle.std.specs.List.{filter, list_any}
use Rattle.spool_spec.specs.fleet_rows.declared.change.Change.{Change}
use Rattle.spool_spec.specs.fleet_rows.declared.command.Command.{Command}
use Rattle.spool_spec.specs.fleet_rows.declared.refusal.Refusal.{Refusal}
use Rattle.std.specs.Prelude.{Result}
use Rattle.spool_spec.specs.wire_spec.Decode.{DecodeOf}
use Rattle.spool_spec.specs.history_spec.Trace.{Trace, swept}
use Rattle.spool_spec.specs.history_spec.Thread.{Item, command, sweep, with_answer, LeadsTo, Arrival, received, asked, numbered, waiting, with_arrival, ComesTo}
use Rattle.history_laws.specs.ThreadLaws.{ItemsHaveSomeHistory, ItemsHaveOneHistory, OneThreadIsAThread, ThreadsHaveSomeHistory, ThreadsHaveOneHistory, is_dropped, DroppedCommandsSayNothing}
use Rattle.wire_laws.proofs.OneAnswer.{commands_have_some_answer, commands_have_one_answer}

-- ---- one, and some

comes_to_one : (dropped : List ℕ) (arrivals : List Arrival) (before after other : Trace) → ComesTo dropped arrivals before after → ComesTo dropped arrivals before other → after ≡ other
comes_to_one dropped [] before after other h k = h ∙ sym k
comes_to_one dropped (received receipt c ∷ arrivals) before after other h k =
    let same : h.0 ≡ k.0 = commands_have_one_answer c h.0 k.0 h.1 k.1 in
    comes_to_one dropped arrivals (with_arrival dropped receipt c h.0 before) after other h.2 (subst (λ a. ComesTo dropped arrivals (with_arrival dropped receipt c a before) other) (sym same) k.2)
comes_to_one dropped (asked kinds m ∷ arrivals) before after other h k = comes_to_one dropped arrivals (swept kinds m ∷ before) after other h k

comes_to_some : (dropped : List ℕ) (arrivals : List Arrival) (before : Trace) → (after : Trace) × ComesTo dropped arrivals before after
comes_to_some dropped [] before = (before, refl)
comes_to_some dropped (received receipt c ∷ arrivals) before =
    let answer = commands_have_some_answer c in
    let rest = comes_to_some dropped arrivals (with_arrival dropped receipt c answer.0 before) in
    (rest.0, (answer.0, answer.1, rest.1))
comes_to_some dropped (asked kinds m ∷ arrivals) before = comes_to_some dropped arrivals (swept kinds m ∷ before)

pub threads_have_one_history : ThreadsHaveOneHistory
threads_have_one_history start pending arrivals dropped history other h k = comes_to_one dropped (waiting pending ++ arrivals) start history other h k

pub threads_have_some_history : ThreadsHaveSomeHistory
threads_have_some_history start pending arrivals dropped = comes_to_some dropped (waiting pending ++ arrivals) start

-- ---- from nothing

to_thread : (receipt : ℕ) (items : List Item) (before after : Trace) → LeadsTo receipt items before after → ComesTo [] (numbered receipt items) before after
to_thread receipt [] before after h = h
to_thread receipt (command c ∷ items) before after h = (h.0, h.1, to_thread (suc receipt) items (with_answer receipt c.received h.0 before) after h.2)
to_thread receipt (sweep kinds m ∷ items) before after h = to_thread receipt items (swept kinds m ∷ before) after h

from_thread : (receipt : ℕ) (items : List Item) (before after : Trace) → ComesTo [] (numbered receipt items) before after → LeadsTo receipt items before after
from_thread receipt [] before after h = h
from_thread receipt (command c ∷ items) before after h = (h.0, h.1, from_thread (suc receipt) items (with_answer receipt c.received h.0 before) after h.2)
from_thread receipt (sweep kinds m ∷ items) before after h = from_thread receipt items (swept kinds m ∷ before) after h

pub one_thread_is_a_thread : OneThreadIsAThread
one_thread_is_a_thread items history = (to_thread 1 items [] history, from_thread 1 items [] history)

pub items_have_one_history : ItemsHaveOneHistory
items_have_one_history items history other h k = comes_to_one [] (numbered 1 items) [] history other (to_thread 1 items [] history h) (to_thread 1 items [] other k)

pub items_have_some_history : ItemsHaveSomeHistory
items_have_some_history items = let some = comes_to_some [] (numbered 1 items) [] in (some.0, from_thread 1 items [] some.0 some.1)

-- ---- what is dropped

module _ (dropped : List ℕ) where
  abbrev is_left : Arrival → Bool
  is_left a = not (is_dropped dropped a)

  to_step : (b : Bool) (receipt : ℕ) (c : Command) (arrivals : List Arrival) (before after : Trace)
      → (answer : Result Change Refusal) × DecodeOf c answer × ComesTo dropped arrivals (if b then before else with_answer receipt c.received answer before) after
      → ((between : Trace) → ComesTo dropped arrivals between after → ComesTo [] (filter is_left arrivals) between after)
      → ComesTo [] (cond (not b) (received receipt c ∷ filter is_left arrivals) (filter is_left arrivals)) before after
  to_step true receipt c arrivals before after h next = next before h.2
  to_step false receipt c arrivals before after h next = (h.0, h.1, next (with_answer receipt c.received h.0 before) h.2)

  to_left : (arrivals : List Arrival) (before after : Trace) → ComesTo dropped arrivals before after → ComesTo [] (filter is_left arrivals) before after
  to_left [] before after h = h
  to_left (received receipt c ∷ arrivals) before after h = to_step (list_any (λ r. r == receipt) dropped) receipt c arrivals before after h (λ between. to_left arrivals between after)
  to_left (asked kinds m ∷ arrivals) before after h = to_left arrivals (swept kinds m ∷ before) after h

  from_step : (b : Bool) (receipt : ℕ) (c : Command) (arrivals : List Arrival) (before after : Trace)
      → ComesTo [] (cond (not b) (received receipt c ∷ filter is_left arrivals) (filter is_left arrivals)) before after
      → ((between : Trace) → ComesTo [] (filter is_left arrivals) between after → ComesTo dropped arrivals between after)
      → (answer : Result Change Refusal) × DecodeOf c answer × ComesTo dropped arrivals (if b then before else with_answer receipt c.received answer before) after
  from_step true receipt c arrivals before after h next = let answer = commands_have_some_answer c in (answer.0, answer.1, next before h)
  from_step false receipt c arrivals before after h next = (h.0, h.1, next (with_answer receipt c.received h.0 before) h.2)

  from_left : (arrivals : List Arrival) (before after : Trace) → ComesTo [] (filter is_left arrivals) before after → ComesTo dropped arrivals before after
  from_left [] before after h = h
  from_left (received receipt c ∷ arrivals) before after h = from_step (list_any (λ r. r == receipt) dropped) receipt c arrivals before after h (λ between. from_left arrivals between after)
  from_left (asked kinds m ∷ arrivals) before after h = from_left arrivals (swept kinds m ∷ before) after h

pub dropped_commands_say_nothing : DroppedCommandsSayNothing
dropped_commands_say_nothing start pending arrivals dropped history = (to_left dropped (waiting pending ++ arrivals) start history, from_left dropped (waiting pending ++ arrivals) start history)
