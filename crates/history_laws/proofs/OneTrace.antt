-- What one thread makes of a trace is a trace: its changes meet their rules, and its receipts are distinct.
use Rattle.std.proofs.Common.{◌≢◌, ℕ, suc, ◌<◌, ◌≤◌, ◌==◌, List, [], ◌∷◌, ◌++◌, Bool, true, false, if◌then◌else◌, Result, Ok, Err, arith, sym, subst}
use Rattle.std.specs.List.{AllByRecursion, list_any}
use Rattle.std.proofs.lemmas.List.{append-nil}
use Rattle.spool_spec.specs.fleet_rows.declared.change.Change.{Change}
use Rattle.spool_spec.specs.fleet_rows.declared.command.Command.{Command}
use Rattle.spool_spec.specs.fleet_rows.declared.refusal.Refusal.{Refusal}
use Rattle.spool_spec.specs.wire_spec.Decode.{DecodeOf}
use Rattle.spool_spec.specs.history_spec.Trace.{Trace, swept, receipts, IsTrace}
use Rattle.spool_spec.specs.history_spec.Thread.{Item, command, sweep, IsItem, with_answer, Arrival, received, asked, numbered, waiting, with_arrival, ComesTo}
use Rattle.wire_laws.proofs.LawfulChanges.{decoded_changes_are_lawful}
use Rattle.history_laws.specs.OrderLaws.{AreDistinct}
use Rattle.history_laws.specs.ThreadLaws.{OneThreadMakesATrace, IsArrival, arrived, ThreadsMakeATrace}
use Rattle.history_laws.proofs.OneHistory.{one_thread_is_a_thread}

-- ---- receipts

module _ (P : ℕ → Type 0) where
  all_inserted : (rs qs : List ℕ) (r : ℕ) → AllByRecursion P (rs ++ qs) → P r → AllByRecursion P (rs ++ r ∷ qs)
  all_inserted [] qs r h p = (p, h)
  all_inserted (s ∷ rs) qs r h p = (h.0, all_inserted rs qs r h.1 p)

  all_behind : (rs qs : List ℕ) → AllByRecursion P (rs ++ qs) → AllByRecursion P qs
  all_behind [] qs h = h
  all_behind (s ∷ rs) qs h = all_behind rs qs h.1

-- the first receipt stands further behind
distinct_moved : (r : ℕ) (rs qs : List ℕ) → AreDistinct (r ∷ (rs ++ qs)) → AreDistinct (rs ++ r ∷ qs)
distinct_moved r [] qs d = d
distinct_moved r (s ∷ rs) qs d = (all_inserted (λ q. q ≢ s) rs qs r d.1.0 (λ e. d.0.0 (sym e)), distinct_moved r rs qs (d.0.1, d.1.1))

-- ---- from a trace on

-- a trace, and further receipts that are new
record IsTraceBefore (rs : List ℕ) (history : Trace) : Type 0 where
  is_trace : IsTrace history
  distinct : AreDistinct (rs ++ receipts history)

one_more : (b : Bool) (receipt : ℕ) (c : Command) (answer : Result Change Refusal) (rs : List ℕ) (before : Trace) → 1 ≤ receipt → IsItem (command c) → DecodeOf c answer → IsTraceBefore (receipt ∷ rs) before → IsTraceBefore rs (if b then before else with_answer receipt c.received answer before)
one_more true receipt c answer rs before from_1 item d h = record { is_trace = h.is_trace; distinct = h.distinct.1 }
one_more false receipt c (Ok change) rs before from_1 item d h = record {
  is_trace = (decoded_changes_are_lawful c change item.0 d, item.1, from_1, all_behind (λ q. q ≢ receipt) rs (receipts before) h.distinct.0, h.is_trace);
  distinct = distinct_moved receipt rs (receipts before) h.distinct;
}
one_more false receipt c (Err refusal) rs before from_1 item d h = record { is_trace = h.is_trace; distinct = h.distinct.1 }

stays_trace : (dropped : List ℕ) (arrivals : List Arrival) (before after : Trace) → AllByRecursion IsArrival arrivals → IsTraceBefore (arrived arrivals) before → ComesTo dropped arrivals before after → IsTrace after
stays_trace dropped [] before after are h l = subst IsTrace (sym l) h.is_trace
stays_trace dropped (received receipt c ∷ arrivals) before after are h l =
    stays_trace dropped arrivals (with_arrival dropped receipt c l.0 before) after are.1
    (one_more (list_any (λ r. r == receipt) dropped) receipt c l.0 (arrived arrivals) before are.0.0 are.0.1 l.1 h) l.2
stays_trace dropped (asked kinds m ∷ arrivals) before after are h l =
    stays_trace dropped arrivals (swept kinds m ∷ before) after are.1 (record { is_trace = (are.0, h.is_trace); distinct = h.distinct }) l

pub threads_make_a_trace : ThreadsMakeATrace
threads_make_a_trace start pending arrivals dropped history is_trace are distinct l =
    stays_trace dropped (waiting pending ++ arrivals) start history are (record { is_trace = is_trace; distinct = distinct }) l

-- ---- from nothing on

counts_on : (n receipt : ℕ) (items : List Item) → n < receipt → AllByRecursion (λ r. r ≢ n) (arrived (numbered receipt items))
counts_on n receipt [] h = tt
counts_on n receipt (command c ∷ items) h = ((λ e. omega (arith, h, e)), counts_on n (suc receipt) items (omega (arith, h)))
counts_on n receipt (sweep kinds m ∷ items) h = counts_on n receipt items h

are_distinct : (receipt : ℕ) (items : List Item) → AreDistinct (arrived (numbered receipt items))
are_distinct receipt [] = tt
are_distinct receipt (command c ∷ items) = (counts_on receipt (suc receipt) items (omega arith), are_distinct (suc receipt) items)
are_distinct receipt (sweep kinds m ∷ items) = are_distinct receipt items

are_arrivals : (receipt : ℕ) (items : List Item) → 1 ≤ receipt → AllByRecursion IsItem items → AllByRecursion IsArrival (numbered receipt items)
are_arrivals receipt [] from_1 h = tt
are_arrivals receipt (command c ∷ items) from_1 h = ((from_1, h.0), are_arrivals (suc receipt) items (omega (arith, from_1)) h.1)
are_arrivals receipt (sweep kinds m ∷ items) from_1 h = (h.0, are_arrivals receipt items from_1 h.1)

pub one_thread_makes_a_trace : OneThreadMakesATrace
one_thread_makes_a_trace items history are l =
    threads_make_a_trace [] [] (numbered 1 items) [] history tt (are_arrivals 1 items (omega arith) are)
    (subst AreDistinct (sym (append-nil (arrived (numbered 1 items)))) (are_distinct 1 items)) ((one_thread_is_a_thread items history).0 l)
