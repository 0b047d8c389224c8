-- The tables of a run are those of one thread.
use Rattle.std.proofs.Common.{◌≡◌, ◌∙◌, ℕ, ℤ, suc, List, [], ◌∷◌, ◌++◌, refl, sym, ap, subst, map, true, Option, Some, None, Result, Ok, Err}
use Rattle.std.specs.Option.{option_map, option_and_then}
use Rattle.std.specs.Ordering.{is_lt}
use Rattle.core_machine.proofs.of_plain_laws.Options.{none_some, some_same}
use Rattle.core_machine.specs.fleet_rows.Change.{change_certname, change_kind}
use Rattle.core_machine.specs.fleet_rows.Rank.{rank_cmp}
use Rattle.core_machine.specs.fleet_rows.declared.applied.Applied.{Applied}
use Rattle.core_machine.specs.fleet_rows.declared.change.Change.{Change}
use Rattle.core_machine.specs.fleet_rows.declared.command.Command.{Command}
use Rattle.core_machine.specs.fleet_rows.declared.refusal.Refusal.{Refusal}
use Rattle.core_machine.specs.fleet_rows.declared.row.Entity.{Entity}
use Rattle.core_machine.specs.fleet_rows.declared.settings.Ttls.{Ttls}
use Rattle.core_machine.specs.history_spec.Life.{life}
use Rattle.core_machine.specs.history_spec.Node.{newest}
use Rattle.core_machine.specs.history_spec.Thread as thread
use Rattle.core_machine.specs.history_spec.Thread.{Item, with_answer, numbered, waiting, ComesTo}
use Rattle.core_machine.specs.history_spec.Trace.{applied, applied_as, swept, Trace, IsTrace, rank_of}
use Rattle.checkpoint_spec.specs.history_laws.OrderLaws.{Reordered}
use Rattle.checkpoint_spec.proofs.of_history_laws.OneHistory.{threads_have_one_history}
use Rattle.core_machine.specs.table_spec.Rows.{rows}
use Rattle.checkpoint_spec.specs.table_machine.Rows.{table_rows}
use Rattle.checkpoint_spec.specs.table_machine.Table.{table_of}
use Rattle.checkpoint_spec.proofs.of_table_machine.Outranked.{tables_go_on_alike, without}
use Rattle.checkpoint_spec.proofs.of_table_machine.TableRows.{rows_are_those_of_the_history}
use Rattle.checkpoint_spec.proofs.of_table_laws.ReorderedRows.{the_order_between_purges_leaves_the_table, reordered_traces_are_traces}
use Rattle.core_machine.specs.core_spec.declared.entry.Entry.{Entry}
use Rattle.core_machine.specs.core_spec.declared.event.Event.TheVariants.{Submit, Claim, Release, Apply, Supersede, Fail, Discard, Sweep, Restart}
use Rattle.core_machine.specs.core_spec.Commands.{answer_of, key_of}
use Rattle.core_machine.specs.core_spec.History.{History, last_receipt, command, with_applied, trace_of}
use Rattle.core_machine.specs.core_spec.Legal.{IsLegal, IsOutdated}
use Rattle.core_machine.specs.core_spec.Pending.{pending_of}
use Rattle.core_machine.specs.core_spec.Thread.{with_command, with_entries, with_items, one_thread}
use Rattle.core_laws.specs.Superseding.{MayBeSuperseded, SupersedingChangesNoTable, SupersedingChangesNoRow}
use Rattle.core_laws.specs.Threads.{items_of, dropped, MomentsAreKept, IsSettled, waiting_in, OneThreadIsAThread, NoThreadMakesAnother, RowsAreThoseOfOneThread, TheTableIsThatOfOneThread}
use Rattle.core_laws.proofs.Alike.{newest_alike, IsOutranked, outranked_leaves_the_table, outranked_leaves_later_tables}
use Rattle.core_laws.proofs.Endings.{the_dropped_agree}
use Rattle.core_laws.proofs.Keys.{answer_decodes, IsKeyOf, key_tells}
use Rattle.core_laws.proofs.Reordered.{thread_of, as_received, all_of, reordered}
use Rattle.core_laws.proofs.Traces.{all_end, trace_ends}

-- ---- superseded commands change no table

module _ (ttls : Ttls) where
  same_answer : (r : ℕ) (m : ℤ) (a : Result Change Refusal) (history other : Trace) → IsTrace (with_answer r m a history) → IsTrace (with_answer r m a other)
      → table_of ttls history ≡ table_of ttls other → table_of ttls (with_answer r m a history) ≡ table_of ttls (with_answer r m a other)
  same_answer r m (Ok change) history other h g same = tables_go_on_alike ttls (applied (applied_as r (Some m) change) ∷ []) history other h g same
  same_answer r m (Err refusal) history other h g same = same

  same_received : (r : ℕ) (found : Option Command) (history other : Trace) → IsTrace (as_received r found history) → IsTrace (as_received r found other)
      → table_of ttls history ≡ table_of ttls other → table_of ttls (as_received r found history) ≡ table_of ttls (as_received r found other)
  same_received r None history other h g same = same
  same_received r (Some c) history other h g same = same_answer r c.received (answer_of c) history other h g same

  with_answer_is : (r : ℕ) (m : ℤ) (a : Result Change Refusal) (trace : Trace) → with_answer r m a trace ≡ with_applied r (Some m) (Some a) trace
  with_answer_is r m (Ok change) trace = refl
  with_answer_is r m (Err refusal) trace = refl

  -- where its moment is kept, a command is applied as it was received
  received_is : (r : ℕ) (t : Option ℤ) (found : Option Command) (trace : Trace) → t ≡ option_map (λ (c : Command). c.received) found → as_received r found trace ≡ with_applied r t (option_map answer_of found) trace
  received_is r t None trace e = refl
  received_is r t (Some c) trace e = with_answer_is r c.received (answer_of c) trace ∙ ap (λ (u : Option ℤ). with_applied r u (Some (answer_of c)) trace) (sym e)

  -- a superseded command that decodes is outranked
  outranked : (q p : ℕ) (t : Option ℤ) (d : Change) (history : History) (trace : Trace) (o : IsOutdated ttls q p history) → IsKeyOf (o.group, o.stamp) d
      → table_of ttls trace ≡ table_of ttls (trace_of history) → IsOutranked ttls (applied_as q t d) trace
  outranked q p t d history trace o k same = record {
    newer = o.newer;
    newest = newest_alike ttls trace (trace_of history) (change_kind d) (change_certname d) same k.no_report
        ∙ (λ i. newest (sym k.of_kind i) (life ttls (sym k.certname i) (trace_of history))) ∙ o.newest;
    below = subst (λ (m : ℤ). is_lt (rank_cmp (record { stamp = m; receipt = q }) (rank_of o.newer)) ≡ true) k.stamp o.below;
    no_report = k.no_report;
  }

  of_command : (q p : ℕ) (history : History) (trace : Trace) (o : IsOutdated ttls q p history) (found : Option Command) → command q history ≡ found → IsTrace (as_received q found trace)
      → table_of ttls trace ≡ table_of ttls (trace_of history) → table_of ttls (as_received q found trace) ≡ table_of ttls (trace_of history)
  of_command q p history trace o None f h same = same
  of_command q p history trace o (Some c) f h same = of_answer (answer_of c) refl h
    where
      key_is : key_of c ≡ Some (o.group, o.stamp)
      key_is = sym (ap (option_and_then key_of) f) ∙ o.key_is

      of_answer : (a : Result Change Refusal) → answer_of c ≡ a → IsTrace (with_answer q c.received a trace) → table_of ttls (with_answer q c.received a trace) ≡ table_of ttls (trace_of history)
      of_answer (Err refusal) e g = same
      of_answer (Ok d) e g =
          outranked_leaves_the_table ttls (applied_as q (Some c.received) d) trace (outranked q p (Some c.received) d history trace o (key_tells c d (o.group, o.stamp) e key_is) same) g ∙ same

  module _ (start : History) where
    superseding_changes_nothing : (run : History) → IsLegal ttls (run ++ start) → MomentsAreKept start run → table_of ttls (all_of start run) ≡ table_of ttls (trace_of (run ++ start))
    superseding_changes_nothing [] l t = refl
    superseding_changes_nothing (Submit r c ∷ run) l t = superseding_changes_nothing run l.1 t
    superseding_changes_nothing (Claim r ∷ run) l t = superseding_changes_nothing run l.1 t
    superseding_changes_nothing (Release r ∷ run) l t = superseding_changes_nothing run l.1 t
    superseding_changes_nothing (Apply r m ∷ run) l t =
        let history = run ++ start in
        let is = received_is r m (command r history) (trace_of history) t.0 in
        same_received r (command r history) (all_of start run) (trace_of history) (all_end ttls start (Apply r m ∷ run) l).is_trace
        (subst IsTrace (sym is) (trace_ends ttls (Apply r m ∷ history) l).is_trace) (superseding_changes_nothing run l.1 t.1)
        ∙ ap (table_of ttls) is
    superseding_changes_nothing (Supersede q p ∷ run) l t =
        of_command q p (run ++ start) (all_of start run) l.0 (command q (run ++ start)) refl (all_end ttls start (Supersede q p ∷ run) l).is_trace (superseding_changes_nothing run l.1 t)
    superseding_changes_nothing (Fail r before after ∷ run) l t = superseding_changes_nothing run l.1 t
    superseding_changes_nothing (Discard r cause ∷ run) l t = superseding_changes_nothing run l.1 t
    superseding_changes_nothing (Sweep kinds m ∷ run) l t =
        tables_go_on_alike ttls (swept kinds m ∷ []) (all_of start run) (trace_of (run ++ start)) (all_end ttls start (Sweep kinds m ∷ run) l).is_trace (trace_ends ttls (Sweep kinds m ∷ (run ++ start)) l).is_trace
        (superseding_changes_nothing run l.1 t)
    superseding_changes_nothing (Restart ∷ run) l t = superseding_changes_nothing run l.1 t

-- ---- one superseded command, and further events

-- traces of one table have the same rows
same_rows : (e : Entity) (ttls : Ttls) (history other : Trace) → IsTrace history → IsTrace other → table_of ttls history ≡ table_of ttls other → rows e ttls history ≡ rows e ttls other
same_rows e ttls history other h g same = sym (rows_are_those_of_the_history e ttls history h) ∙ ap (table_rows e) same ∙ rows_are_those_of_the_history e ttls other g

module _ (ttls : Ttls) (q p : ℕ) (t : Option ℤ) (d : Change) (history : History) (h : MayBeSuperseded ttls q p d history) where
  abbrev x : Applied
  x = applied_as q t d

  of_found : (found : Option Command) → command q history ≡ found → option_map answer_of found ≡ Some (Ok d) → IsOutranked ttls x (trace_of history)
  of_found None f e = none_some (Ok d) e
  of_found (Some c) f e =
      let o = h.legal.0 in
      outranked ttls q p t d history (trace_of history) o (key_tells c d (o.group, o.stamp) (sym (some_same (answer_of c) (Ok d) e)) (sym (ap (option_and_then key_of) f) ∙ o.key_is)) refl

  is_outranked : IsOutranked ttls x (trace_of history)
  is_outranked = of_found (command q history) refl h.decodes

  leaves_the_table : (later : Trace) → IsTrace (later ++ applied x ∷ trace_of history) → table_of ttls (later ++ applied x ∷ trace_of history) ≡ table_of ttls (later ++ trace_of history)
  leaves_the_table later trace = outranked_leaves_later_tables ttls x later (trace_of history) is_outranked trace

pub superseding_changes_no_table : SupersedingChangesNoTable
superseding_changes_no_table ttls q p t d later history h trace = leaves_the_table ttls q p t d history h later trace

pub superseding_changes_no_row : SupersedingChangesNoRow
superseding_changes_no_row e ttls q p t d later history h trace =
    same_rows e ttls (later ++ applied (applied_as q t d) ∷ trace_of history) (later ++ trace_of history) trace (without later (trace_of history) (applied_as q t d) trace)
    (leaves_the_table ttls q p t d history h later trace)

-- ---- one thread, item by item

-- the receipt behind the items
abbrev receipt_behind : ℕ → List Item → ℕ
receipt_behind r [] = r
receipt_behind r (thread.command c ∷ items) = receipt_behind (suc r) items
receipt_behind r (thread.sweep kinds m ∷ items) = receipt_behind r items

behind_command : (r : ℕ) (items : List Item) (c : Command) → receipt_behind r (items ++ thread.command c ∷ []) ≡ suc (receipt_behind r items)
behind_command r [] c = refl
behind_command r (thread.command d ∷ items) c = behind_command (suc r) items c
behind_command r (thread.sweep kinds m ∷ items) c = behind_command r items c

behind_sweep : (r : ℕ) (items : List Item) (item : Item) → ((n : ℕ) → receipt_behind n (item ∷ []) ≡ n) → receipt_behind r (items ++ item ∷ []) ≡ receipt_behind r items
behind_sweep r [] item h = h r
behind_sweep r (thread.command d ∷ items) item h = behind_sweep (suc r) items item h
behind_sweep r (thread.sweep kinds m ∷ items) item h = behind_sweep r items item h

module _ (ds : List ℕ) where
  one_more : (r : ℕ) (items : List Item) (item : Item) (trace : Trace) → with_items ds r (items ++ item ∷ []) trace ≡ with_items ds (receipt_behind r items) (item ∷ []) (with_items ds r items trace)
  one_more r [] item trace = refl
  one_more r (thread.command c ∷ items) item trace = one_more (suc r) items item (with_command ds r c trace)
  one_more r (thread.sweep kinds m ∷ items) item trace = one_more r items item (swept kinds m ∷ trace)

  module _ (ttls : Ttls) (start : History) where
    next_receipt : (run : History) → IsLegal ttls (run ++ start) → receipt_behind (suc (last_receipt start)) (items_of run) ≡ suc (last_receipt (run ++ start))
    next_receipt [] l = refl
    next_receipt (Submit r c ∷ run) l = behind_command (suc (last_receipt start)) (items_of run) c ∙ ap suc (next_receipt run l.1 ∙ sym l.0.receipt)
    next_receipt (Claim r ∷ run) l = next_receipt run l.1
    next_receipt (Release r ∷ run) l = next_receipt run l.1
    next_receipt (Apply r t ∷ run) l = next_receipt run l.1
    next_receipt (Supersede q p ∷ run) l = next_receipt run l.1
    next_receipt (Fail r before after ∷ run) l = next_receipt run l.1
    next_receipt (Discard r cause ∷ run) l = next_receipt run l.1
    next_receipt (Sweep kinds m ∷ run) l = behind_sweep (suc (last_receipt start)) (items_of run) (thread.sweep kinds m) (λ n. refl) ∙ next_receipt run l.1
    next_receipt (Restart ∷ run) l = next_receipt run l.1

    abbrev base : Trace
    base = with_entries ds (pending_of start) (trace_of start)

    thread_is : (run : History) → IsLegal ttls (run ++ start) → with_items ds (suc (last_receipt start)) (items_of run) base ≡ thread_of ds start run
    thread_is [] l = refl
    thread_is (Submit r c ∷ run) l =
        one_more (suc (last_receipt start)) (items_of run) (thread.command c) base
        ∙ (λ i. with_command ds ((next_receipt run l.1 ∙ sym l.0.receipt) i) c (thread_is run l.1 i))
    thread_is (Claim r ∷ run) l = thread_is run l.1
    thread_is (Release r ∷ run) l = thread_is run l.1
    thread_is (Apply r t ∷ run) l = thread_is run l.1
    thread_is (Supersede q p ∷ run) l = thread_is run l.1
    thread_is (Fail r before after ∷ run) l = thread_is run l.1
    thread_is (Discard r cause ∷ run) l = thread_is run l.1
    thread_is (Sweep kinds m ∷ run) l =
        one_more (suc (last_receipt start)) (items_of run) (thread.sweep kinds m) base
        ∙ ap (λ (t : Trace). swept kinds m ∷ t) (thread_is run l.1)
    thread_is (Restart ∷ run) l = thread_is run l.1

-- ---- one thread is a thread

module _ (ds : List ℕ) where
  items_come : (r : ℕ) (items : List Item) (trace : Trace) → ComesTo ds (numbered r items) trace (with_items ds r items trace)
  items_come r [] trace = refl
  items_come r (thread.command c ∷ items) trace = (answer_of c, answer_decodes c, items_come (suc r) items (with_command ds r c trace))
  items_come r (thread.sweep kinds m ∷ items) trace = items_come r items (swept kinds m ∷ trace)

  entries_come : (es : List Entry) (r : ℕ) (items : List Item) (trace : Trace)
      → ComesTo ds (waiting (map (λ (e : Entry). (e.receipt, e.command)) es) ++ numbered r items) trace (with_items ds r items (with_entries ds es trace))
  entries_come [] r items trace = items_come r items trace
  entries_come (e ∷ es) r items trace = (answer_of e.command, answer_decodes e.command, entries_come es r items (with_command ds e.receipt e.command trace))

pub one_thread_is_a_thread : OneThreadIsAThread
one_thread_is_a_thread start items ds = entries_come ds (pending_of start) (suc (last_receipt start)) items (trace_of start)

pub no_thread_makes_another : NoThreadMakesAnother
no_thread_makes_another start items ds history h =
    threads_have_one_history (trace_of start) (waiting_in start) (numbered (suc (last_receipt start)) items) ds history (one_thread start items ds) h (one_thread_is_a_thread start items ds)

-- ---- together

module _ (ttls : Ttls) (start run : History) (h : IsSettled ttls start run) where
  abbrev ds : List ℕ
  ds = dropped run

  in_order : Reordered (all_of start run) (thread_of ds start run)
  in_order =
      subst (λ es. Reordered (with_entries ds es (all_of start run)) (thread_of ds start run)) h.all
      (reordered ds ttls start run h.legal h.purges (the_dropped_agree ttls start run h.legal))

  all_trace : IsTrace (all_of start run)
  all_trace = (all_end ttls start run h.legal).is_trace

  thread_trace : IsTrace (one_thread start (items_of run) ds)
  thread_trace = subst IsTrace (sym (thread_is ds ttls start run h.legal)) (reordered_traces_are_traces (all_of start run) (thread_of ds start run) all_trace in_order)

  same_table : table_of ttls (trace_of (run ++ start)) ≡ table_of ttls (one_thread start (items_of run) ds)
  same_table =
      sym (superseding_changes_nothing ttls start run h.legal h.moments)
      ∙ the_order_between_purges_leaves_the_table ttls (all_of start run) (thread_of ds start run) all_trace in_order
      ∙ ap (table_of ttls) (sym (thread_is ds ttls start run h.legal))

pub the_table_is_that_of_one_thread : TheTableIsThatOfOneThread
the_table_is_that_of_one_thread ttls start run h = same_table ttls start run h

pub rows_are_those_of_one_thread : RowsAreThoseOfOneThread
rows_are_those_of_one_thread e ttls start run h =
    same_rows e ttls (trace_of (run ++ start)) (one_thread start (items_of run) (dropped run)) (trace_ends ttls (run ++ start) h.legal).is_trace (thread_trace ttls start run h) (same_table ttls start run h)
