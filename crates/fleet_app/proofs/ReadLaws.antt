-- What one item more does to what has been read.
use Rattle.std.proofs.Common.{◌≡◌, ◌∙◌, refl, sym, ap, subst, ℕ, suc, ◌+◌, ◌≤◌, ℤ, pos, List, [], ◌∷◌, ◌++◌, append_assoc, append-nil, arith, IfSome, Option, Some, None, Result, Ok, Err}
use Rattle.std.specs.List.{AllByRecursion}
use Rattle.std.specs.Io.KnownBytes.{IsAtEnd}
use Rattle.busy_commands.specs.fleet_rows.declared.change.Change.{Change}
use Rattle.busy_commands.specs.fleet_rows.declared.command.Command.{Command}
use Rattle.busy_commands.specs.fleet_rows.declared.refusal.Refusal.{Refusal}
use Rattle.busy_commands.specs.fleet_rows.declared.settings.Kinds.{Kinds}
use Rattle.busy_commands.specs.fleet_rows.Defaults.{default_ttls}
use Rattle.busy_commands.specs.history_spec.Lawful.{HasStamp}
use Rattle.busy_commands.specs.history_spec.Trace.{Trace, swept}
use Rattle.busy_commands.specs.history_spec.Thread.{Item, command, sweep, IsItem, with_answer, LeadsTo, OneThread}
use Rattle.busy_commands.specs.spool_spec.Spool.{whole, bad_at, IsCommandText, ItemsFrom, SpoolOf}
use Rattle.busy_commands.specs.spool_text.Next as next
use Rattle.busy_commands.proofs.of_history_laws.OneTrace.{one_thread_makes_a_trace}
use Rattle.busy_commands.proofs.of_history_laws.SpoolItems.{the_first_moment_has_a_stamp}
use Rattle.busy_commands.specs.table_machine.Table.{Table, table_of}
use Rattle.busy_commands.specs.table_machine.Steps as steps
use Rattle.busy_commands.proofs.of_table_machine.TableLaws.{one_thread_is_followed}
use Rattle.fleet_app.specs.Reads.{table_with, TakesIn, Follows, GoesOn, SoFar, FaultsAt, IsOneThread}
use Rattle.program_words.specs.spool_spec.Limits.{most_spool}

-- ---- at the start

begins : (bytes : Option (List ℕ)) → GoesOn bytes bytes 0 []
begins None = tt
begins (Some bytes) = λ more end h. h

pub nothing_read : (bytes : Option (List ℕ)) (table : Table) → table ≡ steps.empty_table default_ttls → SoFar bytes bytes 0 0 table
nothing_read bytes table e = record {
  items = [];
  follows = record { are_items = tt; history = []; table_is = e; thread = λ more after h. h };
  goes_on = begins bytes;
}

-- ---- one item more

run_with : (receipt : ℕ) (received : ℤ) (answer : Result Change Refusal) (t : Trace) → table_with receipt received answer (steps.run default_ttls t) ≡ steps.run default_ttls (with_answer receipt received answer t)
run_with receipt received (Ok change) t = refl
run_with receipt received (Err refusal) t = refl

one_more : (items : List Item) (item : Item) → AllByRecursion IsItem items → IsItem item → AllByRecursion IsItem (items ++ item ∷ [])
one_more [] item h is = (is, tt)
one_more (first ∷ items) item h is = (h.0, one_more items item h.1 is)

follows_command : (items : List Item) (c : Command) (receipt : ℕ) (old new : Table) → IsItem (command c) → Follows items receipt old → TakesIn c (suc receipt) old new → Follows (items ++ command c ∷ []) (suc receipt) new
follows_command items c receipt old new is f t = record {
  are_items = one_more items (command c) f.are_items is;
  history = with_answer (suc receipt) c.received t.answer f.history;
  table_is = t.table ∙ ap (table_with (suc receipt) c.received t.answer) f.table_is ∙ run_with (suc receipt) c.received t.answer f.history;
  thread = λ more after leads.
      subst (λ its. LeadsTo 1 its [] after) (sym (append_assoc items (command c ∷ []) more)) (f.thread (command c ∷ more) after (t.answer, t.decoded, leads));
}

follows_sweep : (items : List Item) (kinds : Kinds) (m : ℤ) (receipt : ℕ) (old new : Table) → HasStamp m → Follows items receipt old → new ≡ steps.sweep kinds m old → Follows (items ++ sweep kinds m ∷ []) receipt new
follows_sweep items kinds m receipt old new is f e = record {
  are_items = one_more items (sweep kinds m) f.are_items is;
  history = swept kinds m ∷ f.history;
  table_is = e ∙ ap (steps.sweep kinds m) f.table_is;
  thread = λ more after leads.
      subst (λ its. LeadsTo 1 its [] after) (sym (append_assoc items (sweep kinds m ∷ []) more)) (f.thread (sweep kinds m ∷ more) after leads);
}

-- a command that the spool holds is received at the first moment
pub received_has_stamp : (c : Command) (text : List ℕ) → IsCommandText (pos 0) c text → HasStamp c.received
received_has_stamp c text is = subst HasStamp (sym is.received_is) the_first_moment_has_a_stamp

command_is_item : (c : Command) (text : List ℕ) → IsCommandText (pos 0) c text → IsItem (command c)
command_is_item c text is = (omega (arith, is.payload), received_has_stamp c text is)

goes_more : (item : Item) (items : List Item) (before old new : Option (List ℕ)) (p q : ℕ) → GoesOn before old p items → next.Gives (pos 0) item p q old new → q ≤ most_spool → GoesOn before new q (items ++ item ∷ [])
goes_more item items None old new p q h g within = tt
goes_more item items (Some bytes) None new p q h g within = absurd h
goes_more item items (Some bytes) (Some rest) None p q h g within = absurd g.taken
goes_more item items (Some bytes) (Some rest) (Some behind) p q h g within = λ more end from.
    subst (λ its. ItemsFrom (pos 0) 0 bytes its end) (sym (append_assoc items (item ∷ []) more))
    (h (item ∷ more) end (g.text, behind, g.is_item, g.taken, subst (λ n. n ≤ most_spool) g.counted within, subst (λ n. ItemsFrom (pos 0) n behind more end) g.counted from))

module _ (before old new : Option (List ℕ)) (p q receipt : ℕ) (table after : Table) (h : SoFar before old p receipt table) (within : q ≤ most_spool) where
  pub command_more : (c : Command) → next.Gives (pos 0) (command c) p q old new → TakesIn c (receipt + 1) table after → SoFar before new q (receipt + 1) after
  command_more c g t =
      let one : receipt + 1 ≡ suc receipt = omega arith in
      record {
        items = h.items ++ command c ∷ [];
        follows = subst (λ n. Follows (h.items ++ command c ∷ []) n after) (sym one) (follows_command h.items c receipt table after (command_is_item c g.text g.is_item) h.follows (subst (λ n. TakesIn c n table after) one t));
        goes_on = goes_more (command c) h.items before old new p q h.goes_on g within;
      }

  pub sweep_more : (kinds : Kinds) (m : ℤ) → next.Gives (pos 0) (sweep kinds m) p q old new → after ≡ steps.sweep kinds m table → SoFar before new q receipt after
  sweep_more kinds m g e = record {
    items = h.items ++ sweep kinds m ∷ [];
    follows = follows_sweep h.items kinds m receipt table after (g.is_item.stamp, g.is_item.moment) h.follows e;
    goes_on = goes_more (sweep kinds m) h.items before old new p q h.goes_on g within;
  }

-- ---- at the end

whole_spool : (items : List Item) (before old : Option (List ℕ)) (p : ℕ) → GoesOn before old p items → IsAtEnd old → IfSome before (λ b. SpoolOf (pos 0) b items whole)
whole_spool items None old p h e = tt
whole_spool items (Some bytes) None p h e = absurd h
whole_spool items (Some bytes) (Some rest) p h e = subst (λ its. ItemsFrom (pos 0) 0 bytes its whole) (append-nil items) (h [] whole e)

pub at_end : (before old : Option (List ℕ)) (p receipt : ℕ) (table : Table) → SoFar before old p receipt table → IsAtEnd old → IsOneThread before table
at_end before old p receipt table h e =
    let history = h.follows.history in
    let thread : OneThread h.items history = subst (λ its. LeadsTo 1 its [] history) (append-nil h.items) (h.follows.thread [] history refl) in
    let made : table ≡ table_of default_ttls history = h.follows.table_is ∙ one_thread_is_followed default_ttls h.items history h.follows.are_items thread in
    let ttls : table.ttls ≡ default_ttls = ap (λ (t : Table). t.ttls) made in
    record {
      items = h.items;
      history = history;
      spool = whole_spool h.items before old p h.goes_on e;
      thread = thread;
      ttls = ttls;
      stands = (one_thread_makes_a_trace h.items history h.follows.are_items thread, made ∙ ap (λ t. table_of t history) (sym ttls));
    }

fault : (items : List Item) (before old : Option (List ℕ)) (p : ℕ) → GoesOn before old p items → IfSome old (next.IsBad (pos 0) p) → IfSome before (FaultsAt p)
fault items None old p h b = tt
fault items (Some bytes) None p h b = absurd h
fault items (Some bytes) (Some rest) p h b =
    (items, subst (λ its. ItemsFrom (pos 0) 0 bytes its (bad_at p)) (append-nil items) (h [] (bad_at p) (refl, b.some, b.no_item)))

pub at_fault : (before old : Option (List ℕ)) (p receipt : ℕ) (table : Table) → SoFar before old p receipt table → IfSome old (next.IsBad (pos 0) p) → IfSome before (FaultsAt p)
at_fault before old p receipt table h b = fault h.items before old p h.goes_on b
