-- The command of a change decodes to the change, and a thread makes of such commands the history that is told.
use Rattle.std.proofs.Common.{◌≡◌, ℕ, suc, ◌+◌, ℤ, List, [], ◌∷◌, ◌++◌, length, map, arith, refl, sym, subst, Some, None, Option, Result, Ok}
use Rattle.std.specs.List.{AllByRecursion, flat_map}
use Rattle.dump_spec.specs.fleet_rows.declared.change.Change.{Change}
use Rattle.dump_spec.specs.fleet_rows.declared.refusal.Refusal.{Refusal}
use Rattle.dump_spec.specs.history_spec.Lawful.{IsChange}
use Rattle.dump_spec.specs.history_spec.Thread.{Item, command, LeadsTo, OneThread, with_answer}
use Rattle.dump_spec.specs.history_spec.Trace.{Trace, applied, applied_as}
use Rattle.dump_spec.specs.table_machine.Table.{Table}
use Rattle.dump_spec.specs.wire_spec.Decode.{DecodeOf}
use Rattle.dump_spec.specs.wire_spec.Decode as decode
use Rattle.dump_spec.specs.checkpoint_spec.Histories.{with_events}
use Rattle.dump_spec.specs.list_again.Told.{expire_alone, reports_alone, swept_if}
use Rattle.dump_spec.specs.Dumps.{node_changes, sweep_if, dump_items}
use Rattle.dump_spec.specs.Payloads.{payload_of, command_of}
use Rattle.dump_spec.proofs.of_json_machine.Spelled.{compact_spells}
use Rattle.dump_spec.proofs.of_wire_laws.OneAnswer.{commands_have_one_answer}
use Rattle.dump_laws.proofs.Decoded.{payloads_have_their_change}
use Rattle.dump_laws.specs.Again.{numbered, dump_history}
use Rattle.dump_laws.specs.Laws.{CommandsDecodeToTheirChange}
use Rattle.dump_laws.proofs.PayloadValues.{payload_within}

pub commands_decode : CommandsDecodeToTheirChange
commands_decode received c h =
    let within = payload_within c h in
    decode.value (payload_of c) refl (compact_spells (payload_of c) within.value within.few) (sym (payloads_have_their_change c h))

-- ---- one thread

plus_none : (r : ℕ) → r + 0 ≡ r
plus_none r = omega arith

plus_one : (r n : ℕ) → suc r + n ≡ r + suc n
plus_one r n = omega arith

module _ (received : ℤ) where
  abbrev commands : List Change → List Item
  commands cs = map (λ c. command (command_of received c)) cs

  leads : (receipt : ℕ) (cs : List Change) (rest : List Item) (before after : Trace) → AllByRecursion IsChange cs
      → LeadsTo receipt (commands cs ++ rest) before after → LeadsTo (receipt + length cs) rest (with_events (numbered received receipt cs) before) after
  leads receipt [] rest before after all h = subst (λ r. LeadsTo r rest before after) (sym (plus_none receipt)) h
  leads receipt (c ∷ cs) rest before after all h =
      let same : h.0 ≡ Ok c = commands_have_one_answer (command_of received c) h.0 (Ok c) h.1 (commands_decode received c all.0) in
      let next = subst (λ (answer : Result Change Refusal). LeadsTo (suc receipt) (commands cs ++ rest) (with_answer receipt received answer before) after) same h.2 in
      subst (λ r. LeadsTo r rest (with_events (numbered received receipt (c ∷ cs)) before) after) (plus_one receipt (length cs))
      (leads (suc receipt) cs rest (applied (applied_as receipt (Some received) c) ∷ before) after all.1 next)

  -- the sweeps come last
  sweeps : (receipt : ℕ) (expiry retention : Option ℤ) (before after : Trace) → LeadsTo receipt (sweep_if expire_alone expiry ++ sweep_if reports_alone retention) before after
      → after ≡ swept_if reports_alone retention (swept_if expire_alone expiry before)
  sweeps receipt None None before after h = h
  sweeps receipt None (Some r) before after h = h
  sweeps receipt (Some e) None before after h = h
  sweeps receipt (Some e) (Some r) before after h = h

  pub thread_is : (table : Table) (again : Trace) → AllByRecursion IsChange (flat_map node_changes table.nodes) → OneThread (dump_items received table) again → again ≡ dump_history received table
  thread_is table again all h =
      let cs = flat_map node_changes table.nodes in
      sweeps (1 + length cs) table.expiry table.retention (with_events (numbered received 1 cs) []) again
      (leads 1 cs (sweep_if expire_alone table.expiry ++ sweep_if reports_alone table.retention) [] again all h)
