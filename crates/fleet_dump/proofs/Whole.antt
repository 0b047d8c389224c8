-- The whole dump, and that it is a spool which leads back.
use Rattle.std.proofs.Common.{◌≡◌, ◌∙◌, ℕ, ◌+◌, ◌≤◌, ℤ, pos, List, [], ◌∷◌, ◌++◌, length, map, refl, sym, ap, subst, arith, append-nil, true, false, Option}
use Rattle.std.specs.List.{AllByRecursion, flat_map}
use Rattle.std.specs.Io.KnownBytes.{Appends}
use Rattle.std.proofs.KnownBytes.{Appends-trans}
use Rattle.spool_maker.proofs.Fronts.{less_of_all}
use Rattle.dump_writer.specs.dump_spec.fleet_rows.declared.change.Change.{Change}
use Rattle.dump_writer.specs.dump_spec.fleet_rows.declared.row.Entity.{Entity}
use Rattle.dump_writer.specs.dump_spec.history_spec.Lawful.{HasStamp}
use Rattle.dump_writer.specs.dump_spec.history_spec.Thread.{Item, OneThread}
use Rattle.dump_writer.specs.dump_spec.history_spec.Trace.{Trace}
use Rattle.dump_writer.specs.dump_spec.json_tree.Limits.{most_payload}
use Rattle.dump_writer.specs.dump_spec.spool_spec.Limits.{most_spool}
use Rattle.dump_writer.specs.dump_spec.spool_spec.Spool.{SpoolOf, whole}
use Rattle.dump_writer.specs.dump_spec.table_machine.Table.{Table}
use Rattle.dump_writer.specs.dump_spec.table_spec.Rows.{rows}
use Rattle.dump_writer.specs.dump_spec.text_spec.Compact.{compact}
use Rattle.dump_writer.specs.dump_spec.Dumps.{node_changes, dump_items, dump_text}
use Rattle.dump_writer.specs.dump_spec.Payloads.{payload_of}
use Rattle.dump_writer.specs.dump_laws.Laws.{HaveShortPayloads}
use Rattle.dump_writer.specs.dump_laws.RowLaws.{untold}
use Rattle.dump_writer.proofs.of_dump_laws.LeadsBack.{dumps_are_spools, dumps_lead_back}
use Rattle.fleet_tables.specs.Stands.{Stands}
use Rattle.fleet_dump.specs.Printed.{change_item, items_text, node_items, sweep_items, IsShortItem, Prints, PrintsLess, PrintsFront, Sent, MatchDumped}
use Rattle.fleet_dump.specs.declared.printer.Dumped.{Dumped}
use Rattle.fleet_dump.specs.declared.printer.Dumped.TheVariants.{Ok, WriteFault, Memory}
use Rattle.fleet_dump.proofs.Listed.{node_by_node}

-- the nodes' items and the two sweeps
pub items_are : (table : Table) → flat_map node_items table.nodes ++ (sweep_items false table.expiry ++ sweep_items true table.retention) ≡ dump_items (pos 0) table
items_are table = ap (λ t. t ++ (sweep_items false table.expiry ++ sweep_items true table.retention)) (node_by_node table.nodes)

text_is : (table : Table) → items_text (dump_items (pos 0) table) ≡ dump_text table
unfolding dump_text
text_is table = refl

-- ---- all of it was written

module _ (table : Table) (old mid : List ℕ) (a b c : Option (List ℕ)) (room left : ℕ) (none : old ≡ []) where
  from_none : Prints (dump_items (pos 0) table) old mid a b room left → (went : List ℕ) × (went ++ mid ≡ dump_text table) × Appends a b went
  from_none p = (p.went, p.joined ∙ ap (λ t. t ++ items_text (dump_items (pos 0) table)) none ∙ text_is table, p.appended)

  pub all_written : Prints (dump_items (pos 0) table) old mid a b room left → (went now : List ℕ) → went ++ now ≡ mid → now ≡ [] → Appends b c went → Appends a c (dump_text table)
  all_written p went now sent end h =
      let first = from_none p in
      let same : first.0 ++ went ≡ dump_text table =
      ap (λ t. first.0 ++ t) (sym (append-nil went) ∙ ap (λ t. went ++ t) (sym end) ∙ sent) ∙ first.1 in
      subst (Appends a c) same (Appends-trans a b c first.0 went first.2 h)

  pub less_written : Prints (dump_items (pos 0) table) old mid a b room left → PrintsLess mid b c → PrintsLess (dump_text table) a c
  less_written p less =
      let first = from_none p in
      less_of_all a b c first.0 mid [] (dump_text table) less.0 (sym first.1 ∙ sym (append-nil (first.0 ++ mid))) first.2 less.1 less.2

  pub less_is : PrintsLess (old ++ items_text (dump_items (pos 0) table)) a b → PrintsLess (dump_text table) a b
  less_is p = subst (λ (t : List ℕ). PrintsLess t a b) (ap (λ t. t ++ items_text (dump_items (pos 0) table)) none ∙ text_is table) p

  pub front_is : PrintsFront (old ++ items_text (dump_items (pos 0) table)) a b → PrintsFront (dump_text table) a b
  front_is p = subst (λ (t : List ℕ). PrintsFront t a b) (ap (λ t. t ++ items_text (dump_items (pos 0) table)) none ∙ text_is table) p

-- ---- a spool

shorts : (cs : List Change) (rest : List Item) → AllByRecursion IsShortItem (map change_item cs ++ rest) → AllByRecursion (λ c. length (compact (payload_of c)) ≤ most_payload) cs
shorts [] rest all = tt
shorts (c ∷ cs) rest all = (all.0, shorts cs rest all.1)

few_are : (room left n m : ℕ) → room ≡ left + n → room ≡ m → n ≤ m
few_are room left n m is most = omega (arith, is, most)

pub is_spool : (table : Table) (old mid : List ℕ) (a b : Option (List ℕ)) (room left : ℕ) → Prints (dump_items (pos 0) table) old mid a b room left → room ≡ most_spool
    → (history : Trace) (received : ℤ) → Stands table history → SpoolOf received (dump_text table) (dump_items received table) whole
is_spool table old mid a b room left p full history received stands =
    let short = shorts (flat_map node_changes table.nodes) (sweep_items false table.expiry ++ sweep_items true table.retention) p.short in
    let few : length (dump_text table) ≤ most_spool = few_are room left (length (dump_text table)) most_spool (p.room_is ∙ ap (λ t. left + length t) (text_is table)) full in
    subst (λ (t : Table). SpoolOf received (dump_text t) (dump_items received t) whole) (sym stands.1)
    (dumps_are_spools table.ttls history received stands.0 (subst HaveShortPayloads stands.1 short) (subst (λ (t : Table). length (dump_text t) ≤ most_spool) stands.1 few))

-- ---- that leads back

pub leads_back : (table : Table) (entity : Entity) (history again : Trace) (received : ℤ) → Stands table history → HasStamp received → OneThread (dump_items received table) again
    → map (untold entity) (rows entity table.ttls again) ≡ map (untold entity) (rows entity table.ttls history)
leads_back table entity history again received stands stamp thread =
    dumps_lead_back entity table.ttls history again received stands.0 stamp (subst (λ (t : Table). OneThread (dump_items received t) again) stands.1 thread)

-- ---- by the end

pub whole_sent : (r : Dumped) (table : Table) (old mid now : List ℕ) (a b c : Option (List ℕ)) (room left : ℕ) → old ≡ [] → Prints (dump_items (pos 0) table) old mid a b room left → Sent r mid now b c
    → (r ≡ Ok → now ≡ []) → MatchDumped r (dump_text table) a c
whole_sent Ok table old mid now a b c room left none p s end = all_written table old mid a b c room left none p s.0 now s.1 (end refl) s.2
whole_sent WriteFault table old mid now a b c room left none p s end = less_written table old mid a b c room left none p s
whole_sent Memory table old mid now a b c room left none p s end = absurd s
