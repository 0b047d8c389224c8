-- Statements on dumps: what their payloads decode to, that they are spools, and where they lead.
use Rattle.std.specs.Prelude.{◌≡◌, ◌≤◌, ℤ, length, map, flat_map, Ok}
use Rattle.std.specs.List.{AllByRecursion}
use Rattle.dump_spec.specs.text_spec.Compact.{compact}
use Rattle.dump_spec.specs.fleet_rows.declared.change.Change.{Change}
use Rattle.dump_spec.specs.fleet_rows.declared.row.Entity.{Entity}
use Rattle.dump_spec.specs.fleet_rows.declared.settings.Ttls.{Ttls}
use Rattle.dump_spec.specs.history_spec.Lawful.{HasStamp, IsChange}
use Rattle.dump_spec.specs.history_spec.Thread.{OneThread}
use Rattle.dump_spec.specs.history_spec.Trace.{Trace, IsTrace}
use Rattle.dump_spec.specs.json_tree.Limits.{most_payload}
use Rattle.dump_spec.specs.spool_spec.Limits.{most_spool}
use Rattle.dump_spec.specs.spool_spec.Spool.{SpoolOf, whole}
use Rattle.dump_spec.specs.table_machine.Table.{Table, table_of}
use Rattle.dump_spec.specs.table_spec.Rows.{rows}
use Rattle.dump_spec.specs.wire_spec.Decode.{DecodeOf}
use Rattle.dump_spec.specs.Dumps.{node_changes, dump_items, dump_text}
use Rattle.dump_spec.specs.Payloads.{payload_of, command_of}
use Rattle.dump_laws.specs.RowLaws.{untold}

-- the command of a change decodes to the change
abbrev pub CommandsDecodeToTheirChange : Type 0
CommandsDecodeToTheirChange = (received : ℤ) (c : Change) → IsChange c → DecodeOf (command_of received c) (Ok c)

-- no payload of the dump passes the limit of payloads
abbrev pub HaveShortPayloads : Table → Type 0
HaveShortPayloads table = AllByRecursion (λ c. length (compact (payload_of c)) ≤ most_payload) (flat_map node_changes table.nodes)

-- where neither a payload nor the whole passes its limit, the bytes are a spool of the items
abbrev pub DumpsAreSpools : Type 0
DumpsAreSpools =
    (ttls : Ttls) (history : Trace) (received : ℤ) → IsTrace history
    → HaveShortPayloads (table_of ttls history) → length (dump_text (table_of ttls history)) ≤ most_spool
    → SpoolOf received (dump_text (table_of ttls history)) (dump_items received (table_of ttls history)) whole

-- one thread with the same settings makes of these items a history with the same rows, but for the moments of receipt
abbrev pub DumpsLeadBack : Type 0
DumpsLeadBack =
    (entity : Entity) (ttls : Ttls) (history again : Trace) (received : ℤ) → IsTrace history → HasStamp received
    → OneThread (dump_items received (table_of ttls history)) again
    → map (untold entity) (rows entity ttls again) ≡ map (untold entity) (rows entity ttls history)

-- the table of that history has the greatest sweeps of the dumped table, also those that change no row
abbrev pub SweepsComeBack : Type 0
SweepsComeBack =
    (ttls : Ttls) (history again : Trace) (received : ℤ) → IsTrace history → OneThread (dump_items received (table_of ttls history)) again
    → ((table_of ttls again).expiry ≡ (table_of ttls history).expiry) × ((table_of ttls again).retention ≡ (table_of ttls history).retention)
