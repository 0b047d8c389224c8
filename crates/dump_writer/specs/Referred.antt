-- The changes of the tables, as the code refers to them, and the text of a change's command.
use Rattle.std.specs.Prelude.{ℕ, ◌≤◌, pos, List, length}
use Rattle.dump_laws.specs.dump_spec.fleet_rows.declared.change.Change.{Change}
use Rattle.dump_laws.specs.dump_spec.fleet_rows.declared.change.Change.TheVariants as change
use Rattle.dump_laws.specs.dump_spec.json_tree.Limits.{most_payload}
use Rattle.dump_laws.specs.dump_spec.list_again.Whole.{empty_report}
use Rattle.dump_laws.specs.dump_spec.spool_spec.Spool.{command_text}
use Rattle.dump_laws.specs.dump_spec.text_spec.Compact.{compact}
use Rattle.dump_laws.specs.dump_spec.Payloads.{payload_of, command_of}
use Rattle.dump_writer.specs.declared.referred.ChangeRef.{ChangeRef}
use Rattle.dump_writer.specs.declared.referred.ChangeRef.TheVariants.{Facts, Catalog, Report, Deactivate, Expiration, Empty}

abbrev pub change_referred : ChangeRef → Change
change_referred (Facts c) = change.Facts c.now
change_referred (Catalog c) = change.Catalog c.now
change_referred (Report r) = change.Report r.now
change_referred (Deactivate c) = change.Deactivate c.now
change_referred (Expiration c) = change.Expiration c.now
change_referred (Empty certname stamp) = empty_report certname.now stamp

-- the text of the change's command in a spool
abbrev pub change_text : Change → List ℕ
change_text c = command_text (command_of (pos 0) c)

-- its payload doesn't pass the limit of payloads
abbrev pub IsShort : Change → Type 0
IsShort c = length (compact (payload_of c)) ≤ most_payload
