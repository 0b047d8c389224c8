-- Statements on the payloads of a dump.
use Rattle.std.specs.Prelude.{◌≡◌, Ok}
use Rattle.dump_spec.specs.fleet_rows.Change.{change_kind}
use Rattle.dump_spec.specs.fleet_rows.declared.change.Change.{Change}
use Rattle.dump_spec.specs.history_spec.Lawful.{IsChange}
use Rattle.dump_spec.specs.wire_spec.Table.{value_change}
use Rattle.dump_spec.specs.Payloads.{payload_of}

-- the value of a payload stands for the change that it was made of
abbrev pub PayloadsHaveTheirChange : Type 0
PayloadsHaveTheirChange = (c : Change) → IsChange c → value_change (change_kind c) (payload_of c) ≡ Ok c
