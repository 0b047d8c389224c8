-- How the faults of lower crates become faults of decoding.
use Rattle.wire_catalog.specs.fleet_rows.declared.refusal.Refusal.TheVariants.{NotJson, TooDeep}
use Rattle.json_read.specs.declared.fault.ReadFault.{ReadFault}
use Rattle.json_read.specs.declared.fault.ReadFault.TheVariants as read_fault
use Rattle.wire_catalog.specs.wire_fields.declared.fault.WireFault.{WireFault}
use Rattle.wire_catalog.specs.wire_fields.declared.fault.WireFault.TheVariants as wire_fault
use Rattle.command_decode.specs.declared.fault.DecodeFault.{DecodeFault}
use Rattle.command_decode.specs.declared.fault.DecodeFault.TheVariants.{Refused, Memory}

-- faults of the JSON reader
abbrev pub of_read : ReadFault → DecodeFault
of_read (read_fault.NotJson at) = Refused (NotJson at)
of_read (read_fault.TooDeep at) = Refused (TooDeep at)
of_read read_fault.Memory = Memory

-- faults of a wire format
abbrev pub of_wire : WireFault → DecodeFault
of_wire (wire_fault.Refused refusal) = Refused refusal
of_wire wire_fault.Memory = Memory
