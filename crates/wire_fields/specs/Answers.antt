-- The answers of a reader that allocates.
use Rattle.std.specs.Prelude.{◌≡◌, Result, Ok, Err}
use Rattle.wire_spec.specs.Table.{Checked}
use Rattle.wire_fields.specs.declared.fault.WireFault.{WireFault}
use Rattle.wire_fields.specs.declared.fault.WireFault.TheVariants.{Refused, Memory}

-- the fault is the table's refusal, or lack of memory
abbrev pub Fails : {A : Type 0} → WireFault → Checked A → Type 0
Fails (Refused refusal) table = table ≡ Err refusal
Fails Memory table = Unit {0}

-- unless memory runs out, the result is the table's answer: the same value or the same refusal
abbrev pub Gives : {A : Type 0} → Result A WireFault → Checked A → Type 0
Gives (Ok a) table = table ≡ Ok a
Gives (Err fault) table = Fails fault table

-- the same with a result seen through `view`
abbrev pub GivesBy : {X A : Type 0} → (X → A) → Result X WireFault → Checked A → Type 0
GivesBy view (Ok x) table = table ≡ Ok (view x)
GivesBy view (Err fault) table = Fails fault table
