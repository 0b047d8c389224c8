-- How far a dump is written: what the sink has of it, what is left in the text, and how many further bytes the spool may have.
use Rattle.std.specs.Prelude.{◌≡◌, ℕ, ◌+◌, ◌<◌, ◌≤◌, ℤ, pos, List, ◌++◌, length, take, map, flat_map, Bool, Option, if◌then◌else◌}
use Rattle.std.specs.Io.KnownBytes.{Appends}
use Rattle.std.specs.List.{AllByRecursion}
use Rattle.dump_writer.specs.dump_spec.fleet_rows.declared.change.Change.{Change}
use Rattle.dump_writer.specs.dump_spec.history_spec.Thread.{Item, command, sweep}
use Rattle.dump_writer.specs.dump_spec.json_tree.Limits.{most_payload}
use Rattle.dump_writer.specs.dump_spec.list_again.Told.{expire_alone, reports_alone}
use Rattle.dump_writer.specs.dump_spec.table_machine.Table.{Node}
use Rattle.dump_writer.specs.dump_spec.Dumps.{node_changes, sweep_if, item_text}
use Rattle.dump_writer.specs.dump_spec.Payloads.{command_of}
use Rattle.fleet_dump.specs.declared.printer.Dumped.{Dumped}
use Rattle.fleet_dump.specs.declared.printer.Dumped.TheVariants.{Ok, WriteFault, Memory}

-- ---- items

-- no text tells when a command was received
abbrev pub change_item : Change → Item
change_item c = command (command_of (pos 0) c)

abbrev pub node_items : Node → List Item
node_items node = map change_item (node_changes node)

abbrev pub sweep_items : Bool → Option ℤ → List Item
sweep_items reports moment = sweep_if (if reports then reports_alone else expire_alone) moment

abbrev pub items_text : List Item → List ℕ
items_text = flat_map item_text

-- a command's payload doesn't pass its limit
abbrev pub IsShortItem : Item → Type 0
IsShortItem (command c) = length c.payload ≤ most_payload
IsShortItem (sweep kinds m) = Unit {0}

-- ---- progress

-- the items were added to the text, which takes their bytes from the room
pub record Adds (items : List Item) (old now : List ℕ) (room left : ℕ) : Type 0 where
  pub text : now ≡ old ++ items_text items
  pub room_is : room ≡ left + length (items_text items)
  pub short : AllByRecursion IsShortItem items

-- the items were added to the text, of which a front went out
pub record Prints (items : List Item) (old now : List ℕ) (before after : Option (List ℕ)) (room left : ℕ) : Type 0 where
  pub went : List ℕ
  pub joined : went ++ now ≡ old ++ items_text items
  pub appended : Appends before after went
  pub room_is : room ≡ left + length (items_text items)
  pub short : AllByRecursion IsShortItem items

-- less than the text went out
abbrev pub PrintsLess : List ℕ → Option (List ℕ) → Option (List ℕ) → Type 0
PrintsLess text before after = (taken : ℕ) × (taken < length text) × Appends before after (take taken text)

-- a front of the text went out, which may be all of it
abbrev pub PrintsFront : List ℕ → Option (List ℕ) → Option (List ℕ) → Type 0
PrintsFront text before after = (taken : ℕ) × (taken ≤ length text) × Appends before after (take taken text)

abbrev pub Printed : Dumped → List Item → List ℕ → List ℕ → Option (List ℕ) → Option (List ℕ) → ℕ → ℕ → Type 0
Printed Ok items old now before after room left = Prints items old now before after room left
Printed WriteFault items old now before after room left = PrintsLess (old ++ items_text items) before after
Printed Memory items old now before after room left = PrintsFront (old ++ items_text items) before after

-- of the text in the buffer a front went out, and the rest is left
abbrev pub Sent : Dumped → List ℕ → List ℕ → Option (List ℕ) → Option (List ℕ) → Type 0
Sent Ok old now before after = (went : List ℕ) × (went ++ now ≡ old) × Appends before after went
Sent WriteFault old now before after = PrintsLess old before after
Sent Memory old now before after = ⊥

-- ---- the whole dump

-- On success the whole dump was appended. After a write fault a shorter prefix was. Without memory a prefix was
abbrev pub MatchDumped : Dumped → List ℕ → Option (List ℕ) → Option (List ℕ) → Type 0
MatchDumped Ok text before after = Appends before after text
MatchDumped WriteFault text before after = PrintsLess text before after
MatchDumped Memory text before after = PrintsFront text before after
