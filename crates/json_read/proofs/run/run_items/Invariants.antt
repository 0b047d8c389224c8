use Rattle.std.proofs.Common.{length, ◌-◌, ◌∷◌, ◌≡◌, ◌≤◌, List, drop}
use Rattle.json_machine.specs.text_spec.Json.{items_of, items_levels}
use Rattle.json_machine.specs.Machine.{Frame, verdict, in_array, value}
use Rattle.json_read.proofs.run.run_items.Given as goal

abbrev pub invariant-items : goal.invariant-items
invariant-items l = record {
  past : l.start ≤ l.at;
  within : l.at ≤ length l.bytes;
  levels : items_levels (items_of l.items) ≡ items_levels (items_of l.fn.items);
  same : (fs : List Frame) → verdict 127 (in_array l.fn.items ∷ fs) value l.start (drop l.start l.bytes) ≡ verdict 127 (in_array l.items ∷ fs) value l.at (drop l.at l.bytes);
}

abbrev pub decreases-items : goal.decreases-items
decreases-items l = length l.bytes - l.at
