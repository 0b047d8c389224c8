use Rattle.std.proofs.Common.{◌≡◌, ◌≤◌, ◌-◌, drop, length}
use Rattle.pql_machine.specs.Least.{need}
use Rattle.pql_parts.specs.States.{state_of}
use Rattle.pql_reader.specs.Goes.{Reached}
use Rattle.pql_reader.proofs.read.read_level.Given as goal
use Rattle.query_spec.specs.Limits.{most_depth}

abbrev pub invariant-tokens : goal.invariant-tokens
invariant-tokens l = record {
  within : l.at ≤ length l.text;
  few : l.number ≤ l.at;
  shallow : need (state_of l.frames l.state) ≤ most_depth;
  reached : Reached l.text (state_of l.frames l.state) l.number (drop l.at l.text);
}

abbrev pub decreases-tokens : goal.decreases-tokens
decreases-tokens l = length l.text - l.at
