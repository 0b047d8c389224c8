use Rattle.std.proofs.Common.{◌≡◌, drop}
use Rattle.http_spec.specs.Framing.{values_of, first_of}
use Rattle.http_spec.proofs.fields.first_value.Given as goal

abbrev pub invariant-loop-head : goal.invariant-loop-head
invariant-loop-head l = first_of (values_of l.name (drop l.head-index l.heads)) ≡ first_of (values_of l.name l.heads)
