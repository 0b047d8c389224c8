use Rattle.std.proofs.Common.{◌≡◌, drop}
use Rattle.std.specs.Prelude.{codes}
use Rattle.std.specs.List.{list_any}
use Rattle.http_spec.specs.Framing.{values_of, says_close}
use Rattle.http_front.proofs.fields.any_says_close.Given as goal

abbrev pub invariant-loop-head : goal.invariant-loop-head
invariant-loop-head l =
    list_any says_close (values_of (codes "connection") (drop l.head-index l.heads)) ≡ list_any says_close (values_of (codes "connection") l.heads)
