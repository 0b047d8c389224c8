use Rattle.std.proofs.Common.{◌≡◌, drop}
use Rattle.std.specs.Prelude.{bytes_eq}
use Rattle.std.specs.List.{list_all}
use Rattle.http_spec.specs.Framing.{values_of}
use Rattle.http_front.proofs.fields.all_equal.Given as goal

abbrev pub invariant-loop-head : goal.invariant-loop-head
invariant-loop-head l =
    list_all (λ other. bytes_eq other l.value) (values_of l.name (drop l.head-index l.heads))
    ≡ list_all (λ other. bytes_eq other l.value) (values_of l.name l.heads)
