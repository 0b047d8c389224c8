-- What a node has belongs to it.
use Rattle.std.specs.Prelude.{◌≡◌, ℕ, List, IfSome}
use Rattle.std.specs.List.{AllByRecursion}
use Rattle.checkpoint_spec.specs.fleet_rows.Change.{change_certname}
use Rattle.checkpoint_spec.specs.fleet_rows.declared.applied.Applied.{Applied}
use Rattle.checkpoint_spec.specs.table_machine.Table.{Node}

-- the command is of the node with this certname
abbrev pub IsOf : List ℕ → Applied → Type 0
IsOf certname x = change_certname x.change ≡ certname

-- the commands whose rows the node shows are its own
abbrev pub IsOwn : Node → Type 0
IsOwn node = IfSome node.facts (IsOf node.certname) × IfSome node.catalog (IsOf node.certname) × AllByRecursion (IsOf node.certname) node.reports
