-- The comparisons that sort rows.
use Rattle.std.specs.Prelude.{ℕ, List}
use Rattle.std.specs.Borrow.{Bor}
use Rattle.std.specs.declared.cmp.Ordering.{Ordering}
use Rattle.std.specs.Ordering.{ordering_then}
use Rattle.table_spec.specs.text_spec.Json as spec
use Rattle.table_spec.specs.text_spec.Compact.{text_cmp}
use Rattle.table_spec.specs.json_tree.declared.tree.Json.{Json}
use Rattle.table_spec.specs.json_tree.Tree.{json_of}
use Rattle.table_spec.specs.fleet_rows.declared.catalog.ResourceName.{ResourceName}

-- members are compared by name
abbrev pub name_cmp : List ℕ × spec.Json → List ℕ × spec.Json → Ordering
name_cmp m n = text_cmp m.0 n.0

-- resource names are compared by type, then by title
abbrev pub end_cmp : ResourceName → ResourceName → Ordering
end_cmp a b = ordering_then (text_cmp a.rtype b.rtype) (text_cmp a.title b.title)

-- the member of a reference that is paired with its index
abbrev pub member_at : ℕ × Bor (List ℕ) × Bor Json → List ℕ × spec.Json
member_at p = (p.1.now, json_of p.2.now)
