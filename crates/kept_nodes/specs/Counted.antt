-- Numbers of rows, by entity.
use Rattle.std.specs.Prelude.{◌≡◌, ℕ, ◌+◌, ◌-◌, ◌≤◌, ◌^◌, List, [], ◌∷◌, length, map, take, Option, Some, None}
use Rattle.checkpoint_spec.specs.fleet_rows.declared.change.Change.{Change}
use Rattle.checkpoint_spec.specs.fleet_rows.declared.change.Change.TheVariants as change
use Rattle.checkpoint_spec.specs.fleet_rows.declared.row.Entity.{Entity}
use Rattle.checkpoint_spec.specs.fleet_rows.declared.row.Entity.TheVariants.{Nodes, Factsets, Facts, Catalogs, Resources, Edges, Reports}
use Rattle.kept_nodes.specs.declared.counts.Counts.{Counts}
use Rattle.kept_nodes.specs.declared.kept.Factset.{Factset}
use Rattle.kept_nodes.specs.declared.kept.NodeCatalog.{NodeCatalog}
use Rattle.kept_nodes.specs.declared.node.Node.{Node}

abbrev pub none : Counts
none = record { factsets = 0; facts = 0; catalogs = 0; resources = 0; edges = 0; reports = 0; nodes = 0 }

abbrev pub plus : Counts → Counts → Counts
plus a b = record {
  factsets = a.factsets + b.factsets;
  facts = a.facts + b.facts;
  catalogs = a.catalogs + b.catalogs;
  resources = a.resources + b.resources;
  edges = a.edges + b.edges;
  reports = a.reports + b.reports;
  nodes = a.nodes + b.nodes;
}

-- the numbers of a minus those of its part b
abbrev pub less : Counts → Counts → Counts
less a b = record {
  factsets = a.factsets - b.factsets;
  facts = a.facts - b.facts;
  catalogs = a.catalogs - b.catalogs;
  resources = a.resources - b.resources;
  edges = a.edges - b.edges;
  reports = a.reports - b.reports;
  nodes = a.nodes - b.nodes;
}

-- no number of the part exceeds that of the whole
abbrev pub IsPart : Counts → Counts → Type 0
IsPart part whole =
    (part.factsets ≤ whole.factsets) × (part.facts ≤ whole.facts) × (part.catalogs ≤ whole.catalogs) × (part.resources ≤ whole.resources)
    × (part.edges ≤ whole.edges) × (part.reports ≤ whole.reports) × (part.nodes ≤ whole.nodes)

-- the number of one entity's rows. The tables have no rows of the other entities
abbrev pub count_of : Entity → Counts → ℕ
count_of Nodes c = c.nodes
count_of Factsets c = c.factsets
count_of Facts c = c.facts
count_of Catalogs c = c.catalogs
count_of Resources c = c.resources
count_of Edges c = c.edges
count_of Reports c = c.reports
count_of _ c = 0

-- the greatest number of rows that is counted, which no memory holds
abbrev pub limit : ℕ
limit = 2 ^ 62

abbrev pub IsWithin : Counts → Type 0
IsWithin c =
    (c.factsets ≤ limit) × (c.facts ≤ limit) × (c.catalogs ≤ limit) × (c.resources ≤ limit) × (c.edges ≤ limit) × (c.reports ≤ limit)
    × (c.nodes ≤ limit)

-- adds the rows of one node's facts
abbrev pub with_facts : Option Factset → Counts → Counts
with_facts None c = c
with_facts (Some kept) c = record c { factsets = 1; facts = length kept.change.values }

abbrev pub with_catalog : Option NodeCatalog → Counts → Counts
with_catalog None c = c
with_catalog (Some kept) c =
    record c { catalogs = 1; resources = length kept.change.resources; edges = length kept.change.edges }

abbrev pub counts : Node → Counts
counts node = with_facts node.facts (with_catalog node.catalog (record none { reports = length node.reports.items; nodes = 1 }))

-- the numbers of all nodes, added to the numbers before them
abbrev pub total_from : Counts → List Node → Counts
total_from before [] = before
total_from before (node ∷ nodes) = total_from (plus before (counts node)) nodes

-- each node stores the numbers of rows before it
abbrev pub AreCountedFrom : Counts → List Node → Type 0
AreCountedFrom before [] = Unit {0}
AreCountedFrom before (node ∷ nodes) = (node.before ≡ before) × AreCountedFrom (plus before (counts node)) nodes

-- for each node, the numbers before it and its own
abbrev pub numbers : List Node → List (Counts × Counts)
numbers = map (λ node. (node.before, counts node))

-- the nodes before this index are unchanged; without an index all numbers are unchanged
abbrev pub IsCountedBefore : Option ℕ → List Node → List Node → Type 0
IsCountedBefore None old new = numbers new ≡ numbers old
IsCountedBefore (Some at) old new = (at ≤ length new) × (take at new ≡ take at old)

-- the rows of a change, and one row for its node
abbrev pub counts_changed : Change → Counts
counts_changed (change.Facts c) = record none { factsets = 1; facts = length c.values; nodes = 1 }
counts_changed (change.Catalog c) = record none { catalogs = 1; resources = length c.resources; edges = length c.edges; nodes = 1 }
counts_changed (change.Report r) = record none { reports = 1; nodes = 1 }
counts_changed _ = record none { nodes = 1 }
