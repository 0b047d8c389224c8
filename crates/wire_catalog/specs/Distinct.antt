-- Edges in the order of the payload, and which of them are new.
use Rattle.std.specs.Prelude.{◌≡◌, ℕ, List, [], ◌∷◌, ◌++◌, Bool, not, if◌then◌else◌}
use Rattle.std.specs.List.{list_any}
use Rattle.wire_fields.specs.fleet_rows.declared.catalog.Edge.{Edge}
use Rattle.wire_fields.specs.wire_spec.Table.{is_edge, relationship_name}

-- for each edge, whether it differs from all edges before it
abbrev pub news : List Edge → List Edge → List Bool
news before [] = []
news before (e ∷ es) = not (list_any (λ f. is_edge f e) before) ∷ news (before ++ e ∷ []) es

-- the edges that are marked true
abbrev pub kept : List Edge → List Bool → List Edge
kept [] bs = []
kept (e ∷ es) [] = []
kept (e ∷ es) (b ∷ bs) = if b then e ∷ kept es bs else kept es bs

-- the texts by which edges are compared
abbrev pub IsEdgeKey : Edge → List ℕ × List ℕ × List ℕ × List ℕ × List ℕ → Type 0
IsEdgeKey e k = (k.0 ≡ e.source.rtype) × (k.1 ≡ e.source.title) × (k.2 ≡ e.target.rtype) × (k.3 ≡ e.target.title) × (k.4 ≡ relationship_name e.relationship)
