-- Marks of names: 64-bit numbers. Equal names have equal marks.
use Rattle.std.specs.Prelude.{ℕ, ◌+◌, ◌*◌, ◌%◌, ◌^◌, List, [], ◌∷◌, Bool, true, nat_lt, ◌&&◌}
use Rattle.wire_fields.specs.fleet_rows.declared.catalog.Edge.{Edge}
use Rattle.wire_fields.specs.fleet_rows.declared.catalog.Resource.{Resource}
use Rattle.wire_fields.specs.wire_spec.Table.{relationship_name}

abbrev pub next_mark : ℕ → ℕ → ℕ
next_mark m w = ((m * 11400714819323198485) % 2 ^ 64 + w) % 2 ^ 64

-- the bytes one by one
abbrev pub mark_each : ℕ → List ℕ → ℕ
mark_each m [] = m
mark_each m (a ∷ bs) = mark_each (next_mark m a) bs

-- four bytes at a time, and the rest one by one
abbrev pub mark_on : ℕ → List ℕ → ℕ
mark_on m [] = m
mark_on m (a ∷ []) = mark_each m (a ∷ [])
mark_on m (a ∷ b ∷ []) = mark_each m (a ∷ b ∷ [])
mark_on m (a ∷ b ∷ c ∷ []) = mark_each m (a ∷ b ∷ c ∷ [])
mark_on m (a ∷ b ∷ c ∷ d ∷ bs) = mark_on (next_mark m (a + b * 256 + c * 65536 + d * 16777216)) bs

abbrev pub resource_mark : Resource → ℕ
resource_mark r = mark_on (mark_on 0 r.rtype) r.title

abbrev pub edge_mark : Edge → ℕ
edge_mark e = mark_on (mark_on (mark_on (mark_on (mark_on 0 e.source.rtype) e.source.title) e.target.rtype) e.target.title) (relationship_name e.relationship)

-- each mark is above the one before it
abbrev pub rise_from : ℕ → List ℕ → Bool
rise_from m [] = true
rise_from m (n ∷ ns) = nat_lt m n && rise_from n ns

abbrev pub rise : List ℕ → Bool
rise [] = true
rise (m ∷ ms) = rise_from m ms
