-- Taking the commands of one node from the start of a list.
use Rattle.std.specs.Prelude.{◌≡◌, ℕ, List, [], ◌∷◌, Bool, true, false, Option, Some, None}
use Rattle.std.specs.Str.{bytes_eq}
use Rattle.core_state.specs.fleet_rows.Change.{change_certname}
use Rattle.core_state.specs.fleet_rows.declared.applied.Applied.{Applied}
use Rattle.core_state.specs.compact_laws.Records.{own, others}

-- the first command belongs to the node
abbrev pub is_own_next : List ℕ → List Applied → Bool
is_own_next certname [] = false
is_own_next certname (x ∷ xs) = bytes_eq certname (change_certname x.change)

-- it was taken; or the first command belongs to another node, or none is left
abbrev pub IsTaken : List ℕ → List Applied → List Applied → Option Applied → Type 0
IsTaken certname old new None = (new ≡ old) × (own certname old ≡ []) × (others certname old ≡ old)
IsTaken certname old new (Some x) = (bytes_eq certname (change_certname x.change) ≡ true) × (old ≡ x ∷ new)
