-- The printed line of a status that isn't `Done`.
use Rattle.std.proofs.Common.{◌≡◌, refl, [], ◌∷◌, ◌++◌}
use Rattle.calm_commands.specs.StatusText.{status_line, printed_line}
use Rattle.calm_commands.specs.declared.status.Status.{Status}
use Rattle.calm_commands.specs.declared.status.Status.TheVariants.{Done}

pub printed : (s : Status) → (s ≡ Done → ⊥) → status_line s ++ 10 ∷ [] ≡ printed_line s
printed Done apart = absurd (apart refl)
printed s apart = refl
