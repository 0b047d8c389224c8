-- Statements on greatest moments: of a node's commands, and of sweeps.
use Rattle.std.specs.Prelude.{◌≡◌, ◌⊎◌, true, ℤ, ◌≤ℤ◌, List, Option, Some, None}
use Rattle.std.specs.List.{Contains}
use Rattle.spool_spec.specs.fleet_rows.declared.command.Kind.TheVariants as kind
use Rattle.spool_spec.specs.fleet_rows.declared.settings.Kinds.{Kinds}
use Rattle.spool_spec.specs.fleet_rows.declared.applied.Applied.{Applied}
use Rattle.spool_spec.specs.fleet_rows.Change.{change_kind, change_stamp}
use Rattle.spool_spec.specs.history_spec.Trace.{Trace, swept}
use Rattle.spool_spec.specs.history_spec.Node.{greatest_activity, greatest_deactivation}
use Rattle.spool_spec.specs.history_spec.Life.{greatest_expiry, greatest_retention}

-- the greatest moment for which P holds; none if P holds for no moment
abbrev pub IsGreatestOf : (ℤ → Type 0) → Option ℤ → Type 0
IsGreatestOf P None = (m : ℤ) → ¬ P m
IsGreatestOf P (Some greatest) = P greatest × ((m : ℤ) → P m → m ≤ℤ greatest)

-- some command in the list satisfies P and has this timestamp
abbrev pub HasStamped : (Applied → Type 0) → List Applied → ℤ → Type 0
HasStamped P xs m = (x : Applied) × Contains xs x × P x × (change_stamp x.change ≡ m)

-- some sweep with kinds that satisfy P has this moment
abbrev pub HasSwept : (Kinds → Type 0) → Trace → ℤ → Type 0
HasSwept P history m = (kinds : Kinds) × Contains history (swept kinds m) × P kinds

-- the command is facts, a catalog or a report
abbrev pub IsActivity : Applied → Type 0
IsActivity x = (change_kind x.change ≡ kind.Facts) ⊎ (change_kind x.change ≡ kind.Catalog) ⊎ (change_kind x.change ≡ kind.Report)

abbrev pub IsDeactivation : Applied → Type 0
IsDeactivation x = change_kind x.change ≡ kind.Deactivate

abbrev pub ActivityIsTheGreatest : Type 0
ActivityIsTheGreatest = (xs : List Applied) → IsGreatestOf (HasStamped IsActivity xs) (greatest_activity xs)

abbrev pub DeactivationIsTheGreatest : Type 0
DeactivationIsTheGreatest = (xs : List Applied) → IsGreatestOf (HasStamped IsDeactivation xs) (greatest_deactivation xs)

abbrev pub ExpiryIsTheGreatest : Type 0
ExpiryIsTheGreatest = (history : Trace) → IsGreatestOf (HasSwept (λ (kinds : Kinds). kinds.expire ≡ true) history) (greatest_expiry history)

abbrev pub RetentionIsTheGreatest : Type 0
RetentionIsTheGreatest = (history : Trace) → IsGreatestOf (HasSwept (λ (kinds : Kinds). kinds.reports ≡ true) history) (greatest_retention history)
