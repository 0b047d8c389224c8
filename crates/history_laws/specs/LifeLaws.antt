-- Statements on a node's life: its commands since the last purge that removed it.
use Rattle.std.specs.Prelude.{◌≡◌, ◌⊎◌, ℕ, true, ℤ, List, [], ◌∷◌, ◌++◌, filter}
use Rattle.std.specs.Str.{bytes_eq}
use Rattle.spool_spec.specs.fleet_rows.declared.settings.Kinds.{Kinds}
use Rattle.spool_spec.specs.fleet_rows.declared.settings.Ttls.{Ttls}
use Rattle.spool_spec.specs.fleet_rows.declared.applied.Applied.{Applied}
use Rattle.spool_spec.specs.fleet_rows.Change.{change_certname}
use Rattle.spool_spec.specs.history_spec.Trace.{applied, swept, Trace}
use Rattle.spool_spec.specs.history_spec.Life.{life, greatest_expiry}
use Rattle.history_laws.specs.StateLaws.{IsToBePurged}

abbrev pub commands : Trace → List Applied
commands [] = []
commands (applied x ∷ earlier) = x ∷ commands earlier
commands (swept kinds m ∷ earlier) = commands earlier

abbrev pub commands_of : List ℕ → Trace → List Applied
commands_of node history = filter (λ x. bytes_eq node (change_certname x.change)) (commands history)

-- the sweep is a purge and removes the node from the earlier history. The sweep itself counts for expiry first
abbrev pub Takes : Ttls → List ℕ → Kinds → ℤ → Trace → Type 0
Takes ttls node kinds m earlier =
    (kinds.purge ≡ true) × IsToBePurged ttls m (greatest_expiry (swept kinds m ∷ earlier)) (life ttls node earlier)

-- the newest event is a sweep that purged the node
pub record EndsWithPurgeOf (ttls : Ttls) (node : List ℕ) (history : Trace) : Type 0 where
  pub kinds : Kinds
  pub moment : ℤ
  pub before : Trace
  pub history_is : history ≡ swept kinds moment ∷ before
  pub takes : Takes ttls node kinds moment before

-- the history is split at the last purge that removed the node; the life is the node's commands in the later part
pub record IsLifeOf (ttls : Ttls) (node : List ℕ) (history : Trace) (xs : List Applied) : Type 0 where
  pub later : Trace
  pub earlier : Trace
  pub history_is : history ≡ later ++ earlier
  pub from_the_first_or_a_purge : (earlier ≡ []) ⊎ EndsWithPurgeOf ttls node earlier
  pub no_purge_since :
      (since : Trace) (kinds : Kinds) (m : ℤ) (before : Trace) → later ≡ since ++ swept kinds m ∷ before
      → ¬ Takes ttls node kinds m (before ++ earlier)
  pub life_is : xs ≡ commands_of node later

abbrev pub LivesFollowTheLastPurge : Type 0
LivesFollowTheLastPurge = (ttls : Ttls) (node : List ℕ) (history : Trace) → IsLifeOf ttls node history (life ttls node history)
