-- When a node is deactivated, expired and inactive, and when a purge removes it.
use Rattle.std.specs.Prelude.{◌≡◌, ◌↔◌, ◌⊎◌, true, ℤ, ◌<ℤ◌, ◌≤ℤ◌, ◌+ℤ◌, ◌-ℤ◌, List, Option, Some}
use Rattle.std.specs.List.{Contains}
use Rattle.spool_spec.specs.fleet_rows.declared.change.Change.TheVariants.{Expiration}
use Rattle.spool_spec.specs.fleet_rows.declared.change.ExpirationChange.{ExpirationChange}
use Rattle.spool_spec.specs.fleet_rows.declared.command.Kind.TheVariants as kind
use Rattle.spool_spec.specs.fleet_rows.declared.settings.Ttls.{Ttls}
use Rattle.spool_spec.specs.fleet_rows.declared.applied.Applied.{Applied}
use Rattle.spool_spec.specs.fleet_rows.Change.{change_stamp}
use Rattle.spool_spec.specs.history_spec.Node.{days, newest, greatest_activity, deactivated, expired, inactive, is_purged}
use Rattle.history_laws.specs.GreatestLaws.{HasStamped, IsActivity, IsDeactivation}

-- some deactivation has this timestamp, and no deactivation or activity has a later one
pub record IsDeactivatedAt (xs : List Applied) (d : ℤ) : Type 0 where
  pub there : HasStamped IsDeactivation xs d
  pub none_later : (x : Applied) → Contains xs x → IsDeactivation x ⊎ IsActivity x → change_stamp x.change ≤ℤ d

abbrev pub DeactivatedNodes : Type 0
DeactivatedNodes = (xs : List Applied) (d : ℤ) → (deactivated xs ≡ Some d) ↔ IsDeactivatedAt xs d

-- the newest expiration command, if there is one, allows expiry
abbrev pub MayExpire : List Applied → Type 0
MayExpire xs = (x : Applied) (c : ExpirationChange) → newest kind.Expiration xs ≡ Some x → x.change ≡ Expiration c → c.expire ≡ true

-- the node may expire, its lifetime after its greatest activity ended at this moment, and a sweep of expiry has a later moment
pub record IsExpiredAt (ttls : Ttls) (sweep : Option ℤ) (xs : List Applied) (t : ℤ) : Type 0 where
  pub may : MayExpire xs
  pub active : ℤ
  pub is_active : greatest_activity xs ≡ Some active
  pub ended : t ≡ active +ℤ days ttls.node_days
  pub swept : ℤ
  pub is_swept : sweep ≡ Some swept
  pub later : t <ℤ swept

abbrev pub ExpiredNodes : Type 0
ExpiredNodes = (ttls : Ttls) (sweep : Option ℤ) (xs : List Applied) (t : ℤ) → (expired ttls sweep xs ≡ Some t) ↔ IsExpiredAt ttls sweep xs t

-- the node is inactive from this moment on, because it was deactivated or because it expired
abbrev pub IsInactiveFrom : Ttls → Option ℤ → List Applied → ℤ → Type 0
IsInactiveFrom ttls sweep xs t = (deactivated xs ≡ Some t) ⊎ (expired ttls sweep xs ≡ Some t)

abbrev pub InactiveNodes : Type 0
InactiveNodes = (ttls : Ttls) (sweep : Option ℤ) (xs : List Applied) → (inactive ttls sweep xs ≡ true) ↔ ((t : ℤ) × IsInactiveFrom ttls sweep xs t)

-- the node has been inactive for longer than the purge lifetime at moment m
abbrev pub IsToBePurged : Ttls → ℤ → Option ℤ → List Applied → Type 0
IsToBePurged ttls m sweep xs = (t : ℤ) × IsInactiveFrom ttls sweep xs t × (t <ℤ (m -ℤ days ttls.purge_days))

abbrev pub PurgedNodes : Type 0
PurgedNodes = (ttls : Ttls) (m : ℤ) (sweep : Option ℤ) (xs : List Applied) → (is_purged ttls m sweep xs ≡ true) ↔ IsToBePurged ttls m sweep xs
