-- The rules of what is told of a node. They speak of changes alone, so receipts and moments of receipt don't matter.
use Rattle.std.specs.Prelude.{◌≡◌, ◌≢◌, ℕ, ◌≤◌, ℤ, ◌-ℤ◌, int_lt, List, [], ◌∷◌, length, Bool, true, false, Option, Some, None}
use Rattle.std.specs.List.{AllByRecursion}
use Rattle.checkpoint_spec.specs.fleet_rows.Change.{change_certname, change_kind, change_stamp}
use Rattle.checkpoint_spec.specs.fleet_rows.declared.change.Change.{Change}
use Rattle.checkpoint_spec.specs.fleet_rows.declared.command.Kind.{Kind}
use Rattle.checkpoint_spec.specs.fleet_rows.declared.command.Kind.TheVariants as kind
use Rattle.checkpoint_spec.specs.fleet_rows.declared.settings.Ttls.{Ttls}
use Rattle.checkpoint_spec.specs.history_spec.Node.{days}
use Rattle.checkpoint_spec.specs.history_spec.Report.{is_same_report}
use Rattle.list_again.specs.Told.{Told, all_told}

-- a change of this node and kind
pub record IsOf (certname : List ℕ) (k : Kind) (c : Change) : Type 0 where
  pub certname_is : change_certname c ≡ certname
  pub kind_is : change_kind c ≡ k

abbrev pub IfOf : List ℕ → Kind → Option Change → Type 0
IfOf certname k None = Unit {0}
IfOf certname k (Some c) = IsOf certname k c

-- the moment is older than the report lifetime at the greatest sweep of reports
abbrev pub is_old : Ttls → Option ℤ → ℤ → Bool
is_old ttls None m = false
is_old ttls (Some sweep) m = int_lt m (sweep -ℤ days ttls.report_days)

-- a report that the sweep of reports takes
abbrev pub IfSpare : Ttls → Option ℤ → List ℕ → Option Change → Type 0
IfSpare ttls retention certname None = Unit {0}
IfSpare ttls retention certname (Some c) = IsOf certname kind.Report c × (is_old ttls retention (change_stamp c) ≡ true)

-- a report that it leaves
pub record IsLeft (ttls : Ttls) (retention : Option ℤ) (certname : List ℕ) (c : Change) : Type 0 where
  pub is_of : IsOf certname kind.Report c
  pub not_old : is_old ttls retention (change_stamp c) ≡ false

-- no two reports are the same
abbrev pub AreDifferent : List Change → Type 0
AreDifferent [] = Unit {0}
AreDifferent (c ∷ cs) = AllByRecursion (λ d. is_same_report c d ≡ false) cs × AreDifferent cs

-- no more than the limit, if there is one
abbrev pub IsWithin : Option ℕ → ℕ → Type 0
IsWithin None n = Unit {0}
IsWithin (Some count) n = n ≤ count

-- reports of which all are kept
pub record AreKept (ttls : Ttls) (retention : Option ℤ) (certname : List ℕ) (reports : List Change) : Type 0 where
  pub each : AllByRecursion (IsLeft ttls retention certname) reports
  pub different : AreDifferent reports
  pub few : IsWithin ttls.report_count (length reports)

-- what may be told of a node
pub record IsTold (ttls : Ttls) (retention : Option ℤ) (told : Told Change) : Type 0 where
  pub facts : IfOf told.certname kind.Facts told.facts
  pub catalog : IfOf told.certname kind.Catalog told.catalog
  pub expiration : IfOf told.certname kind.Expiration told.expiration
  pub deactivate : IfOf told.certname kind.Deactivate told.deactivate
  pub spare : IfSpare ttls retention told.certname told.spare
  pub reports : AreKept ttls retention told.certname told.reports
  pub some : all_told told ≢ []
