-- The certname, the stamp and the kind of a change.
use Rattle.std.specs.Prelude.{ℕ, ℤ, List}
use Rattle.fleet_rows.specs.declared.change.Change.{Change}
use Rattle.fleet_rows.specs.declared.change.Change.TheVariants.{Facts, Catalog, Report, Deactivate, Expiration}
use Rattle.fleet_rows.specs.declared.command.Kind.{Kind}
use Rattle.fleet_rows.specs.declared.command.Kind.TheVariants as kind

abbrev pub change_certname : Change → List ℕ
change_certname (Facts c) = c.certname
change_certname (Catalog c) = c.certname
change_certname (Report c) = c.certname
change_certname (Deactivate c) = c.certname
change_certname (Expiration c) = c.certname

abbrev pub change_stamp : Change → ℤ
change_stamp (Facts c) = c.stamp
change_stamp (Catalog c) = c.stamp
change_stamp (Report c) = c.stamp
change_stamp (Deactivate c) = c.stamp
change_stamp (Expiration c) = c.stamp

abbrev pub change_kind : Change → Kind
change_kind (Facts c) = kind.Facts
change_kind (Catalog c) = kind.Catalog
change_kind (Report c) = kind.Report
change_kind (Deactivate c) = kind.Deactivate
change_kind (Expiration c) = kind.Expiration

-- the number of a kind in the list of kinds
abbrev pub kind_number : Kind → ℕ
kind_number kind.Facts = 0
kind_number kind.Catalog = 1
kind_number kind.Report = 2
kind_number kind.Deactivate = 3
kind_number kind.Expiration = 4
