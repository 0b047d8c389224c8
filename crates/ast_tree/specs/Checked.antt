-- The result of a check.
use Rattle.std.specs.Prelude.{◌≡◌, Some, None, Result, Ok, Err}
use Rattle.query_spec.specs.Check.{level_fault}
use Rattle.query_spec.specs.declared.sought.Sought.TheVariants.{Field, Operand}
use Rattle.query_spec.specs.Query.{Level}
use Rattle.ast_tree.specs.declared.query.CheckFault.{CheckFault}
use Rattle.ast_tree.specs.declared.query.CheckFault.TheVariants.{UnknownField, BadOperand}

-- Ok: no field is unknown and no operand is bad. Otherwise the first unknown field, or the first bad operand if no field is
-- unknown
abbrev pub IsChecked : Result (Unit {0}) CheckFault → Level → Type 0
IsChecked (Ok _) q = (level_fault Field q ≡ None) × (level_fault Operand q ≡ None)
IsChecked (Err (UnknownField p)) q = level_fault Field q ≡ Some p
IsChecked (Err (BadOperand p)) q = (level_fault Field q ≡ None) × (level_fault Operand q ≡ Some p)
