use Rattle.std.proofs.Common.{◌∙◌, sym, subst, arith}
use Rattle.fleet_rows.specs.text_spec.Number.{IsNumber}
use Rattle.row_cells.proofs.DecimalLaws.{decimal_is_number}
use Rattle.fact_paths.proofs.walk.decimal_of.Goals as goal

pub of-requires : goal.of-requires
of-requires c = subst IsNumber (sym (c.in_ok-digits.ensures ∙ c.format.ensures.text)) (decimal_is_number c.args.number (omega arith))
