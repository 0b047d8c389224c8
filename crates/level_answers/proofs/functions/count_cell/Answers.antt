use Rattle.std.proofs.Common.{◌∙◌, sym, subst, arith}
use Rattle.same_text.specs.text_spec.Number.{IsNumber}
use Rattle.fleet_tables.proofs.of_row_cells.DecimalLaws.{decimal_is_number}
use Rattle.level_answers.proofs.functions.count_cell.Goals as goal

pub of-requires : goal.of-requires
of-requires c = subst IsNumber (sym (c.in_ok-text.ensures ∙ c.format.ensures.text)) (decimal_is_number c.args.count (omega arith))
