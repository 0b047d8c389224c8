use Rattle.std.proofs.Common.{◌∙◌, ap, sym}
use Rattle.same_text.specs.text_spec.Json.{number}
use Rattle.fleet_tables.specs.fleet_rows.Cell.{plain}
use Rattle.level_answers.specs.Added.{sum_cell}
use Rattle.level_answers.proofs.sums.sum_cell.Goals as goal

pub returns-in_ok-number_of-in-Some : goal.returns-in_ok-number_of-in-Some
returns-in_ok-number_of-in-Some c = ap (λ s. plain (number s)) c.in_ok-number_of-in-Some.ensures ∙ ap sum_cell (sym c.in-Some.is)
