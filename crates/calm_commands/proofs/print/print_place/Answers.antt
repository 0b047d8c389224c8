use Rattle.std.proofs.Common.{◌∙◌, ◌++◌, ◌∷◌, [], ap, subst, codes}
use Rattle.query_answer.specs.RefusalText.{path_text}
use Rattle.calm_commands.specs.Refused.{numbers_line}
use Rattle.calm_commands.specs.Told.{IsTold, stream}
use Rattle.calm_commands.proofs.PlaceLines.{place_line}
use Rattle.calm_commands.proofs.TellingLaws.{more_pieces}
use Rattle.calm_commands.proofs.print.print_place.Goals as goal

pub returns-in-All : goal.returns-in-All
returns-in-All g c =
    let held = g.E.Sink.held in
    let faults = g.E.Sink.fault_count in
    let words = c.args.words.now in
    let numbers = c.as_slice.result.now in
    let before = stream (held c.args.errors.now) (faults c.args.errors.now) in
    let middle = stream (held c.write_all.new.sink) (faults c.write_all.new.sink) in
    let after = stream (held c.print_numbers.new.errors) (faults c.print_numbers.new.errors) in
    subst (λ text. IsTold text before after) (place_line words numbers ∙ ap (λ ns. (words ++ path_text ns) ++ 10 ∷ []) c.as_slice.ensures.numbers)
    (more_pieces words (numbers_line (codes " ") numbers) before middle after c.in-All.ensures.bytes c.in-All.ensures.cause c.print_numbers.ensures)
