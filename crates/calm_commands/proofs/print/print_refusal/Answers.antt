use Rattle.std.proofs.Common.{◌++◌, ◌∷◌, [], codes}
use Rattle.query_answer.specs.RefusalText.{refusal_text}
use Rattle.calm_commands.specs.Told.{stream}
use Rattle.calm_commands.proofs.TellingLaws.{first_failed, more_pieces}
use Rattle.calm_commands.proofs.print.print_refusal.Goals as goal

pub returns-in-All : goal.returns-in-All
returns-in-All g c =
    let held = g.E.Sink.held in
    let faults = g.E.Sink.fault_count in
    let middle = c.write_all.new.sink in
    let after = c.print_reason.new.errors in
    more_pieces (codes "query refused: ") (refusal_text c.args.why.now ++ 10 ∷ []) (stream (held c.args.errors.now) (faults c.args.errors.now)) (stream (held middle) (faults middle)) (stream (held after) (faults after))
    c.in-All.ensures.bytes c.in-All.ensures.cause c.print_reason.ensures

pub returns-in_default : goal.returns-in_default
returns-in_default g c =
    let held = g.E.Sink.held in
    let faults = g.E.Sink.fault_count in
    let after = c.write_all.new.sink in
    first_failed c.in_default.field-0 (codes "query refused: ") (refusal_text c.args.why.now ++ 10 ∷ []) (stream (held c.args.errors.now) (faults c.args.errors.now)) (stream (held after) (faults after))
    c.in_default.ensures.bytes c.in_default.ensures.cause
