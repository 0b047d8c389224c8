use Rattle.std.proofs.Common.{◌≤◌, arith, ◌∙◌}
use Rattle.core_state.specs.core_machine.Claims.{attempts_of}
use Rattle.core_opening.proofs.Replays.{worn_pending, worn_dead, counted_pending, counted_dead, not_last}
use Rattle.core_opening.proofs.replay.fail.Goals as goal

pub returns-then-is_last-clause-pending : goal.returns-then-is_last-clause-pending
returns-then-is_last-clause-pending c =
    let last : 15 ≤ attempts_of c.args.receipt c.args.pending.now = omega (arith, c.is_last.ensures.0 c.if-is_last.true, c.attempts_in.ensures) in
    c.in_ok-give_up.ensures.pending ∙ worn_pending c.args.receipt c.args.pending.now c.args.discards.now.list c.requires.there c.requires.queued c.requires.alike last

pub returns-then-is_last-clause-discards : goal.returns-then-is_last-clause-discards
returns-then-is_last-clause-discards c =
    let last : 15 ≤ attempts_of c.args.receipt c.args.pending.now = omega (arith, c.is_last.ensures.0 c.if-is_last.true, c.attempts_in.ensures) in
    c.in_ok-give_up.ensures.discards ∙ worn_dead c.args.receipt c.args.pending.now c.args.discards.now.list c.requires.there c.requires.queued c.requires.alike last

pub returns-clause-pending : goal.returns-clause-pending
returns-clause-pending c =
    let more = not_last c.args.receipt c.args.pending.now c.attempts_in.result c.is_last.result c.attempts_in.ensures c.if-is_last.false c.is_last.ensures.1 in
    c.count_failure.ensures.counted ∙ counted_pending c.args.receipt c.args.pending.now c.args.discards.now.list c.requires.there c.requires.queued c.requires.alike more

pub returns-clause-discards : goal.returns-clause-discards
returns-clause-discards c =
    let more = not_last c.args.receipt c.args.pending.now c.attempts_in.result c.is_last.result c.attempts_in.ensures c.if-is_last.false c.is_last.ensures.1 in
    counted_dead c.args.receipt c.args.pending.now c.args.discards.now.list c.requires.there c.requires.queued c.requires.alike more
