use Rattle.std.proofs.Common.{sym, ap, ◌∙◌}
use Rattle.core_state.specs.core_laws.Replay.{given_up}
use Rattle.core_opening.proofs.Replays.{at_of}
use Rattle.core_opening.proofs.replay.give_up.Goals as goal

pub returns-clause-discards : goal.returns-clause-discards
returns-clause-discards c =
    c.put.ensures.list ∙ ap (given_up c.args.cause c.take-entry.result) c.in_ok-reserve.ensures.list
    ∙ sym (at_of c.args.receipt (given_up c.args.cause) c.args.pending.now c.args.discards.now.list c.take-entry.result c.take-entry.ensures.entry)
