use Rattle.command_key.proofs.Heads.{peeked}
use Rattle.command_key.proofs.command.head_at.Goals as goal

pub returns : goal.returns
returns c = record { value = peeked c.args.payload.now c.in_ok-head.head c.in_ok-head.ensures.spelled c.in_ok-head.ensures.other }
