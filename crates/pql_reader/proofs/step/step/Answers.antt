use Rattle.pql_parts.proofs.NeedLaws.{few_in}
use Rattle.pql_reader.proofs.step.step.Goals as goal

pub mode_step-requires : goal.mode_step-requires
mode_step-requires c = few_in c.args.frames.now c.args.state c.in-Within.spot c.in-Within.mode c.in-Within.is c.requires
