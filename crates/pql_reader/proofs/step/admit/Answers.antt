use Rattle.pql_parts.specs.States.{state_of}
use Rattle.pql_reader.proofs.AdmitLaws.{not_taken}
use Rattle.pql_reader.proofs.step.admit.Goals as goal

pub returns-in-Ok-clause-taken : goal.returns-in-Ok-clause-taken
returns-in-Ok-clause-taken c = c.kept.ensures.taken (state_of c.args.frames.now c.args.state) c.args.token c.in-Ok.ensures

pub returns-in-Err-clause-taken : goal.returns-in-Err-clause-taken
returns-in-Err-clause-taken c = not_taken c.step.new.frames (state_of c.args.frames.now c.args.state) c.args.token c.in-Err.fault c.in-Err.ensures
