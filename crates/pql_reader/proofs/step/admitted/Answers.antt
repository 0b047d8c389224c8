use Rattle.pql_parts.specs.States.{state_of}
use Rattle.pql_reader.proofs.AdmitLaws.{token_refused, token_admitted}
use Rattle.pql_reader.proofs.step.admitted.Goals as goal

pub returns-in-Ok-clause-stepped : goal.returns-in-Ok-clause-stepped
returns-in-Ok-clause-stepped c = λ n bytes is.
    token_admitted (state_of c.args.frames.now c.args.state) n bytes c.admit.new.frames c.args.token c.args.length c.in-Ok.next is c.in-Ok.ensures.taken

pub returns-in-Err-clause-stepped : goal.returns-in-Err-clause-stepped
returns-in-Err-clause-stepped c = λ n bytes is.
    token_refused (state_of c.args.frames.now c.args.state) n bytes c.admit.new.frames c.args.token c.args.length c.in-Err.fault is c.in-Err.ensures.taken
