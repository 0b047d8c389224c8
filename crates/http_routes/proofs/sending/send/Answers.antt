use Rattle.std.proofs.Common.{subst, sym}
use Rattle.http_routes.specs.Course.{IsSent, answer_in}
use Rattle.http_routes.proofs.sending.send.Goals as goal

pub returns-in-Ok-clause-sent : goal.returns-in-Ok-clause-sent
returns-in-Ok-clause-sent g c =
    subst (λ r. IsSent c.send_answer.result (answer_in r) (g.K.Sink.held c.args.outgoing.now) (g.K.Sink.held c.send_answer.new.outgoing)) (sym c.in-Ok.is) c.send_answer.ensures.sent

pub returns-in-Err-clause-sent : goal.returns-in-Err-clause-sent
returns-in-Err-clause-sent g c =
    subst (λ r. IsSent c.send_memory.result (answer_in r) (g.K.Sink.held c.args.outgoing.now) (g.K.Sink.held c.send_memory.new.outgoing)) (sym c.in-Err.is) c.send_memory.ensures.sent
