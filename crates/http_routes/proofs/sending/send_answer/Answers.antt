use Rattle.std.proofs.Common.{◌∙◌, sym}
use Rattle.http_routes.proofs.Ends.{sent_for}
use Rattle.http_routes.proofs.sending.send_answer.Goals as goal

pub returns-in-Ok-clause-sent : goal.returns-in-Ok-clause-sent
returns-in-Ok-clause-sent g c = c.send_bytes.ensures.sent c.args.answer.now (sym (c.as_slice.ensures ∙ c.in-Ok.ensures))

pub returns-in-Err-clause-sent : goal.returns-in-Err-clause-sent
returns-in-Err-clause-sent g c =
    sent_for c.send_memory.result c.args.answer.now (g.K.Sink.held c.args.outgoing.now) (g.K.Sink.held c.send_memory.new.outgoing) c.send_memory.ensures.sent
