use Rattle.std.proofs.Common.{refl}
use Rattle.http_routes.proofs.Ends.{same_counts}
use Rattle.http_routes.proofs.sending.send_memory.Goals as goal

pub returns-in-All-clause-cause : goal.returns-in-All-clause-cause
returns-in-All-clause-cause g c = same_counts (g.K.Sink.fault_count c.args.outgoing.now) (g.K.Sink.fault_count c.write_memory_answer.new.link) (λ p. absurd p) (λ h. cc) c.in-All.ensures.cause

pub returns-in-Failed-clause-sent : goal.returns-in-Failed-clause-sent
returns-in-Failed-clause-sent g c = (_, c.in-Failed.ensures.bytes.0, c.in-Failed.ensures.bytes.1)

pub returns-in-Failed-clause-cause : goal.returns-in-Failed-clause-cause
returns-in-Failed-clause-cause g c = same_counts (g.K.Sink.fault_count c.args.outgoing.now) (g.K.Sink.fault_count c.write_memory_answer.new.link) (λ _. refl) (λ _. tt) c.in-Failed.ensures.cause
