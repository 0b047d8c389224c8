use Rattle.std.proofs.Common.{refl, subst, sym, inl}
use Rattle.std.specs.Io.KnownBytes.{Appends}
use Rattle.http_spec.specs.Answers.{answer_text}
use Rattle.http_routes.proofs.Ends.{same_counts, part_of}
use Rattle.http_routes.proofs.sending.send_bytes.Goals as goal

pub returns-in-All-clause-sent : goal.returns-in-All-clause-sent
returns-in-All-clause-sent g c = λ answer is. subst (Appends (g.K.Sink.held c.args.outgoing.now) (g.K.Sink.held c.write_all.new.sink)) (sym is) c.in-All.ensures.bytes

pub returns-in-All-clause-cause : goal.returns-in-All-clause-cause
returns-in-All-clause-cause g c = same_counts (g.K.Sink.fault_count c.args.outgoing.now) (g.K.Sink.fault_count c.write_all.new.sink) (λ p. absurd p) (λ h. cc) c.in-All.ensures.cause

pub returns-in-Failed-clause-sent : goal.returns-in-Failed-clause-sent
returns-in-Failed-clause-sent g c = λ answer is.
    inl (part_of (answer_text answer) c.args.bytes.now _ (g.K.Sink.held c.args.outgoing.now) (g.K.Sink.held c.write_all.new.sink) is c.in-Failed.ensures.bytes)

pub returns-in-Failed-clause-cause : goal.returns-in-Failed-clause-cause
returns-in-Failed-clause-cause g c = same_counts (g.K.Sink.fault_count c.args.outgoing.now) (g.K.Sink.fault_count c.write_all.new.sink) (λ _. refl) (λ _. tt) c.in-Failed.ensures.cause
