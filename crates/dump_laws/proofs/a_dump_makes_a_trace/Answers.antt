use Rattle.dump_laws.proofs.Traces.{dumps_are_traces}
use Rattle.dump_laws.proofs.a_dump_makes_a_trace.Goals as goal

pub returns : goal.returns
returns c = dumps_are_traces
