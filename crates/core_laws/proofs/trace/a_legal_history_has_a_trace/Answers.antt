use Rattle.core_laws.proofs.Traces.{legal_histories_have_traces}
use Rattle.core_laws.proofs.trace.a_legal_history_has_a_trace.Goals as goal

pub returns : goal.returns
returns c = legal_histories_have_traces
