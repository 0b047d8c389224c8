use Rattle.history_laws.proofs.TraceLemmas.{traces_have_distinct_receipts, traces_have_distinct_names}
use Rattle.history_laws.proofs.traces.a_trace_has_distinct_receipts_and_names.Goals as goal

pub returns : goal.returns
returns c = record { receipts = traces_have_distinct_receipts; names = traces_have_distinct_names }
