use Rattle.history_laws.proofs.OneTrace.{one_thread_makes_a_trace, threads_make_a_trace}
use Rattle.history_laws.proofs.thread.one_thread_makes_a_trace.Goals as goal

pub returns : goal.returns
returns c = record { items = one_thread_makes_a_trace; arrivals = threads_make_a_trace }
