use Rattle.core_laws.proofs.OneThread.{one_thread_is_a_thread, no_thread_makes_another}
use Rattle.core_laws.proofs.thread.one_thread_is_a_thread.Goals as goal

pub returns-clause-some : goal.returns-clause-some
returns-clause-some c = one_thread_is_a_thread

pub returns-clause-one : goal.returns-clause-one
returns-clause-one c = no_thread_makes_another
