use Rattle.history_laws.proofs.OneHistory.{threads_have_some_history, threads_have_one_history, dropped_commands_say_nothing, one_thread_is_a_thread}
use Rattle.history_laws.proofs.thread.a_thread_has_one_history.Goals as goal

pub returns : goal.returns
returns c = record { some = threads_have_some_history; one = threads_have_one_history; dropped = dropped_commands_say_nothing; items = one_thread_is_a_thread }
