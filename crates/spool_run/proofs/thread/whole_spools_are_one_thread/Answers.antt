use Rattle.spool_run.proofs.OneThread.{whole_spool_is_one_thread}
use Rattle.spool_run.proofs.thread.whole_spools_are_one_thread.Goals as goal

pub returns : goal.returns
returns g c now bytes end old new took start stood = whole_spool_is_one_thread _ now bytes end old new took start stood
