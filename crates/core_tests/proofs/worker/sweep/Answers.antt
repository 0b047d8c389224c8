use Rattle.command_decode.proofs.of_stamp_time.RangeLaws.{has_stamp}
use Rattle.core_tests.proofs.worker.sweep.Goals as goal

pub sweep-requires : goal.sweep-requires
sweep-requires g c = record { stamp = has_stamp c.in-Some.moment c.in-Some.ensures.range }
