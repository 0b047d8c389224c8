use Rattle.command_decode.proofs.of_stamp_time.RangeLaws.{has_stamp}
use Rattle.core_tests.proofs.worker.send.Goals as goal

pub submit-requires-clause-received : goal.submit-requires-clause-received
submit-requires-clause-received g c = has_stamp c.in-Some.received c.in-Some.ensures.range
