use Rattle.stamp_time.proofs.RangeLaws.{has_stamp}
use Rattle.http_tests.proofs.play.serve.Goals as goal

pub serve_link-requires : goal.serve_link-requires
serve_link-requires g c = record { now = has_stamp c.in-Some.now c.in-Some.ensures.range }
