use Rattle.stamp_time.proofs.RangeLaws.{has_stamp}
use Rattle.http_tests.proofs.waiting.answers.Goals as goal

pub serve_link-end-requires : goal.serve_link-end-requires
serve_link-end-requires c = record { now = has_stamp c.in_ok-now.now c.in_ok-now.ensures.range }
