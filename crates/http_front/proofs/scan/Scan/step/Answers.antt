use Rattle.http_front.specs.Scans.{place_of}
use Rattle.http_front.proofs.Scans.{feed_step, other_step}
use Rattle.http_front.proofs.scan.Scan.step.Goals as goal

pub returns-then-byte-eq10-clause-step : goal.returns-then-byte-eq10-clause-step
returns-then-byte-eq10-clause-step c =
    feed_step (place_of c.args.self.now) (place_of c.end_line.new.self) c.args.byte c.end_line.result c.if-byte-eq10.true c.end_line.ensures.step

pub returns-clause-step : goal.returns-clause-step
returns-clause-step c = other_step (place_of c.args.self.now) (place_of c.go_on.new.self) c.args.byte c.if-byte-eq10.false c.go_on.ensures.step
