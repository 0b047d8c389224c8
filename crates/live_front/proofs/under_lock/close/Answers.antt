use Rattle.live_front.specs.Courses.{sight_of}
use Rattle.live_front.proofs.Closing.{closes}
use Rattle.live_front.proofs.under_lock.close.Goals as goal

pub returns : goal.returns
returns g c =
    let e = c.into_parts-front.ensures in
    closes (sight_of g.F.Front g.F.Incoming.Source g.F.Outgoing.Sink) c.args.lock.opening c.args.pass c.close.result c.into_parts-front.result.0 c.into_parts-front.result.1 c.into_parts-front.result.2
    c.close.ensures.seen c.close.ensures.opening c.close.ensures.holds e.front e.out e.end e.course
