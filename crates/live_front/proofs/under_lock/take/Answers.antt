use Rattle.live_front.specs.FrontCalls.{took}
use Rattle.live_front.proofs.Closing.{one_hold}
use Rattle.live_front.proofs.under_lock.take.Goals as goal

pub returns-clause-call : goal.returns-clause-call
returns-clause-call g c =
    let r = c.hold.ensures.one_hold in
    let m = r.5.met in
    one_hold (took c.hold.result) c.args.pass.now c.hold.new.pass r.0 r.1 r.2 r.5.shown.now r.5.left.now r.5.shows r.5.leaves m.0 m.1.0 r.3 r.7 r.8
