use Rattle.core_ends.specs.core_course.Sight.{Sight, sight}
use Rattle.link_serving.specs.Serving.{front_seen}
use Rattle.core_inbox.proofs.Serving.{served_core, stood_core}
use Rattle.core_inbox.proofs.links.serve_links.Goals as goal

pub returns-clause-served : goal.returns-clause-served
returns-clause-served g c =
    let w : Sight g.row.D.Denot g.row.K.Denot = sight g.D.Disk.is_told g.D.Disk.seen g.D.Disk.may_leave g.D.Disk.moment g.D.Disk.left_since g.D.Disk.fault_count g.K.Keeper.is_told g.K.Keeper.kept g.K.Keeper.images g.K.Keeper.moment g.K.Keeper.images_since g.K.Keeper.down g.K.Keeper.size g.K.Keeper.fault_count g.K.Keeper.opened g.K.Keeper.is_within in
    served_core w c.args.core c.new-inbox.result c.serve_front-end.new.inbox c.into_core.result c.new-inbox.ensures c.into_core.ensures (g.P.Patterns.says c.args.patterns.now) c.args.now c.serve_front-end.result
    c.args.links (front_seen (g.F.Front.left c.args.front.now) (g.F.Front.handed_out c.args.front.now) (g.F.Front.given_back c.args.front.now))
    (front_seen (g.F.Front.left c.serve_front-end.new.front) (g.F.Front.handed_out c.serve_front-end.new.front) (g.F.Front.given_back c.serve_front-end.new.front)) (g.P.Patterns.asked c.args.patterns.now) (g.P.Patterns.asked c.serve_front-end.new.patterns)
    (g.P.Patterns.refusals c.args.patterns.now) (g.P.Patterns.refusals c.serve_front-end.new.patterns) c.serve_front-end.ensures.served

pub returns-clause-stands : goal.returns-clause-stands
returns-clause-stands g c =
    let w : Sight g.row.D.Denot g.row.K.Denot = sight g.D.Disk.is_told g.D.Disk.seen g.D.Disk.may_leave g.D.Disk.moment g.D.Disk.left_since g.D.Disk.fault_count g.K.Keeper.is_told g.K.Keeper.kept g.K.Keeper.images g.K.Keeper.moment g.K.Keeper.images_since g.K.Keeper.down g.K.Keeper.size g.K.Keeper.fault_count g.K.Keeper.opened g.K.Keeper.is_within in
    stood_core w c.args.core c.new-inbox.result c.serve_front-end.new.inbox c.into_core.result c.new-inbox.ensures c.into_core.ensures (g.P.Patterns.says c.args.patterns.now) c.args.now c.serve_front-end.result
    c.args.links (front_seen (g.F.Front.left c.args.front.now) (g.F.Front.handed_out c.args.front.now) (g.F.Front.given_back c.args.front.now))
    (front_seen (g.F.Front.left c.serve_front-end.new.front) (g.F.Front.handed_out c.serve_front-end.new.front) (g.F.Front.given_back c.serve_front-end.new.front)) (g.P.Patterns.asked c.args.patterns.now) (g.P.Patterns.asked c.serve_front-end.new.patterns)
    (g.P.Patterns.refusals c.args.patterns.now) (g.P.Patterns.refusals c.serve_front-end.new.patterns) c.serve_front-end.ensures.stands
