use Rattle.core_ends.specs.core_course.Sight.{sight_of}
use Rattle.link_serving.proofs.Ends.{ends_by}
use Rattle.live_front.specs.Courses.{link_seen}
use Rattle.live_links.proofs.LaneLinks.{no_link, link_served, none_served}
use Rattle.live_links.proofs.lane.serve_one.Goals as goal

pub returns-in-Link-clause-served : goal.returns-in-Link-clause-served
returns-in-Link-clause-served g c =
    let seen = link_seen g.F.Incoming.Source g.F.Outgoing.Sink in
    let out = c.in-Link.link in
    let back = c.serve_live_link-end.new.link in
    link_served (sight_of g.D.Disk g.K.Keeper) g.K.Keeper.generation (g.P.Patterns.says c.args.patterns.now) c.args.now seen out back c.serve_live_link-end.result c.args.front_pass.now c.take.new.pass c.give_back.new.pass
    c.args.pass.now c.serve_live_link-end.new.pass (g.P.Patterns.asked c.args.patterns.now) (g.P.Patterns.asked c.serve_live_link-end.new.patterns) (g.P.Patterns.refusals c.args.patterns.now)
    (g.P.Patterns.refusals c.serve_live_link-end.new.patterns) c.in-Link.ensures.call c.give_back.ensures.call
    (ends_by (seen back) (seen out).read_faults (seen out).write_faults c.in-Link.ensures.calm.0 c.in-Link.ensures.calm.1 c.serve_live_link-end.result c.serve_live_link-end.ensures.reads c.serve_live_link-end.ensures.writes)
    c.serve_live_link-end.ensures.served

pub returns-in_default-clause-served : goal.returns-in_default-clause-served
returns-in_default-clause-served g c =
    none_served (sight_of g.D.Disk g.K.Keeper) g.K.Keeper.generation (g.P.Patterns.says c.args.patterns.now) c.args.now (link_seen g.F.Incoming.Source g.F.Outgoing.Sink) c.take.result c.args.front_pass.now c.take.new.pass
    c.args.pass.now (g.P.Patterns.asked c.args.patterns.now) (g.P.Patterns.refusals c.args.patterns.now) (no_link c.take.result c.in_default.not-Link) c.take.ensures.call
