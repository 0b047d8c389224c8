use Rattle.std.proofs.Common.{◌≡◌, ◌∙◌, ◌<◌, [], Some, refl, ap, arith}
use Rattle.http_routes.specs.paging_text.Shown.{written_text}
use Rattle.http_routes.specs.query_engine.Tables.{world_of}
use Rattle.http_routes.specs.Course.{outside}
use Rattle.http_routes.specs.Inbox.{Takes}
use Rattle.http_routes.proofs.LinkCourses.{same_world, counts_from, counts_none}
use Rattle.link_serving.specs.Serving.{front_seen}
use Rattle.link_serving.specs.declared.end.ServeEnd.TheVariants.{Done}
use Rattle.link_serving.proofs.Links.{serves_none, all_served, turn_more, turn_last, front_stands}
use Rattle.link_serving.proofs.front.serve_front.Goals as goal

pub serving-init : goal.serving-init
serving-init g c =
    let inbox = c.args.inbox.now in
    let patterns = c.args.patterns.now in
    let front = c.args.front.now in
    let w = world_of (g.I.Inbox.shown inbox) (g.P.Patterns.says patterns) in
    record {
      served = (
        [],
        refl,
        serves_none (Takes g.I.Inbox.held g.I.Inbox.does) w written_text c.args.now (front_seen (g.F.Front.left front) (g.F.Front.handed_out front) (g.F.Front.given_back front))
            (outside inbox (g.P.Patterns.asked patterns) (g.P.Patterns.refusals patterns)),
      );
      shown = refl;
      same = λ p t. refl;
      listens = refl;
      calm = refl;
    }

pub serving-preserved : goal.serving-preserved
serving-preserved g c =
    let was = c.serving.invariant in
    let says = c.in-None.ensures in
    let w = world_of (g.I.Inbox.shown c.args.inbox.now) (g.P.Patterns.says c.args.patterns.now) in
    let v = world_of (g.I.Inbox.shown c.serving.inbox) (g.P.Patterns.says c.serving.patterns) in
    let same : v ≡ w = same_world (g.I.Inbox.shown c.serving.inbox) (g.I.Inbox.shown c.args.inbox.now) (g.P.Patterns.says c.serving.patterns) (g.P.Patterns.says c.args.patterns.now) was.shown was.same in
    record {
      served =
          turn_more (Takes g.I.Inbox.held g.I.Inbox.does) w v same written_text c.args.now
          (front_seen (g.F.Front.left c.args.front.now) (g.F.Front.handed_out c.args.front.now) (g.F.Front.given_back c.args.front.now))
          (front_seen (g.F.Front.left c.serving.front) (g.F.Front.handed_out c.serving.front) (g.F.Front.given_back c.serving.front))
          (front_seen (g.F.Front.left c.serve_first.new.front) (g.F.Front.handed_out c.serve_first.new.front) (g.F.Front.given_back c.serve_first.new.front))
          (outside c.args.inbox.now (g.P.Patterns.asked c.args.patterns.now) (g.P.Patterns.refusals c.args.patterns.now))
          (outside c.serving.inbox (g.P.Patterns.asked c.serving.patterns) (g.P.Patterns.refusals c.serving.patterns))
          (outside c.serve_first.new.inbox (g.P.Patterns.asked c.serve_first.new.patterns) (g.P.Patterns.refusals c.serve_first.new.patterns)) was.served.0 c.serving._served was.served.1
          was.served.2 says.served;
      shown = says.shown ∙ was.shown;
      same = λ p t. says.same p t ∙ was.same p t;
      listens = says.listens ∙ was.listens;
      calm = says.cause.calm (λ h. cc) ∙ was.calm;
    }

pub returns-in-Some-clause-shown : goal.returns-in-Some-clause-shown
returns-in-Some-clause-shown g c = c.in-Some.ensures.shown ∙ c.serving.invariant.shown

pub returns-in-Some-clause-same : goal.returns-in-Some-clause-same
returns-in-Some-clause-same g c = λ p t. c.in-Some.ensures.same p t ∙ c.serving.invariant.same p t

pub returns-in-Some-clause-listens : goal.returns-in-Some-clause-listens
returns-in-Some-clause-listens g c = c.in-Some.ensures.listens ∙ c.serving.invariant.listens

pub returns-in-Some-clause-served : goal.returns-in-Some-clause-served
returns-in-Some-clause-served g c =
    let was = c.serving.invariant in
    let w = world_of (g.I.Inbox.shown c.args.inbox.now) (g.P.Patterns.says c.args.patterns.now) in
    let v = world_of (g.I.Inbox.shown c.serving.inbox) (g.P.Patterns.says c.serving.patterns) in
    let same : v ≡ w = same_world (g.I.Inbox.shown c.serving.inbox) (g.I.Inbox.shown c.args.inbox.now) (g.P.Patterns.says c.serving.patterns) (g.P.Patterns.says c.args.patterns.now) was.shown was.same in
    let fewer : c.serving._served < c.args.links = omega arith in
    turn_last (Takes g.I.Inbox.held g.I.Inbox.does) w v same written_text c.args.now
    (front_seen (g.F.Front.left c.args.front.now) (g.F.Front.handed_out c.args.front.now) (g.F.Front.given_back c.args.front.now))
    (front_seen (g.F.Front.left c.serving.front) (g.F.Front.handed_out c.serving.front) (g.F.Front.given_back c.serving.front))
    (front_seen (g.F.Front.left c.serve_first.new.front) (g.F.Front.handed_out c.serve_first.new.front) (g.F.Front.given_back c.serve_first.new.front))
    (outside c.args.inbox.now (g.P.Patterns.asked c.args.patterns.now) (g.P.Patterns.refusals c.args.patterns.now))
    (outside c.serving.inbox (g.P.Patterns.asked c.serving.patterns) (g.P.Patterns.refusals c.serving.patterns))
    (outside c.serve_first.new.inbox (g.P.Patterns.asked c.serve_first.new.patterns) (g.P.Patterns.refusals c.serve_first.new.patterns)) was.served.0 c.serving._served was.served.1
    was.served.2 c.in-Some.«end» c.args.links fewer c.in-Some.ensures.served

pub returns-in-Some-clause-stands : goal.returns-in-Some-clause-stands
returns-in-Some-clause-stands g c = λ history stands.
    front_stands (Takes g.I.Inbox.held g.I.Inbox.does) (g.I.Inbox.shown c.args.inbox.now) history (g.P.Patterns.says c.args.patterns.now) c.args.now stands c.in-Some.«end» c.args.links
    (front_seen (g.F.Front.left c.args.front.now) (g.F.Front.handed_out c.args.front.now) (g.F.Front.given_back c.args.front.now))
    (front_seen (g.F.Front.left c.serve_first.new.front) (g.F.Front.handed_out c.serve_first.new.front) (g.F.Front.given_back c.serve_first.new.front))
    (outside c.args.inbox.now (g.P.Patterns.asked c.args.patterns.now) (g.P.Patterns.refusals c.args.patterns.now))
    (outside c.serve_first.new.inbox (g.P.Patterns.asked c.serve_first.new.patterns) (g.P.Patterns.refusals c.serve_first.new.patterns)) (returns-in-Some-clause-served g c)

pub returns-in-Some-clause-cause : goal.returns-in-Some-clause-cause
returns-in-Some-clause-cause g c =
    counts_from (g.F.Front.fault_count c.args.front.now) (g.F.Front.fault_count c.serving.front) (g.F.Front.fault_count c.serve_first.new.front) c.serving.invariant.calm (λ h. cc) (λ h. ap Some h)
    c.in-Some.ensures.cause

pub returns-clause-served : goal.returns-clause-served
returns-clause-served g c =
    let was = c.serving.invariant in
    let w = world_of (g.I.Inbox.shown c.args.inbox.now) (g.P.Patterns.says c.args.patterns.now) in
    let all : c.serving._served ≡ c.args.links = omega arith in
    all_served (Takes g.I.Inbox.held g.I.Inbox.does) w written_text c.args.now
    (front_seen (g.F.Front.left c.args.front.now) (g.F.Front.handed_out c.args.front.now) (g.F.Front.given_back c.args.front.now))
    (front_seen (g.F.Front.left c.serving.front) (g.F.Front.handed_out c.serving.front) (g.F.Front.given_back c.serving.front))
    (outside c.args.inbox.now (g.P.Patterns.asked c.args.patterns.now) (g.P.Patterns.refusals c.args.patterns.now))
    (outside c.serving.inbox (g.P.Patterns.asked c.serving.patterns) (g.P.Patterns.refusals c.serving.patterns)) was.served.0 c.serving._served c.args.links was.served.2 was.served.1 all

pub returns-clause-stands : goal.returns-clause-stands
returns-clause-stands g c = λ history stands.
    front_stands (Takes g.I.Inbox.held g.I.Inbox.does) (g.I.Inbox.shown c.args.inbox.now) history (g.P.Patterns.says c.args.patterns.now) c.args.now stands Done c.args.links
    (front_seen (g.F.Front.left c.args.front.now) (g.F.Front.handed_out c.args.front.now) (g.F.Front.given_back c.args.front.now))
    (front_seen (g.F.Front.left c.serving.front) (g.F.Front.handed_out c.serving.front) (g.F.Front.given_back c.serving.front))
    (outside c.args.inbox.now (g.P.Patterns.asked c.args.patterns.now) (g.P.Patterns.refusals c.args.patterns.now))
    (outside c.serving.inbox (g.P.Patterns.asked c.serving.patterns) (g.P.Patterns.refusals c.serving.patterns)) (returns-clause-served g c)

pub returns-clause-cause : goal.returns-clause-cause
returns-clause-cause g c = counts_none (g.F.Front.fault_count c.args.front.now) (g.F.Front.fault_count c.serving.front) c.serving.invariant.calm (λ h. cc)
