use Rattle.std.proofs.Common.{◌≡◌, ◌∙◌, ◌<◌, sym, ap, subst, refl, arith, Some}
use Rattle.http_front.specs.Link.{limited}
use Rattle.http_front.specs.Next.{unread}
use Rattle.paging_text.specs.Shown.{written_text}
use Rattle.query_engine.specs.Tables.{world_of}
use Rattle.routes_spec.specs.Links.{IsGiven, IsMetBefore}
use Rattle.http_routes.specs.Inbox.{Takes}
use Rattle.http_routes.specs.Course.{outside, MovesOutside, Continues, GoesSoFar, AreFewIfTold}
use Rattle.http_routes.specs.declared.link.LinkEnd.TheVariants.{Closed}
use Rattle.http_routes.proofs.LinkCourses.{unread_at_first, from_first, few_at_first, same_world, goes_more, ends_so, still_few, so_far_first, so_far_then, so_far_so, without_end, counts_from, counts_none}
use Rattle.http_routes.proofs.Prints.{history_served}
use Rattle.http_routes.proofs.link.serve_link.Goals as goal
use Rattle.http_spec.specs.Limits.{most_link}

pub serving-init : goal.serving-init
serving-init g c =
    let inbox = c.args.inbox.now in
    let patterns = c.args.patterns.now in
    let link = c.args.link.now in
    let w = world_of (g.I.Inbox.shown inbox) (g.P.Patterns.says patterns) in
    let left = g.S.Source.left link.incoming in
    let start = outside inbox (g.P.Patterns.asked patterns) (g.P.Patterns.refusals patterns) in
    let held = g.K.Sink.held link.outgoing in
    let at_first = unread_at_first c.new-reading.result left c.new-reading.ensures.ahead c.new-reading.ensures.taken in
    record {
      goes = subst (λ k. Continues (Takes g.I.Inbox.held g.I.Inbox.does) w written_text c.args.now (limited 0 left) start held k start held) (sym at_first) (from_first (IsGiven w written_text c.args.now) (IsMetBefore w written_text c.args.now) (MovesOutside (Takes g.I.Inbox.held g.I.Inbox.does)) (limited 0 left) start held);
      so_far = subst (λ k. GoesSoFar (Takes g.I.Inbox.held g.I.Inbox.does) w written_text c.args.now (limited 0 left) start held k start held) (sym at_first) (so_far_first (IsGiven w written_text c.args.now) (IsMetBefore w written_text c.args.now) (MovesOutside (Takes g.I.Inbox.held g.I.Inbox.does)) (limited 0 left) start held);
      few = subst (λ k. AreFewIfTold (limited 0 left) 0 k) (sym at_first) (few_at_first left);
      shown = refl;
      same = λ p t. refl;
      stays = c.new-reading.ensures.«open»;
      reads = refl;
      writes = refl;
    }

pub serving-preserved : goal.serving-preserved
serving-preserved g c =
    let was = c.serving.invariant in
    let says = c.in-None.ensures in
    let w = world_of (g.I.Inbox.shown c.args.inbox.now) (g.P.Patterns.says c.args.patterns.now) in
    let v = world_of (g.I.Inbox.shown c.serving.inbox) (g.P.Patterns.says c.serving.patterns) in
    let same : v ≡ w = same_world (g.I.Inbox.shown c.serving.inbox) (g.I.Inbox.shown c.args.inbox.now) (g.P.Patterns.says c.serving.patterns) (g.P.Patterns.says c.args.patterns.now) was.shown was.same in
    let first = limited 0 (g.S.Source.left c.args.link.now.incoming) in
    let start = outside c.args.inbox.now (g.P.Patterns.asked c.args.patterns.now) (g.P.Patterns.refusals c.args.patterns.now) in
    let held = g.K.Sink.held c.args.link.now.outgoing in
    let known = unread c.serving.reading (g.S.Source.left c.serving.link.incoming) in
    let left = unread c.serve_next.new.reading (g.S.Source.left c.serve_next.new.link.incoming) in
    let mid = outside c.serving.inbox (g.P.Patterns.asked c.serving.patterns) (g.P.Patterns.refusals c.serving.patterns) in
    let new = outside c.serve_next.new.inbox (g.P.Patterns.asked c.serve_next.new.patterns) (g.P.Patterns.refusals c.serve_next.new.patterns) in
    let between = g.K.Sink.held c.serving.link.outgoing in
    let holds = g.K.Sink.held c.serve_next.new.link.outgoing in
    record {
      goes = goes_more (Takes g.I.Inbox.held g.I.Inbox.does) w v same written_text c.args.now first start held known left mid new between holds was.goes says.served;
      so_far = so_far_then (Takes g.I.Inbox.held g.I.Inbox.does) w v same written_text c.args.now first start held known left mid new between holds was.so_far says.served;
      few = still_few says.served.request c.serving._served first known left says.served.gives was.few;
      shown = says.shown ∙ was.shown;
      same = λ p t. says.same p t ∙ was.same p t;
      stays = says.ongoing refl;
      reads = says.reads.calm (λ h. cc) ∙ was.reads;
      writes = says.writes.calm (λ h. cc) ∙ was.writes;
    }

pub returns-in-Some-clause-shown : goal.returns-in-Some-clause-shown
returns-in-Some-clause-shown g c = c.in-Some.ensures.shown ∙ c.serving.invariant.shown

pub returns-in-Some-clause-same : goal.returns-in-Some-clause-same
returns-in-Some-clause-same g c = λ p t. c.in-Some.ensures.same p t ∙ c.serving.invariant.same p t

pub returns-in-Some-clause-served : goal.returns-in-Some-clause-served
returns-in-Some-clause-served g c =
    let was = c.serving.invariant in
    let w = world_of (g.I.Inbox.shown c.args.inbox.now) (g.P.Patterns.says c.args.patterns.now) in
    let v = world_of (g.I.Inbox.shown c.serving.inbox) (g.P.Patterns.says c.serving.patterns) in
    let same : v ≡ w = same_world (g.I.Inbox.shown c.serving.inbox) (g.I.Inbox.shown c.args.inbox.now) (g.P.Patterns.says c.serving.patterns) (g.P.Patterns.says c.args.patterns.now) was.shown was.same in
    let first = limited 0 (g.S.Source.left c.args.link.now.incoming) in
    let start = outside c.args.inbox.now (g.P.Patterns.asked c.args.patterns.now) (g.P.Patterns.refusals c.args.patterns.now) in
    let held = g.K.Sink.held c.args.link.now.outgoing in
    let known = unread c.serving.reading (g.S.Source.left c.serving.link.incoming) in
    let mid = outside c.serving.inbox (g.P.Patterns.asked c.serving.patterns) (g.P.Patterns.refusals c.serving.patterns) in
    let new = outside c.serve_next.new.inbox (g.P.Patterns.asked c.serve_next.new.patterns) (g.P.Patterns.refusals c.serve_next.new.patterns) in
    let between = g.K.Sink.held c.serving.link.outgoing in
    let holds = g.K.Sink.held c.serve_next.new.link.outgoing in
    ends_so (Takes g.I.Inbox.held g.I.Inbox.does) w v same written_text c.args.now first start held known known mid new between holds was.goes c.in-Some.«end» c.in-Some.ensures.served

pub returns-in-Some-clause-so_far : goal.returns-in-Some-clause-so_far
returns-in-Some-clause-so_far g c = λ h.
    let was = c.serving.invariant in
    let w = world_of (g.I.Inbox.shown c.args.inbox.now) (g.P.Patterns.says c.args.patterns.now) in
    let v = world_of (g.I.Inbox.shown c.serving.inbox) (g.P.Patterns.says c.serving.patterns) in
    let same : v ≡ w = same_world (g.I.Inbox.shown c.serving.inbox) (g.I.Inbox.shown c.args.inbox.now) (g.P.Patterns.says c.serving.patterns) (g.P.Patterns.says c.args.patterns.now) was.shown was.same in
    let first = limited 0 (g.S.Source.left c.args.link.now.incoming) in
    let start = outside c.args.inbox.now (g.P.Patterns.asked c.args.patterns.now) (g.P.Patterns.refusals c.args.patterns.now) in
    let held = g.K.Sink.held c.args.link.now.outgoing in
    let known = unread c.serving.reading (g.S.Source.left c.serving.link.incoming) in
    let rest = limited c.serve_next.new.reading.taken (g.S.Source.left c.serve_next.new.link.incoming) in
    let mid = outside c.serving.inbox (g.P.Patterns.asked c.serving.patterns) (g.P.Patterns.refusals c.serving.patterns) in
    let new = outside c.serve_next.new.inbox (g.P.Patterns.asked c.serve_next.new.patterns) (g.P.Patterns.refusals c.serve_next.new.patterns) in
    let between = g.K.Sink.held c.serving.link.outgoing in
    let holds = g.K.Sink.held c.serve_next.new.link.outgoing in
    (c.serve_next.new.reading.taken, so_far_so (Takes g.I.Inbox.held g.I.Inbox.does) w v same written_text c.args.now first start held known rest mid new between holds was.so_far (c.in-Some.ensures.so_far (ap Some h)))

pub returns-in-Some-clause-stands : goal.returns-in-Some-clause-stands
returns-in-Some-clause-stands g c = λ history stands.
    let first = limited 0 (g.S.Source.left c.args.link.now.incoming) in
    let start = outside c.args.inbox.now (g.P.Patterns.asked c.args.patterns.now) (g.P.Patterns.refusals c.args.patterns.now) in
    let held = g.K.Sink.held c.args.link.now.outgoing in
    let new = outside c.serve_next.new.inbox (g.P.Patterns.asked c.serve_next.new.patterns) (g.P.Patterns.refusals c.serve_next.new.patterns) in
    let holds = g.K.Sink.held c.serve_next.new.link.outgoing in
    history_served (Takes g.I.Inbox.held g.I.Inbox.does) (g.I.Inbox.shown c.args.inbox.now) history (g.P.Patterns.says c.args.patterns.now) c.args.now c.in-Some.«end» first start new held holds stands (returns-in-Some-clause-served g c)

pub returns-in-Some-clause-reads : goal.returns-in-Some-clause-reads
returns-in-Some-clause-reads g c =
    counts_from (g.S.Source.fault_count c.args.link.now.incoming) (g.S.Source.fault_count c.serving.link.incoming) (g.S.Source.fault_count c.serve_next.new.link.incoming) c.serving.invariant.reads
    (λ h. cc) (λ h. ap Some h) c.in-Some.ensures.reads

pub returns-in-Some-clause-writes : goal.returns-in-Some-clause-writes
returns-in-Some-clause-writes g c =
    counts_from (g.K.Sink.fault_count c.args.link.now.outgoing) (g.K.Sink.fault_count c.serving.link.outgoing) (g.K.Sink.fault_count c.serve_next.new.link.outgoing) c.serving.invariant.writes
    (λ h. cc) (λ h. ap Some h) c.in-Some.ensures.writes

pub returns-clause-served : goal.returns-clause-served
returns-clause-served g c =
    let was = c.serving.invariant in
    let w = world_of (g.I.Inbox.shown c.args.inbox.now) (g.P.Patterns.says c.args.patterns.now) in
    let first = limited 0 (g.S.Source.left c.args.link.now.incoming) in
    let start = outside c.args.inbox.now (g.P.Patterns.asked c.args.patterns.now) (g.P.Patterns.refusals c.args.patterns.now) in
    let held = g.K.Sink.held c.args.link.now.outgoing in
    let known = unread c.serving.reading (g.S.Source.left c.serving.link.incoming) in
    let mid = outside c.serving.inbox (g.P.Patterns.asked c.serving.patterns) (g.P.Patterns.refusals c.serving.patterns) in
    let between = g.K.Sink.held c.serving.link.outgoing in
    let many : most_link < c.serving._served = omega arith in
    without_end (IsGiven w written_text c.args.now) (IsMetBefore w written_text c.args.now) (MovesOutside (Takes g.I.Inbox.held g.I.Inbox.does)) first start held known mid between c.serving._served was.goes was.few many

pub returns-clause-stands : goal.returns-clause-stands
returns-clause-stands g c = λ history stands.
    let first = limited 0 (g.S.Source.left c.args.link.now.incoming) in
    let start = outside c.args.inbox.now (g.P.Patterns.asked c.args.patterns.now) (g.P.Patterns.refusals c.args.patterns.now) in
    let held = g.K.Sink.held c.args.link.now.outgoing in
    let mid = outside c.serving.inbox (g.P.Patterns.asked c.serving.patterns) (g.P.Patterns.refusals c.serving.patterns) in
    let between = g.K.Sink.held c.serving.link.outgoing in
    history_served (Takes g.I.Inbox.held g.I.Inbox.does) (g.I.Inbox.shown c.args.inbox.now) history (g.P.Patterns.says c.args.patterns.now) c.args.now Closed first start mid held between stands (returns-clause-served g c)

pub returns-clause-reads : goal.returns-clause-reads
returns-clause-reads g c =
    counts_none (g.S.Source.fault_count c.args.link.now.incoming) (g.S.Source.fault_count c.serving.link.incoming) c.serving.invariant.reads (λ h. cc)

pub returns-clause-writes : goal.returns-clause-writes
returns-clause-writes g c =
    counts_none (g.K.Sink.fault_count c.args.link.now.outgoing) (g.K.Sink.fault_count c.serving.link.outgoing) c.serving.invariant.writes (λ h. cc)

pub serve_next-requires : goal.serve_next-requires
serve_next-requires g c = record { now = c.requires.now; ongoing = c.serving.invariant.stays }
