use Rattle.std.proofs.Common.{◌≡◌, ◌∙◌, ◌<◌, ℕ, List, Bool, ap, subst, refl, arith, Some, None}
use Rattle.core_ends.specs.core_course.Sight.{sight_of}
use Rattle.http_front.specs.Link.{limited}
use Rattle.http_front.specs.Next.{unread}
use Rattle.http_routes.proofs.LinkCourses.{unread_at_first, counts_from, counts_none}
use Rattle.http_spec.specs.Limits.{most_link}
use Rattle.live_links.specs.Lanes.{LaneGoes}
use Rattle.live_links.specs.Links.{LiveNext}
use Rattle.live_links.proofs.Serving.{none_so_far, one_so_far, ends_so, all_so_far}
use Rattle.live_links.proofs.link.serve_live_link.Goals as goal

pub serving-init : goal.serving-init
serving-init g c =
    let patterns = c.args.patterns.now in
    let left = g.S.Source.left c.args.link.now.incoming in
    record {
      goes =
          none_so_far (sight_of g.D.Disk g.K.Keeper) (g.P.Patterns.says patterns) c.args.now g.K.Keeper.generation left (g.O.Sink.held c.args.link.now.outgoing) c.args.pass.now (g.P.Patterns.asked patterns)
          (g.P.Patterns.refusals patterns) (unread c.new-reading.result left) (unread_at_first c.new-reading.result left c.new-reading.ensures.ahead c.new-reading.ensures.taken);
      lock = refl;
      spares = refl;
      first = c.requires.first;
      same = λ p t. refl;
      stays = c.new-reading.ensures.«open»;
      reads = refl;
      writes = refl;
    }

pub serve_next-requires : goal.serve_next-requires
serve_next-requires g c = record { now = c.requires.now; pass = c.serving.invariant.lock ∙ c.requires.pass; first = c.serving.invariant.first; ongoing = c.serving.invariant.stays }

pub serving-preserved : goal.serving-preserved
serving-preserved g c =
    let was = c.serving.invariant in
    let next = c.in-None.ensures in
    let w = sight_of g.D.Disk g.K.Keeper in
    let says = g.P.Patterns.says c.args.patterns.now in
    let said : g.P.Patterns.says c.serving.patterns ≡ says = λ i p t. was.same p t i in
    let known = unread c.serving.reading (g.S.Source.left c.serving.link.incoming) in
    let left = unread c.serve_next.new.reading (g.S.Source.left c.serve_next.new.link.incoming) in
    let rest = limited c.serve_next.new.reading.taken (g.S.Source.left c.serve_next.new.link.incoming) in
    let between = g.O.Sink.held c.serving.link.outgoing in
    let holds = g.O.Sink.held c.serve_next.new.link.outgoing in
    let asked = g.P.Patterns.asked in
    let count = g.P.Patterns.refusals in
    let step =
    subst (λ (s : List ℕ → List ℕ → Bool). LaneGoes w g.K.Keeper.generation c.serving.pass c.serve_next.new.pass (asked c.serving.patterns) (asked c.serve_next.new.patterns) (count c.serving.patterns)
    (count c.serve_next.new.patterns) (λ final old new. LiveNext w s c.args.now final None known left rest old new between holds)) said next.served in
    record {
      goes =
          one_so_far w says c.args.now g.K.Keeper.generation (g.S.Source.left c.args.link.now.incoming) (g.O.Sink.held c.args.link.now.outgoing) c.args.pass.now c.serving.pass c.serve_next.new.pass
          (asked c.args.patterns.now) (asked c.serving.patterns) (asked c.serve_next.new.patterns) (count c.args.patterns.now) (count c.serving.patterns) (count c.serve_next.new.patterns) c.serving._served known between
          was.goes left rest holds step;
      lock = next.pass.0 ∙ was.lock;
      spares = next.pass.1 ∙ was.spares;
      first = next.first;
      same = λ p t. next.same p t ∙ was.same p t;
      stays = next.ongoing refl;
      reads = next.reads.calm (λ h. cc) ∙ was.reads;
      writes = next.writes.calm (λ h. cc) ∙ was.writes;
    }

pub returns-in-Some-clause-pass : goal.returns-in-Some-clause-pass
returns-in-Some-clause-pass g c = (c.in-Some.ensures.pass.0 ∙ c.serving.invariant.lock, c.in-Some.ensures.pass.1 ∙ c.serving.invariant.spares)

pub returns-in-Some-clause-first : goal.returns-in-Some-clause-first
returns-in-Some-clause-first g c = c.in-Some.ensures.first

pub returns-in-Some-clause-same : goal.returns-in-Some-clause-same
returns-in-Some-clause-same g c = λ p t. c.in-Some.ensures.same p t ∙ c.serving.invariant.same p t

pub returns-in-Some-clause-served : goal.returns-in-Some-clause-served
returns-in-Some-clause-served g c =
    let was = c.serving.invariant in
    let next = c.in-Some.ensures in
    let w = sight_of g.D.Disk g.K.Keeper in
    let says = g.P.Patterns.says c.args.patterns.now in
    let said : g.P.Patterns.says c.serving.patterns ≡ says = λ i p t. was.same p t i in
    let known = unread c.serving.reading (g.S.Source.left c.serving.link.incoming) in
    let left = unread c.serve_next.new.reading (g.S.Source.left c.serve_next.new.link.incoming) in
    let rest = limited c.serve_next.new.reading.taken (g.S.Source.left c.serve_next.new.link.incoming) in
    let between = g.O.Sink.held c.serving.link.outgoing in
    let holds = g.O.Sink.held c.serve_next.new.link.outgoing in
    let asked = g.P.Patterns.asked in
    let count = g.P.Patterns.refusals in
    let step =
    subst (λ (s : List ℕ → List ℕ → Bool). LaneGoes w g.K.Keeper.generation c.serving.pass c.serve_next.new.pass (asked c.serving.patterns) (asked c.serve_next.new.patterns) (count c.serving.patterns)
    (count c.serve_next.new.patterns) (λ final old new. LiveNext w s c.args.now final (Some c.in-Some.«end») known left rest old new between holds)) said next.served in
    ends_so w says c.args.now g.K.Keeper.generation (g.S.Source.left c.args.link.now.incoming) (g.O.Sink.held c.args.link.now.outgoing) c.args.pass.now c.serving.pass c.serve_next.new.pass
    (asked c.args.patterns.now) (asked c.serving.patterns) (asked c.serve_next.new.patterns) (count c.args.patterns.now) (count c.serving.patterns) (count c.serve_next.new.patterns) c.serving._served known between
    was.goes left rest holds c.in-Some.«end» c.serve_next.new.reading.taken (g.S.Source.left c.serve_next.new.link.incoming) refl step

pub returns-in-Some-clause-reads : goal.returns-in-Some-clause-reads
returns-in-Some-clause-reads g c =
    counts_from (g.S.Source.fault_count c.args.link.now.incoming) (g.S.Source.fault_count c.serving.link.incoming) (g.S.Source.fault_count c.serve_next.new.link.incoming) c.serving.invariant.reads
    (λ h. cc) (λ h. ap Some h) c.in-Some.ensures.reads

pub returns-in-Some-clause-writes : goal.returns-in-Some-clause-writes
returns-in-Some-clause-writes g c =
    counts_from (g.O.Sink.fault_count c.args.link.now.outgoing) (g.O.Sink.fault_count c.serving.link.outgoing) (g.O.Sink.fault_count c.serve_next.new.link.outgoing) c.serving.invariant.writes
    (λ h. cc) (λ h. ap Some h) c.in-Some.ensures.writes

pub returns-clause-served : goal.returns-clause-served
returns-clause-served g c =
    let was = c.serving.invariant in
    let many : most_link < c.serving._served = omega arith in
    all_so_far (sight_of g.D.Disk g.K.Keeper) (g.P.Patterns.says c.args.patterns.now) c.args.now g.K.Keeper.generation (g.S.Source.left c.args.link.now.incoming) (g.O.Sink.held c.args.link.now.outgoing)
    c.args.pass.now c.serving.pass (g.P.Patterns.asked c.args.patterns.now) (g.P.Patterns.asked c.serving.patterns) (g.P.Patterns.refusals c.args.patterns.now) (g.P.Patterns.refusals c.serving.patterns) c.serving._served
    (unread c.serving.reading (g.S.Source.left c.serving.link.incoming)) (g.O.Sink.held c.serving.link.outgoing) (g.S.Source.left c.serving.link.incoming) was.goes many

pub returns-clause-reads : goal.returns-clause-reads
returns-clause-reads g c =
    counts_none (g.S.Source.fault_count c.args.link.now.incoming) (g.S.Source.fault_count c.serving.link.incoming) c.serving.invariant.reads (λ h. cc)

pub returns-clause-writes : goal.returns-clause-writes
returns-clause-writes g c =
    counts_none (g.O.Sink.fault_count c.args.link.now.outgoing) (g.O.Sink.fault_count c.serving.link.outgoing) c.serving.invariant.writes (λ h. cc)
