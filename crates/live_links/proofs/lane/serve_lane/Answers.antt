use Rattle.std.proofs.Common.{◌≡◌, ◌∙◌, ℕ, List, Bool, true, false, subst, refl}
use Rattle.core_ends.specs.core_course.Sight.{sight_of}
use Rattle.live_front.specs.Courses.{link_seen}
use Rattle.live_links.specs.Links.{ServesOne}
use Rattle.live_links.proofs.LaneLinks.{none_so_far, one_more, lane_ends}
use Rattle.live_links.proofs.lane.serve_lane.Goals as goal

pub links-init : goal.links-init
links-init g c = record {
  served =
      none_so_far (sight_of g.D.Disk g.K.Keeper) g.K.Keeper.generation (g.P.Patterns.says c.args.patterns.now) c.args.now (link_seen g.F.Incoming.Source g.F.Outgoing.Sink) c.args.front_pass.now c.args.pass.now
      (g.P.Patterns.asked c.args.patterns.now) (g.P.Patterns.refusals c.args.patterns.now);
  lock = refl;
  spares = refl;
  front_lock = refl;
  front_spares = refl;
  first = c.requires.first;
  same = λ p t. refl;
}

pub serve_one-requires-clause-pass : goal.serve_one-requires-clause-pass
serve_one-requires-clause-pass g c = c.links.invariant.lock ∙ c.requires.pass

pub serve_one-requires-clause-front_pass : goal.serve_one-requires-clause-front_pass
serve_one-requires-clause-front_pass g c = c.links.invariant.front_lock ∙ c.requires.front_pass

pub links-preserved : goal.links-preserved
links-preserved g c =
    let was = c.links.invariant in
    let one = c.serve_one.ensures in
    let w = sight_of g.D.Disk g.K.Keeper in
    let n = g.K.Keeper.generation in
    let says = g.P.Patterns.says c.args.patterns.now in
    let said : g.P.Patterns.says c.links.patterns ≡ says = λ i p t. was.same p t i in
    let seen = link_seen g.F.Incoming.Source g.F.Outgoing.Sink in
    let asked = g.P.Patterns.asked in
    let count = g.P.Patterns.refusals in
    let next = c.serve_one.new in
    record {
      served =
          one_more w n says c.args.now seen c.args.front_pass.now c.links.front_pass next.front_pass c.args.pass.now c.links.pass next.pass (asked c.args.patterns.now) (asked c.links.patterns) (asked next.patterns)
          (count c.args.patterns.now) (count c.links.patterns) (count next.patterns) was.served
          (subst (λ (s : List ℕ → List ℕ → Bool). ServesOne w n s c.args.now seen true c.links.front_pass next.front_pass c.links.pass next.pass (asked c.links.patterns) (asked next.patterns) (count c.links.patterns) (count next.patterns)) said
          (subst (λ b. ServesOne w n (g.P.Patterns.says c.links.patterns) c.args.now seen b c.links.front_pass next.front_pass c.links.pass next.pass (asked c.links.patterns) (asked next.patterns) (count c.links.patterns) (count next.patterns)) c.if-not-serve_one.false one.served));
      lock = one.pass.0 ∙ was.lock;
      spares = one.pass.1 ∙ was.spares;
      front_lock = one.front_pass.0 ∙ was.front_lock;
      front_spares = one.front_pass.1 ∙ was.front_spares;
      first = one.first;
      same = λ p t. one.same p t ∙ was.same p t;
    }

pub returns-then-not-serve_one-clause-served : goal.returns-then-not-serve_one-clause-served
returns-then-not-serve_one-clause-served g c =
    let was = c.links.invariant in
    let one = c.serve_one.ensures in
    let w = sight_of g.D.Disk g.K.Keeper in
    let n = g.K.Keeper.generation in
    let says = g.P.Patterns.says c.args.patterns.now in
    let said : g.P.Patterns.says c.links.patterns ≡ says = λ i p t. was.same p t i in
    let seen = link_seen g.F.Incoming.Source g.F.Outgoing.Sink in
    let asked = g.P.Patterns.asked in
    let count = g.P.Patterns.refusals in
    let next = c.serve_one.new in
    lane_ends w n says c.args.now seen c.args.front_pass.now c.links.front_pass next.front_pass c.args.pass.now c.links.pass next.pass (asked c.args.patterns.now) (asked c.links.patterns) (asked next.patterns)
    (count c.args.patterns.now) (count c.links.patterns) (count next.patterns) was.served
    (subst (λ (s : List ℕ → List ℕ → Bool). ServesOne w n s c.args.now seen false c.links.front_pass next.front_pass c.links.pass next.pass (asked c.links.patterns) (asked next.patterns) (count c.links.patterns) (count next.patterns)) said
    (subst (λ b. ServesOne w n (g.P.Patterns.says c.links.patterns) c.args.now seen b c.links.front_pass next.front_pass c.links.pass next.pass (asked c.links.patterns) (asked next.patterns) (count c.links.patterns) (count next.patterns)) c.if-not-serve_one.true one.served))
