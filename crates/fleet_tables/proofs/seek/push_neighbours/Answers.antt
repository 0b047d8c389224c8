use Rattle.std.proofs.Common.{◌≡◌, ◌∙◌, ◌+◌, ◌-◌, ◌++◌, ap, arith}
use Rattle.kept_nodes.specs.Spans.{neighbours}
use Rattle.fleet_tables.proofs.SeekLaws.{next_neighbour, no_neighbour}
use Rattle.fleet_tables.proofs.seek.push_neighbours.Goals as goal

pub pushing-init : goal.pushing-init
pushing-init c =
    let span = c.args.span in
    let all : (span.from + span.count) - span.from ≡ span.count = omega arith in ap (λ n. c.args.places.now.items ++ neighbours span.from n) all

pub pushing-preserved : goal.pushing-preserved
pushing-preserved c =
    let to = c.args.span.from + c.args.span.count in
    next_neighbour c.pushing.places.items c.push.new.self.items c.pushing.place to (omega arith) c.in_ok-push.ensures.items ∙ c.pushing.invariant

pub returns : goal.returns
returns c = no_neighbour c.pushing.places.items _ c.pushing.place (c.args.span.from + c.args.span.count) (omega arith) c.pushing.invariant
