use Rattle.std.proofs.Common.{◌∙◌, sym}
use Rattle.core_ends.specs.core_course.Sight.{sight_of}
use Rattle.live_links.proofs.Holds.{first_stays}
use Rattle.live_links.proofs.Requests.{sweep_one}
use Rattle.live_links.proofs.request.answered.Goals as goal

pub routed-requires : goal.routed-requires
routed-requires g c = record { now = c.requires.now; body = c.requires.body; plain = sym c.asks_sweep.ensures ∙ c.if-asks_sweep.false; pass = c.requires.pass; first = c.requires.first }

pub returns-then-asks_sweep-clause-first : goal.returns-then-asks_sweep-clause-first
returns-then-asks_sweep-clause-first g c =
    let one = c.swept.ensures.answer in
    first_stays (sight_of g.D.Disk g.K.Keeper) g.K.Keeper.generation one.met.call c.args.pass.now c.swept.new.pass one.hold c.args.kept.now c.requires.first

pub returns-then-asks_sweep-clause-answer : goal.returns-then-asks_sweep-clause-answer
returns-then-asks_sweep-clause-answer g c =
    sweep_one (sight_of g.D.Disk g.K.Keeper) g.K.Keeper.generation (g.P.Patterns.says c.args.patterns.now) c.args.now c.args.request (sym c.asks_sweep.ensures ∙ c.if-asks_sweep.true) c.args.pass.now c.swept.new.pass
    (g.P.Patterns.asked c.args.patterns.now) (g.P.Patterns.refusals c.args.patterns.now) c.swept.result c.swept.ensures.answer
