use Rattle.core_ends.specs.core_course.Sight.{sight_of}
use Rattle.live_links.proofs.Requests.{bad_seen_one, looked_one}
use Rattle.live_links.proofs.request.asked.Goals as goal

pub returns-in-Bad-clause-answer : goal.returns-in-Bad-clause-answer
returns-in-Bad-clause-answer g c =
    bad_seen_one (sight_of g.D.Disk g.K.Keeper) g.K.Keeper.generation (g.P.Patterns.says c.args.patterns.now) c.args.request.now c.args.pass.now (g.P.Patterns.asked c.args.patterns.now)
    (g.P.Patterns.refusals c.args.patterns.now) c.least_of-least.result c.error.result c.in-Bad.is c.least_of-least.ensures c.error.ensures

pub returns-in_default-clause-answer : goal.returns-in_default-clause-answer
returns-in_default-clause-answer g c =
    looked_one (sight_of g.D.Disk g.K.Keeper) g.K.Keeper.generation (g.P.Patterns.says c.args.patterns.now) c.args.request.now c.least_of-least.result c.args.pass.now c.looked_at.new.pass
    (g.P.Patterns.asked c.args.patterns.now) (g.P.Patterns.asked c.looked_at.new.patterns) (g.P.Patterns.refusals c.args.patterns.now) (g.P.Patterns.refusals c.looked_at.new.patterns) c.looked_at.result
    c.in_default.not-Bad c.least_of-least.ensures c.looked_at.ensures.answer
