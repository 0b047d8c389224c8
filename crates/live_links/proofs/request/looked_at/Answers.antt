use Rattle.std.proofs.Common.{◌≡◌, Option, IfSome, refl, subst, rules}
use Rattle.core_ends.specs.core_course.Sight.{sight_of}
use Rattle.live_stage.specs.lock_calls.Calls.{Lasts}
use Rattle.live_stage.specs.Trace.{SnapshotView, HasFirstIn}
use Rattle.live_stage.proofs.Lookups.{caught_up_lasts}
use Rattle.live_links.proofs.Requests.{unlooked_one, over_one}
use Rattle.live_links.proofs.request.looked_at.Goals as goal

pub returns-in_err-look-clause-answer : goal.returns-in_err-look-clause-answer
returns-in_err-look-clause-answer g c =
    let call = c.look.ensures.call in
    unlooked_one (sight_of g.D.Disk g.K.Keeper) g.K.Keeper.generation (g.P.Patterns.says c.args.patterns.now) c.args.request.now c.requires.query c.args.least c.args.pass.now c.look.new.pass
    (g.P.Patterns.asked c.args.patterns.now) (g.P.Patterns.refusals c.args.patterns.now) call.0 _ (search rules) call.1

pub returns-clause-first : goal.returns-clause-first
returns-clause-first g c =
    let w = sight_of g.D.Disk g.K.Keeper in
    let seen = c.look.new.pass.seen in
    let over = c.over.ensures in
    caught_up_lasts w c.in-Some.snapshot c.over.new.snapshot seen over.seen over.lifetimes over.trace
    (subst (λ (o : Option SnapshotView). IfSome o (λ s. Lasts (HasFirstIn w s) seen)) (c.in-Some.is) c.look.ensures.first)

pub returns-clause-answer : goal.returns-clause-answer
returns-clause-answer g c =
    let w = sight_of g.D.Disk g.K.Keeper in
    let says = g.P.Patterns.says c.args.patterns.now in
    let seen = c.look.new.pass.seen in
    let call = c.in_ok-look.ensures.call in
    let over = c.over.ensures in
    let kept = c.in-Some.is in
    over_one w g.K.Keeper.generation says c.in-Some.snapshot c.over.new.snapshot over.seen over.lifetimes over.trace seen
    (subst (λ (o : Option SnapshotView). IfSome o (λ s. Lasts (HasFirstIn w s) seen)) kept c.look.ensures.first)
    call.0 c.args.request.now c.args.least c.args.pass.now c.look.new.pass (g.P.Patterns.asked c.args.patterns.now) (g.P.Patterns.asked c.over.new.patterns) (g.P.Patterns.refusals c.args.patterns.now)
    (g.P.Patterns.refusals c.over.new.patterns) c.over.result refl (subst (λ (o : Option SnapshotView). IfSome o (λ s. s.seen ≡ call.0)) kept call.2) call.1 over.answer
