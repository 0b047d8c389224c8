use Rattle.std.proofs.Common.{◌∙◌, sym, rules}
use Rattle.core_ends.specs.core_course.Sight.{sight_of}
use Rattle.live_links.proofs.Requests.{sweep_stamp, unasked_sweep, bad_method_swept, bad_swept, made_swept}
use Rattle.live_links.proofs.request.swept.Goals as goal

pub swept_by-requires : goal.swept_by-requires
swept_by-requires g c = record { pass = c.requires.pass; stamp = sweep_stamp c.as_slice.result.now c.in-Sweep.kinds c.in-Sweep.m c.in-Sweep.ensures }

pub returns-then-not-is_posted-clause-answer : goal.returns-then-not-is_posted-clause-answer
returns-then-not-is_posted-clause-answer g c =
    bad_method_swept (sight_of g.D.Disk g.K.Keeper) g.K.Keeper.generation c.args.request.now c.error.result c.args.pass.now (sym c.is_posted.ensures ∙ c.if-not-is_posted.true) c.error.ensures

pub returns-in_err-list-clause-answer : goal.returns-in_err-list-clause-answer
returns-in_err-list-clause-answer g c = unasked_sweep (sight_of g.D.Disk g.K.Keeper) g.K.Keeper.generation c.args.request.now _ c.args.pass.now (search rules)

pub returns-in-Sweep-clause-answer : goal.returns-in-Sweep-clause-answer
returns-in-Sweep-clause-answer g c =
    made_swept (sight_of g.D.Disk g.K.Keeper) g.K.Keeper.generation c.args.request.now c.swept_by.result c.as_slice.result.now (sym c.is_posted.ensures ∙ c.if-not-is_posted.false)
    (c.as_slice.ensures.value ∙ c.in_ok-list.ensures) c.args.pass.now c.swept_by.new.pass c.in-Sweep.kinds c.in-Sweep.m c.in-Sweep.ensures c.swept_by.ensures.call

pub returns-clause-answer : goal.returns-clause-answer
returns-clause-answer g c =
    bad_swept (sight_of g.D.Disk g.K.Keeper) g.K.Keeper.generation c.args.request.now c.error-in-Bad.result c.as_slice.result.now (sym c.is_posted.ensures ∙ c.if-not-is_posted.false)
    (c.as_slice.ensures.value ∙ c.in_ok-list.ensures) c.args.pass.now c.in-Bad.text.now c.in-Bad.ensures c.error-in-Bad.ensures
