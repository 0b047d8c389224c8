use Rattle.std.proofs.Common.{◌∙◌, ◌-◌, ◌≤◌, false, ap, subst}
use Rattle.core_ends.specs.core_course.Sight.{sight_of}
use Rattle.hub_calls.specs.Follows.{Follows}
use Rattle.live_stage.specs.Notes.{StageView}
use Rattle.live_stage.specs.Trace.{IsShelf}
use Rattle.live_stage.proofs.Lookups.{brought_all}
use Rattle.live_stage.proofs.stage.Stage.bring.Goals as goal

pub returns-clause-whole : goal.returns-clause-whole
returns-clause-whole g c =
    let w = sight_of g.D.Disk g.K.Keeper in
    let follows = subst (λ (s : StageView g.row.D.Denot g.row.K.Denot). Follows w false s.start s.core) c.self.view_is c.self.invariant.2 in
    let shelf = subst (λ (s : StageView g.row.D.Denot g.row.K.Denot). IsShelf w s.start s.core c.self.inside.shelf) c.self.view_is c.self.invariant.1 in
    brought_all w c.with_steps.result.1 c.args.self.now c.args.snapshot c.with_steps.result.0 c.self.inside.shelf c.saturating_sub-lack.result c.args.live (c.len-2.result - c.saturating_sub-lack.result) follows shelf c.requires.first c.requires.live
    (c.saturating_sub-lack.ensures ∙ ap (λ k. c.args.live - k) c.seen.ensures)
    (subst (λ k. c.saturating_sub-lack.result ≤ k) c.len.ensures c.if-lack-len.false) (ap (λ k. k - c.saturating_sub-lack.result) c.len-2.ensures) c.with_steps.ensures.ok
