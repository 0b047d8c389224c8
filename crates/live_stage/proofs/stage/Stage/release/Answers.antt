use Rattle.std.proofs.Common.{true, false, refl, subst}
use Rattle.core_ends.specs.core_course.Sight.{sight_of}
use Rattle.hub_calls.specs.Follows.{Follows}
use Rattle.hub_calls.proofs.Steps.{release_follows}
use Rattle.live_stage.specs.Notes.{StageView, notes_of}
use Rattle.live_stage.specs.Trace.{applied_count}
use Rattle.live_stage.specs.StageCalls.{AddsWork}
use Rattle.live_stage.proofs.Counts.{word_same}
use Rattle.live_stage.proofs.ShelfSteps.{work_shelf}
use Rattle.live_stage.proofs.Steps.{follows_more, work_keeps, adds_work, releases_apply_none}
use Rattle.live_stage.proofs.stage.Stage.release.Goals as goal

pub invariant_of-self : goal.invariant_of-self
invariant_of-self g c =
    let w = sight_of g.D.Disk g.K.Keeper in
    let f = c.self.inside.followed in
    let n = c.release.new.self in
    let d = c.release.ensures.does in
    let notes = notes_of c.self.inside.notes.items in
    let inv = c.self.invariant.0 in
    let works : Follows w true f.core n.core = release_follows w true f.core n.core c.args.job d in
    let word = word_same c.self.inside.applied (applied_count f.core.events.list) (applied_count n.core.events.list) inv.2 (releases_apply_none w f.core n.core c.args.job d) in (
      work_keeps w f.start n.start f.core n.core c.release.ensures.start notes notes c.self.inside.noted c.self.inside.sweeps c.self.inside.applied inv works refl c.self.inside.applied word,
      work_shelf w f.start n.start f.core n.core c.release.ensures.start c.self.inside.shelf works (releases_apply_none w f.core n.core c.args.job d) c.self.invariant.1,
      follows_more w f.start n.start f.core n.core c.release.ensures.start c.release.ensures.follows (release_follows w false f.core n.core c.args.job d),
    )

pub returns-clause-causes : goal.returns-clause-causes
returns-clause-causes g c =
    let w = sight_of g.D.Disk g.K.Keeper in
    let f = c.self.inside.followed in
    let n = c.release.new.self in
    let d = c.release.ensures.does in
    let notes = notes_of c.self.inside.notes.items in
    let inv = c.self.invariant.0 in
    let works : Follows w true f.core n.core = release_follows w true f.core n.core c.args.job d in
    let word = word_same c.self.inside.applied (applied_count f.core.events.list) (applied_count n.core.events.list) inv.2 (releases_apply_none w f.core n.core c.args.job d) in
    (work_keeps w f.start n.start f.core n.core c.release.ensures.start notes notes c.self.inside.noted c.self.inside.sweeps c.self.inside.applied inv works refl c.self.inside.applied word).4

pub returns-clause-list : goal.returns-clause-list
returns-clause-list g c =
    let w = sight_of g.D.Disk g.K.Keeper in
    let f = c.self.inside.followed in
    let n = c.release.new.self in
    let d = c.release.ensures.does in
    let notes = notes_of c.self.inside.notes.items in
    let inv = c.self.invariant.0 in
    let works : Follows w true f.core n.core = release_follows w true f.core n.core c.args.job d in
    subst (λ (s : StageView g.row.D.Denot g.row.K.Denot). AddsWork s (record { start = n.start; core = n.core; notes = notes })) c.self.view_is
    (adds_work w f.start n.start f.core n.core c.release.ensures.start notes notes c.self.inside.noted c.self.inside.sweeps c.self.inside.applied inv works refl)
