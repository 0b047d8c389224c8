use Rattle.std.proofs.Common.{sym, subst}
use mathlib.Core.List.{IsPrefix}
use Rattle.core_ends.specs.core_course.Sight.{sight_of}
use Rattle.live_stage.specs.Notes.{StageView, list_of, core_entries}
use Rattle.live_stage.specs.StageCalls.{was_settled}
use Rattle.hub_calls.proofs.Entries.{was_submitted_longer}
use Rattle.live_stage.proofs.Lists.{entries_begin}
use Rattle.live_stage.proofs.Holds.{one_hold}
use Rattle.live_stage.proofs.under_lock.settle.Goals as goal

pub returns-clause-call : goal.returns-clause-call
returns-clause-call g c =
    let r = c.hold.ensures.one_hold in
    let m = r.5.met in
    let a = m.1.1.0 in (
      a.events,
      a.only,
      one_hold (sight_of g.D.Disk g.K.Keeper) g.K.Keeper.generation (was_settled c.args.job c.args.verdict c.hold.result a.events) c.args.pass.now c.hold.new.pass r.0 r.1 r.2 r.5.shown.now r.5.left.now r.5.shows r.5.leaves
          a.list m.1.0 m.1.1.1.0 (m.0, a.events_are, a.only) m.1.1.1.1 r.3 r.7 r.8,
    )

pub hold-requires-clause-callable : goal.hold-requires-clause-callable
hold-requires-clause-callable g c x begins p is = (
  was_submitted_longer c.args.job.receipt c.args.job.command (core_entries c.args.pass.now.seen) (core_entries (list_of p.now))
      (entries_begin c.args.pass.now.seen (list_of p.now) (subst (λ (s : StageView g.row.D.Denot g.row.K.Denot). IsPrefix c.args.pass.now.seen (list_of s)) (sym is) begins)) c.requires.submitted,
  c.requires.fit,
  c.requires.decodes,
)
