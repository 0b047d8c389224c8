use Rattle.std.proofs.Common.{◌∙◌, ◌<◌, ◌^◌, true, false, refl, sym, ap, subst, rules}
use Rattle.core_ends.specs.core_state.declared.found.Found.{Found}
use Rattle.core_ends.specs.core_state.declared.state.CoreState.{CoreState}
use Rattle.core_ends.specs.core_course.Sight.{sight_of, is_down}
use Rattle.hub_calls.specs.Entries.{entries, WasSubmitted}
use Rattle.hub_calls.specs.Follows.{Follows}
use Rattle.hub_calls.proofs.Entries.{submitted_seen}
use Rattle.hub_calls.proofs.Steps.{settle_follows}
use Rattle.live_stage.specs.Notes.{StageView, notes_of, list_of, core_entries}
use Rattle.live_stage.specs.Trace.{applied_then}
use Rattle.live_stage.specs.StageCalls.{AddsWork}
use Rattle.live_stage.proofs.Lists.{entries_found}
use Rattle.core_ends.proofs.of_core_state.Submissions.{submitted_command}
use Rattle.live_stage.proofs.ShelfSteps.{shelf_settled}
use Rattle.live_stage.proofs.Steps.{follows_more, work_keeps, adds_work, settles_counted}
use Rattle.live_stage.proofs.stage.Stage.settle.Goals as goal

pub invariant_of-self : goal.invariant_of-self
invariant_of-self g c =
    let w = sight_of g.D.Disk g.K.Keeper in
    let f = c.self.inside.followed in
    let n = c.settle-settled.new.self in
    let d = c.settle-settled.ensures.does in
    let notes = notes_of c.self.inside.notes.items in
    let inv = c.self.invariant.0 in
    let follows = c.settle-settled.ensures.follows in
    let submitted : WasSubmitted c.args.job.receipt c.args.job.command (entries f.start f.core.events.list) =
    subst (WasSubmitted c.args.job.receipt c.args.job.command) (entries_found notes (entries f.start f.core.events.list))
    (subst (λ (s : StageView g.row.D.Denot g.row.K.Denot). WasSubmitted c.args.job.receipt c.args.job.command (core_entries (list_of s))) (sym c.self.view_is) c.requires.submitted) in
    let was = submitted_seen c.args.job.receipt c.args.job.command f.start f.core.found.queue.value f.core.events.list (ap (λ (found : Found). found.queue.value) follows.passed.opening.found) submitted in
    let works : Follows w true f.core n.core = settle_follows w true f.core n.core g.K.Keeper.generation c.settle-settled.result c.args.job c.args.verdict was c.requires.decodes c.requires.fit d in
    let fits : c.applied_after-self-inside.result < 2 ^ 64 = search rules in
    let said = c.applied_after-self-inside.ensures ∙ ap (λ (core : CoreState g.row.D.Denot g.row.K.Denot). applied_then c.settle-settled.result c.self.inside.applied core.events.list) c.core.ensures.core in
    let word = settles_counted c.settle-settled.result c.args.job c.args.verdict (w.store_faults f.core.store) (w.store_faults n.core.store) n.core.undone (is_down w n.core) f.core.events.list n.core.events.list
    c.self.inside.applied c.applied_after-self-inside.result inv.2 d.adds said fits in (
      work_keeps w f.start n.start f.core n.core c.settle-settled.ensures.start notes notes c.self.inside.noted c.self.inside.sweeps c.self.inside.applied inv works refl c.applied_after-self-inside.result word,
      shelf_settled w f.start n.start f.core n.core c.settle-settled.ensures.start c.args.job
          (λ h stood. submitted_command c.args.job.receipt c.args.job.command f.core.tables.ttls f.core.found.queue.value f.core.found.store.value f.core.events.list h
          (follows.passed.stands h stood).holds.found (follows.passed.stands h stood).holds.says.plain.legal was)
          (w.store_faults f.core.store) (w.store_faults n.core.store) n.core.undone (is_down w n.core) c.settle-settled.result c.args.verdict c.step_of-step.result c.self.inside.shelf c.after_settle.new.self
          d.adds c.step_of-step.ensures.step c.step_of-step.ensures.lawful c.after_settle.ensures c.self.invariant.1,
      follows_more w f.start n.start f.core n.core c.settle-settled.ensures.start c.settle-settled.ensures.follows (settle_follows w false f.core n.core g.K.Keeper.generation c.settle-settled.result c.args.job c.args.verdict was c.requires.decodes c.requires.fit d),
    )

pub returns-clause-causes : goal.returns-clause-causes
returns-clause-causes g c =
    let w = sight_of g.D.Disk g.K.Keeper in
    let f = c.self.inside.followed in
    let n = c.settle-settled.new.self in
    let d = c.settle-settled.ensures.does in
    let notes = notes_of c.self.inside.notes.items in
    let inv = c.self.invariant.0 in
    let follows = c.settle-settled.ensures.follows in
    let submitted : WasSubmitted c.args.job.receipt c.args.job.command (entries f.start f.core.events.list) =
    subst (WasSubmitted c.args.job.receipt c.args.job.command) (entries_found notes (entries f.start f.core.events.list))
    (subst (λ (s : StageView g.row.D.Denot g.row.K.Denot). WasSubmitted c.args.job.receipt c.args.job.command (core_entries (list_of s))) (sym c.self.view_is) c.requires.submitted) in
    let was = submitted_seen c.args.job.receipt c.args.job.command f.start f.core.found.queue.value f.core.events.list (ap (λ (found : Found). found.queue.value) follows.passed.opening.found) submitted in
    let works : Follows w true f.core n.core = settle_follows w true f.core n.core g.K.Keeper.generation c.settle-settled.result c.args.job c.args.verdict was c.requires.decodes c.requires.fit d in
    let fits : c.applied_after-self-inside.result < 2 ^ 64 = search rules in
    let said = c.applied_after-self-inside.ensures ∙ ap (λ (core : CoreState g.row.D.Denot g.row.K.Denot). applied_then c.settle-settled.result c.self.inside.applied core.events.list) c.core.ensures.core in
    let word = settles_counted c.settle-settled.result c.args.job c.args.verdict (w.store_faults f.core.store) (w.store_faults n.core.store) n.core.undone (is_down w n.core) f.core.events.list n.core.events.list
    c.self.inside.applied c.applied_after-self-inside.result inv.2 d.adds said fits in
    (work_keeps w f.start n.start f.core n.core c.settle-settled.ensures.start notes notes c.self.inside.noted c.self.inside.sweeps c.self.inside.applied inv works refl c.applied_after-self-inside.result word).4

pub returns-clause-list : goal.returns-clause-list
returns-clause-list g c =
    let w = sight_of g.D.Disk g.K.Keeper in
    let f = c.self.inside.followed in
    let n = c.settle-settled.new.self in
    let d = c.settle-settled.ensures.does in
    let notes = notes_of c.self.inside.notes.items in
    let inv = c.self.invariant.0 in
    let follows = c.settle-settled.ensures.follows in
    let submitted : WasSubmitted c.args.job.receipt c.args.job.command (entries f.start f.core.events.list) =
    subst (WasSubmitted c.args.job.receipt c.args.job.command) (entries_found notes (entries f.start f.core.events.list))
    (subst (λ (s : StageView g.row.D.Denot g.row.K.Denot). WasSubmitted c.args.job.receipt c.args.job.command (core_entries (list_of s))) (sym c.self.view_is) c.requires.submitted) in
    let was = submitted_seen c.args.job.receipt c.args.job.command f.start f.core.found.queue.value f.core.events.list (ap (λ (found : Found). found.queue.value) follows.passed.opening.found) submitted in
    let works : Follows w true f.core n.core = settle_follows w true f.core n.core g.K.Keeper.generation c.settle-settled.result c.args.job c.args.verdict was c.requires.decodes c.requires.fit d in
    subst (λ (s : StageView g.row.D.Denot g.row.K.Denot). AddsWork s (record { start = n.start; core = n.core; notes = notes })) c.self.view_is
    (adds_work w f.start n.start f.core n.core c.settle-settled.ensures.start notes notes c.self.inside.noted c.self.inside.sweeps c.self.inside.applied inv works refl)

pub settle-settled-requires-clause-submitted : goal.settle-settled-requires-clause-submitted
settle-settled-requires-clause-submitted g c =
    let f = c.self.inside.followed in
    let notes = notes_of c.self.inside.notes.items in
    subst (WasSubmitted c.args.job.receipt c.args.job.command) (entries_found notes (entries f.start f.core.events.list))
    (subst (λ (s : StageView g.row.D.Denot g.row.K.Denot). WasSubmitted c.args.job.receipt c.args.job.command (core_entries (list_of s))) (sym c.self.view_is) c.requires.submitted)
