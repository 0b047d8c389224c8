use Rattle.std.proofs.Common.{◌≡◌, ◌∙◌, ◌+◌, ◌%◌, ◌^◌, ◌++◌, length, Option, option_map, sym, ap, subst}
use Rattle.core_ends.specs.fleet_rows.declared.command.Command.{Command}
use Rattle.core_ends.specs.core_state.declared.state.CoreState.{CoreState}
use Rattle.core_ends.specs.core_course.Sight.{sight_of}
use Rattle.live_stage.specs.declared.note.Refused.{Refused}
use Rattle.live_stage.specs.Notes.{StageView, notes_of, notes_in, told, with_note, list_of}
use Rattle.live_stage.specs.Causes.{IsCounted}
use Rattle.live_stage.specs.StageCalls.{submit_note, submit_adds}
use Rattle.hub_calls.proofs.Steps.{submit_follows}
use Rattle.live_stage.proofs.ShelfSteps.{submit_shelf}
use Rattle.live_stage.proofs.Steps.{follows_more, submit_keeps, submit_lists}
use Rattle.live_stage.proofs.stage.Stage.submit.Goals as goal

pub invariant_of-self : goal.invariant_of-self
invariant_of-self g c =
    let w = sight_of g.D.Disk g.K.Keeper in
    let f = c.self.inside.followed in
    let n = c.submit-came.new.self in
    let came = c.submit-came.result in
    let d = c.submit-came.ensures.does in
    let notes = notes_of c.self.inside.notes.items in
    let now = notes_of c.note.new.notes.items in
    let before : c.event_count-before.result ≡ length f.core.events.list = c.event_count-before.ensures ∙ ap (λ (core : CoreState g.row.D.Denot g.row.K.Denot). length core.events.list) c.core.ensures.core in
    let refused : option_map told c.refused_submit.result ≡ submit_note came c.args.command = c.refused_submit.ensures ∙ ap (λ (x : Command). submit_note came x) c.of-told.ensures in
    let now_is : now ≡ with_note (length f.core.events.list) (submit_note came c.args.command) notes = c.note.ensures.notes ∙ (λ i. with_note (before i) (refused i) notes) in
    let noted = c.note.ensures.noted ∙ ap (λ (r : Option (Refused Command)). (c.self.inside.noted + notes_in r) % 2 ^ 64) refused in (
      subst (λ k. IsCounted w k c.self.inside.sweeps c.self.inside.applied (record { start = n.start; core = n.core; notes = now })) (sym noted)
          (submit_keeps w f.start n.start f.core n.core c.submit-came.ensures.start notes now c.self.inside.noted c.self.inside.sweeps c.self.inside.applied c.self.invariant.0 c.submit-came.ensures.follows came c.args.command d now_is),
      submit_shelf w f.start n.start f.core n.core c.submit-came.ensures.start came c.args.command c.self.inside.shelf d c.self.invariant.1,
      follows_more w f.start n.start f.core n.core c.submit-came.ensures.start c.submit-came.ensures.follows (submit_follows w f.core n.core came c.args.command d),
    )

pub returns-clause-list : goal.returns-clause-list
returns-clause-list g c =
    let w = sight_of g.D.Disk g.K.Keeper in
    let f = c.self.inside.followed in
    let n = c.submit-came.new.self in
    let came = c.submit-came.result in
    let d = c.submit-came.ensures.does in
    let notes = notes_of c.self.inside.notes.items in
    let now = notes_of c.note.new.notes.items in
    let before : c.event_count-before.result ≡ length f.core.events.list = c.event_count-before.ensures ∙ ap (λ (core : CoreState g.row.D.Denot g.row.K.Denot). length core.events.list) c.core.ensures.core in
    let refused : option_map told c.refused_submit.result ≡ submit_note came c.args.command = c.refused_submit.ensures ∙ ap (λ (x : Command). submit_note came x) c.of-told.ensures in
    let now_is : now ≡ with_note (length f.core.events.list) (submit_note came c.args.command) notes = c.note.ensures.notes ∙ (λ i. with_note (before i) (refused i) notes) in
    submit_lists w f.start n.start f.core n.core c.submit-came.ensures.start notes now c.self.inside.noted c.self.inside.sweeps c.self.inside.applied c.self.invariant.0 c.submit-came.ensures.follows came c.args.command d now_is
    ∙ ap (λ (s : StageView g.row.D.Denot g.row.K.Denot). list_of s ++ submit_adds came c.args.command) c.self.view_is

pub returns-clause-causes : goal.returns-clause-causes
returns-clause-causes g c =
    let w = sight_of g.D.Disk g.K.Keeper in
    let f = c.self.inside.followed in
    let n = c.submit-came.new.self in
    let came = c.submit-came.result in
    let d = c.submit-came.ensures.does in
    let notes = notes_of c.self.inside.notes.items in
    let now = notes_of c.note.new.notes.items in
    let before : c.event_count-before.result ≡ length f.core.events.list = c.event_count-before.ensures ∙ ap (λ (core : CoreState g.row.D.Denot g.row.K.Denot). length core.events.list) c.core.ensures.core in
    let refused : option_map told c.refused_submit.result ≡ submit_note came c.args.command = c.refused_submit.ensures ∙ ap (λ (x : Command). submit_note came x) c.of-told.ensures in
    let now_is : now ≡ with_note (length f.core.events.list) (submit_note came c.args.command) notes = c.note.ensures.notes ∙ (λ i. with_note (before i) (refused i) notes) in
    (submit_keeps w f.start n.start f.core n.core c.submit-came.ensures.start notes now c.self.inside.noted c.self.inside.sweeps c.self.inside.applied c.self.invariant.0 c.submit-came.ensures.follows came c.args.command d now_is).4
