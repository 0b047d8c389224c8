use Rattle.std.proofs.Common.{◌≡◌, ◌∙◌, ◌+◌, ◌%◌, ◌^◌, ◌++◌, length, Option, option_map, sym, ap, subst}
use Rattle.core_ends.specs.fleet_rows.declared.command.Command.{Command}
use Rattle.core_ends.specs.core_state.declared.state.CoreState.{CoreState}
use Rattle.core_ends.specs.core_course.Sight.{sight_of}
use Rattle.live_stage.specs.declared.note.Refused.{Refused}
use Rattle.live_stage.specs.Notes.{StageView, notes_of, notes_in, told, with_note, list_of}
use Rattle.live_stage.specs.Causes.{IsCounted}
use Rattle.live_stage.specs.StageCalls.{sweep_note, sweep_adds}
use Rattle.hub_calls.proofs.Steps.{sweep_follows}
use Rattle.live_stage.proofs.ShelfSteps.{shelf_swept}
use Rattle.live_stage.proofs.Steps.{follows_more, sweep_keeps, sweep_lists}
use Rattle.live_stage.proofs.stage.Stage.sweep.Goals as goal

pub invariant_of-self : goal.invariant_of-self
invariant_of-self g c =
    let w = sight_of g.D.Disk g.K.Keeper in
    let f = c.self.inside.followed in
    let n = c.sweep-came.new.self in
    let came = c.sweep-came.result in
    let d = c.sweep-came.ensures.does in
    let notes = notes_of c.self.inside.notes.items in
    let now = notes_of c.note.new.notes.items in
    let before : c.event_count-before.result ≡ length f.core.events.list = c.event_count-before.ensures ∙ ap (λ (core : CoreState g.row.D.Denot g.row.K.Denot). length core.events.list) c.core.ensures.core in
    let refused : option_map told c.refused_sweep.result ≡ sweep_note came c.args.kinds c.args.m = c.refused_sweep.ensures in
    let now_is : now ≡ with_note (length f.core.events.list) (sweep_note came c.args.kinds c.args.m) notes = c.note.ensures.notes ∙ (λ i. with_note (before i) (refused i) notes) in
    let noted = c.note.ensures.noted ∙ ap (λ (r : Option (Refused Command)). (c.self.inside.noted + notes_in r) % 2 ^ 64) refused in (
      subst (λ k. IsCounted w k ((c.self.inside.sweeps + c.sweeps_in.result) % 2 ^ 64) c.self.inside.applied (record { start = n.start; core = n.core; notes = now })) (sym noted)
          (subst (λ k. IsCounted w ((c.self.inside.noted + notes_in (sweep_note came c.args.kinds c.args.m)) % 2 ^ 64) ((c.self.inside.sweeps + k) % 2 ^ 64) c.self.inside.applied (record { start = n.start; core = n.core; notes = now })) (sym c.sweeps_in.ensures)
          (sweep_keeps w f.start n.start f.core n.core c.sweep-came.ensures.start notes now c.self.inside.noted c.self.inside.sweeps c.self.inside.applied c.self.invariant.0 c.sweep-came.ensures.follows g.K.Keeper.generation came c.args.kinds c.args.m d now_is)),
      shelf_swept w f.start n.start f.core n.core c.sweep-came.ensures.start came c.args.kinds c.args.m c.self.inside.shelf c.after_sweep.new.self d.adds c.after_sweep.ensures c.self.invariant.1,
      follows_more w f.start n.start f.core n.core c.sweep-came.ensures.start c.sweep-came.ensures.follows (sweep_follows w f.core n.core g.K.Keeper.generation came c.args.kinds c.args.m d),
    )

pub returns-clause-list : goal.returns-clause-list
returns-clause-list g c =
    let w = sight_of g.D.Disk g.K.Keeper in
    let f = c.self.inside.followed in
    let n = c.sweep-came.new.self in
    let came = c.sweep-came.result in
    let d = c.sweep-came.ensures.does in
    let notes = notes_of c.self.inside.notes.items in
    let now = notes_of c.note.new.notes.items in
    let before : c.event_count-before.result ≡ length f.core.events.list = c.event_count-before.ensures ∙ ap (λ (core : CoreState g.row.D.Denot g.row.K.Denot). length core.events.list) c.core.ensures.core in
    let refused : option_map told c.refused_sweep.result ≡ sweep_note came c.args.kinds c.args.m = c.refused_sweep.ensures in
    let now_is : now ≡ with_note (length f.core.events.list) (sweep_note came c.args.kinds c.args.m) notes = c.note.ensures.notes ∙ (λ i. with_note (before i) (refused i) notes) in
    sweep_lists w f.start n.start f.core n.core c.sweep-came.ensures.start notes now c.self.inside.noted c.self.inside.sweeps c.self.inside.applied c.self.invariant.0 c.sweep-came.ensures.follows g.K.Keeper.generation came c.args.kinds c.args.m d now_is
    ∙ ap (λ (s : StageView g.row.D.Denot g.row.K.Denot). list_of s ++ sweep_adds came c.args.kinds c.args.m) c.self.view_is

pub returns-clause-causes : goal.returns-clause-causes
returns-clause-causes g c =
    let w = sight_of g.D.Disk g.K.Keeper in
    let f = c.self.inside.followed in
    let n = c.sweep-came.new.self in
    let came = c.sweep-came.result in
    let d = c.sweep-came.ensures.does in
    let notes = notes_of c.self.inside.notes.items in
    let now = notes_of c.note.new.notes.items in
    let before : c.event_count-before.result ≡ length f.core.events.list = c.event_count-before.ensures ∙ ap (λ (core : CoreState g.row.D.Denot g.row.K.Denot). length core.events.list) c.core.ensures.core in
    let refused : option_map told c.refused_sweep.result ≡ sweep_note came c.args.kinds c.args.m = c.refused_sweep.ensures in
    let now_is : now ≡ with_note (length f.core.events.list) (sweep_note came c.args.kinds c.args.m) notes = c.note.ensures.notes ∙ (λ i. with_note (before i) (refused i) notes) in
    (sweep_keeps w f.start n.start f.core n.core c.sweep-came.ensures.start notes now c.self.inside.noted c.self.inside.sweeps c.self.inside.applied c.self.invariant.0 c.sweep-came.ensures.follows g.K.Keeper.generation came c.args.kinds c.args.m d now_is).4
