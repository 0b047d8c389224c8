use Rattle.std.proofs.Common.{◌∙◌, ◌%◌, ◌^◌, length, ap}
use Rattle.hub_calls.specs.Entries.{entries}
use Rattle.live_stage.specs.Notes.{StageView, notes_of, with_notes, list_of}
use Rattle.live_stage.proofs.Counts.{word_sum}
use Rattle.live_stage.proofs.Lists.{staged_length}
use Rattle.live_stage.proofs.stage.StageHeld.count.Goals as goal

pub returns : goal.returns
returns g c =
    let f = c.self.inside.followed in
    let notes = notes_of c.self.inside.notes.items in
    let es = entries f.start f.core.events.list in
    word_sum c.count.result c.self.inside.noted (length es) (length notes) (length (with_notes notes es)) c.count.ensures c.self.invariant.0.0 (staged_length notes es)
    ∙ ap (λ (s : StageView g.row.D.Denot g.row.K.Denot). length (list_of s) % 2 ^ 64) c.self.view_is
