use Rattle.std.proofs.Common.{◌≡◌, ◌∙◌, ◌<◌, ◌^◌, length, ap, subst, rules}
use Rattle.core_ends.specs.core_state.declared.state.CoreState.{CoreState}
use Rattle.live_stage.specs.Notes.{StageView}
use Rattle.live_stage.specs.Trace.{live_of}
use Rattle.live_stage.proofs.Counts.{live_word}
use Rattle.live_stage.proofs.stage.Stage.live.Goals as goal

pub returns : goal.returns
returns g c =
    let events = c.self.inside.followed.core.events.list in
    let fits : c.event_count-count.result < 2 ^ 64 = search rules in
    let count : c.event_count-count.result ≡ length events = c.event_count-count.ensures ∙ ap (λ (core : CoreState g.row.D.Denot g.row.K.Denot). length core.events.list) c.core.ensures.core in
    live_word events c.self.inside.applied c.self.inside.sweeps (subst (λ n. n < 2 ^ 64) count fits) c.self.invariant.0.2 c.self.invariant.0.1
    ∙ ap (λ (s : StageView g.row.D.Denot g.row.K.Denot). live_of s.core) c.self.view_is
