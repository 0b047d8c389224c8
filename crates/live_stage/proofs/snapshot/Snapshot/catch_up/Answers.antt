use Rattle.std.proofs.Common.{◌∙◌, sym, ap, subst}
use Rattle.live_stage.specs.Trace.{SnapshotView, snapshot, HasTrace}
use Rattle.live_stage.proofs.Stepping.{caught_up}
use Rattle.live_stage.proofs.snapshot.Snapshot.catch_up.Goals as goal

pub returns-clause-trace : goal.returns-clause-trace
returns-clause-trace c trace had =
    caught_up (snapshot c.self.inside.seen c.self.inside.tables c.self.inside.behind.items) (snapshot c.self.inside.seen c.apply_all.new.tables c.apply_all.new.steps.items) trace c.apply_all.ensures.goes_on
    (subst (λ (s : SnapshotView). HasTrace s trace) (sym c.self.view_is) had)

pub returns-clause-lifetimes : goal.returns-clause-lifetimes
returns-clause-lifetimes c = c.apply_all.ensures.lifetimes ∙ ap (λ (s : SnapshotView). s.tables.ttls) c.self.view_is
