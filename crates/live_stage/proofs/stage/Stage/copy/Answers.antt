use Rattle.std.proofs.Common.{◌∙◌, sym, ap, subst}
use Rattle.core_ends.specs.core_state.declared.state.CoreState.{CoreState}
use Rattle.core_ends.specs.history_spec.Trace.{Trace}
use Rattle.core_ends.specs.fleet_tables.Stands.{Stands}
use Rattle.core_ends.specs.core_course.Sight.{sight_of}
use Rattle.live_stage.specs.Trace.{HasAll}
use Rattle.live_stage.proofs.Lookups.{whole_first}
use Rattle.live_stage.proofs.stage.Stage.copy.Goals as goal

pub returns : goal.returns
returns g c =
    let w = sight_of g.D.Disk g.K.Keeper in
    let stage = c.args.self.now in
    let same : (history : Trace) → Stands stage.core.tables history → Stands c.in_ok-tables.tables history = λ history stands.
    c.in_ok-tables.ensures.stands history (subst (λ (core : CoreState g.row.D.Denot g.row.K.Denot). Stands core.tables history) (sym c.core.ensures) stands) in
    subst (HasAll w stage) (sym c.whole.ensures) (
      c.requires.live,
      whole_first w stage c.args.live c.in_ok-tables.tables c.is_followed.ensures.follows c.requires.live
          (c.in_ok-tables.ensures.lifetimes ∙ ap (λ (core : CoreState g.row.D.Denot g.row.K.Denot). core.tables.ttls) c.core.ensures) same,
    )
