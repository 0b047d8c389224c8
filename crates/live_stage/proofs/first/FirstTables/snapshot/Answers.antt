use Rattle.std.proofs.Common.{◌∙◌, sym, ap, subst}
use Rattle.lock_calls.specs.Calls.{Lasts}
use Rattle.core_ends.specs.core_course.Sight.{sight_of}
use Rattle.live_stage.specs.Trace.{SnapshotView, HasFirstIn}
use Rattle.live_stage.specs.First.{FirstView, first, AreFirstOf}
use Rattle.live_stage.proofs.Firsts.{begins_first}
use Rattle.live_stage.proofs.first.FirstTables.snapshot.Goals as goal

pub returns-clause-whole : goal.returns-clause-whole
returns-clause-whole g c = (ap (λ (s : SnapshotView). s.seen) c.whole.ensures ∙ ap (λ (f : FirstView). f.live) c.self.view_is, ap (λ (s : SnapshotView). s.behind) c.whole.ensures)

pub returns-clause-first : goal.returns-clause-first
returns-clause-first g c =
    let w = sight_of g.D.Disk g.K.Keeper in
    let begins = c.requires.begins in
    subst (λ (s : SnapshotView). Lasts (HasFirstIn w s) c.args.pass.now.seen) (sym c.whole.ensures)
    (begins_first w begins.0 (first c.self.inside.live c.self.inside.list) c.in_ok-tables.tables c.args.pass.now.seen
    (subst (λ (f : FirstView). AreFirstOf begins.0 f) (sym c.self.view_is) begins.1) begins.2 c.in_ok-tables.ensures.value c.in_ok-tables.ensures.stands)
