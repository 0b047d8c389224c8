use Rattle.std.proofs.Common.{◌∙◌, Option, IfSome, sym, ap, subst, append-nil}
use mathlib.Core.List.{IsPrefix}
use Rattle.lock_calls.specs.Calls.{Lasts}
use Rattle.core_ends.specs.core_course.Sight.{sight_of}
use Rattle.live_stage.specs.Notes.{StageView, list_of}
use Rattle.live_stage.specs.Trace.{SnapshotView, live_of, HasFirst, HasFirstIn}
use Rattle.live_stage.specs.StageCalls.{looked}
use Rattle.live_stage.proofs.Holds.{one_hold}
use Rattle.live_stage.proofs.Lookups.{kept_here, looked_lasts, kept_number}
use Rattle.live_stage.proofs.under_lock.look.Goals as goal

pub hold-now-requires-clause-callable : goal.hold-now-requires-clause-callable
hold-now-requires-clause-callable g c x begins p is =
    kept_here (sight_of g.D.Disk g.K.Keeper) c.take-was.result c.args.pass.now.seen p.now
    (subst (λ (s : StageView g.row.D.Denot g.row.K.Denot). IsPrefix c.args.pass.now.seen (list_of s)) (sym is) begins)
    (subst (λ (o : Option SnapshotView). IfSome o (λ s. Lasts (HasFirstIn (sight_of g.D.Disk g.K.Keeper) s) c.args.pass.now.seen)) (sym c.take-was.ensures.value) c.requires.first)

pub returns-clause-call : goal.returns-clause-call
returns-clause-call g c =
    let w = sight_of g.D.Disk g.K.Keeper in
    let r = c.hold-now.ensures.one_hold in
    let m = r.5.met in
    let shown = r.5.shown.now in
    let left = r.5.left.now in
    let n = live_of shown.core in (
      n,
      one_hold w g.K.Keeper.generation (looked n) c.args.pass.now c.hold-now.new.pass r.0 r.1 r.2 shown left r.5.shows r.5.leaves
          (ap (λ (s : StageView g.row.D.Denot g.row.K.Denot). list_of s) m.0 ∙ sym (append-nil (list_of shown)))
          (ap (λ (s : StageView g.row.D.Denot g.row.K.Denot). s.start) m.0) m.1.1.1.1.0
          (ap (λ (s : StageView g.row.D.Denot g.row.K.Denot). s.core) m.0, ap (λ (s : StageView g.row.D.Denot g.row.K.Denot). live_of s.core) (sym m.0)) m.1.1.1.1.1 r.3 r.7 r.8,
      kept_number (HasFirst w shown) c.hold-now.result.1 c.hold-now.result.0 n m.1.1.0,
    )

pub returns-clause-first : goal.returns-clause-first
returns-clause-first g c =
    let w = sight_of g.D.Disk g.K.Keeper in
    let r = c.hold-now.ensures.one_hold in
    let m = r.5.met in
    let shown = r.5.shown.now in
    let kept = subst (λ (o : Option SnapshotView). IfSome o (λ s. Lasts (HasFirstIn w s) c.args.pass.now.seen)) (sym c.take-was.ensures.value) c.requires.first in
    looked_lasts w c.hold-now.result.1 c.take-was.result c.hold-now.result.0 (live_of shown.core) shown c.args.pass.now.seen c.hold-now.new.pass.seen
    (subst (λ (s : StageView g.row.D.Denot g.row.K.Denot). IsPrefix c.args.pass.now.seen (list_of s)) (sym r.5.shows) r.3)
    (r.7 ∙ ap (λ (s : StageView g.row.D.Denot g.row.K.Denot). list_of s) (sym r.5.leaves ∙ m.0)) m.1.1.1.1.0 kept m.1.1.0 m.1.1.1.0
