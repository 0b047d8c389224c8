use Rattle.std.proofs.Common.{◌∙◌, ◌≡◌, ⊎_elim, refl, sym, subst, List, ℕ}
use Rattle.busy_commands.proofs.of_plain_laws.Options.{none_some, some_is}
use Rattle.busy_commands.specs.program_words.declared.request.Request.{Request}
use Rattle.busy_commands.specs.program_words.declared.request.Request.TheVariants as request
use Rattle.busy_commands.specs.program_words.Words.{IsRequest, HasMoment}
use Rattle.busy_commands.specs.calm_commands.Openings.{disk_sight, IsOpeningEnd}
use Rattle.busy_commands.specs.calm_commands.declared.status.Status.TheVariants as status
use Rattle.busy_commands.specs.calm_commands.Told.{stream}
use Rattle.busy_commands.specs.calm_commands.Calm.{IsSweepEnd, IsLinesEnd, IsPayloadEnd}
use Rattle.busy_commands.specs.calm_commands.Compacting.{IsCompactEnd}
use Rattle.busy_commands.specs.calm_commands.Rows.{pattern_sight, IsRowsEnd, IsQueryRun}
use Rattle.fleet_app.specs.Words.{IsCalm}
use Rattle.fleet_app.specs.Runs.{outside, IsShowEnd, IsInitEnd, IsMakeEnd, CalmRun}
use Rattle.program_words.proofs.Requested.{query_asks}
use Rattle.fleet_app.proofs.calm.run_request.Goals as goal

pub returns-in-Show-clause-run : goal.returns-in-Show-clause-run
returns-in-Show-clause-run g c =
    let d = g.D.Disk in
    let s = g.S.Source in
    let o = g.O.Sink in
    let p = g.P.Patterns in
    let w = disk_sight d.is_told d.seen d.may_leave d.moment d.left_since d.fault_count in
    let patterns = pattern_sight (p.says c.args.patterns.now) (p.asked c.args.patterns.now) (p.refusals c.args.patterns.now) in
    let spool = stream (s.left c.args.spool.now) (s.fault_count c.args.spool.now) in
    let before = outside spool (stream (o.held c.args.out.now) (o.fault_count c.args.out.now)) patterns in
    let now = outside (stream (s.left c.show-status.new.spool) (s.fault_count c.show-status.new.spool)) (stream (o.held c.show-status.new.out) (o.fault_count c.show-status.new.out)) patterns in
    subst (λ (r : Request). CalmRun w c.args.words.now r before now c.args.disks c.args.disks c.show-status.result) (sym c.in-Show.is) (c.show-status.ensures, refl, refl)

pub returns-in-Show-clause-useful : goal.returns-in-Show-clause-useful
returns-in-Show-clause-useful g c usage = subst IsShowEnd usage c.show-status.ensures.ends

pub returns-in-Init-clause-run : goal.returns-in-Init-clause-run
returns-in-Init-clause-run g c =
    let d = g.D.Disk in
    let s = g.S.Source in
    let o = g.O.Sink in
    let p = g.P.Patterns in
    let w = disk_sight d.is_told d.seen d.may_leave d.moment d.left_since d.fault_count in
    let patterns = pattern_sight (p.says c.args.patterns.now) (p.asked c.args.patterns.now) (p.refusals c.args.patterns.now) in
    let spool = stream (s.left c.args.spool.now) (s.fault_count c.args.spool.now) in
    let before = outside spool (stream (o.held c.args.out.now) (o.fault_count c.args.out.now)) patterns in
    let e = c.init-status.ensures in
    subst (λ (r : Request). CalmRun w c.args.words.now r before before c.args.disks c.init-status.new.disks c.init-status.result) (sym c.in-Init.is) (e.run, e.queue_cause, e.store_cause, refl)

pub returns-in-Init-clause-useful : goal.returns-in-Init-clause-useful
returns-in-Init-clause-useful g c usage = subst IsInitEnd usage c.init-status.ensures.run.ends

pub sweep_disks-requires : goal.sweep_disks-requires
sweep_disks-requires g c = record { stamp = subst HasMoment c.in-Sweep.is c.requires.moment }

pub returns-in-Sweep-clause-run : goal.returns-in-Sweep-clause-run
returns-in-Sweep-clause-run g c =
    let d = g.D.Disk in
    let s = g.S.Source in
    let o = g.O.Sink in
    let p = g.P.Patterns in
    let w = disk_sight d.is_told d.seen d.may_leave d.moment d.left_since d.fault_count in
    let patterns = pattern_sight (p.says c.args.patterns.now) (p.asked c.args.patterns.now) (p.refusals c.args.patterns.now) in
    let spool = stream (s.left c.args.spool.now) (s.fault_count c.args.spool.now) in
    let before = outside spool (stream (o.held c.args.out.now) (o.fault_count c.args.out.now)) patterns in
    subst (λ (r : Request). CalmRun w c.args.words.now r before before c.args.disks c.sweep_disks.result.disks c.sweep_disks.result.status) (sym c.in-Sweep.is) (c.sweep_disks.ensures, refl)

pub returns-in-Sweep-clause-useful : goal.returns-in-Sweep-clause-useful
returns-in-Sweep-clause-useful g c usage = subst IsSweepEnd usage c.sweep_disks.ensures.ends

pub returns-in-Compact-clause-run : goal.returns-in-Compact-clause-run
returns-in-Compact-clause-run g c =
    let d = g.D.Disk in
    let s = g.S.Source in
    let o = g.O.Sink in
    let p = g.P.Patterns in
    let w = disk_sight d.is_told d.seen d.may_leave d.moment d.left_since d.fault_count in
    let patterns = pattern_sight (p.says c.args.patterns.now) (p.asked c.args.patterns.now) (p.refusals c.args.patterns.now) in
    let spool = stream (s.left c.args.spool.now) (s.fault_count c.args.spool.now) in
    let before = outside spool (stream (o.held c.args.out.now) (o.fault_count c.args.out.now)) patterns in
    subst (λ (r : Request). CalmRun w c.args.words.now r before before c.args.disks c.compact_disks.result.disks c.compact_disks.result.status) (sym c.in-Compact.is) (c.compact_disks.ensures, refl)

pub returns-in-Compact-clause-useful : goal.returns-in-Compact-clause-useful
returns-in-Compact-clause-useful g c usage = subst IsCompactEnd usage c.compact_disks.ensures.ends

pub returns-in-Discards-clause-run : goal.returns-in-Discards-clause-run
returns-in-Discards-clause-run g c =
    let d = g.D.Disk in
    let s = g.S.Source in
    let o = g.O.Sink in
    let p = g.P.Patterns in
    let w = disk_sight d.is_told d.seen d.may_leave d.moment d.left_since d.fault_count in
    let patterns = pattern_sight (p.says c.args.patterns.now) (p.asked c.args.patterns.now) (p.refusals c.args.patterns.now) in
    let spool = stream (s.left c.args.spool.now) (s.fault_count c.args.spool.now) in
    let before = outside spool (stream (o.held c.args.out.now) (o.fault_count c.args.out.now)) patterns in
    let now = outside spool (stream (o.held c.print_discards.new.out) (o.fault_count c.print_discards.new.out)) patterns in
    subst (λ (r : Request). CalmRun w c.args.words.now r before now c.args.disks c.print_discards.result.disks c.print_discards.result.status) (sym c.in-Discards.is) (c.print_discards.ensures, refl, refl)

pub returns-in-Discards-clause-useful : goal.returns-in-Discards-clause-useful
returns-in-Discards-clause-useful g c usage = ⊎_elim (λ ends. subst IsLinesEnd usage ends) (λ ends. subst IsOpeningEnd usage ends) c.print_discards.ensures.ends

pub returns-in-Payload-clause-run : goal.returns-in-Payload-clause-run
returns-in-Payload-clause-run g c =
    let d = g.D.Disk in
    let s = g.S.Source in
    let o = g.O.Sink in
    let p = g.P.Patterns in
    let w = disk_sight d.is_told d.seen d.may_leave d.moment d.left_since d.fault_count in
    let patterns = pattern_sight (p.says c.args.patterns.now) (p.asked c.args.patterns.now) (p.refusals c.args.patterns.now) in
    let spool = stream (s.left c.args.spool.now) (s.fault_count c.args.spool.now) in
    let before = outside spool (stream (o.held c.args.out.now) (o.fault_count c.args.out.now)) patterns in
    let now = outside spool (stream (o.held c.print_payload.new.out) (o.fault_count c.print_payload.new.out)) patterns in
    subst (λ (r : Request). CalmRun w c.args.words.now r before now c.args.disks c.print_payload.result.disks c.print_payload.result.status) (sym c.in-Payload.is) (c.print_payload.ensures, refl, refl)

pub returns-in-Payload-clause-useful : goal.returns-in-Payload-clause-useful
returns-in-Payload-clause-useful g c usage = ⊎_elim (λ ends. subst IsPayloadEnd usage ends) (λ ends. subst IsOpeningEnd usage ends) c.print_payload.ensures.ends

pub unreachable-requires : goal.unreachable-requires
unreachable-requires g c = subst IsCalm c.in-Run.is c.requires.calm

pub unreachable-requires-in-Serve : goal.unreachable-requires-in-Serve
unreachable-requires-in-Serve g c = subst IsCalm c.in-Serve.is c.requires.calm

pub unreachable-requires-in-None : goal.unreachable-requires-in-None
unreachable-requires-in-None g c =
    let query = query_asks c.args.words.now (subst (IsRequest c.args.words.now) c.in-Query.is c.requires.words) in
    none_some query.0 (rw c.in-None.is at c.requires.query query.0 query.1)

pub returns-in-Some-clause-run : goal.returns-in-Some-clause-run
returns-in-Some-clause-run g c =
    let d = g.D.Disk in
    let s = g.S.Source in
    let o = g.O.Sink in
    let p = g.P.Patterns in
    let w = disk_sight d.is_told d.seen d.may_leave d.moment d.left_since d.fault_count in
    let at = c.args in
    let to = c.print_rows.new in
    let words = at.words.now in
    let spool = stream (s.left at.spool.now) (s.fault_count at.spool.now) in
    let out = stream (o.held at.out.now) (o.fault_count at.out.now) in
    let out_after = stream (o.held to.out) (o.fault_count to.out) in
    let patterns = pattern_sight (p.says at.patterns.now) (p.asked at.patterns.now) (p.refusals at.patterns.now) in
    let patterns_after = pattern_sight (p.says to.patterns) (p.asked to.patterns) (p.refusals to.patterns) in
    let after = c.print_rows.result.disks in
    let answer = c.print_rows.result.status in
    let asked = c.in-Some.text.now in
    let bytes : c.as_bytes.result.now ≡ asked = c.as_bytes.ensures.value in
    let run : CalmRun w words request.Query (outside spool out patterns) (outside spool out_after patterns_after) at.disks after answer = λ text is. (
      subst (λ (t : List ℕ). IsQueryRun w t patterns patterns_after out out_after at.disks after answer) (bytes ∙ some_is asked text (rw c.in-Some.is at c.requires.query text is)) c.print_rows.ensures,
      refl,
    ) in
    subst (λ (r : Request). CalmRun w words r (outside spool out patterns) (outside spool out_after patterns_after) at.disks after answer) (sym c.in-Query.is) run

pub returns-in-Some-clause-useful : goal.returns-in-Some-clause-useful
returns-in-Some-clause-useful g c usage = ⊎_elim (λ ends. subst IsRowsEnd usage ends) (λ ends. subst IsOpeningEnd usage ends) c.print_rows.ensures.ends

pub returns-in-Make-clause-run : goal.returns-in-Make-clause-run
returns-in-Make-clause-run g c =
    let d = g.D.Disk in
    let s = g.S.Source in
    let o = g.O.Sink in
    let p = g.P.Patterns in
    let w = disk_sight d.is_told d.seen d.may_leave d.moment d.left_since d.fault_count in
    let patterns = pattern_sight (p.says c.args.patterns.now) (p.asked c.args.patterns.now) (p.refusals c.args.patterns.now) in
    let spool = stream (s.left c.args.spool.now) (s.fault_count c.args.spool.now) in
    let before = outside spool (stream (o.held c.args.out.now) (o.fault_count c.args.out.now)) patterns in
    let now = outside spool (stream (o.held c.print_made-status.new.out) (o.fault_count c.print_made-status.new.out)) patterns in
    subst (λ (r : Request). CalmRun w c.args.words.now r before now c.args.disks c.args.disks c.print_made-status.result) (sym c.in-Make.is) (c.print_made-status.ensures, refl, refl, refl)

pub returns-in-Make-clause-useful : goal.returns-in-Make-clause-useful
returns-in-Make-clause-useful g c usage = subst IsMakeEnd usage c.print_made-status.ensures.ends
