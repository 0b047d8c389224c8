use Rattle.std.proofs.Common.{◌≡◌, ◌∙◌, Option, Some, None, refl, sym, ap, subst}
use Rattle.program_words.proofs.of_plain_laws.Options.{none_some, some_is}
use Rattle.spool_run.specs.calm_commands.declared.status.Status.TheVariants as status
use Rattle.spool_run.specs.calm_commands.Openings.{disk_sight}
use Rattle.spool_run.specs.calm_commands.Rows.{pattern_sight}
use Rattle.spool_run.specs.calm_commands.Told.{stream}
use Rattle.program_words.specs.Words.{IsRequest, HasMoment}
use Rattle.program_words.specs.declared.request.Request.TheVariants.{Run, Serve}
use Rattle.program_words.specs.declared.request.Serving.{Serving}
use Rattle.program_words.proofs.Requested.{asked_run, run_alone}
use Rattle.spool_run.proofs.RunEnds.{never_usage}
use Rattle.busy_commands.specs.Serving.{front_sight, front_and_patterns}
use Rattle.busy_commands.specs.Busy.{runs, refuses, unread}
use Rattle.busy_commands.proofs.Ends.{served_never_usage, serve_never_usage, not_busy}
use Rattle.busy_commands.proofs.busy.run_busy.Goals as goal

pub run_spool-requires-clause-some : goal.run_spool-requires-clause-some
run_spool-requires-clause-some g c _ _ = (asked_run c.args.words.now c.in-Run.workers c.in-Run.now c.in-Run.serving (subst (IsRequest c.args.words.now) c.in-Run.is (rw c.in-Some.is at c.in-Ok.ensures.some))).0

pub run_spool-requires-clause-few : goal.run_spool-requires-clause-few
run_spool-requires-clause-few g c _ _ = (asked_run c.args.words.now c.in-Run.workers c.in-Run.now c.in-Run.serving (subst (IsRequest c.args.words.now) c.in-Run.is (rw c.in-Some.is at c.in-Ok.ensures.some))).1

pub run_spool-requires-clause-stamp : goal.run_spool-requires-clause-stamp
run_spool-requires-clause-stamp g c _ _ = subst HasMoment c.in-Run.is (rw c.in-Some.is at c.in-Ok.ensures.moment)

pub run_and_serve-requires-clause-some : goal.run_and_serve-requires-clause-some
run_and_serve-requires-clause-some g c _ _ = (asked_run c.args.words.now c.in-Run.workers c.in-Run.now c.in-Run.serving (subst (IsRequest c.args.words.now) c.in-Run.is (rw c.in-Some.is at c.in-Ok.ensures.some))).0

pub run_and_serve-requires-clause-few : goal.run_and_serve-requires-clause-few
run_and_serve-requires-clause-few g c _ _ = (asked_run c.args.words.now c.in-Run.workers c.in-Run.now c.in-Run.serving (subst (IsRequest c.args.words.now) c.in-Run.is (rw c.in-Some.is at c.in-Ok.ensures.some))).1

pub run_and_serve-requires-clause-stamp : goal.run_and_serve-requires-clause-stamp
run_and_serve-requires-clause-stamp g c _ _ = subst HasMoment c.in-Run.is (rw c.in-Some.is at c.in-Ok.ensures.moment)

pub serve_disks-requires : goal.serve_disks-requires
serve_disks-requires g c = record { stamp = subst HasMoment c.in-Serve.is (rw c.in-Some.is at c.in-Ok.ensures.moment) }

pub returns-in-None-serving-clause-run : goal.returns-in-None-serving-clause-run
returns-in-None-serving-clause-run g c =
    let alone = run_alone c.in-Some.request c.in-Run.workers c.in-Run.now c.in-Run.serving c.in-Run.is c.in-None-serving.is in
    runs (Run c.in-Run.workers c.in-Run.now None) (subst (IsRequest c.args.words.now) alone (rw c.in-Some.is at c.in-Ok.ensures.some)) (c.run_spool.ensures, refl)

pub returns-in-None-serving-clause-usage : goal.returns-in-None-serving-clause-usage
returns-in-None-serving-clause-usage g c usage =
    let d = g.D.Disk in
    let s = g.S.Source in
    let o = g.O.Sink in
    let w = disk_sight d.is_told d.seen d.may_leave d.moment d.left_since d.fault_count in
    let spool = stream (s.left c.args.spool.now) (s.fault_count c.args.spool.now) in
    let spool_after = stream (s.left c.run_spool.new.spool) (s.fault_count c.run_spool.new.spool) in
    let out = stream (o.held c.args.out.now) (o.fault_count c.args.out.now) in
    let out_after = stream (o.held c.run_spool.new.out) (o.fault_count c.run_spool.new.out) in
    absurd (never_usage w c.in-Run.now spool spool_after out out_after c.args.disks c.run_spool.result.disks c.run_spool.result.status c.run_spool.ensures usage)

pub returns-in-Some-serving-clause-run : goal.returns-in-Some-serving-clause-run
returns-in-Some-serving-clause-run g c =
    let served = c.in-Run.is ∙ ap (λ (s : Option Serving). Run c.in-Run.workers c.in-Run.now s) c.in-Some-serving.is in
    runs (Run c.in-Run.workers c.in-Run.now (Some c.in-Some-serving.serving)) (subst (IsRequest c.args.words.now) served (rw c.in-Some.is at c.in-Ok.ensures.some)) c.run_and_serve.ensures

pub returns-in-Some-serving-clause-usage : goal.returns-in-Some-serving-clause-usage
returns-in-Some-serving-clause-usage g c usage =
    let d = g.D.Disk in
    let s = g.S.Source in
    let o = g.O.Sink in
    let f = g.F.Front in
    let p = g.P.Patterns in
    let w = disk_sight d.is_told d.seen d.may_leave d.moment d.left_since d.fault_count in
    let at = c.args in
    let to = c.run_and_serve.new in
    let spool = stream (s.left at.spool.now) (s.fault_count at.spool.now) in
    let spool_after = stream (s.left to.spool) (s.fault_count to.spool) in
    let out = stream (o.held at.out.now) (o.fault_count at.out.now) in
    let out_after = stream (o.held to.out) (o.fault_count to.out) in
    let before = front_and_patterns (front_sight (f.listens at.front.now) (f.left at.front.now) (f.handed_out at.front.now) (f.given_back at.front.now) (f.fault_count at.front.now)) (pattern_sight (p.says at.patterns.now) (p.asked at.patterns.now) (p.refusals at.patterns.now)) in
    let after = front_and_patterns (front_sight (f.listens to.front) (f.left to.front) (f.handed_out to.front) (f.given_back to.front) (f.fault_count to.front)) (pattern_sight (p.says to.patterns) (p.asked to.patterns) (p.refusals to.patterns)) in
    let run = c.run_and_serve.result in
    absurd (served_never_usage w c.in-Run.now c.in-Some-serving.serving spool spool_after out out_after before after at.disks run.disks run.status c.run_and_serve.ensures usage)

pub returns-in-Serve-clause-run : goal.returns-in-Serve-clause-run
returns-in-Serve-clause-run g c =
    runs (Serve c.in-Serve.serving c.in-Serve.now) (subst (IsRequest c.args.words.now) c.in-Serve.is (rw c.in-Some.is at c.in-Ok.ensures.some)) (c.serve_disks.ensures, refl, refl)

pub returns-in-Serve-clause-usage : goal.returns-in-Serve-clause-usage
returns-in-Serve-clause-usage g c usage =
    let d = g.D.Disk in
    let f = g.F.Front in
    let p = g.P.Patterns in
    let w = disk_sight d.is_told d.seen d.may_leave d.moment d.left_since d.fault_count in
    let at = c.args in
    let to = c.serve_disks.new in
    let before = front_and_patterns (front_sight (f.listens at.front.now) (f.left at.front.now) (f.handed_out at.front.now) (f.given_back at.front.now) (f.fault_count at.front.now)) (pattern_sight (p.says at.patterns.now) (p.asked at.patterns.now) (p.refusals at.patterns.now)) in
    let after = front_and_patterns (front_sight (f.listens to.front) (f.left to.front) (f.handed_out to.front) (f.given_back to.front) (f.fault_count to.front)) (pattern_sight (p.says to.patterns) (p.asked to.patterns) (p.refusals to.patterns)) in
    let run = c.serve_disks.result in
    absurd (serve_never_usage w c.in-Serve.now c.in-Serve.serving before after at.disks run.disks run.status c.serve_disks.ensures usage)

pub returns-in_default-clause-run : goal.returns-in_default-clause-run
returns-in_default-clause-run g c =
    refuses (λ asked is busy. not_busy c.in-Some.request asked (some_is c.in-Some.request asked (rw c.in-Some.is at c.in-Ok.ensures.every asked is)) c.in_default.not-Run c.in_default.not-Serve busy) c.unused.ensures.status refl refl refl c.unused.ensures.disks

pub returns-in-None-clause-run : goal.returns-in-None-clause-run
returns-in-None-clause-run g c =
    refuses (λ asked is busy. none_some asked (rw c.in-None.is at c.in-Ok.ensures.every asked is)) c.unused-in-None.ensures.status refl refl refl c.unused-in-None.ensures.disks

pub returns-in-Err-clause-run : goal.returns-in-Err-clause-run
returns-in-Err-clause-run g c = unread c.unread.ensures.status refl refl refl c.unread.ensures.disks

pub returns-in-Err-clause-usage : goal.returns-in-Err-clause-usage
returns-in-Err-clause-usage g c usage = (let apart : status.Memory ≡ status.Usage = sym c.unread.ensures.status ∙ usage in absurd (cc))
