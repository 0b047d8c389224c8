use Rattle.std.proofs.Common.{◌≡◌, ℕ, List, map, Option, Some, inl, inr, refl, sym, ap, subst, ◌≤◌, ◌+◌, ◌∙◌}
use Rattle.core_spec.specs.record_spec.Store.{store_text, IsStoreRecord}
use Rattle.log_pair.specs.log_spec.declared.side.Side.{Side}
use Rattle.log_pair.specs.Pair.{flipped, side_of, disk_a, disk_b, pair_frames}
use Rattle.log_pair.specs.Turns.{old_image, renewed_image}
use Rattle.store_records.specs.Reading.{store_at}
use Rattle.fleet_keeper.specs.declared.kept.Kept.{Kept}
use Rattle.fleet_keeper.specs.Answers.{of_checkpoint, faults_in}
use Rattle.fleet_keeper.specs.Keeper.{pair_of}
use Rattle.fleet_keeper.specs.Laws.{seen_image}
use Rattle.fleet_keeper.specs.Pairs.{pair_records}
use Rattle.fleet_keeper.specs.Records.{read_all}
use Rattle.fleet_keeper.proofs.Keeps.{any_moment, either, all_are, checkpoint_ok, by_checkpoint}
use Rattle.fleet_keeper.proofs.Steps.{renewed}
use Rattle.fleet_keeper.proofs.Within.{checkpoint_within}
use Rattle.fleet_keeper.proofs.log_keeper.LogKeeperKeeper.checkpoint.Goals as goal

pub returns-clause-any_moment : goal.returns-clause-any_moment
returns-clause-any_moment g c o since =
    let d = g.D.Disk in
    let old = pair_of c.args.self.now in
    let recs = c.args.recs.now in
    let frames = c.in-Ok.frames in
    let is : read_all store_at frames ≡ Some recs = renewed frames recs c.requires.fits (c.in-Ok.ensures.spelt ∙ ap (map store_text) c.as_slice.ensures.value) in
    any_moment store_at (old_image d.seen old) (renewed_image old frames) (pair_records store_at d.seen old) (Some recs) refl is
    d.may_leave d.moment d.left_since g.met.D.Disk.only_now (flipped (side_of old)) old c.checkpoint-answer.new.self c.checkpoint-answer.ensures.any_moment o since

pub returns-clause-each : goal.returns-clause-each
returns-clause-each g c o image =
    let d = g.D.Disk in
    let old = pair_of c.args.self.now in
    let new = c.checkpoint-answer.new.self in
    let recs = c.args.recs.now in
    let frames = c.in-Ok.frames in
    let is : read_all store_at frames ≡ Some recs = renewed frames recs c.requires.fits (c.in-Ok.ensures.spelt ∙ ap (map store_text) c.as_slice.ensures.value) in
    by_checkpoint c.checkpoint-answer.result
    (λ ok. inr (all_are store_at frames d.may_leave new (c.checkpoint-answer.ensures.stands ok) o image ∙ is))
    (λ down. either store_at (old_image d.seen old) (renewed_image old frames) (pair_records store_at d.seen old) (Some recs) refl is d.may_leave new (c.checkpoint-answer.ensures.open_gate down) o image)
    (λ refused. inl (all_are store_at (pair_frames d.seen old) d.may_leave new (c.checkpoint-answer.ensures.refused refused) o image))

pub returns-clause-ok : goal.returns-clause-ok
returns-clause-ok g c ok o image =
    let d = g.D.Disk in
    let recs = c.args.recs.now in
    let frames = c.in-Ok.frames in
    let is : read_all store_at frames ≡ Some recs = renewed frames recs c.requires.fits (c.in-Ok.ensures.spelt ∙ ap (map store_text) c.as_slice.ensures.value) in
    let done = checkpoint_ok c.checkpoint-answer.result (sym c.checked.ensures.answer ∙ ok) in
    all_are store_at frames d.may_leave c.checkpoint-answer.new.self (c.checkpoint-answer.ensures.stands done) o image ∙ is

pub returns-clause-kept_all : goal.returns-clause-kept_all
returns-clause-kept_all g c ok told =
    let d = g.D.Disk in
    let new = c.checkpoint-answer.new.self in
    let recs = c.args.recs.now in
    let frames = c.in-Ok.frames in
    let is : read_all store_at frames ≡ Some recs = renewed frames recs c.requires.fits (c.in-Ok.ensures.spelt ∙ ap (map store_text) c.as_slice.ensures.value) in
    let done = checkpoint_ok c.checkpoint-answer.result (sym c.checked.ensures.answer ∙ ok) in
    let up = c.checkpoint-answer.ensures.again (λ down. let no = sym done ∙ down in cc) in
    let image = seen_image store_at d.seen d.may_leave new up (g.met.D.Disk.seen_may_stay (disk_a new) told) (g.met.D.Disk.seen_may_stay (disk_b new) told) in
    all_are store_at frames d.may_leave new (c.checkpoint-answer.ensures.stands done) (pair_records store_at d.seen new) image ∙ is

pub returns-clause-within : goal.returns-clause-within
returns-clause-within g c since is =
    let count = c.args.self.now.faults in
    let more = c.checked.new.faults in
    let most : more ≤ count + faults_in (of_checkpoint c.checkpoint-answer.result) = subst (λ (k : Kept). more ≤ count + faults_in k) c.checked.ensures.answer c.checked.ensures.most in
    checkpoint_within g.D.Disk.fault_count (pair_of c.args.self.now) c.checkpoint-answer.new.self since count more is c.checkpoint-answer.result c.checkpoint-answer.ensures.any_moment.untouched c.checkpoint-answer.ensures.cause c.checkpoint-answer.ensures.twice c.checkpoint-answer.ensures.down.0 most

pub returns-clause-side : goal.returns-clause-side
returns-clause-side g c ok =
    let done = checkpoint_ok c.checkpoint-answer.result (sym c.checked.ensures.answer ∙ ok) in
    ap (λ (side : Side). Some side) (c.checkpoint-answer.ensures.side done)

pub returns-clause-same_side : goal.returns-clause-same_side
returns-clause-same_side g c other =
    ap (λ (side : Side). Some side) (c.checkpoint-answer.ensures.same_side (λ done. other (c.checked.ensures.answer ∙ ap of_checkpoint done)))
