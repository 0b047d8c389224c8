use Rattle.std.proofs.Common.{◌≡◌, ◌↔◌, inl, inr, refl, sym, subst, ◌∙◌}
use Rattle.fleet_keeper.specs.log_pair.Pair.{flipped, side_of, disk_a, disk_b, pair_frames, generation_of_pair}
use Rattle.fleet_keeper.specs.log_pair.Open.{PairCounts}
use Rattle.fleet_keeper.specs.log_pair.Turns.{old_image, renewed_image, IsCheckRefusal}
use Rattle.fleet_keeper.specs.log_pair.declared.checkpoint.Checked.{Checked}
use Rattle.queue_records.specs.Reading.{queue_at}
use Rattle.fleet_keeper.specs.declared.kept.Kept.{Kept}
use Rattle.fleet_keeper.specs.declared.kept.Kept.TheVariants as kept
use Rattle.fleet_keeper.specs.Kept as answer
use Rattle.fleet_keeper.specs.Answers.{of_checkpoint}
use Rattle.fleet_keeper.specs.Laws.{seen_image}
use Rattle.fleet_keeper.specs.Limits.{ArePast}
use Rattle.fleet_keeper.specs.Pairs.{pair_records}
use Rattle.fleet_keeper.specs.Records.{read_all}
use Rattle.fleet_keeper.proofs.Keeps.{any_moment, either, all_are, checkpoint_ok, by_checkpoint}
use Rattle.queue_log.specs.Queued.{queue_pair}
use Rattle.queue_log.proofs.Turns.{counts_written, twice_written, check_faults, check_refused, check_down, check_spent, spent_when}
use Rattle.queue_log.proofs.queue.QueueLog.checkpoint.Goals as goal

pub returns-clause-any_moment : goal.returns-clause-any_moment
returns-clause-any_moment g c o since =
    let d = g.D.Disk in
    let old = queue_pair c.args.self.now in
    let frames = c.args.frames.now in
    any_moment queue_at (old_image d.seen old) (renewed_image old frames) (pair_records queue_at d.seen old) (read_all queue_at frames) refl refl
    d.may_leave d.moment d.left_since g.met.D.Disk.only_now (flipped (side_of old)) old c.checkpoint-answer.new.self c.checkpoint-answer.ensures.any_moment o since

pub returns-clause-each : goal.returns-clause-each
returns-clause-each g c o image =
    let d = g.D.Disk in
    let old = queue_pair c.args.self.now in
    let new = c.checkpoint-answer.new.self in
    let frames = c.args.frames.now in
    by_checkpoint c.checkpoint-answer.result
    (λ ok. inr (all_are queue_at frames d.may_leave new (c.checkpoint-answer.ensures.stands ok) o image))
    (λ down. either queue_at (old_image d.seen old) (renewed_image old frames) (pair_records queue_at d.seen old) (read_all queue_at frames) refl refl d.may_leave new (c.checkpoint-answer.ensures.open_gate down) o image)
    (λ refused. inl (all_are queue_at (pair_frames d.seen old) d.may_leave new (c.checkpoint-answer.ensures.refused refused) o image))

pub returns-clause-ok : goal.returns-clause-ok
returns-clause-ok g c ok o image =
    let done = checkpoint_ok c.checkpoint-answer.result (sym c.checked.ensures.value ∙ ok) in
    all_are queue_at c.args.frames.now g.D.Disk.may_leave c.checkpoint-answer.new.self (c.checkpoint-answer.ensures.stands done) o image

pub returns-clause-queued_all : goal.returns-clause-queued_all
returns-clause-queued_all g c ok told =
    let d = g.D.Disk in
    let new = c.checkpoint-answer.new.self in
    let done = checkpoint_ok c.checkpoint-answer.result (sym c.checked.ensures.value ∙ ok) in
    let up = c.checkpoint-answer.ensures.again (λ down. let no = sym done ∙ down in cc) in
    let image = seen_image queue_at d.seen d.may_leave new up (g.met.D.Disk.seen_may_stay (disk_a new) told) (g.met.D.Disk.seen_may_stay (disk_b new) told) in
    all_are queue_at c.args.frames.now d.may_leave new (c.checkpoint-answer.ensures.stands done) (pair_records queue_at d.seen new) image

pub returns-clause-refused : goal.returns-clause-refused
returns-clause-refused g c refused o image =
    let d = g.D.Disk in
    let there = check_refused c.checkpoint-answer.result (subst (λ (k : Kept). answer.IsRefusal k) c.checked.ensures.value refused) in
    all_are queue_at (pair_frames d.seen (queue_pair c.args.self.now)) d.may_leave c.checkpoint-answer.new.self (c.checkpoint-answer.ensures.refused there) o image

pub returns-clause-queued_old : goal.returns-clause-queued_old
returns-clause-queued_old g c refused told =
    let d = g.D.Disk in
    let old = queue_pair c.args.self.now in
    let new = c.checkpoint-answer.new.self in
    let there = check_refused c.checkpoint-answer.result (subst (λ (k : Kept). answer.IsRefusal k) c.checked.ensures.value refused) in
    let up = c.checkpoint-answer.ensures.again (λ down. subst (λ (a : Checked). IsCheckRefusal a) down there) in
    let image = seen_image queue_at d.seen d.may_leave new up (g.met.D.Disk.seen_may_stay (disk_a new) told) (g.met.D.Disk.seen_may_stay (disk_b new) told) in
    all_are queue_at (pair_frames d.seen old) d.may_leave new (c.checkpoint-answer.ensures.refused there) (pair_records queue_at d.seen new) image

pub returns-clause-untouched : goal.returns-clause-untouched
returns-clause-untouched g c is =
    let pair = c.checkpoint-answer.ensures.untouched (check_spent c.checkpoint-answer.result (sym c.checked.ensures.value ∙ is)) in
    λ i. record { pair = pair i }

pub returns-clause-spent : goal.returns-clause-spent
returns-clause-spent g c =
    let generation = generation_of_pair (queue_pair c.args.self.now) in
    let frames = c.args.frames.now in
    subst (λ (k : Kept). (k ≡ kept.Spent) ↔ ArePast generation frames) (sym c.checked.ensures.value)
    (spent_when generation frames c.checkpoint-answer.result c.checkpoint-answer.ensures.spent c.checkpoint-answer.ensures.too_long)

pub returns-clause-cause : goal.returns-clause-cause
returns-clause-cause g c =
    let old = queue_pair c.args.self.now in
    let new = c.checkpoint-answer.new.self in
    let count = g.D.Disk.fault_count in
    subst (λ (k : Kept). PairCounts (count (disk_a old)) (count (disk_a new)) (count (disk_b old)) (count (disk_b new)) (answer.IsFaulty k)) (sym c.checked.ensures.value)
    (counts_written count old new (flipped (side_of old)) (answer.IsFaulty (of_checkpoint c.checkpoint-answer.result)) c.checkpoint-answer.ensures.any_moment.untouched
    (check_faults c.checkpoint-answer.result c.checkpoint-answer.ensures.cause))

pub returns-clause-twice : goal.returns-clause-twice
returns-clause-twice g c down =
    let old = queue_pair c.args.self.now in
    let there = check_down c.checkpoint-answer.result (sym c.checked.ensures.value ∙ down) in
    twice_written g.D.Disk.fault_count old c.checkpoint-answer.new.self (flipped (side_of old)) (c.checkpoint-answer.ensures.twice there)
