use Rattle.std.proofs.Common.{◌≡◌, ◌⊎◌, ℕ, List, [], ◌∷◌, ◌++◌, Option, Some, inl, inr, refl, sym, ap, subst, ◌∙◌}
use Rattle.fleet_keeper.specs.record_log.declared.put.Appended.{Appended}
use Rattle.fleet_keeper.specs.record_log.Log.{IsRefusal}
use Rattle.fleet_keeper.specs.log_pair.Pair.{side_of, disk_a, disk_b, pair_frames}
use Rattle.fleet_keeper.specs.log_pair.Open.{PairCounts}
use Rattle.fleet_keeper.specs.log_pair.Turns.{old_image, grown_image, IsEither}
use Rattle.queue_records.specs.Reading.{queue_at}
use Rattle.queue_records.proofs.Records.{queue_again}
use Rattle.fleet_keeper.specs.declared.kept.Kept.{Kept}
use Rattle.fleet_keeper.specs.declared.kept.Kept.TheVariants as kept
use Rattle.fleet_keeper.specs.Kept as answer
use Rattle.fleet_keeper.specs.Answers.{of_append}
use Rattle.fleet_keeper.specs.Laws.{seen_image}
use Rattle.fleet_keeper.specs.Pairs.{records_at, pair_records}
use Rattle.fleet_keeper.specs.Records.{IsOneOf, with_one}
use Rattle.fleet_keeper.proofs.Keeps.{either, all_are, append_ok, append_refused, append_untouched, by_append}
use Rattle.fleet_keeper.proofs.Readings.{reads_more}
use Rattle.queue_log.specs.Queued.{queue_pair}
use Rattle.fleet_keeper.proofs.Keeps.{append_down}
use Rattle.queue_log.proofs.Puts.{one_of, other_same, pair_counts, rose_twice, faults_as}
use Rattle.queue_log.proofs.Runs.{within_less}
use Rattle.queue_log.proofs.queue.QueueLog.put.Goals as goal

pub returns-clause-any_moment : goal.returns-clause-any_moment
returns-clause-any_moment g c rec fits =
    let d = g.D.Disk in
    let old = queue_pair c.args.self.now in
    let new = c.append-answer.new.self in
    let frame = c.args.frame.now in
    let is : queue_at frame ≡ Some rec = ap queue_at fits.1 ∙ queue_again rec fits.0 in
    let one = pair_records queue_at d.seen old in
    record {
      side = c.append-answer.ensures.side;
      run = within_less d.may_leave d.moment d.left_since (side_of old) old new (IsEither (old_image d.seen old) (grown_image d.seen old frame)) (λ a b. IsOneOf one (with_one one rec) (records_at queue_at a b))
          (one_of queue_at (old_image d.seen old) (grown_image d.seen old frame) one (with_one one rec) refl (reads_more queue_at (pair_frames d.seen old) frame rec is)) c.append-answer.ensures.any_moment;
    }

pub returns-clause-each : goal.returns-clause-each
returns-clause-each g c rec fits o image =
    let d = g.D.Disk in
    let old = queue_pair c.args.self.now in
    let new = c.append-answer.new.self in
    let frame = c.args.frame.now in
    let is : queue_at frame ≡ Some rec = ap queue_at fits.1 ∙ queue_again rec fits.0 in
    let one = pair_records queue_at d.seen old in
    let more = reads_more queue_at (pair_frames d.seen old) frame rec is in
    by_append c.append-answer.result
    (λ ok. inr (all_are queue_at (pair_frames d.seen old ++ frame ∷ []) d.may_leave new (c.append-answer.ensures.ok ok) o image ∙ more))
    (λ down. either queue_at (old_image d.seen old) (grown_image d.seen old frame) one (with_one one rec) refl more d.may_leave new (c.append-answer.ensures.open_gate down) o image)
    (λ refused. inl (all_are queue_at (pair_frames d.seen old) d.may_leave new (c.append-answer.ensures.refused refused) o image))

pub returns-clause-ok : goal.returns-clause-ok
returns-clause-ok g c ok rec fits o image =
    let d = g.D.Disk in
    let old = queue_pair c.args.self.now in
    let frame = c.args.frame.now in
    let is : queue_at frame ≡ Some rec = ap queue_at fits.1 ∙ queue_again rec fits.0 in
    let done = append_ok c.append-answer.result (sym c.answered.ensures.value ∙ ok) in
    all_are queue_at (pair_frames d.seen old ++ frame ∷ []) d.may_leave c.append-answer.new.self (c.append-answer.ensures.ok done) o image
    ∙ reads_more queue_at (pair_frames d.seen old) frame rec is

pub returns-clause-queued_one : goal.returns-clause-queued_one
returns-clause-queued_one g c ok told rec fits =
    let d = g.D.Disk in
    let old = queue_pair c.args.self.now in
    let new = c.append-answer.new.self in
    let frame = c.args.frame.now in
    let is : queue_at frame ≡ Some rec = ap queue_at fits.1 ∙ queue_again rec fits.0 in
    let done = append_ok c.append-answer.result (sym c.answered.ensures.value ∙ ok) in
    let up = c.append-answer.ensures.again (λ down. let no = sym done ∙ down in cc) in
    let image = seen_image queue_at d.seen d.may_leave new up (g.met.D.Disk.seen_may_stay (disk_a new) told) (g.met.D.Disk.seen_may_stay (disk_b new) told) in
    all_are queue_at (pair_frames d.seen old ++ frame ∷ []) d.may_leave new (c.append-answer.ensures.ok done) (pair_records queue_at d.seen new) image
    ∙ reads_more queue_at (pair_frames d.seen old) frame rec is

pub returns-clause-refused : goal.returns-clause-refused
returns-clause-refused g c refused o image =
    let d = g.D.Disk in
    let there = append_refused c.append-answer.result (subst (λ (k : Kept). answer.IsRefusal k) c.answered.ensures.value refused) in
    all_are queue_at (pair_frames d.seen (queue_pair c.args.self.now)) d.may_leave c.append-answer.new.self (c.append-answer.ensures.refused there) o image

pub returns-clause-queued_old : goal.returns-clause-queued_old
returns-clause-queued_old g c refused told =
    let d = g.D.Disk in
    let old = queue_pair c.args.self.now in
    let new = c.append-answer.new.self in
    let there = append_refused c.append-answer.result (subst (λ (k : Kept). answer.IsRefusal k) c.answered.ensures.value refused) in
    let up = c.append-answer.ensures.again (λ down. subst (λ (a : Appended). IsRefusal a) down there) in
    let image = seen_image queue_at d.seen d.may_leave new up (g.met.D.Disk.seen_may_stay (disk_a new) told) (g.met.D.Disk.seen_may_stay (disk_b new) told) in
    all_are queue_at (pair_frames d.seen old) d.may_leave new (c.append-answer.ensures.refused there) (pair_records queue_at d.seen new) image

pub returns-clause-untouched : goal.returns-clause-untouched
returns-clause-untouched g c is =
    let pair = c.append-answer.ensures.untouched (append_untouched c.append-answer.result (subst (λ (k : Kept). (k ≡ kept.Memory) ⊎ (k ≡ kept.Spent)) c.answered.ensures.value is)) in
    λ i. record { pair = pair i }

pub returns-clause-other : goal.returns-clause-other
returns-clause-other g c = other_same (queue_pair c.args.self.now) c.append-answer.new.self c.append-answer.ensures.side c.append-answer.ensures.any_moment.untouched

pub returns-clause-cause : goal.returns-clause-cause
returns-clause-cause g c =
    let old = queue_pair c.args.self.now in
    let new = c.append-answer.new.self in
    let count = g.D.Disk.fault_count in
    let other = other_same old new c.append-answer.ensures.side c.append-answer.ensures.any_moment.untouched in
    subst (λ (k : Kept). PairCounts (count (disk_a old)) (count (disk_a new)) (count (disk_b old)) (count (disk_b new)) (answer.IsFaulty k)) (sym c.answered.ensures.value)
    (pair_counts count old new (answer.IsFaulty (of_append c.append-answer.result)) c.append-answer.ensures.side other (faults_as c.append-answer.result c.append-answer.ensures.cause))

pub returns-clause-twice : goal.returns-clause-twice
returns-clause-twice g c down =
    let there = append_down c.append-answer.result (sym c.answered.ensures.value ∙ down) in
    rose_twice g.D.Disk.fault_count (queue_pair c.args.self.now) c.append-answer.new.self c.append-answer.ensures.side (c.append-answer.ensures.twice there)
