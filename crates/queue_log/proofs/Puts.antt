-- What an append of the pair is as a put.
use Rattle.std.proofs.Common.{◌≡◌, inl, inr, ℕ, List, Option, sym, ap, subst, ◌∙◌, arith}
use Rattle.fleet_keeper.specs.fleet_ports.Counts.{Counts, RoseBy}
use Rattle.fleet_keeper.specs.log_spec.PairImage.{PairImage}
use Rattle.fleet_keeper.specs.log_spec.declared.side.Side.{Side}
use Rattle.fleet_keeper.specs.log_spec.declared.side.Side.TheVariants.{A, B}
use Rattle.fleet_keeper.specs.log_pair.declared.pair.Pair.{Pair}
use Rattle.fleet_keeper.specs.log_pair.Pair.{flipped, file_of, picked, side_of, newest_of, other_of, disk_a, disk_b}
use Rattle.fleet_keeper.specs.log_pair.Open.{PairCounts}
use Rattle.fleet_keeper.specs.log_pair.Turns.{IsEither}
use Rattle.fleet_keeper.specs.record_log.Log as log
use Rattle.fleet_keeper.specs.record_log.declared.put.Appended.{Appended}
use Rattle.fleet_keeper.specs.record_log.declared.put.Appended.TheVariants as appended
use Rattle.fleet_keeper.specs.Answers.{of_append}
use Rattle.fleet_keeper.specs.Kept as answer
use Rattle.fleet_keeper.specs.Records.{IsOneOf, records_in}
use Rattle.fleet_keeper.specs.Pairs.{records_at}
use Rattle.queue_log.specs.Queued.{RoseTwice}

-- one or the other, as records
pub one_of : {A : Type 0} (read : List ℕ → Option A) (x y : PairImage) (one other : Option (List A)) → records_in read x ≡ one → records_in read y ≡ other
    → (a b : List ℕ) → IsEither x y a b → IsOneOf one other (records_at read a b)
one_of read x y one other one_is other_is a b (inl is) = inl (ap (records_in read) is ∙ one_is)
one_of read x y one other one_is other_is a b (inr is) = inr (ap (records_in read) is ∙ other_is)

-- the file that a call doesn't write
other_by : {D : Type 0} (s : Side) (one now other other_now : D) → picked (flipped s) s now other_now ≡ picked (flipped s) s one other → other_now ≡ other
other_by A one now other other_now same = same
other_by B one now other other_now same = same

pub other_same : {D : Type 0} (old new : Pair D) → side_of new ≡ side_of old → file_of (flipped (side_of old)) new ≡ file_of (flipped (side_of old)) old → other_of new ≡ other_of old
other_same {D = D} old new side same =
    let s = side_of old in
    other_by s (newest_of old) (newest_of new) (other_of old) (other_of new) (subst (λ (t : Side). picked (flipped s) t (newest_of new) (other_of new) ≡ picked (flipped s) s (newest_of old) (other_of old)) side same)

-- the counts of both files, where a call writes the one that counts
module _ {D : Type 0} (count : D → ℕ) where
  counts_by : (s : Side) (one now other other_now : D) (Fault : Type 0) → other_now ≡ other → Counts (count one) (count now) Fault
      → PairCounts (count (picked A s one other)) (count (picked A s now other_now)) (count (picked B s one other)) (count (picked B s now other_now)) Fault
  counts_by A one now other other_now Fault same counts = record {
    later_a = counts.later;
    later_b = omega (arith, ap count same);
    cause = λ fault. inl (counts.cause fault);
    calm = λ none. (counts.calm none, ap count same);
  }
  counts_by B one now other other_now Fault same counts = record {
    later_a = omega (arith, ap count same);
    later_b = counts.later;
    cause = λ fault. inr (counts.cause fault);
    calm = λ none. (ap count same, counts.calm none);
  }

  pub pair_counts : (old new : Pair D) (Fault : Type 0) → side_of new ≡ side_of old → other_of new ≡ other_of old → Counts (count (newest_of old)) (count (newest_of new)) Fault
      → PairCounts (count (disk_a old)) (count (disk_a new)) (count (disk_b old)) (count (disk_b new)) Fault
  pair_counts old new Fault side same counts =
      subst (λ (t : Side). PairCounts (count (disk_a old)) (count (picked A t (newest_of new) (other_of new))) (count (disk_b old)) (count (picked B t (newest_of new) (other_of new))) Fault) (sym side)
      (counts_by (side_of old) (newest_of old) (newest_of new) (other_of old) (other_of new) Fault same counts)

  twice_by : (s : Side) (one now other other_now : D) → RoseBy 2 (count one) (count now)
      → RoseTwice (count (picked A s one other)) (count (picked A s now other_now)) (count (picked B s one other)) (count (picked B s now other_now))
  twice_by A one now other other_now rose = inl rose
  twice_by B one now other other_now rose = inr rose

  pub rose_twice : (old new : Pair D) → side_of new ≡ side_of old → RoseBy 2 (count (newest_of old)) (count (newest_of new)) → RoseTwice (count (disk_a old)) (count (disk_a new)) (count (disk_b old)) (count (disk_b new))
  rose_twice old new side rose =
      subst (λ (t : Side). RoseTwice (count (disk_a old)) (count (picked A t (newest_of new) (other_of new))) (count (disk_b old)) (count (picked B t (newest_of new) (other_of new)))) (sym side)
      (twice_by (side_of old) (newest_of old) (newest_of new) (other_of old) (other_of new) rose)

-- ---- answers

pub faults_as : {before now : ℕ} (a : Appended) → Counts before now (log.IsFaulty a) → Counts before now (answer.IsFaulty (of_append a))
faults_as appended.Ok counts = counts
faults_as appended.Failed counts = counts
faults_as appended.Down counts = counts
faults_as appended.Memory counts = counts
faults_as appended.TooLong counts = counts
