-- What a checkpoint of the pair is as one of the log: it writes the file that didn't count.
use Rattle.std.proofs.Common.{◌≡◌, ◌⊎◌, inl, inr, ⊎_elim, ◌↔◌, ℕ, ◌-◌, ◌^◌, List, refl, ap, arith}
use Rattle.fleet_keeper.specs.fleet_ports.Counts.{Counts, RoseBy}
use Rattle.fleet_keeper.specs.record_log.Lay.{IsTooLong}
use Rattle.fleet_keeper.specs.log_spec.declared.side.Side.{Side}
use Rattle.fleet_keeper.specs.log_spec.declared.side.Side.TheVariants.{A, B}
use Rattle.fleet_keeper.specs.log_pair.declared.checkpoint.Checked.{Checked}
use Rattle.fleet_keeper.specs.log_pair.declared.checkpoint.Checked.TheVariants as checked
use Rattle.fleet_keeper.specs.log_pair.declared.pair.Pair.{Pair}
use Rattle.fleet_keeper.specs.log_pair.Pair.{flipped, file_of, disk_a, disk_b}
use Rattle.fleet_keeper.specs.log_pair.Open.{PairCounts}
use Rattle.fleet_keeper.specs.log_pair.Turns.{IsCheckFault, IsCheckRefusal}
use Rattle.fleet_keeper.specs.Answers.{of_checkpoint}
use Rattle.fleet_keeper.specs.Kept as answer
use Rattle.fleet_keeper.specs.declared.kept.Kept.TheVariants as kept
use Rattle.fleet_keeper.specs.Limits.{ArePast}
use Rattle.queue_log.specs.Queued.{RoseTwice}

module _ {D : Type 0} (count : D → ℕ) (old new : Pair D) where
  pub counts_written : (written : Side) (Fault : Type 0) → file_of (flipped written) new ≡ file_of (flipped written) old → Counts (count (file_of written old)) (count (file_of written new)) Fault
      → PairCounts (count (disk_a old)) (count (disk_a new)) (count (disk_b old)) (count (disk_b new)) Fault
  counts_written A Fault same counts = record {
    later_a = counts.later;
    later_b = omega (arith, ap count same);
    cause = λ fault. inl (counts.cause fault);
    calm = λ none. (counts.calm none, ap count same);
  }
  counts_written B Fault same counts = record {
    later_a = omega (arith, ap count same);
    later_b = counts.later;
    cause = λ fault. inr (counts.cause fault);
    calm = λ none. (ap count same, counts.calm none);
  }

  pub twice_written : (written : Side) → RoseBy 2 (count (file_of written old)) (count (file_of written new)) → RoseTwice (count (disk_a old)) (count (disk_a new)) (count (disk_b old)) (count (disk_b new))
  twice_written A rose = inl rose
  twice_written B rose = inr rose

-- ---- answers

pub check_faults : {before now : ℕ} (a : Checked) → Counts before now (IsCheckFault a) → Counts before now (answer.IsFaulty (of_checkpoint a))
check_faults checked.Ok counts = counts
check_faults checked.Failed counts = counts
check_faults checked.Down counts = counts
check_faults checked.Spent counts = counts
check_faults checked.TooLong counts = counts

pub check_refused : (a : Checked) → answer.IsRefusal (of_checkpoint a) → IsCheckRefusal a
check_refused checked.Ok refused = refused
check_refused checked.Failed refused = refused
check_refused checked.Down refused = refused
check_refused checked.Spent refused = refused
check_refused checked.TooLong refused = refused

pub check_down : (a : Checked) → of_checkpoint a ≡ kept.Down → a ≡ checked.Down
check_down checked.Ok is = absurd cc
check_down checked.Failed is = absurd cc
check_down checked.Down is = refl
check_down checked.Spent is = absurd cc
check_down checked.TooLong is = absurd cc

pub check_spent : (a : Checked) → of_checkpoint a ≡ kept.Spent → (a ≡ checked.Spent) ⊎ (a ≡ checked.TooLong)
check_spent checked.Ok is = absurd cc
check_spent checked.Failed is = absurd cc
check_spent checked.Down is = absurd cc
check_spent checked.Spent is = inl refl
check_spent checked.TooLong is = inr refl

-- it comes exactly where no generation is left, or the frames are too long
pub spent_when : (generation : ℕ) (frames : List (List ℕ)) (a : Checked) → (a ≡ checked.Spent) ↔ (generation ≡ 2 ^ 64 - 1)
    → (a ≡ checked.TooLong) ↔ ((generation ≡ 2 ^ 64 - 1 → ⊥) × IsTooLong frames) → (of_checkpoint a ≡ kept.Spent) ↔ ArePast generation frames
spent_when generation frames checked.Spent spent long = (λ is. inl (spent.0 refl), λ past. refl)
spent_when generation frames checked.TooLong spent long = (λ is. inr (long.0 refl).1, λ past. refl)
spent_when generation frames checked.Ok spent long =
    (λ is. absurd cc, ⊎_elim (λ none. absurd (let no = spent.1 none in cc)) (λ is. absurd (let no = long.1 ((λ none. let last = spent.1 none in cc), is) in cc)))
spent_when generation frames checked.Failed spent long =
    (λ is. absurd cc, ⊎_elim (λ none. absurd (let no = spent.1 none in cc)) (λ is. absurd (let no = long.1 ((λ none. let last = spent.1 none in cc), is) in cc)))
spent_when generation frames checked.Down spent long =
    (λ is. absurd cc, ⊎_elim (λ none. absurd (let no = spent.1 none in cc)) (λ is. absurd (let no = long.1 ((λ none. let last = spent.1 none in cc), is) in cc)))
