-- What a call of a pair, which writes one file, does to the bounds of its keeper's count.
use Rattle.std.proofs.Common.{◌≡◌, inl, inr, ℕ, ◌+◌, ◌-◌, ◌^◌, ◌<◌, ◌≤◌, Bool, true, false, arith, refl, sym, ap, subst, nat_lt}
use Rattle.port_memory.specs.fleet_ports.Counts.{RoseBy, Counts}
use Rattle.log_pair.specs.log_spec.declared.side.Side.{Side}
use Rattle.log_pair.specs.log_spec.declared.side.Side.TheVariants.{A, B}
use Rattle.log_pair.specs.record_log.declared.put.Appended.{Appended}
use Rattle.log_pair.specs.record_log.declared.put.Appended.TheVariants as appended
use Rattle.log_pair.specs.record_log.Log.{IsFaulty}
use Rattle.log_pair.specs.declared.checkpoint.Checked.{Checked}
use Rattle.log_pair.specs.declared.checkpoint.Checked.TheVariants as checked
use Rattle.log_pair.specs.declared.pair.Pair.{Pair}
use Rattle.log_pair.specs.Pair.{flipped, picked, side_of, newest_of, file_of, disk_a, disk_b, is_down_of}
use Rattle.log_pair.specs.Turns.{IsCheckFault}
use Rattle.fleet_keeper.specs.Answers.{of_append, of_checkpoint, faults_in}
use Rattle.fleet_keeper.specs.Keeper.{IsBounded, AreBehind}

-- ---- counts

pub rose_from : (n before old new : ℕ) → before ≤ old → RoseBy n old new → RoseBy n before new
rose_from n before old new behind rose = omega (arith, behind, rose)

-- a call's disk counts at least as many faults as its answer tells of
append_rise : (a : Appended) (old new : ℕ) → Counts old new (IsFaulty a) → (a ≡ appended.Down → RoseBy 2 old new) → RoseBy (faults_in (of_append a)) old new
append_rise appended.Ok old new counts twice = (let later = counts.later in omega (arith, later))
append_rise appended.Failed old new counts twice = counts.cause tt
append_rise appended.Down old new counts twice = twice refl
append_rise appended.Memory old new counts twice = (let later = counts.later in omega (arith, later))
append_rise appended.TooLong old new counts twice = (let later = counts.later in omega (arith, later))

checkpoint_rise : (a : Checked) (old new : ℕ) → Counts old new (IsCheckFault a) → (a ≡ checked.Down → RoseBy 2 old new) → RoseBy (faults_in (of_checkpoint a)) old new
checkpoint_rise checked.Ok old new counts twice = (let later = counts.later in omega (arith, later))
checkpoint_rise checked.Failed old new counts twice = counts.cause tt
checkpoint_rise checked.Down old new counts twice = twice refl
checkpoint_rise checked.Spent old new counts twice = (let later = counts.later in omega (arith, later))
checkpoint_rise checked.TooLong old new counts twice = (let later = counts.later in omega (arith, later))

module _ (since : ℕ × ℕ × ℕ) (count more n old new still : ℕ) (rose : RoseBy n old new) (most : more ≤ count + n) where
  by_first : (b : Bool) → nat_lt new (2 ^ 64 - 1) ≡ b → IsBounded since count old still → IsBounded since more new still
  by_first true is (inl sum) = inl (let short : new < 2 ^ 64 - 1 = grind (arith, is) in omega (arith, short, rose, most, sum))
  by_first false is (inl sum) = inr (inl (grind (arith, is)))
  by_first b is (inr (inl last)) = inr (inl (omega (arith, last, rose)))
  by_first b is (inr (inr last)) = inr (inr last)

  by_second : (b : Bool) → nat_lt new (2 ^ 64 - 1) ≡ b → IsBounded since count still old → IsBounded since more still new
  by_second true is (inl sum) = inl (let short : new < 2 ^ 64 - 1 = grind (arith, is) in omega (arith, short, rose, most, sum))
  by_second false is (inl sum) = inr (inr (grind (arith, is)))
  by_second b is (inr (inl last)) = inr (inl last)
  by_second b is (inr (inr last)) = inr (inr (omega (arith, last, rose)))

-- ---- files

-- the file that counts is that of the pair's side
picked_self : {X : Type 0} (s : Side) (x y : X) → picked s s x y ≡ x
picked_self A x y = refl
picked_self B x y = refl

module _ {D : Type 0} (fault_count : D → ℕ) where
  pub newest_is : (side : Side) (pair : Pair D) → side_of pair ≡ side → fault_count (file_of side pair) ≡ fault_count (newest_of pair)
  newest_is side pair is =
      subst (λ (s : Side). fault_count (file_of s pair) ≡ fault_count (newest_of pair)) is (ap fault_count (picked_self pair.side (newest_of pair) pair.other))

  module _ (old new : Pair D) (since : ℕ × ℕ × ℕ) where
    -- its count stays bounded
    pub bounded_on : (written : Side) → file_of (flipped written) new ≡ file_of (flipped written) old
        → (count more n : ℕ) → RoseBy n (fault_count (file_of written old)) (fault_count (file_of written new)) → more ≤ count + n
        → IsBounded since count (fault_count (disk_a old)) (fault_count (disk_b old)) → IsBounded since more (fault_count (disk_a new)) (fault_count (disk_b new))
    bounded_on A untouched count more n rose most is =
        subst (λ (m : ℕ). IsBounded since more (fault_count (disk_a new)) m) (sym (ap fault_count untouched))
        (by_first since count more n (fault_count (disk_a old)) (fault_count (disk_a new)) (fault_count (disk_b old)) rose most (nat_lt (fault_count (disk_a new)) (2 ^ 64 - 1)) refl is)
    bounded_on B untouched count more n rose most is =
        subst (λ (m : ℕ). IsBounded since more m (fault_count (disk_b new))) (sym (ap fault_count untouched))
        (by_second since count more n (fault_count (disk_b old)) (fault_count (disk_b new)) (fault_count (disk_a old)) rose most (nat_lt (fault_count (disk_b new)) (2 ^ 64 - 1)) refl is)

    -- and its disks' counts stay behind none
    pub behind_on : (written : Side) → file_of (flipped written) new ≡ file_of (flipped written) old
        → fault_count (file_of written old) ≤ fault_count (file_of written new)
        → (is_down_of new ≡ true → RoseBy 2 (fault_count (file_of written old)) (fault_count (file_of written new)))
        → AreBehind fault_count old since.1 since.2 → AreBehind fault_count new since.1 since.2
    behind_on A untouched later twice is =
        let still : fault_count (disk_b new) ≡ fault_count (disk_b old) = ap fault_count untouched in
        let first = is.0 in
        let second = is.1 in (
          omega (arith, later, first),
          omega (arith, still, second),
          λ down. inl (rose_from 2 since.1 (fault_count (disk_a old)) (fault_count (disk_a new)) first (twice down)),
        )
    behind_on B untouched later twice is =
        let still : fault_count (disk_a new) ≡ fault_count (disk_a old) = ap fault_count untouched in
        let first = is.0 in
        let second = is.1 in (
          omega (arith, still, first),
          omega (arith, later, second),
          λ down. inr (rose_from 2 since.2 (fault_count (disk_b old)) (fault_count (disk_b new)) second (twice down)),
        )

    -- so it stays within both where a frame was added
    module _ (count more : ℕ) (is : IsBounded since count (fault_count (disk_a old)) (fault_count (disk_b old)) × AreBehind fault_count old since.1 since.2) where
      pub append_within : (a : Appended) → side_of new ≡ side_of old → file_of (flipped (side_of old)) new ≡ file_of (flipped (side_of old)) old
          → Counts (fault_count (newest_of old)) (fault_count (newest_of new)) (IsFaulty a) → (a ≡ appended.Down → RoseBy 2 (fault_count (newest_of old)) (fault_count (newest_of new)))
          → (is_down_of new ≡ true → a ≡ appended.Down) → more ≤ count + faults_in (of_append a)
          → IsBounded since more (fault_count (disk_a new)) (fault_count (disk_b new)) × AreBehind fault_count new since.1 since.2
      append_within a same untouched counts twice down most =
          let side = side_of old in
          let before = newest_is side old refl in
          let behind = newest_is side new same in
          let rise = append_rise a (fault_count (newest_of old)) (fault_count (newest_of new)) counts twice in
          let later = counts.later in (
            bounded_on side untouched count more (faults_in (of_append a)) (omega (arith, before, behind, rise)) most is.0,
            behind_on side untouched (omega (arith, before, behind, later)) (λ went. (let two = twice (down went) in omega (arith, before, behind, two))) is.1,
          )

      -- or all were put anew
      pub checkpoint_within : (a : Checked) → file_of (flipped (flipped (side_of old))) new ≡ file_of (flipped (flipped (side_of old))) old
          → Counts (fault_count (file_of (flipped (side_of old)) old)) (fault_count (file_of (flipped (side_of old)) new)) (IsCheckFault a)
          → (a ≡ checked.Down → RoseBy 2 (fault_count (file_of (flipped (side_of old)) old)) (fault_count (file_of (flipped (side_of old)) new)))
          → (is_down_of new ≡ true → a ≡ checked.Down) → more ≤ count + faults_in (of_checkpoint a)
          → IsBounded since more (fault_count (disk_a new)) (fault_count (disk_b new)) × AreBehind fault_count new since.1 since.2
      checkpoint_within a untouched counts twice down most =
          let side = flipped (side_of old) in
          let rise = checkpoint_rise a (fault_count (file_of side old)) (fault_count (file_of side new)) counts twice in (
            bounded_on side untouched count more (faults_in (of_checkpoint a)) rise most is.0,
            behind_on side untouched counts.later (λ went. twice (down went)) is.1,
          )
