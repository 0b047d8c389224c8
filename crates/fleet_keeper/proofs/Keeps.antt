-- What the images of a keeper over a pair are as records after a call of the pair, and within it.
use Rattle.std.proofs.Common.{◌≡◌, ◌⊎◌, inl, inr, ℕ, ◌≤◌, List, Option, arith, refl, ap, subst, ◌∙◌}
use Rattle.log_pair.specs.log_spec.PairImage.{PairImage}
use Rattle.log_pair.specs.log_spec.declared.side.Side.{Side}
use Rattle.log_pair.specs.log_spec.declared.side.Side.TheVariants.{A, B}
use Rattle.log_pair.specs.record_log.declared.put.Appended.{Appended}
use Rattle.log_pair.specs.record_log.declared.put.Appended.TheVariants as appended
use Rattle.log_pair.specs.record_log.Log.{IsRefusal}
use Rattle.log_pair.specs.declared.checkpoint.Checked.{Checked}
use Rattle.log_pair.specs.declared.checkpoint.Checked.TheVariants as checked
use Rattle.log_pair.specs.declared.pair.Pair.{Pair}
use Rattle.log_pair.specs.Pair.{disk_a, disk_b, AllPairs, PairStands, Within}
use Rattle.log_pair.specs.Turns.{IsEither, IsCheckRefusal}
use Rattle.fleet_keeper.specs.declared.kept.Kept.{Kept}
use Rattle.fleet_keeper.specs.declared.kept.Kept.TheVariants as kept
use Rattle.fleet_keeper.specs.Kept as answer
use Rattle.fleet_keeper.specs.Answers.{of_append, of_checkpoint}
use Rattle.fleet_keeper.specs.Records.{AllAre, IsOneOf, read_all, records_in}
use Rattle.fleet_keeper.specs.Pairs.{records_at, PairImages, PairSince}
use Rattle.fleet_keeper.proofs.Files.{within_told}

module _ {A : Type 0} (read : List ℕ → Option A) (x y : PairImage) (one other : Option (List A)) (one_is : records_in read x ≡ one) (other_is : records_in read y ≡ other) where
  one_of : (a b : List ℕ) (o : Option (List A)) → o ≡ records_at read a b → IsEither x y a b → IsOneOf one other o
  one_of a b o told (inl is) = inl (told ∙ ap (records_in read) is ∙ one_is)
  one_of a b o told (inr is) = inr (told ∙ ap (records_in read) is ∙ other_is)

  -- at every moment within a call
  pub any_moment : {D : Type 0} (may_leave : D → List ℕ → Type 0) (moment : D → ℕ) (left_since : D → ℕ → List ℕ → Type 0) → ((d : D) (c : List ℕ) → left_since d (moment d) c → may_leave d c)
      → (written : Side) (old new : Pair D) → Within may_leave moment left_since written old new (IsEither x y)
      → (o : Option (List A)) → PairSince read left_since new (moment (disk_a old), moment (disk_b old)) o → IsOneOf one other o
  any_moment may_leave moment left_since only_now written old new within o since =
      one_of since.0 since.1 o since.4 (within_told may_leave moment left_since only_now written old new (IsEither x y) within since.0 since.1 since.2 since.3)

  -- and after it
  pub either : {D : Type 0} (may_leave : D → List ℕ → Type 0) (new : Pair D) → AllPairs may_leave new (IsEither x y) → (o : Option (List A)) → PairImages read may_leave new o → IsOneOf one other o
  either may_leave new all o image = one_of image.0 image.1 o image.4 (all image.0 image.1 image.2 image.3)

-- a call writes one file, and no moment falls
pub later_within : {D : Type 0} (may_leave : D → List ℕ → Type 0) (moment : D → ℕ) (left_since : D → ℕ → List ℕ → Type 0) (written : Side) (old new : Pair D) (P : List ℕ → List ℕ → Type 0)
    → Within may_leave moment left_since written old new P → (moment (disk_a old) ≤ moment (disk_a new)) × (moment (disk_b old) ≤ moment (disk_b new))
later_within may_leave moment left_since A old new P within = (let same : moment (disk_b new) ≡ moment (disk_b old) = ap moment within.untouched in (within.moments.later, omega (arith, same)))
later_within may_leave moment left_since B old new P within = (let same : moment (disk_a new) ≡ moment (disk_a old) = ap moment within.untouched in (omega (arith, same), within.moments.later))

pub all_are : {A D : Type 0} (read : List ℕ → Option A) (frames : List (List ℕ)) (may_leave : D → List ℕ → Type 0) (new : Pair D) → PairStands may_leave new frames → AllAre (PairImages read may_leave new) (read_all read frames)
all_are read frames may_leave new stands o image = image.4 ∙ ap (records_in read) (stands image.0 image.1 image.2 image.3)

-- ---- answers

pub not_faulty : (k : Kept) → (k ≡ kept.Memory) ⊎ (k ≡ kept.Spent) → answer.IsFaulty k → ⊥
not_faulty k (inl is) faulty = subst (λ (q : Kept). answer.IsFaulty q) is faulty
not_faulty k (inr is) faulty = subst (λ (q : Kept). answer.IsFaulty q) is faulty

pub append_ok : (a : Appended) → of_append a ≡ kept.Ok → a ≡ appended.Ok
append_ok appended.Ok is = refl
append_ok appended.Failed is = absurd cc
append_ok appended.Down is = absurd cc
append_ok appended.Memory is = absurd cc
append_ok appended.TooLong is = absurd cc

pub append_down : (a : Appended) → of_append a ≡ kept.Down → a ≡ appended.Down
append_down appended.Ok is = absurd cc
append_down appended.Failed is = absurd cc
append_down appended.Down is = refl
append_down appended.Memory is = absurd cc
append_down appended.TooLong is = absurd cc

pub append_too_long : (a : Appended) → of_append a ≡ kept.Spent → a ≡ appended.TooLong
append_too_long appended.Ok is = absurd cc
append_too_long appended.Failed is = absurd cc
append_too_long appended.Down is = absurd cc
append_too_long appended.Memory is = absurd cc
append_too_long appended.TooLong is = refl

pub append_untouched : (a : Appended) → (of_append a ≡ kept.Memory) ⊎ (of_append a ≡ kept.Spent) → (a ≡ appended.Memory) ⊎ (a ≡ appended.TooLong)
append_untouched appended.Ok (inl is) = absurd cc
append_untouched appended.Ok (inr is) = absurd cc
append_untouched appended.Failed (inl is) = absurd cc
append_untouched appended.Failed (inr is) = absurd cc
append_untouched appended.Down (inl is) = absurd cc
append_untouched appended.Down (inr is) = absurd cc
append_untouched appended.Memory is = inl refl
append_untouched appended.TooLong is = inr refl

pub append_refused : (a : Appended) → answer.IsRefusal (of_append a) → IsRefusal a
append_refused appended.Ok is = is
append_refused appended.Failed is = is
append_refused appended.Down is = is
append_refused appended.Memory is = is
append_refused appended.TooLong is = is

pub by_append : {P : Type 0} (a : Appended) → (a ≡ appended.Ok → P) → (a ≡ appended.Down → P) → (IsRefusal a → P) → P
by_append appended.Ok ok down refused = ok refl
by_append appended.Failed ok down refused = refused tt
by_append appended.Down ok down refused = down refl
by_append appended.Memory ok down refused = refused tt
by_append appended.TooLong ok down refused = refused tt

pub checkpoint_ok : (a : Checked) → of_checkpoint a ≡ kept.Ok → a ≡ checked.Ok
checkpoint_ok checked.Ok is = refl
checkpoint_ok checked.Failed is = absurd cc
checkpoint_ok checked.Down is = absurd cc
checkpoint_ok checked.Spent is = absurd cc
checkpoint_ok checked.TooLong is = absurd cc

pub by_checkpoint : {P : Type 0} (a : Checked) → (a ≡ checked.Ok → P) → (a ≡ checked.Down → P) → (IsCheckRefusal a → P) → P
by_checkpoint checked.Ok ok down refused = ok refl
by_checkpoint checked.Failed ok down refused = refused tt
by_checkpoint checked.Down ok down refused = down refl
by_checkpoint checked.Spent ok down refused = refused tt
by_checkpoint checked.TooLong ok down refused = refused tt
