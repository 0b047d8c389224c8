-- What is said of a record is said of one that is the same.
use Rattle.std.proofs.Common.{◌≡◌, ℕ, Bool, List, Option, subst}
use Rattle.log_pair.specs.log_spec.declared.side.Side.{Side}
use Rattle.core_spec.specs.record_spec.declared.store.StoreRecord.{StoreRecord}
use Rattle.fleet_keeper.specs.Added.{HasAdded}
use Rattle.fleet_keeper.specs.declared.kept.Kept.{Kept}

module _ {K : Type 0} {tells : Bool} {kept : K → Option (List StoreRecord)} {images : K → Option (List StoreRecord) → Type 0} {moment : K → ℕ × ℕ} {images_since : K → ℕ × ℕ → Option (List StoreRecord) → Type 0}
    {is_up : K → Type 0} {is_down : K → Bool} {size_of generation_of : K → ℕ} {side_of : K → Option Side} {fault_count : K → ℕ} {opened_at : K → ℕ × ℕ} {is_within : K → ℕ × ℕ × ℕ → Type 0} {answer : Kept} {old new : K} where
  pub added_along : (rec other : StoreRecord) → rec ≡ other
      → HasAdded tells kept images moment images_since is_up is_down size_of generation_of side_of fault_count opened_at is_within answer old new rec
      → HasAdded tells kept images moment images_since is_up is_down size_of generation_of side_of fault_count opened_at is_within answer old new other
  added_along rec other same added = subst (λ (r : StoreRecord). HasAdded tells kept images moment images_since is_up is_down size_of generation_of side_of fault_count opened_at is_within answer old new r) same added
