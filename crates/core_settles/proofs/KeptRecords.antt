-- The record of a change, as it is spelt, and what keeping a record comes to.
use Rattle.std.proofs.Common.{◌≡◌, ℕ, Bool, List, Option, Result, Ok, IfOk, subst}
use Rattle.core_claims.specs.fleet_rows.declared.change.Change.{Change}
use Rattle.core_claims.specs.record_spec.declared.store.StoreRecord.{StoreRecord}
use Rattle.core_claims.specs.fleet_keeper.declared.kept.Kept.{Kept}
use Rattle.core_claims.specs.core_state.Puts.{HasKept}
use Rattle.core_settles.specs.declared.prepared.Spelling.{Spelling}
use Rattle.core_settles.specs.Records.{IsSpellingOf}

pub spelt_so : {E : Type 0} (made : Result Spelling E) (spelling : Spelling) (change : Change) → made ≡ Ok spelling → IfOk made (λ s. IsSpellingOf s change) → IsSpellingOf spelling change
spelt_so {E = E} made spelling change is spelt = subst (λ (r : Result Spelling E). IfOk r (λ s. IsSpellingOf s change)) is spelt

module _ {K : Type 0} {tells : Bool} {kept : K → Option (List StoreRecord)} {images : K → Option (List StoreRecord) → Type 0} {moment : K → ℕ × ℕ} {images_since : K → ℕ × ℕ → Option (List StoreRecord) → Type 0}
    {up : K → Type 0} {down : K → Bool} {size : K → ℕ} {stays : K → K → Type 0} {faults : K → ℕ} {answer : Kept} {old new : K} where
  -- what is said of a record is said of one that is the same
  pub kept_along : (rec other : StoreRecord) → rec ≡ other
      → HasKept tells kept images moment images_since up down size stays faults answer old new rec
      → HasKept tells kept images moment images_since up down size stays faults answer old new other
  kept_along rec other same has = subst (λ (r : StoreRecord). HasKept tells kept images moment images_since up down size stays faults answer old new r) same has
