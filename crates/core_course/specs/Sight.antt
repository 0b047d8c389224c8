-- What contracts see of disks and of a keeper, as one value.
use Rattle.std.specs.Prelude.{ℕ, Bool, List, Option}
use Rattle.core_state.specs.fleet_ports.declared.disk.Disk as disk
use Rattle.core_state.specs.fleet_keeper.declared.keeper.Keeper as keeper
use Rattle.core_state.specs.record_spec.declared.store.StoreRecord.{StoreRecord}
use Rattle.core_state.specs.core_spec.History.{History}
use Rattle.core_state.specs.declared.state.CoreState.{CoreState}
use Rattle.core_state.specs.Seen.{down_of}
use Rattle.core_state.specs.StandsFor.{StandsFor}

-- the members of the two traits
pub record Sight (D K : Type 0) : Type 1 where
  pub tells : Bool
  pub seen : D → List ℕ
  pub may_leave : D → List ℕ → Type 0
  pub moment : D → ℕ
  pub left_since : D → ℕ → List ℕ → Type 0
  pub faults : D → ℕ
  pub store_tells : Bool
  pub kept : K → Option (List StoreRecord)
  pub images : K → Option (List StoreRecord) → Type 0
  pub store_moment : K → ℕ × ℕ
  pub images_since : K → ℕ × ℕ → Option (List StoreRecord) → Type 0
  pub store_down : K → Bool
  pub store_size : K → ℕ
  pub store_faults : K → ℕ
  pub store_opened : K → ℕ × ℕ
  pub store_within : K → ℕ × ℕ × ℕ → Type 0

abbrev pub sight : {D K : Type 0} → Bool → (D → List ℕ) → (D → List ℕ → Type 0) → (D → ℕ) → (D → ℕ → List ℕ → Type 0) → (D → ℕ)
    → Bool → (K → Option (List StoreRecord)) → (K → Option (List StoreRecord) → Type 0) → (K → ℕ × ℕ) → (K → ℕ × ℕ → Option (List StoreRecord) → Type 0)
    → (K → Bool) → (K → ℕ) → (K → ℕ) → (K → ℕ × ℕ) → (K → ℕ × ℕ × ℕ → Type 0) → Sight D K
sight tells seen may_leave moment left_since faults store_tells kept images store_moment images_since store_down store_size store_faults store_opened store_within = record {
  tells = tells;
  seen = seen;
  may_leave = may_leave;
  moment = moment;
  left_since = left_since;
  faults = faults;
  store_tells = store_tells;
  kept = kept;
  images = images;
  store_moment = store_moment;
  images_since = images_since;
  store_down = store_down;
  store_size = store_size;
  store_faults = store_faults;
  store_opened = store_opened;
  store_within = store_within;
}

-- what contracts see of disks and of a keeper, from the ghosts of both traits
abbrev pub sight_of : {D K : Type 0} → disk.Ghosts D → keeper.Ghosts K → Sight D K
sight_of d k = sight d.is_told d.seen d.may_leave d.moment d.left_since d.fault_count k.is_told k.kept k.images k.moment k.images_since k.down k.size k.fault_count k.opened k.is_within

-- the core stands for the history that starts with this one and continues with its events
abbrev pub Stood : {D K : Type 0} → Sight D K → CoreState D K → History → Type 0
Stood w core start = StandsFor w.tells w.store_tells w.seen w.may_leave w.kept w.images w.store_down w.store_faults core start

abbrev pub is_down : {D K : Type 0} → Sight D K → CoreState D K → Bool
is_down w core = down_of w.store_down core
