-- The contract of appending one record, as one definition with a field for each clause of `Keeper::keep`.
use Rattle.std.specs.Prelude.{◌≡◌, ◌⊎◌, ◌↔◌, ℕ, ◌+◌, ◌≤◌, Bool, true, List, length, Option, IsTrue}
use Rattle.port_memory.specs.fleet_ports.Counts.{Counts, RoseBy}
use Rattle.log_pair.specs.log_spec.declared.side.Side.{Side}
use Rattle.core_spec.specs.record_spec.declared.store.StoreRecord.{StoreRecord}
use Rattle.core_spec.specs.record_spec.Store.{store_text}
use Rattle.fleet_keeper.specs.declared.kept.Kept.{Kept}
use Rattle.fleet_keeper.specs.declared.kept.Kept.TheVariants as answers
use Rattle.fleet_keeper.specs.Kept.{IsRefusal, IsFaulty}
use Rattle.fleet_keeper.specs.Limits.{IsPast}
use Rattle.fleet_keeper.specs.Records.{AllAre, IsOneOf, with_one}

pub record HasAdded {K : Type 0} (tells : Bool) (kept : K → Option (List StoreRecord)) (images : K → Option (List StoreRecord) → Type 0) (moment : K → ℕ × ℕ) (images_since : K → ℕ × ℕ → Option (List StoreRecord) → Type 0)
    (is_up : K → Type 0) (is_down : K → Bool) (size_of generation_of : K → ℕ) (side_of : K → Option Side) (fault_count : K → ℕ) (opened_at : K → ℕ × ℕ) (is_within : K → ℕ × ℕ × ℕ → Type 0) (answer : Kept) (old new : K) (rec : StoreRecord) : Type 0 where
  pub any_moment : (o : Option (List StoreRecord)) → images_since new (moment old) o → IsOneOf (kept old) (with_one (kept old) rec) o
  pub later : ((moment old).0 ≤ (moment new).0) × ((moment old).1 ≤ (moment new).1)
  pub each : (o : Option (List StoreRecord)) → images new o → IsOneOf (kept old) (with_one (kept old) rec) o
  pub ok : answer ≡ answers.Ok → AllAre (images new) (with_one (kept old) rec)
  pub refused : IsRefusal answer → AllAre (images new) (kept old)
  pub kept_one : answer ≡ answers.Ok → IsTrue tells → kept new ≡ with_one (kept old) rec
  pub kept_old : IsRefusal answer → IsTrue tells → kept new ≡ kept old
  pub down : (is_down new ≡ true) ↔ (answer ≡ answers.Down)
  pub again : (answer ≡ answers.Down → ⊥) → is_up new
  pub untouched : (answer ≡ answers.Memory) ⊎ (answer ≡ answers.Spent) → new ≡ old
  pub grew : answer ≡ answers.Ok → size_of new ≡ size_of old + 5 + length (store_text rec)
  pub same_size : (answer ≡ answers.Ok → ⊥) → size_of new ≡ size_of old
  pub generation : generation_of new ≡ generation_of old
  pub side : side_of new ≡ side_of old
  pub spent : answer ≡ answers.Spent → IsPast (size_of old) (store_text rec)
  pub unspent : IsPast (size_of old) (store_text rec) → (answer ≡ answers.Spent) ⊎ (answer ≡ answers.Memory)
  pub cause : Counts (fault_count old) (fault_count new) (IsFaulty answer)
  pub twice : answer ≡ answers.Down → RoseBy 2 (fault_count old) (fault_count new)
  pub opened : opened_at new ≡ opened_at old
  pub within : (since : ℕ × ℕ × ℕ) → is_within old since → is_within new since
