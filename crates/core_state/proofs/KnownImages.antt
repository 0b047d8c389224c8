-- What the images of the two logs are, where their records are known.
use Rattle.std.proofs.Common.{◌≡◌, ◌∙◌, ◌⊎◌, inl, inr, ℕ, Bool, List, [], ◌∷◌, ◌++◌, Option, Some, IsTrue, ap}
use Rattle.queue_log.specs.log_pair.Pair.{disk_a, disk_b}
use Rattle.supersede_core.specs.record_spec.declared.queue.QueueRecord.{QueueRecord}
use Rattle.supersede_core.specs.record_spec.declared.store.StoreRecord.{StoreRecord}
use Rattle.queue_log.specs.queue_records.Reading.{queue_at}
use Rattle.queue_log.specs.fleet_keeper.Laws.{one_image}
use Rattle.queue_log.specs.fleet_keeper.Records.{AllAre, IsOneOf, with_one}
use Rattle.queue_log.specs.declared.queue.QueueLog.{QueueLog}
use Rattle.queue_log.specs.Queued.{queue_pair, queued, QueueImages, QueueIsUp, QueueLeaves, queue_moment, QueueSince}
use Rattle.queue_log.proofs.Runs.{left_told}

-- these records, or those with one more
abbrev pub IsOrMore : {A : Type 0} → List A → A → Option (List A) → Type 0
IsOrMore xs x o = (o ≡ Some xs) ⊎ (o ≡ Some (xs ++ x ∷ []))

pub grown : {A : Type 0} (records : Option (List A)) (xs : List A) (x : A) (o : Option (List A)) → records ≡ Some xs → IsOneOf records (with_one records x) o → IsOrMore xs x o
grown {A} records xs x o is (inl old) = inl (old ∙ is)
grown {A} records xs x o is (inr more) = inr (more ∙ ap (λ (r : Option (List A)). with_one r x) is)

module _ {D : Type 0} (tells : Bool) (seen : D → List ℕ) (may_leave : D → List ℕ → Type 0) (moment : D → ℕ) (left_since : D → ℕ → List ℕ → Type 0)
    (told : (d : D) (c : List ℕ) → may_leave d c → IsTrue tells) (told_since : (d : D) (t : ℕ) (c : List ℕ) → left_since d t c → IsTrue tells)
    (only_now : (d : D) (c : List ℕ) → left_since d (moment d) c → may_leave d c) (log : QueueLog D) (xs : List QueueRecord) (is : IsTrue tells → queued seen log ≡ Some xs) where
  pub queue_known : QueueIsUp seen may_leave log → (q : Option (List QueueRecord)) → QueueImages may_leave log q → q ≡ Some xs
  queue_known up q image = one_image queue_at seen may_leave (queue_pair log) up q image ∙ is (told (disk_a (queue_pair log)) image.0 image.2)

  -- at its own moment there are no others
  pub queue_still : QueueIsUp seen may_leave log → (q : Option (List QueueRecord)) → QueueSince left_since log (queue_moment moment log) q → q ≡ Some xs
  queue_still up q since = queue_known up q (since.0, since.1, only_now (disk_a (queue_pair log)) since.0 since.2, only_now (disk_b (queue_pair log)) since.1 since.3, since.4)

  -- after a put, and within it
  pub queue_each : (new : QueueLog D) (rec : QueueRecord) → ((o : Option (List QueueRecord)) → QueueImages may_leave new o → IsOneOf (queued seen log) (with_one (queued seen log) rec) o)
      → (q : Option (List QueueRecord)) → QueueImages may_leave new q → IsOrMore xs rec q
  queue_each new rec each q image = grown (queued seen log) xs rec q (is (told (disk_a (queue_pair new)) image.0 image.2)) (each q image)

  pub queue_since : (new : QueueLog D) (rec : QueueRecord) → QueueLeaves may_leave moment left_since log new (IsOneOf (queued seen log) (with_one (queued seen log) rec))
      → (q : Option (List QueueRecord)) → QueueSince left_since new (queue_moment moment log) q → IsOrMore xs rec q
  queue_since new rec leaves q since =
      grown (queued seen log) xs rec q (is (told_since (disk_a (queue_pair new)) (queue_moment moment log).0 since.0 since.2)) (left_told may_leave moment left_since only_now log new (IsOneOf (queued seen log) (with_one (queued seen log) rec)) leaves q since)

module _ {K : Type 0} (tells : Bool) (kept : K → Option (List StoreRecord)) (images : K → Option (List StoreRecord) → Type 0) (keeper_moment : K → ℕ × ℕ) (images_since : K → ℕ × ℕ → Option (List StoreRecord) → Type 0) (keeper_up : K → Type 0)
    (told : (k : K) (o : Option (List StoreRecord)) → images k o → IsTrue tells) (told_since : (k : K) (t : ℕ × ℕ) (o : Option (List StoreRecord)) → images_since k t o → IsTrue tells)
    (only_now : (k : K) (o : Option (List StoreRecord)) → images_since k (keeper_moment k) o → images k o) (stands : (k : K) → keeper_up k → AllAre (images k) (kept k))
    (keeper : K) (ys : List StoreRecord) (is : IsTrue tells → kept keeper ≡ Some ys) where
  pub store_known : keeper_up keeper → (s : Option (List StoreRecord)) → images keeper s → s ≡ Some ys
  store_known up s image = stands keeper up s image ∙ is (told keeper s image)

  pub store_still : keeper_up keeper → (s : Option (List StoreRecord)) → images_since keeper (keeper_moment keeper) s → s ≡ Some ys
  store_still up s since = store_known up s (only_now keeper s since)

  pub store_each : (new : K) (rec : StoreRecord) → ((o : Option (List StoreRecord)) → images new o → IsOneOf (kept keeper) (with_one (kept keeper) rec) o) → (s : Option (List StoreRecord)) → images new s → IsOrMore ys rec s
  store_each new rec each s image = grown (kept keeper) ys rec s (is (told new s image)) (each s image)

  pub store_since : (new : K) (rec : StoreRecord) → ((o : Option (List StoreRecord)) → images_since new (keeper_moment keeper) o → IsOneOf (kept keeper) (with_one (kept keeper) rec) o)
      → (s : Option (List StoreRecord)) → images_since new (keeper_moment keeper) s → IsOrMore ys rec s
  store_since new rec each s since = grown (kept keeper) ys rec s (is (told_since new (keeper_moment keeper) s since)) (each s since)
