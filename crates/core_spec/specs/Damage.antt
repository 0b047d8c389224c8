-- Damage: which frames can't continue a log. A frame is damage if it is no record, or if its record may not follow the records
-- before it. The lists of records in this file have the newest record first.
use Rattle.std.specs.Prelude.{◌≡◌, ℕ, suc, ◌<◌, ◌≤◌, List, [], ◌∷◌, ◌==◌, not, length, take, drop, reverse, Bool, true, false, if◌then◌else◌, filter}
use Rattle.std.specs.List.{AllByRecursion, Contains, list_any}
use Rattle.record_spec.specs.declared.queue.QueueRecord.{QueueRecord}
use Rattle.record_spec.specs.declared.queue.QueueRecord.TheVariants as queue
use Rattle.record_spec.specs.declared.store.StoreRecord.{StoreRecord}
use Rattle.record_spec.specs.declared.store.StoreRecord.TheVariants as store
use Rattle.record_spec.specs.Queue.{queue_text, IsQueueRecord}
use Rattle.record_spec.specs.Store.{store_text, IsStoreRecord}
use Rattle.core_spec.specs.Legal.{Rises}
use Rattle.table_spec.specs.fleet_rows.Limits.{most_pending}

-- ---- the receipts that are pending in the queue

-- the number of times that the store failed at the receipt
abbrev pub attempts : ℕ → List QueueRecord → ℕ
attempts r [] = 0
attempts r (queue.Held q n c ∷ earlier) = if q == r then n else attempts r earlier
attempts r (queue.Fail q before after ∷ earlier) = if q == r then suc (attempts r earlier) else attempts r earlier
attempts r (_ ∷ earlier) = attempts r earlier

abbrev pub leave : ℕ → List ℕ → List ℕ
leave r rs = filter (λ q. not (q == r)) rs

-- the receipts that came in and haven't ended
abbrev pub waiting_in : List QueueRecord → List ℕ
waiting_in [] = []
waiting_in (queue.Base last ∷ earlier) = waiting_in earlier
waiting_in (queue.Held r n c ∷ earlier) = r ∷ waiting_in earlier
waiting_in (queue.Dead r c why ∷ earlier) = waiting_in earlier
waiting_in (queue.Submit r c ∷ earlier) = r ∷ waiting_in earlier
waiting_in (queue.Done r ∷ earlier) = leave r (waiting_in earlier)
waiting_in (queue.Superseded r by ∷ earlier) = leave r (waiting_in earlier)
waiting_in (queue.Refused r refusal ∷ earlier) = leave r (waiting_in earlier)
waiting_in (queue.Fail r before after ∷ earlier) =
    if suc (attempts r earlier) == 16 then leave r (waiting_in earlier) else waiting_in earlier

abbrev pub Waits : ℕ → List QueueRecord → Type 0
Waits r earlier = Contains (waiting_in earlier) r

-- ---- the queue's log

abbrev pub is_base : QueueRecord → Bool
is_base (queue.Base last) = true
is_base _ = false

abbrev pub is_held : QueueRecord → Bool
is_held (queue.Held r n c) = true
is_held _ = false

abbrev pub is_dead : QueueRecord → Bool
is_dead (queue.Dead r c why) = true
is_dead _ = false

abbrev pub is_submit : QueueRecord → Bool
is_submit (queue.Submit r c) = true
is_submit _ = false

-- the receipts that a record gives out: that of a command it adds, or the last one that a base names
abbrev pub given : QueueRecord → List ℕ
given (queue.Base last) = last ∷ []
given (queue.Held r n c) = r ∷ []
given (queue.Dead r c why) = r ∷ []
given (queue.Submit r c) = r ∷ []
given _ = []

-- the receipt is above every receipt that these records give out
abbrev pub IsAbove : ℕ → List QueueRecord → Type 0
IsAbove r records = AllByRecursion (λ x. AllByRecursion (λ q. q < r) (given x)) records

-- every record passes the test
abbrev pub AreOnly : (QueueRecord → Bool) → List QueueRecord → Type 0
AreOnly p records = AllByRecursion (λ x. p x ≡ true) records

abbrev pub begins : (QueueRecord → Bool) → QueueRecord → Bool
begins p x = if is_base x then true else p x

abbrev pub HasRoom : List QueueRecord → Type 0
HasRoom earlier = length (waiting_in earlier) < most_pending

-- a held command follows the base and other held commands, in the order of receipts
pub record MayHold (r : ℕ) (earlier : List QueueRecord) : Type 0 where
  pub front : AreOnly (begins is_held) earlier
  pub base : list_any is_base earlier ≡ true
  pub rises : IsAbove r (filter is_held earlier)
  pub room : HasRoom earlier

-- a discarded command follows the base, the held commands and other discarded ones, in the order of receipts
pub record MayBeDead (r : ℕ) (earlier : List QueueRecord) : Type 0 where
  pub front : AreOnly (begins (λ x. if is_held x then true else is_dead x)) earlier
  pub base : list_any is_base earlier ≡ true
  pub rises : IsAbove r (filter is_dead earlier)

-- a submitted command has a receipt above all that were given out
pub record MaySubmit (r : ℕ) (earlier : List QueueRecord) : Type 0 where
  pub base : list_any is_base earlier ≡ true
  pub rises : IsAbove r earlier
  pub room : HasRoom earlier

abbrev pub MayQueue : QueueRecord → List QueueRecord → Type 0
MayQueue (queue.Base last) earlier = earlier ≡ []
MayQueue (queue.Held r n c) earlier = MayHold r earlier
MayQueue (queue.Dead r c why) earlier = MayBeDead r earlier
MayQueue (queue.Submit r c) earlier = MaySubmit r earlier
MayQueue (queue.Done r) earlier = Waits r earlier
MayQueue (queue.Superseded r by) earlier = Waits r earlier
MayQueue (queue.Refused r refusal) earlier = Waits r earlier
MayQueue (queue.Fail r before after) earlier = Waits r earlier × Rises before after

-- each record may follow the records before it
abbrev pub AreQueued : List QueueRecord → Type 0
AreQueued [] = Unit {0}
AreQueued (x ∷ earlier) = MayQueue x earlier × AreQueued earlier

-- ---- the store's log

abbrev pub MayKeep : StoreRecord → List StoreRecord → Type 0
MayKeep (store.Settings n p r) earlier = earlier ≡ []
MayKeep (store.Limits n p r k) earlier = earlier ≡ []
MayKeep (store.Base expire retain taken) earlier = length earlier ≡ 1
MayKeep _ earlier = 2 ≤ length earlier

abbrev pub AreKept : List StoreRecord → Type 0
AreKept [] = Unit {0}
AreKept (x ∷ earlier) = MayKeep x earlier × AreKept earlier

-- ---- whole logs, in the order in which their records were written

-- a log has its first records, and each record may follow those before it
abbrev pub IsQueueLog : List QueueRecord → Type 0
IsQueueLog records = (1 ≤ length records) × AreQueued (reverse records)

abbrev pub IsStoreLog : List StoreRecord → Type 0
IsStoreLog records = (2 ≤ length records) × AreKept (reverse records)

-- ---- frames

-- the frame is the text of the record
abbrev pub IsQueueFrame : List ℕ → QueueRecord → Type 0
IsQueueFrame frame x = IsQueueRecord x × (frame ≡ queue_text x)

abbrev pub IsStoreFrame : List ℕ → StoreRecord → Type 0
IsStoreFrame frame x = IsStoreRecord x × (frame ≡ store_text x)

-- the frames are the texts of the records, one by one
abbrev pub EachIs : {F A : Type 0} → (F → A → Type 0) → List F → List A → Type 0
EachIs Is [] [] = Unit {0}
EachIs Is [] (x ∷ xs) = ⊥
EachIs Is (frame ∷ frames) [] = ⊥
EachIs Is (frame ∷ frames) (x ∷ xs) = Is frame x × EachIs Is frames xs

-- The log ends behind these records. Either the next frame is no record that may follow, or no frame is left and the log has
-- fewer records than the least.
abbrev pub EndsThere : {F A : Type 0} → (F → A → Type 0) → (List A → Type 0) → ℕ → List A → List F → Type 0
EndsThere Is Are least before [] = length before < least
EndsThere {A = A} Is Are least before (frame ∷ rest) = (x : A) → Is frame x → Are (x ∷ reverse before) → ⊥

-- The index of the first frame that can't continue the log. `F` may be a frame, or what was read from one.
pub record IsDamagedFrame {F A : Type 0} (Is : F → A → Type 0) (Are : List A → Type 0) (least : ℕ) (frames : List F) (at : ℕ) : Type 0 where
  pub before : List A
  pub place : at ≡ length before
  pub reads : EachIs Is (take at frames) before
  pub stand : Are (reverse before)
  pub ends : EndsThere Is Are least before (drop at frames)

abbrev pub IsQueueDamage : List (List ℕ) → ℕ → Type 0
IsQueueDamage = IsDamagedFrame IsQueueFrame AreQueued 1

abbrev pub IsStoreDamage : List (List ℕ) → ℕ → Type 0
IsStoreDamage = IsDamagedFrame IsStoreFrame AreKept 2
