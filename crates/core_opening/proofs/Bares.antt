-- The commands that wait, without their groups: what a record makes of them, and that nothing else is seen of them.
use Rattle.std.proofs.Common.{◌≡◌, ◌∙◌, ℕ, ◌==◌, List, [], ◌∷◌, ◌++◌, map, arith, refl, ap, Bool, true, false, if◌then◌else◌, nat_lt}
use Rattle.std.specs.List.{AllByRecursion, flat_map}
use Rattle.std.proofs.lemmas.List.{map-append}
use Rattle.core_state.specs.fleet_rows.declared.refusal.Cause.TheVariants.{Refused}
use Rattle.core_state.specs.record_spec.declared.queue.QueueRecord.{QueueRecord}
use Rattle.core_state.specs.record_spec.declared.queue.QueueRecord.TheVariants as queue
use Rattle.core_state.specs.record_spec.Queue.{IsQueueRecord}
use Rattle.core_state.specs.core_spec.declared.dead.Dead.{Dead}
use Rattle.core_state.specs.core_spec.declared.entry.Entry.{Entry}
use Rattle.core_state.specs.core_machine.Steps.{failed, at_receipt, new_entry}
use Rattle.core_state.specs.core_laws.Replay.{if_few, held_entry, at_entry, given_up, if_worn_out, pending_by, dead_by}
use Rattle.core_state.proofs.of_core_laws.QueueLogs.{receipts_back}
use Rattle.core_state.proofs.of_core_laws.WaitingRecords.{IsReplayed}
use Rattle.core_opening.specs.Replayed.{AreQueuedOnly, bare, bare_by, grouped}

-- ---- what a record makes of them

flat_step : (b : Bool) (f : Entry → List Entry) (e : Entry) (es xs : List Entry) → map bare (f e) ≡ f (bare e) → map bare es ≡ xs → map bare ((if b then f e else e ∷ []) ++ es) ≡ (if b then f (bare e) else bare e ∷ []) ++ xs
flat_step true f e es xs own rest = map-append bare (f e) es ∙ (λ i. own i ++ rest i)
flat_step false f e es xs own rest = ap (λ (l : List Entry). bare e ∷ l) rest

bare_flat : (r : ℕ) (f : Entry → List Entry) (es : List Entry) → ((e : Entry) → map bare (f e) ≡ f (bare e)) → map bare (flat_map (at_receipt r f) es) ≡ flat_map (at_receipt r f) (map bare es)
bare_flat r f [] own = refl
bare_flat r f (e ∷ es) own = flat_step (r == e.receipt) f e (flat_map (at_receipt r f) es) (flat_map (at_receipt r f) (map bare es)) (own e) (bare_flat r f es own)

few_bare : (e : Entry) → map bare (if_few e) ≡ if_few (bare e)
few_bare e = by (nat_lt e.attempts 16) refl
  where
    by : (b : Bool) → nat_lt e.attempts 16 ≡ b → map bare (if_few e) ≡ if_few (bare e)
    by true is = rw is refl
    by false is = rw is refl

pub bare_is : (x : QueueRecord) (es : List Entry) → IsQueueRecord x → map bare (pending_by x es) ≡ bare_by x (map bare es)
bare_is (queue.Base last) es fits = refl
bare_is (queue.Held r n c) es fits =
    let few : nat_lt n 16 ≡ true = grind (arith, fits.1) in
    rw few (map-append bare es (held_entry r n c ∷ []))
bare_is (queue.Dead r c why) es fits = refl
bare_is (queue.Submit r c) es fits = map-append bare es (new_entry r c ∷ [])
bare_is (queue.Done r) es fits = bare_flat r (λ e. []) es (λ e. refl)
bare_is (queue.Superseded r p) es fits = bare_flat r (λ e. []) es (λ e. refl)
bare_is (queue.Refused r f) es fits = bare_flat r (λ e. []) es (λ e. refl)
bare_is (queue.Fail r b a) es fits = bare_flat r (λ e. if_few (failed e)) es (λ e. few_bare (failed e))

-- ---- what it makes of those that were given up

at_step : (b : Bool) (put : Entry → List Dead → List Dead) (e : Entry) (ds xs ys : List Dead) → put (bare e) ds ≡ put e ds → xs ≡ ys → (if b then put (bare e) ds else xs) ≡ (if b then put e ds else ys)
at_step true put e ds xs ys own rest = own
at_step false put e ds xs ys own rest = rest

at_bare : (r : ℕ) (put : Entry → List Dead → List Dead) (es : List Entry) (ds : List Dead) → ((e : Entry) → put (bare e) ds ≡ put e ds) → at_entry r put (map bare es) ds ≡ at_entry r put es ds
at_bare r put [] ds same = refl
at_bare r put (e ∷ es) ds same = at_step (r == e.receipt) put e ds (at_entry r put (map bare es) ds) (at_entry r put es ds) (same e) (at_bare r put es ds same)

pub dead_bare : (x : QueueRecord) (es : List Entry) (ds : List Dead) → dead_by x (map bare es) ds ≡ dead_by x es ds
dead_bare (queue.Base last) es ds = refl
dead_bare (queue.Held r n c) es ds = refl
dead_bare (queue.Dead r c why) es ds = refl
dead_bare (queue.Submit r c) es ds = refl
dead_bare (queue.Done r) es ds = refl
dead_bare (queue.Superseded r p) es ds = refl
dead_bare (queue.Refused r f) es ds = at_bare r (given_up (Refused f)) es ds (λ e. refl)
dead_bare (queue.Fail r b a) es ds = at_bare r if_worn_out es ds (λ e. refl)

-- ---- what is seen of them

module _ (P : Entry → Type 0) where
  all_bare : (es : List Entry) → ((e : Entry) → P e → P (bare e)) → AllByRecursion P es → AllByRecursion P (map bare es)
  all_bare [] own all = tt
  all_bare (e ∷ es) own all = (own e all.0, all_bare es own all.1)

receipts_bare : (es : List Entry) → receipts_back es ≡ receipts_back (map bare es)
receipts_bare [] = refl
receipts_bare (e ∷ es) = ap (λ (rs : List ℕ). rs ++ e.receipt ∷ []) (receipts_bare es)

pub replayed_bare : (L : List QueueRecord) (es : List Entry) → IsReplayed L es → IsReplayed L (map bare es)
replayed_bare L es h = record {
  waits = h.waits ∙ receipts_bare es;
  entries = all_bare _ es (λ e k. k) h.entries;
  fresh = h.fresh;
  given = λ q above. all_bare _ es (λ e k. k) (h.given q above);
  held = λ front q above. all_bare _ es (λ e k. k) (h.held front q above);
}

pub queued_bare : (es : List Entry) → AreQueuedOnly es → AreQueuedOnly (map bare es)
queued_bare es all = all_bare (λ (e : Entry). e.claimed ≡ false) es (λ e k. k) all

-- ---- their groups again

pub regrouped : (es : List Entry) → AllByRecursion (λ (e : Entry). grouped e ≡ e) es → map grouped (map bare es) ≡ es
regrouped [] all = refl
regrouped (e ∷ es) all = λ i. all.0 i ∷ regrouped es all.1 i
