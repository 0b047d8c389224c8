-- The records tell whether a Done lacks, and so what waits.
use Rattle.std.proofs.Common.{◌≡◌, ◌∙◌, ◌⊎◌, inl, inr, ℕ, List, [], ◌∷◌, ◌++◌, refl, sym, ap, subst, map, Option, Some, None, append_assoc}
use Rattle.std.specs.List.{AllByRecursion, Contains}
use Rattle.std.proofs.lemmas.List.{append-nil}
use Rattle.core_machine.proofs.of_plain_laws.Options.{some_same}
use Rattle.core_machine.specs.fleet_rows.declared.refusal.Cause.TheVariants.{Refused, Failures}
use Rattle.core_machine.specs.fleet_rows.declared.settings.Ttls.{Ttls}
use Rattle.checkpoint_spec.proofs.of_history_laws.Members.{Among, Among-from_Contains, Contains-from_Among}
use Rattle.core_machine.specs.record_spec.declared.queue.QueueRecord.{QueueRecord}
use Rattle.core_machine.specs.record_spec.declared.queue.QueueRecord.TheVariants as queue
use Rattle.core_machine.specs.record_spec.declared.store.StoreRecord.{StoreRecord}
use Rattle.core_machine.specs.record_spec.declared.store.StoreRecord.TheVariants as store
use Rattle.core_machine.specs.core_spec.declared.dead.Dead.{Dead}
use Rattle.core_machine.specs.core_spec.declared.entry.Entry.{Entry}
use Rattle.core_machine.specs.core_spec.declared.event.Event.TheVariants.{Submit, Claim, Release, Apply, Supersede, Fail, Discard, Sweep, Restart}
use Rattle.core_machine.specs.core_spec.Checkpoints.{held, dead, queue_checkpoint, settings_with, untold, IsStoreCheckpoint}
use Rattle.core_machine.specs.core_spec.Discards.{dead_of}
use Rattle.core_machine.specs.core_spec.History.{History, Standing, claimed, applied, standing, last_receipt, trace_of}
use Rattle.core_machine.specs.core_spec.Legal.{IsLegal}
use Rattle.core_machine.specs.core_spec.Pending.{pending_of}
use Rattle.core_machine.specs.core_spec.Stands.{queue_trace, store_trace, QueueTells, StoreTells, last_taken, MissesDone, Stands}
use Rattle.core_laws.specs.Replay.{pending_after, last_after, trace_after}
use Rattle.core_laws.specs.RecordLaws.{RecordsLeadToThePending, RecordsLeadToTheLastReceipt, RecordsLeadToTheTrace, TheMissingDoneIsTold, TellAlike, TheSameRecordsTellAlike, TheSameRecordsTellOneTrace}
use Rattle.core_laws.proofs.DeadReplays.{records_lead_to_the_discards}
use Rattle.core_laws.proofs.Live.{live}
use Rattle.core_laws.proofs.Lives.{receipt_of, claimed_is_few, lives, lives_only}
use Rattle.core_laws.proofs.Replays.{records_replayed, waits_on, last_replayed, trace_joined, store_replayed}
use Rattle.core_laws.proofs.Taken.{taken_was_applied}
use Rattle.core_laws.proofs.Waiting.{IsWaiting}

-- ---- record by record

told_live : (ttls : Ttls) (records : List QueueRecord) (history : History) → IsLegal ttls history → QueueTells records history → pending_after records [] ≡ live (pending_of history)
told_live ttls records history l t =
    ap (λ (xs : List QueueRecord). pending_after xs []) t.says
    ∙ records_replayed ttls t.later t.upto (subst (IsLegal ttls) t.whole l)
    ∙ ap (λ (h : History). live (pending_of h)) (sym t.whole)

pub records_lead_to_the_pending : RecordsLeadToThePending
records_lead_to_the_pending ttls records history l few t = told_live ttls records history l t ∙ waits_on ttls history l few

pub records_lead_to_the_last_receipt : RecordsLeadToTheLastReceipt
records_lead_to_the_last_receipt records history t =
    ap (λ (xs : List QueueRecord). last_after xs 0) t.says ∙ last_replayed t.later t.upto ∙ ap last_receipt (sym t.whole)

-- ---- the last record of a list

module _ {A : Type 0} where
  init : List A → List A
  init [] = []
  init (x ∷ []) = []
  init (x ∷ y ∷ ys) = x ∷ init (y ∷ ys)

  init_is : (xs : List A) (a : A) → init (xs ++ a ∷ []) ≡ xs
  unfolding init
  init_is [] a = refl
  init_is (x ∷ []) a = refl
  init_is (x ∷ y ∷ xs) a = ap (λ ys. x ∷ ys) (init_is (y ∷ xs) a)

  final : A → List A → A
  final d [] = d
  final d (x ∷ xs) = final x xs

  final_is : (d : A) (xs : List A) (a : A) → final d (xs ++ a ∷ []) ≡ a
  unfolding final
  final_is d [] a = refl
  final_is d (x ∷ xs) a = final_is x xs a

  front_is : (xs ys : List A) (a b : A) → xs ++ a ∷ [] ≡ ys ++ b ∷ [] → xs ≡ ys
  front_is xs ys a b e = sym (init_is xs a) ∙ ap init e ∙ init_is ys b

  end_is : (xs ys : List A) (a b : A) → xs ++ a ∷ [] ≡ ys ++ b ∷ [] → a ≡ b
  end_is xs ys a b e = sym (final_is a xs a) ∙ ap (final a) e ∙ final_is a ys b

abbrev IsDone : QueueRecord → Type 0
IsDone (queue.Done r) = Unit {0}
IsDone _ = ⊥

-- a checkpoint has no Done
none_at_end : (xs ys : List QueueRecord) (r : ℕ) → AllByRecursion (λ x. IsDone x → ⊥) ys → xs ++ queue.Done r ∷ [] ≡ ys → ⊥
none_at_end xs ys r h e = ends xs (subst (AllByRecursion (λ x. IsDone x → ⊥)) (sym e) h)
  where
    ends : (zs : List QueueRecord) → AllByRecursion (λ x. IsDone x → ⊥) (zs ++ queue.Done r ∷ []) → ⊥
    ends [] g = g.0 tt
    ends (z ∷ zs) g = ends zs g.1

dead_none : (ds : List Dead) → AllByRecursion (λ x. IsDone x → ⊥) (map dead ds)
dead_none [] = tt
dead_none (d ∷ ds) = ((λ x. x), dead_none ds)

held_none : (es : List Entry) (ds : List Dead) → AllByRecursion (λ x. IsDone x → ⊥) (map held es ++ map dead ds)
held_none [] ds = dead_none ds
held_none (e ∷ es) ds = ((λ x. x), held_none es ds)

checkpoint_none : (history : History) → AllByRecursion (λ x. IsDone x → ⊥) (queue_checkpoint history)
checkpoint_none history = ((λ x. x), held_none (pending_of history) (dead_of history))

-- ---- the Done that lacks

module _ (ttls : Ttls) (queued_before : List QueueRecord) (r : ℕ) (upto : History) where
  abbrev checkpoint : List QueueRecord
  checkpoint = queue_checkpoint upto

  -- where the last record is a Done, its receipt waits before it
  abbrev Waits : History → Type 0
  Waits later = queued_before ++ queue.Done r ∷ [] ≡ checkpoint ++ queue_trace later → IsLegal ttls (later ++ upto) → Among r (map receipt_of (pending_after queued_before []))

  no_part : (later : History) → queued_before ++ queue.Done r ∷ [] ≡ checkpoint ++ (queue_trace later ++ []) → queued_before ++ queue.Done r ∷ [] ≡ checkpoint ++ queue_trace later
  no_part later e = e ∙ ap (λ (xs : List QueueRecord). checkpoint ++ xs) (append-nil (queue_trace later))

  other_part : (later : History) (x : QueueRecord) → (IsDone x → ⊥) → queued_before ++ queue.Done r ∷ [] ≡ checkpoint ++ (queue_trace later ++ x ∷ []) → ⊥
  other_part later x h e =
      h (subst IsDone (end_is queued_before (checkpoint ++ queue_trace later) (queue.Done r) x (e ∙ sym (append_assoc checkpoint (queue_trace later) (x ∷ [])))) tt)

  done_is : (q : ℕ) → queue.Done r ≡ queue.Done q → r ≡ q
  done_is q e = cc

  done_part : (later : History) (q : ℕ) → IsLegal ttls (later ++ upto) → standing q (later ++ upto) ≡ claimed → queued_before ++ queue.Done r ∷ [] ≡ checkpoint ++ (queue_trace later ++ queue.Done q ∷ [])
      → Among r (map receipt_of (pending_after queued_before []))
  done_part later q l is e =
      let whole = e ∙ sym (append_assoc checkpoint (queue_trace later) (queue.Done q ∷ [])) in
      let same : r ≡ q = done_is q (end_is queued_before (checkpoint ++ queue_trace later) (queue.Done r) (queue.Done q) whole) in
      let front : queued_before ≡ checkpoint ++ queue_trace later = front_is queued_before (checkpoint ++ queue_trace later) (queue.Done r) (queue.Done q) whole in
      let claimed_now : standing r (later ++ upto) ≡ claimed = ap (λ n. standing n (later ++ upto)) same ∙ is in
      let there = lives ttls r (later ++ upto) l (subst IsWaiting (sym claimed_now) tt) (claimed_is_few ttls r (later ++ upto) l claimed_now) in
      subst (λ (es : List Entry). Among r (map receipt_of es)) (sym (ap (λ (xs : List QueueRecord). pending_after xs []) front ∙ records_replayed ttls later upto l)) there

  waits : (later : History) → Waits later
  waits [] e l = absurd (none_at_end queued_before (checkpoint ++ []) r (subst (AllByRecursion (λ x. IsDone x → ⊥)) (sym (append-nil checkpoint)) (checkpoint_none upto)) e)
  waits (Submit q c ∷ later) e l = absurd (other_part later (queue.Submit q c) (λ x. x) e)
  waits (Claim q ∷ later) e l = waits later (no_part later e) l.1
  waits (Release q ∷ later) e l = waits later (no_part later e) l.1
  waits (Apply q t ∷ later) e l = done_part later q l.1 l.0.claimed e
  waits (Supersede q p ∷ later) e l = absurd (other_part later (queue.Superseded q p) (λ x. x) e)
  waits (Fail q before after ∷ later) e l = absurd (other_part later (queue.Fail q before after) (λ x. x) e)
  waits (Discard q (Refused refusal) ∷ later) e l = absurd (other_part later (queue.Refused q refusal) (λ x. x) e)
  waits (Discard q Failures ∷ later) e l = waits later (no_part later e) l.1
  waits (Sweep kinds m ∷ later) e l = waits later (no_part later e) l.1
  waits (Restart ∷ later) e l = waits later (no_part later e) l.1

applied_waits_not : (s : Standing) → s ≡ applied → IsWaiting s → ⊥
applied_waits_not s e w = subst IsWaiting e w

module _ (ttls : Ttls) (queued_now : List QueueRecord) (kept : List StoreRecord) (history : History) (legal : IsLegal ttls history) where
  pub missing_waits : (missing : MissesDone queued_now kept history) → Among missing.receipt (map receipt_of (pending_after queued_now []))
  missing_waits missing =
      let t = missing.tells in
      waits ttls queued_now missing.receipt t.upto t.later t.says (subst (IsLegal ttls) t.whole legal)

  -- where none lacks, what the store took last waits no more
  pub whole_waits_not : StoreTells ttls kept history → QueueTells queued_now history → (r : ℕ) → last_taken kept ≡ Some r → Among r (map receipt_of (pending_after queued_now [])) → ⊥
  whole_waits_not tells t r e a =
      applied_waits_not (standing r history) (taken_was_applied ttls kept history r legal tells e)
      (lives_only ttls r history legal (subst (λ (es : List Entry). Among r (map receipt_of es)) (told_live ttls queued_now history legal t) a))

module _ (ttls : Ttls) (queued_now : List QueueRecord) (kept : List StoreRecord) (history : History) (s : Stands ttls queued_now kept history) where
  misses : (r : ℕ) → last_taken kept ≡ Some r → Among r (map receipt_of (pending_after queued_now [])) → MissesDone queued_now kept history
  misses r e a = elim s.queue [ inl t ↦ absurd (whole_waits_not ttls queued_now kept history s.legal s.store t r e a) | inr missing ↦ missing ]

pub the_missing_done_is_told : TheMissingDoneIsTold
the_missing_done_is_told ttls queued_now kept history s = (there, back)
  where
    there : MissesDone queued_now kept history → (r : ℕ) × (last_taken kept ≡ Some r) × Contains (map (λ (e : Entry). e.receipt) (pending_after queued_now [])) r
    there missing = (missing.receipt, missing.taken, Contains-from_Among (map receipt_of (pending_after queued_now [])) missing.receipt (missing_waits ttls queued_now kept history s.legal missing))

    back : ((r : ℕ) × (last_taken kept ≡ Some r) × Contains (map (λ (e : Entry). e.receipt) (pending_after queued_now [])) r) → MissesDone queued_now kept history
    back h = misses ttls queued_now kept history s h.0 h.1 (Among-from_Contains (map receipt_of (pending_after queued_now [])) h.0 h.2)

-- ---- histories of the same records

module _ (ttls : Ttls) (queued_now : List QueueRecord) (kept : List StoreRecord) (history other : History) (s : Stands ttls queued_now kept history) (t : Stands ttls queued_now kept other) where
  of_records : (records : List QueueRecord) → QueueTells records history → QueueTells records other → TellAlike history other
  of_records records h g = record {
    pending = sym (records_lead_to_the_pending ttls records history s.legal s.few h) ∙ records_lead_to_the_pending ttls records other t.legal t.few g;
    last = sym (records_lead_to_the_last_receipt records history h) ∙ records_lead_to_the_last_receipt records other g;
    dead = sym (records_lead_to_the_discards ttls records history s.legal s.few s.at_once h) ∙ records_lead_to_the_discards ttls records other t.legal t.few t.at_once g;
  }

  of_both : QueueTells queued_now history ⊎ MissesDone queued_now kept history → QueueTells queued_now other ⊎ MissesDone queued_now kept other → TellAlike history other
  of_both (inl h) (inl g) = of_records queued_now h g
  of_both (inl h) (inr g) = absurd (whole_waits_not ttls queued_now kept history s.legal s.store h g.receipt g.taken (missing_waits ttls queued_now kept other t.legal g))
  of_both (inr h) (inl g) = absurd (whole_waits_not ttls queued_now kept other t.legal t.store g h.receipt h.taken (missing_waits ttls queued_now kept history s.legal h))
  of_both (inr h) (inr g) =
      let same : h.receipt ≡ g.receipt = sym (some_same h.receipt g.receipt (sym h.taken ∙ g.taken)) in
      of_records (queued_now ++ queue.Done g.receipt ∷ []) (subst (λ (r : ℕ). QueueTells (queued_now ++ queue.Done r ∷ []) history) same h.tells) g.tells

pub the_same_records_tell_alike : TheSameRecordsTellAlike
the_same_records_tell_alike ttls queued_now kept history other s t = of_both ttls queued_now kept history other s t s.queue t.queue

-- ---- the trace

module _ (ttls : Ttls) where
  settings_traceless : (o taken : Option ℕ) → trace_after (settings_with ttls o ∷ store.Base None None taken ∷ []) [] ≡ []
  settings_traceless None taken = refl
  settings_traceless (Some n) taken = refl

  untold_traceless : (o taken : Option ℕ) → trace_after (map untold (settings_with ttls o ∷ store.Base None None taken ∷ [])) [] ≡ []
  untold_traceless None taken = refl
  untold_traceless (Some n) taken = refl

  -- the checkpoint of the empty history has nothing of a trace
  start_traceless : (start : List StoreRecord) → IsStoreCheckpoint ttls start [] → trace_after start [] ≡ []
  start_traceless start (taken, may, inl e) = ap (λ (xs : List StoreRecord). trace_after xs []) e ∙ settings_traceless ttls.report_count taken
  start_traceless start (taken, may, inr e) = ap (λ (xs : List StoreRecord). trace_after xs []) e.0 ∙ untold_traceless ttls.report_count taken

pub records_lead_to_the_trace : RecordsLeadToTheTrace
records_lead_to_the_trace ttls records history t none =
    let begins : trace_after t.start [] ≡ trace_of t.upto =
    start_traceless ttls t.start (subst (λ (h : History). IsStoreCheckpoint ttls t.start h) none t.starts) ∙ ap trace_of (sym none) in
    ap (λ (xs : List StoreRecord). trace_after xs []) t.says ∙ trace_joined t.start (store_trace t.upto t.later) []
    ∙ ap (trace_after (store_trace t.upto t.later)) begins ∙ store_replayed t.later t.upto ∙ ap trace_of (sym t.whole)

pub the_same_records_tell_one_trace : TheSameRecordsTellOneTrace
the_same_records_tell_one_trace ttls queued_now kept history other s t e f =
    sym (records_lead_to_the_trace ttls kept history s.store e) ∙ records_lead_to_the_trace ttls kept other t.store f
