-- Each record of the store may stand where a history leaves it.
use Rattle.std.proofs.Common.{◌≡◌, inl, inr, ℕ, ◌≤◌, ℤ, List, [], ◌∷◌, ◌++◌, length, reverse, arith, refl, sym, subst, map, Option, Some, None, Result, Ok, Err, append_assoc}
use Rattle.std.specs.List.{AllByRecursion, flat_map}
use Rattle.std.proofs.lemmas.List.{append-nil, reverse-append}
use Rattle.core_machine.specs.fleet_rows.declared.applied.Applied.{Applied}
use Rattle.core_machine.specs.fleet_rows.declared.change.Change.{Change}
use Rattle.core_machine.specs.fleet_rows.declared.command.Kind.TheVariants as kind
use Rattle.core_machine.specs.fleet_rows.declared.refusal.Refusal.{Refusal}
use Rattle.core_machine.specs.fleet_rows.declared.settings.Ttls.{Ttls}
use Rattle.core_machine.specs.history_spec.Life.{life, nodes, kept_reports, greatest_expiry, greatest_retention}
use Rattle.core_machine.specs.history_spec.Node.{newest}
use Rattle.core_machine.specs.history_spec.Trace.{Trace}
use Rattle.core_machine.specs.table_spec.Sorted.{sorted_by}
use Rattle.core_machine.specs.record_spec.declared.store.StoreRecord.{StoreRecord}
use Rattle.core_machine.specs.record_spec.declared.store.StoreRecord.TheVariants as store
use Rattle.core_machine.specs.core_spec.declared.event.Event.{Event}
use Rattle.core_machine.specs.core_spec.declared.event.Event.TheVariants.{Submit, Claim, Release, Apply, Supersede, Fail, Discard, Sweep, Restart}
use Rattle.core_machine.specs.core_spec.Checkpoints.{settings_with, received, if_kept, by_rank, node_records, store_checkpoint, untold, IsInForm}
use Rattle.core_machine.specs.core_spec.Damage.{AreKept, IsStoreLog}
use Rattle.core_machine.specs.core_spec.History.{History, answer, trace_of}
use Rattle.core_machine.specs.core_spec.Stands.{change_part, store_part, store_trace}
use Rattle.core_laws.specs.LogLaws.{NoStoreRecordIsDamage}

-- neither lifetimes nor a base
abbrev IsLater : StoreRecord → Type 0
IsLater (store.Settings n p r) = ⊥
IsLater (store.Limits n p r k) = ⊥
IsLater (store.Base expire retain taken) = ⊥
IsLater _ = Unit {0}

abbrev AreLater : List StoreRecord → Type 0
AreLater = AllByRecursion IsLater

later_joined : (xs ys : List StoreRecord) → AreLater xs → AreLater ys → AreLater (xs ++ ys)
later_joined [] ys h g = g
later_joined (x ∷ xs) ys h g = (h.0, later_joined xs ys h.1 g)

-- such records behind a log
one_more : (x : StoreRecord) (earlier : List StoreRecord) → IsLater x → 2 ≤ length earlier → AreKept earlier → AreKept (x ∷ earlier)
one_more (store.Settings n p r) earlier h l k = absurd h
one_more (store.Base expire retain taken) earlier h l k = absurd h
one_more (store.Marks m) earlier h l k = (l, k)
one_more (store.Applied r c) earlier h l k = (l, k)
one_more (store.Swept kinds m) earlier h l k = (l, k)
one_more (store.Received r t c) earlier h l k = (l, k)
one_more (store.Limits n p r k) earlier h l g = absurd h

more : (xs front : List StoreRecord) → AreLater xs → 2 ≤ length (reverse front) → AreKept (reverse front) → AreKept (reverse (front ++ xs))
more [] front h n k = subst (λ (ys : List StoreRecord). AreKept (reverse ys)) (sym (append-nil front)) k
more (x ∷ xs) front h n k =
    let turned : reverse (front ++ x ∷ []) ≡ x ∷ reverse front = reverse-append front (x ∷ []) in
    subst (λ (ys : List StoreRecord). AreKept (reverse ys)) (append_assoc front (x ∷ []) xs)
    (more xs (front ++ x ∷ []) h.1 (subst (λ (ys : List StoreRecord). 2 ≤ length ys) (sym turned) (omega (arith, n)))
    (subst AreKept (sym turned) (one_more x (reverse front) h.0 n k)))

-- ---- a checkpoint

kept_later : (o : Option Applied) → AreLater (if_kept o)
kept_later None = tt
kept_later (Some x) = (tt, tt)

received_later : (xs : List Applied) → AreLater (map received xs)
received_later [] = tt
received_later (x ∷ xs) = (tt, received_later xs)

untold_later : (xs : List StoreRecord) → AreLater xs → AreLater (map untold xs)
untold_later [] h = tt
untold_later (store.Settings n p r ∷ xs) h = absurd h.0
untold_later (store.Base expire retain taken ∷ xs) h = absurd h.0
untold_later (store.Marks m ∷ xs) h = (tt, untold_later xs h.1)
untold_later (store.Applied r c ∷ xs) h = (tt, untold_later xs h.1)
untold_later (store.Swept kinds m ∷ xs) h = (tt, untold_later xs h.1)
untold_later (store.Received r t c ∷ xs) h = (tt, untold_later xs h.1)
untold_later (store.Limits n p r k ∷ xs) h = absurd h.0

module _ (ttls : Ttls) (trace : Trace) where
  node_later : (n : List ℕ) → AreLater (node_records ttls trace n)
  node_later n = (
    tt,
    later_joined _ _ (kept_later (newest kind.Facts (life ttls n trace)))
        (later_joined _ _ (kept_later (newest kind.Catalog (life ttls n trace)))
        (later_joined _ _ (kept_later (newest kind.Deactivate (life ttls n trace)))
        (later_joined _ _ (kept_later (newest kind.Expiration (life ttls n trace))) (received_later (sorted_by by_rank (kept_reports ttls n trace)))))),
  )

  nodes_later : (ns : List (List ℕ)) → AreLater (flat_map (node_records ttls trace) ns)
  nodes_later [] = tt
  nodes_later (n ∷ ns) = later_joined (node_records ttls trace n) (flat_map (node_records ttls trace) ns) (node_later n) (nodes_later ns)

  -- the lifetimes and the base, and then others
  front_kept : (o : Option ℕ) (expire retain : Option ℤ) (taken : Option ℕ) (xs : List StoreRecord) → AreLater xs → AreKept (reverse (settings_with ttls o ∷ store.Base expire retain taken ∷ xs))
  front_kept None expire retain taken xs h = more xs (settings_with ttls None ∷ store.Base expire retain taken ∷ []) h (omega arith) (refl, (refl, tt))
  front_kept (Some n) expire retain taken xs h = more xs (settings_with ttls (Some n) ∷ store.Base expire retain taken ∷ []) h (omega arith) (refl, (refl, tt))

  untold_front : (o : Option ℕ) → untold (settings_with ttls o) ≡ settings_with ttls o
  untold_front None = refl
  untold_front (Some n) = refl

  -- the checkpoint in either form, and later records
  form_kept : (taken : Option ℕ) (start rest : List StoreRecord) → IsInForm start (store_checkpoint ttls taken trace) → AreLater rest → IsStoreLog (start ++ rest)
  form_kept taken start rest (inl e) h =
      let others = flat_map (node_records ttls trace) (nodes ttls trace) in
      subst (λ (xs : List StoreRecord). IsStoreLog (xs ++ rest)) (sym e)
      (omega arith, front_kept ttls.report_count (greatest_expiry trace) (greatest_retention trace) taken (others ++ rest) (later_joined others rest (nodes_later (nodes ttls trace)) h))
  form_kept taken start rest (inr e) h =
      let others = map untold (flat_map (node_records ttls trace) (nodes ttls trace)) in
      let base = store.Base (greatest_expiry trace) (greatest_retention trace) taken in
      let kept = front_kept ttls.report_count (greatest_expiry trace) (greatest_retention trace) taken (others ++ rest) (later_joined others rest (untold_later _ (nodes_later (nodes ttls trace))) h) in
      subst (λ (xs : List StoreRecord). IsStoreLog (xs ++ rest)) (sym e.0)
      (omega arith, subst (λ (x : StoreRecord). AreKept (reverse (x ∷ base ∷ (others ++ rest)))) (sym (untold_front ttls.report_count)) kept)

-- ---- further events

change_later : (r : ℕ) (t : Option ℤ) (a : Option (Result Change Refusal)) → AreLater (change_part r t a)
change_later r None None = tt
change_later r (Some t) None = tt
change_later r None (Some (Ok change)) = (tt, tt)
change_later r (Some t) (Some (Ok change)) = (tt, tt)
change_later r None (Some (Err refusal)) = tt
change_later r (Some t) (Some (Err refusal)) = tt

event_later : (e : Event) (earlier : History) → AreLater (store_part e earlier)
event_later (Submit r c) earlier = tt
event_later (Claim r) earlier = tt
event_later (Release r) earlier = tt
event_later (Apply r t) earlier = change_later r t (answer r earlier)
event_later (Supersede r p) earlier = tt
event_later (Fail r before after) earlier = tt
event_later (Discard r cause) earlier = tt
event_later (Sweep kinds m) earlier = (tt, tt)
event_later Restart earlier = tt

trace_later : (upto later : History) → AreLater (store_trace upto later)
trace_later upto [] = tt
trace_later upto (e ∷ later) = later_joined (store_trace upto later) (store_part e (later ++ upto)) (trace_later upto later) (event_later e (later ++ upto))

pub no_store_record_is_damage : NoStoreRecordIsDamage
no_store_record_is_damage ttls kept history t =
    subst IsStoreLog (sym t.says) (form_kept ttls (trace_of t.upto) t.starts.0 t.start (store_trace t.upto t.later) t.starts.2 (trace_later t.upto t.later))
