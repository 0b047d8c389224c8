-- The receipts that the store's records name were applied.
use Rattle.std.proofs.Common.{◌≡◌, ◌∙◌, inl, inr, ℕ, ℤ, List, [], ◌∷◌, ◌++◌, refl, sym, ap, subst, map, Option, Some, None, Result, Ok, Err, append_assoc}
use Rattle.std.specs.List.{AllByRecursion, flat_map}
use Rattle.std.proofs.lemmas.List.{append-nil}
use Rattle.core_machine.proofs.of_plain_laws.Booleans.{eqb-refl}
use Rattle.core_machine.specs.fleet_rows.declared.applied.Applied.{Applied}
use Rattle.core_machine.specs.fleet_rows.declared.change.Change.{Change}
use Rattle.core_machine.specs.fleet_rows.declared.command.Kind.{Kind}
use Rattle.core_machine.specs.fleet_rows.declared.command.Kind.TheVariants as kind
use Rattle.core_machine.specs.fleet_rows.declared.refusal.Refusal.{Refusal}
use Rattle.core_machine.specs.fleet_rows.declared.settings.Ttls.{Ttls}
use Rattle.core_machine.specs.history_spec.Life.{life, nodes, kept_reports}
use Rattle.core_machine.specs.history_spec.Node.{newest}
use Rattle.checkpoint_spec.proofs.of_history_laws.Members.{Among}
use Rattle.checkpoint_spec.proofs.of_history_laws.NewestIsGreatest.{newest_is_greatest}
use Rattle.checkpoint_spec.proofs.of_table_machine.TableLaws.{kept_among_life}
use Rattle.core_machine.specs.table_spec.Sorted.{sorted_by}
use Rattle.checkpoint_spec.proofs.of_table_laws.SortedLists.{among-from_sorted_by}
use Rattle.core_machine.specs.record_spec.declared.store.StoreRecord.{StoreRecord}
use Rattle.core_machine.specs.record_spec.declared.store.StoreRecord.TheVariants as store
use Rattle.core_machine.specs.core_spec.declared.event.Event.{Event}
use Rattle.core_machine.specs.core_spec.declared.event.Event.TheVariants.{Submit, Claim, Release, Apply, Supersede, Fail, Discard, Sweep, Restart}
use Rattle.core_machine.specs.core_spec.Checkpoints.{settings_with, received, if_kept, by_rank, node_records, store_checkpoint, MayBeTaken, untold, IsInForm, IsStoreCheckpoint}
use Rattle.core_machine.specs.core_spec.History.{History, answer, applied, standing, trace_of}
use Rattle.core_machine.specs.core_spec.Legal.{IsLegal}
use Rattle.core_machine.specs.core_spec.Stands.{change_part, store_part, store_trace, StoreTells, or_else, last_taken}
use Rattle.core_laws.proofs.Endings.{IsEnded, ended_stays}
use Rattle.core_laws.proofs.Reasons.{WasApplied, each_was_applied, life_each}

-- ---- the receipts that records name

module _ (P : ℕ → Type 0) where
  abbrev pub IfTaken : Option ℕ → Type 0
  IfTaken None = Unit {0}
  IfTaken (Some r) = P r

  abbrev pub Names : StoreRecord → Type 0
  Names (store.Base expire retain taken) = IfTaken taken
  Names (store.Applied r c) = P r
  Names (store.Received r t c) = P r
  Names _ = Unit {0}

  abbrev pub AllNamed : List StoreRecord → Type 0
  AllNamed = AllByRecursion Names

  taken_first : (o p : Option ℕ) → IfTaken p → IfTaken o → IfTaken (or_else o p)
  taken_first None p h g = h
  taken_first (Some r) p h g = g

  if_last : (xs : List StoreRecord) → AllNamed xs → IfTaken (last_taken xs)
  if_last [] h = tt
  if_last (store.Settings n p r ∷ xs) h = if_last xs h.1
  if_last (store.Base expire retain taken ∷ xs) h = taken_first (last_taken xs) taken h.0 (if_last xs h.1)
  if_last (store.Marks m ∷ xs) h = if_last xs h.1
  if_last (store.Applied r c ∷ xs) h = taken_first (last_taken xs) (Some r) h.0 (if_last xs h.1)
  if_last (store.Swept kinds m ∷ xs) h = if_last xs h.1
  if_last (store.Received r t c ∷ xs) h = taken_first (last_taken xs) (Some r) h.0 (if_last xs h.1)
  if_last (store.Limits n p r k ∷ xs) h = if_last xs h.1

  last_named : (xs : List StoreRecord) (r : ℕ) → AllNamed xs → last_taken xs ≡ Some r → P r
  last_named xs r h e = subst IfTaken e (if_last xs h)

  named_joined : (xs ys : List StoreRecord) → AllNamed xs → AllNamed ys → AllNamed (xs ++ ys)
  named_joined [] ys h g = g
  named_joined (x ∷ xs) ys h g = (h.0, named_joined xs ys h.1 g)

  untold_named : (x : StoreRecord) → Names x → Names (untold x)
  untold_named (store.Settings n p r) h = h
  untold_named (store.Base expire retain taken) h = h
  untold_named (store.Marks m) h = h
  untold_named (store.Applied r c) h = h
  untold_named (store.Swept kinds m) h = h
  untold_named (store.Received r t c) h = h
  untold_named (store.Limits n p r k) h = h

  all_untold : (xs : List StoreRecord) → AllNamed xs → AllNamed (map untold xs)
  all_untold [] h = tt
  all_untold (x ∷ xs) h = (untold_named x h.0, all_untold xs h.1)

-- those of other facts
named_so : (P Q : ℕ → Type 0) → ((r : ℕ) → P r → Q r) → (xs : List StoreRecord) → AllNamed P xs → AllNamed Q xs
named_so P Q f [] h = tt
named_so P Q f (x ∷ xs) h = (one x h.0, named_so P Q f xs h.1)
  where
    taken : (o : Option ℕ) → IfTaken P o → IfTaken Q o
    taken None h = tt
    taken (Some r) h = f r h

    one : (x : StoreRecord) → Names P x → Names Q x
    one (store.Settings n p r) h = tt
    one (store.Base expire retain o) h = taken o h
    one (store.Marks m) h = tt
    one (store.Applied r c) h = f r h
    one (store.Swept kinds m) h = tt
    one (store.Received r t c) h = f r h
    one (store.Limits n p r k) h = tt

-- ---- a checkpoint

module _ (ttls : Ttls) (history : History) (l : IsLegal ttls history) where
  abbrev Stood : ℕ → Type 0
  Stood r = standing r history ≡ applied

  of_life : (n : List ℕ) (x : Applied) → Among x (life ttls n (trace_of history)) → Stood x.receipt
  of_life n x a = (life_each (WasApplied history) ttls n (trace_of history) (each_was_applied ttls history l) x a).stands

  kept_named : (o : Option Applied) → ((x : Applied) → o ≡ Some x → Stood x.receipt) → AllNamed Stood (if_kept o)
  kept_named None h = tt
  kept_named (Some x) h = (h x refl, tt)

  newest_named : (n : List ℕ) (k : Kind) → AllNamed Stood (if_kept (newest k (life ttls n (trace_of history))))
  newest_named n k =
      kept_named (newest k (life ttls n (trace_of history))) (λ x e. of_life n x (newest_is_greatest k (life ttls n (trace_of history)) x e).among)

  received_named : (xs : List Applied) → ((x : Applied) → Among x xs → Stood x.receipt) → AllNamed Stood (map received xs)
  received_named [] h = tt
  received_named (x ∷ xs) h = (h x (inl refl), received_named xs (λ y a. h y (inr a)))

  node_named : (n : List ℕ) → AllNamed Stood (node_records ttls (trace_of history) n)
  node_named n = (
    tt,
    named_joined Stood _ _ (newest_named n kind.Facts)
        (named_joined Stood _ _ (newest_named n kind.Catalog)
        (named_joined Stood _ _ (newest_named n kind.Deactivate)
        (named_joined Stood _ _ (newest_named n kind.Expiration)
        (received_named (sorted_by by_rank (kept_reports ttls n (trace_of history)))
        (λ x a. of_life n x (kept_among_life ttls (trace_of history) n x (among-from_sorted_by by_rank x (kept_reports ttls n (trace_of history)) a))))))),
  )

  nodes_named : (ns : List (List ℕ)) → AllNamed Stood (flat_map (node_records ttls (trace_of history)) ns)
  nodes_named [] = tt
  nodes_named (n ∷ ns) = named_joined Stood (node_records ttls (trace_of history) n) (flat_map (node_records ttls (trace_of history)) ns) (node_named n) (nodes_named ns)

  settings_named : (count : Option ℕ) → Names Stood (settings_with ttls count)
  settings_named None = tt
  settings_named (Some n) = tt

  taken_named : (taken : Option ℕ) → MayBeTaken taken history → IfTaken Stood taken
  taken_named None h = tt
  taken_named (Some r) h = h

  checkpoint_named : (taken : Option ℕ) → MayBeTaken taken history → AllNamed Stood (store_checkpoint ttls taken (trace_of history))
  checkpoint_named taken h = (settings_named ttls.report_count, (taken_named taken h, nodes_named (nodes ttls (trace_of history))))

  in_form : (records checkpoint : List StoreRecord) → IsInForm records checkpoint → AllNamed Stood checkpoint → AllNamed Stood records
  in_form records checkpoint (inl e) h = subst (AllNamed Stood) (sym e) h
  in_form records checkpoint (inr e) h = subst (AllNamed Stood) (sym e.0) (all_untold Stood checkpoint h)

  start_named : (records : List StoreRecord) → IsStoreCheckpoint ttls records history → AllNamed Stood records
  start_named records h = in_form records (store_checkpoint ttls h.0 (trace_of history)) h.2 (checkpoint_named h.0 h.1)

-- ---- further events

change_named : (P : ℕ → Type 0) (r : ℕ) (t : Option ℤ) (a : Option (Result Change Refusal)) → P r → AllNamed P (change_part r t a)
change_named P r None None h = tt
change_named P r (Some t) None h = tt
change_named P r None (Some (Ok change)) h = (h, tt)
change_named P r (Some t) (Some (Ok change)) h = (h, tt)
change_named P r None (Some (Err refusal)) h = tt
change_named P r (Some t) (Some (Err refusal)) h = tt

event_named : (e : Event) (earlier : History) → AllNamed (λ r. standing r (e ∷ earlier) ≡ applied) (store_part e earlier)
event_named (Submit r c) earlier = tt
event_named (Claim r) earlier = tt
event_named (Release r) earlier = tt
event_named (Apply r t) earlier = change_named (λ q. standing q (Apply r t ∷ earlier) ≡ applied) r t (answer r earlier) (rw (eqb-refl r) refl)
event_named (Supersede r p) earlier = tt
event_named (Fail r before after) earlier = tt
event_named (Discard r cause) earlier = tt
event_named (Sweep kinds m) earlier = (tt, tt)
event_named Restart earlier = tt

still_applied : (ttls : Ttls) (e : Event) (earlier : History) → IsLegal ttls (e ∷ earlier) → (r : ℕ) → standing r earlier ≡ applied → standing r (e ∷ earlier) ≡ applied
still_applied ttls e earlier l r h = ended_stays ttls e earlier r l (subst IsEnded (sym h) tt) ∙ h

records_named : (ttls : Ttls) (start : List StoreRecord) (later upto : History) → IsLegal ttls (later ++ upto) → AllNamed (λ r. standing r upto ≡ applied) start
    → AllNamed (λ r. standing r (later ++ upto) ≡ applied) (start ++ store_trace upto later)
records_named ttls start [] upto l h = subst (AllNamed (λ r. standing r upto ≡ applied)) (sym (append-nil start)) h
records_named ttls start (e ∷ later) upto l h =
    subst (AllNamed (λ r. standing r (e ∷ (later ++ upto)) ≡ applied)) (append_assoc start (store_trace upto later) (store_part e (later ++ upto)))
    (named_joined (λ r. standing r (e ∷ (later ++ upto)) ≡ applied) (start ++ store_trace upto later) (store_part e (later ++ upto))
    (named_so (λ r. standing r (later ++ upto) ≡ applied) (λ r. standing r (e ∷ (later ++ upto)) ≡ applied) (still_applied ttls e (later ++ upto) l) (start ++ store_trace upto later) (records_named ttls start later upto l.1 h))
    (event_named e (later ++ upto)))

pub upto_legal : (ttls : Ttls) (later upto : History) → IsLegal ttls (later ++ upto) → IsLegal ttls upto
upto_legal ttls [] upto l = l
upto_legal ttls (e ∷ later) upto l = upto_legal ttls later upto l.1

-- the receipt that the store took last was applied
pub taken_was_applied : (ttls : Ttls) (kept : List StoreRecord) (history : History) (r : ℕ) → IsLegal ttls history → StoreTells ttls kept history → last_taken kept ≡ Some r → standing r history ≡ applied
taken_was_applied ttls kept history r l t e =
    let legal : IsLegal ttls (t.later ++ t.upto) = subst (IsLegal ttls) t.whole l in
    let named = records_named ttls t.start t.later t.upto legal (start_named ttls t.upto (upto_legal ttls t.later t.upto legal) t.start t.starts) in
    ap (standing r) t.whole ∙ last_named (λ q. standing q (t.later ++ t.upto) ≡ applied) (t.start ++ store_trace t.upto t.later) r named (sym (ap last_taken t.says) ∙ e)
