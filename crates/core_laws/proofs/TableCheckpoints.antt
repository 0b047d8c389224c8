-- The records of a checkpoint of the store lead to the table of the history that it stands for, and further records to that of
-- the later events too.
use Rattle.std.proofs.Common.{◌≡◌, ◌∙◌, inl, inr, ℕ, ℤ, List, [], ◌∷◌, ◌++◌, map, refl, sym, ap, subst, Option, Some, None, Result, Ok, Err, append_assoc}
use Rattle.std.specs.List.{AllByRecursion, flat_map}
use Rattle.std.specs.List.Sorted.{IsStrictlySortedBy}
use Rattle.std.specs.Ordering.{ordering_reverse}
use Rattle.std.specs.declared.cmp.Ordering.TheVariants.{Less, Equal, Greater}
use Rattle.std.proofs.lemmas.Cmp.{tied_itself}
use Rattle.std.proofs.lemmas.List.{append-nil}
use Rattle.core_machine.proofs.of_plain_laws.Members.{Among}
use Rattle.core_machine.proofs.of_plain_laws.StrictlySorted.{sorted-below, sorted-rest}
use Rattle.core_machine.specs.text_spec.Compact.{text_cmp}
use Rattle.core_machine.specs.fleet_rows.Change.{change_certname}
use Rattle.core_machine.specs.fleet_rows.declared.applied.Applied.{Applied}
use Rattle.core_machine.specs.fleet_rows.declared.change.Change.{Change}
use Rattle.core_machine.specs.fleet_rows.declared.command.Kind.TheVariants as kind
use Rattle.core_machine.specs.fleet_rows.declared.refusal.Refusal.{Refusal}
use Rattle.core_machine.specs.fleet_rows.declared.settings.Ttls.{Ttls}
use Rattle.core_machine.specs.history_spec.Life.{life, nodes, kept_reports, greatest_expiry, greatest_retention}
use Rattle.core_machine.specs.history_spec.Node.{later, newest, greatest_activity, greatest_deactivation}
use Rattle.core_machine.specs.history_spec.Trace.{applied_as, Trace, IsTrace}
use Rattle.checkpoint_spec.proofs.of_history_laws.SortedTexts.{text_cmp_total}
use Rattle.checkpoint_spec.proofs.of_history_laws.TraceLemmas.{nodes_are_strictly_sorted}
use Rattle.core_machine.specs.table_spec.Sorted.{sorted_by}
use Rattle.checkpoint_spec.specs.table_machine.Steps.{empty_node, empty_table, with_applied, with_node, apply}
use Rattle.checkpoint_spec.specs.table_machine.Table.{Node, Table, node_of, table_of}
use Rattle.checkpoint_spec.proofs.of_table_machine.CommandSteps.{commands_are_followed}
use Rattle.checkpoint_spec.proofs.of_table_machine.SweepSteps.{sweeps_are_followed}
use Rattle.core_machine.specs.record_spec.declared.store.StoreRecord.{StoreRecord}
use Rattle.core_machine.specs.record_spec.declared.store.StoreRecord.TheVariants as store
use Rattle.core_machine.specs.core_spec.declared.event.Event.{Event}
use Rattle.core_machine.specs.core_spec.declared.event.Event.TheVariants.{Submit, Claim, Release, Apply, Supersede, Fail, Discard, Sweep, Restart}
use Rattle.core_machine.specs.core_spec.Checkpoints.{settings_with, received, if_kept, by_rank, node_records, store_checkpoint, untold, IsUntold, IsInForm}
use Rattle.core_machine.specs.core_spec.History.{History, answer, with_applied as with_change, trace_of}
use Rattle.core_machine.specs.core_spec.Legal.{IsLegal}
use Rattle.core_machine.specs.core_spec.Stands.{change_part, store_part, store_trace}
use Rattle.core_laws.specs.TableReplay.{table_by, table_after, RecordsLeadToTheTable, TheSameRecordsTellOneTable}
use Rattle.checkpoint_spec.specs.Histories.{commands_in}
use Rattle.checkpoint_spec.specs.Lists.{if_kept as if_some}
use Rattle.checkpoint_spec.proofs.NodesAgain.{all_with, node_again, of_kept}
use Rattle.core_laws.proofs.Taken.{upto_legal}
use Rattle.core_laws.proofs.Traces.{legal_histories_have_traces}

joined : (xs ys : List StoreRecord) (t : Table) → table_after (xs ++ ys) t ≡ table_after ys (table_after xs t)
joined [] ys t = refl
joined (x ∷ xs) ys t = joined xs ys (table_by x t)

-- ---- the node of the checkpoint

module _ (ttls : Ttls) (trace : Trace) (is : IsTrace trace) (certname : List ℕ) where
  abbrev retention : Option ℤ
  retention = greatest_retention trace

  abbrev xs : List Applied
  xs = life ttls certname trace

  abbrev active : Option ℤ
  active = greatest_activity xs

  abbrev reports : List Applied
  reports = sorted_by by_rank (kept_reports ttls certname trace)

  -- the commands that are kept of the node, in the order of a checkpoint
  abbrev kept : List Applied
  kept = commands_in ttls trace certname

  -- ---- its records, behind the nodes before it

  abbrev Behind : List Node → Type 0
  Behind done = AllByRecursion (λ (node : Node). text_cmp certname node.certname ≡ Greater) done

  put_behind : (change : Node → Node) (done : List Node) → Behind done → with_node certname change done ≡ done ++ change (empty_node certname) ∷ []
  put_behind change [] h = refl
  put_behind change (node ∷ done) h = rw h.0 (ap (λ ns. node ∷ ns) (put_behind change done h.1))

  change_last : (change : Node → Node) (done : List Node) (node : Node) → Behind done → text_cmp certname node.certname ≡ Equal → with_node certname change (done ++ node ∷ []) ≡ done ++ change node ∷ []
  change_last change [] node h e = rw e refl
  change_last change (other ∷ done) node h e = rw h.0 (ap (λ ns. other ∷ ns) (change_last change done node h.1 e))

  abbrev with_nodes : List Node → Table
  with_nodes ns = record { ttls = ttls; expiry = greatest_expiry trace; retention = retention; nodes = ns }

  all_received : (ys : List Applied) (done : List Node) (node : Node) → Behind done → text_cmp certname node.certname ≡ Equal → ((x : Applied) → Among x ys → certname ≡ change_certname x.change)
      → table_after (map received ys) (with_nodes (done ++ node ∷ [])) ≡ with_nodes (done ++ all_with ttls retention ys node ∷ [])
  unfolding all_with
  all_received [] done node h e of = refl
  all_received (y ∷ ys) done node h e of =
      ap (λ ns. table_after (map received ys) (with_nodes ns))
      (ap (λ n. with_node n (with_applied ttls retention y) (done ++ node ∷ [])) (sym (of y (inl refl))) ∙ change_last (with_applied ttls retention y) done node h e)
      ∙ all_received ys done (with_applied ttls retention y node) h e (λ x a. of x (inr a))

  if_kept_is : (o : Option Applied) → if_kept o ≡ map received (if_some o)
  if_kept_is None = refl
  if_kept_is (Some x) = refl

  map_both : (ys zs : List Applied) → map received (ys ++ zs) ≡ map received ys ++ map received zs
  map_both [] zs = refl
  map_both (y ∷ ys) zs = ap (λ rs. received y ∷ rs) (map_both ys zs)

  part_is : (o : Option Applied) (zs : List Applied) (rest : List StoreRecord) → rest ≡ map received zs → if_kept o ++ rest ≡ map received (if_some o ++ zs)
  part_is o zs rest e = (λ i. if_kept_is o i ++ e i) ∙ sym (map_both (if_some o) zs)

  abbrev marks : StoreRecord
  marks = store.Marks (record { certname = certname; active = active; deactivated = greatest_deactivation xs })

  records_are : node_records ttls trace certname ≡ marks ∷ map received kept
  records_are =
      ap (λ rs. marks ∷ rs)
      (part_is (newest kind.Facts xs) (if_some (newest kind.Catalog xs) ++ (if_some (newest kind.Deactivate xs) ++ (if_some (newest kind.Expiration xs) ++ reports))) _
      (part_is (newest kind.Catalog xs) (if_some (newest kind.Deactivate xs) ++ (if_some (newest kind.Expiration xs) ++ reports)) _
      (part_is (newest kind.Deactivate xs) (if_some (newest kind.Expiration xs) ++ reports) _
      (part_is (newest kind.Expiration xs) reports _ refl))))

  one_node : (done : List Node) → Behind done → table_after (node_records ttls trace certname) (with_nodes done) ≡ with_nodes (done ++ node_of ttls trace certname ∷ [])
  one_node done h =
      ap (λ rs. table_after rs (with_nodes done)) records_are
      ∙ ap (λ ns. table_after (map received kept) (with_nodes ns)) (put_behind (λ node. record node { active = active }) done h)
      ∙ all_received kept done (record (empty_node certname) { active = active }) h (tied_itself text_cmp_total certname) (of_kept ttls trace is certname)
      ∙ ap (λ node. with_nodes (done ++ node ∷ [])) (node_again ttls trace is certname)

-- ---- all nodes

module _ (ttls : Ttls) (trace : Trace) (is : IsTrace trace) where
  above : (m n : List ℕ) → text_cmp m n ≡ Less → text_cmp n m ≡ Greater
  above m n h = text_cmp_total.antisymm n m ∙ ap ordering_reverse h

  behind_more : (n m : List ℕ) (done : List Node) → Behind ttls trace is n done → text_cmp m n ≡ Less → Behind ttls trace is n (done ++ node_of ttls trace m ∷ [])
  behind_more n m [] h l = (above m n l, tt)
  behind_more n m (node ∷ done) h l = (h.0, behind_more n m done h.1 l)

  all_nodes : (ns : List (List ℕ)) (done : List Node) → IsStrictlySortedBy text_cmp ns → ((n : List ℕ) → Among n ns → Behind ttls trace is n done)
      → table_after (flat_map (node_records ttls trace) ns) (with_nodes ttls trace is [] done) ≡ with_nodes ttls trace is [] (done ++ map (node_of ttls trace) ns)
  all_nodes [] done s h = ap (with_nodes ttls trace is []) (sym (append-nil done))
  all_nodes (n ∷ ns) done s h =
      joined (node_records ttls trace n) (flat_map (node_records ttls trace) ns) (with_nodes ttls trace is [] done)
      ∙ ap (table_after (flat_map (node_records ttls trace) ns)) (one_node ttls trace is n done (h n (inl refl)))
      ∙ all_nodes ns (done ++ node_of ttls trace n ∷ []) (sorted-rest text_cmp n ns s) (λ m a. behind_more m n done (h m (inr a)) (sorted-below text_cmp n ns s m a))
      ∙ ap (with_nodes ttls trace is []) (append_assoc done (node_of ttls trace n ∷ []) (map (node_of ttls trace) ns))

  settings_skipped : (count : Option ℕ) (rest : List StoreRecord) (t : Table) → table_after (settings_with ttls count ∷ rest) t ≡ table_after rest t
  settings_skipped None rest t = refl
  settings_skipped (Some n) rest t = refl

  checkpoint_told : (taken : Option ℕ) → table_after (store_checkpoint ttls taken trace) (empty_table ttls) ≡ table_of ttls trace
  checkpoint_told taken =
      settings_skipped ttls.report_count (store.Base (greatest_expiry trace) (greatest_retention trace) taken ∷ flat_map (node_records ttls trace) (nodes ttls trace)) (empty_table ttls)
      ∙ all_nodes (nodes ttls trace) [] (nodes_are_strictly_sorted ttls trace) (λ n a. tt)

  -- also in the older form
  untold_same : (x : StoreRecord) (t : Table) → IsUntold x → table_by (untold x) t ≡ table_by x t
  untold_same (store.Settings n p r) t h = refl
  untold_same (store.Base expire retain taken) t h = refl
  untold_same (store.Marks m) t h = refl
  untold_same (store.Applied r c) t h = refl
  untold_same (store.Swept kinds m) t h = refl
  untold_same (store.Received r m c) t h = ap (λ o. apply (applied_as r o c) t) (sym h)
  untold_same (store.Limits n p r k) t h = refl

  all_untold : (xs : List StoreRecord) (t : Table) → AllByRecursion IsUntold xs → table_after (map untold xs) t ≡ table_after xs t
  all_untold [] t h = refl
  all_untold (x ∷ xs) t h = ap (table_after (map untold xs)) (untold_same x t h.0) ∙ all_untold xs (table_by x t) h.1

  form_told : (taken : Option ℕ) (start : List StoreRecord) → IsInForm start (store_checkpoint ttls taken trace) → table_after start (empty_table ttls) ≡ table_of ttls trace
  form_told taken start (inl e) = ap (λ xs. table_after xs (empty_table ttls)) e ∙ checkpoint_told taken
  form_told taken start (inr e) = ap (λ xs. table_after xs (empty_table ttls)) e.0 ∙ all_untold (store_checkpoint ttls taken trace) (empty_table ttls) e.1 ∙ checkpoint_told taken

-- ---- further events

change_told : (ttls : Ttls) (r : ℕ) (t : Option ℤ) (a : Option (Result Change Refusal)) (earlier : Trace) → IsTrace (with_change r t a earlier)
    → table_after (change_part r t a) (table_of ttls earlier) ≡ table_of ttls (with_change r t a earlier)
change_told ttls r None None earlier is = refl
change_told ttls r (Some m) None earlier is = refl
change_told ttls r None (Some (Ok change)) earlier is = commands_are_followed ttls (applied_as r None change) earlier is
change_told ttls r (Some m) (Some (Ok change)) earlier is = commands_are_followed ttls (applied_as r (Some m) change) earlier is
change_told ttls r None (Some (Err refusal)) earlier is = refl
change_told ttls r (Some m) (Some (Err refusal)) earlier is = refl

event_told : (ttls : Ttls) (e : Event) (earlier : History) → IsLegal ttls (e ∷ earlier) → table_after (store_part e earlier) (table_of ttls (trace_of earlier)) ≡ table_of ttls (trace_of (e ∷ earlier))
event_told ttls (Submit r c) earlier l = refl
event_told ttls (Claim r) earlier l = refl
event_told ttls (Release r) earlier l = refl
event_told ttls (Apply r t) earlier l = change_told ttls r t (answer r earlier) (trace_of earlier) (legal_histories_have_traces ttls (Apply r t ∷ earlier) l)
event_told ttls (Supersede r p) earlier l = refl
event_told ttls (Fail r before after) earlier l = refl
event_told ttls (Discard r cause) earlier l = refl
event_told ttls (Sweep kinds m) earlier l = sweeps_are_followed ttls kinds m (trace_of earlier)
event_told ttls Restart earlier l = refl

trace_told : (ttls : Ttls) (later upto : History) → IsLegal ttls (later ++ upto) → table_after (store_trace upto later) (table_of ttls (trace_of upto)) ≡ table_of ttls (trace_of (later ++ upto))
trace_told ttls [] upto l = refl
trace_told ttls (e ∷ later) upto l =
    joined (store_trace upto later) (store_part e (later ++ upto)) (table_of ttls (trace_of upto))
    ∙ ap (table_after (store_part e (later ++ upto))) (trace_told ttls later upto l.1) ∙ event_told ttls e (later ++ upto) l

pub records_lead_to_the_table : RecordsLeadToTheTable
records_lead_to_the_table ttls records history l t =
    let legal : IsLegal ttls (t.later ++ t.upto) = subst (IsLegal ttls) t.whole l in
    let is = legal_histories_have_traces ttls t.upto (upto_legal ttls t.later t.upto legal) in
    ap (λ xs. table_after xs (empty_table ttls)) t.says
    ∙ joined t.start (store_trace t.upto t.later) (empty_table ttls)
    ∙ ap (table_after (store_trace t.upto t.later)) (form_told ttls (trace_of t.upto) is t.starts.0 t.start t.starts.2)
    ∙ trace_told ttls t.later t.upto legal
    ∙ ap (λ h. table_of ttls (trace_of h)) (sym t.whole)

pub the_same_records_tell_one_table : TheSameRecordsTellOneTable
the_same_records_tell_one_table ttls records history other l m h g = sym (records_lead_to_the_table ttls records history l h) ∙ records_lead_to_the_table ttls records other m g
