-- The list of a history's table is the checkpoint of the history, and leads to that table again.
use Rattle.std.proofs.Common.{◌≡◌, ◌∙◌, inl, inr, ℕ, ℤ, List, [], ◌∷◌, ◌++◌, map, refl, sym, ap, Option, Some, None, append_assoc}
use Rattle.std.proofs.lemmas.Cmp.{on_total, tied_itself}
use Rattle.std.proofs.lemmas.List.{append-nil}
use Rattle.std.specs.Cmp.{IsTotalOrder}
use Rattle.std.specs.List.{AllByRecursion, filter, flat_map, list_any}
use Rattle.std.specs.List.Sorted.{IsStrictlySortedBy}
use Rattle.std.specs.Ordering.{ordering_reverse}
use Rattle.std.specs.Prelude.{nat_lt, length, not, ◌&&◌}
use Rattle.std.specs.declared.cmp.Ordering.TheVariants.{Less, Equal, Greater}
use Rattle.table_laws.proofs.of_plain_laws.Members.{Among}
use Rattle.table_laws.proofs.of_plain_laws.StrictlySorted.{sorted-below, sorted-rest, sorted-unique}
use Rattle.table_laws.specs.text_spec.Compact.{text_cmp}
use Rattle.table_laws.specs.fleet_rows.Change.{change_certname}
use Rattle.table_laws.specs.fleet_rows.declared.applied.Applied.{Applied}
use Rattle.table_laws.specs.fleet_rows.declared.command.Kind.TheVariants as kind
use Rattle.table_laws.specs.fleet_rows.declared.settings.Ttls.{Ttls}
use Rattle.table_laws.specs.history_spec.Life.{life, nodes, kept_reports, greatest_expiry, greatest_retention}
use Rattle.table_laws.specs.history_spec.Node.{newest, greatest_activity}
use Rattle.table_laws.specs.history_spec.Report.{is_retained, retained, is_below, is_outranked_by, distinct, greatest}
use Rattle.table_laws.specs.history_spec.Trace.{applied, is_kind, rank_of, Trace, IsTrace}
use Rattle.table_laws.proofs.of_history_laws.Ranks.{rank_cmp_total}
use Rattle.table_laws.proofs.of_history_laws.SortedTexts.{text_cmp_total}
use Rattle.table_laws.proofs.of_history_laws.TraceLemmas.{nodes_are_strictly_sorted}
use Rattle.table_laws.specs.table_spec.Sorted.{report_cmp, sorted_by}
use Rattle.table_laws.specs.table_machine.Places.{sorted}
use Rattle.table_laws.specs.table_machine.Steps.{empty_node, with_applied, with_node, apply}
use Rattle.table_laws.specs.table_machine.Table.{Node, Table, node_of, table_of}
use Rattle.table_laws.proofs.of_table_machine.CommandSteps.{commands_are_followed}
use Rattle.table_laws.proofs.of_table_machine.KeptReports.{HaveDistinctReceipts, distinct-filter}
use Rattle.table_laws.proofs.of_table_machine.LimitedReports.{equal_ranks}
use Rattle.table_laws.proofs.of_table_machine.NodeLaws.{stamp_of_newest_deactivation}
use Rattle.table_laws.proofs.of_table_machine.Ranked as ranked
use Rattle.table_laws.proofs.of_table_machine.ReportOrder.{report_cmp_total}
use Rattle.table_laws.proofs.of_table_machine.ReportStamps.{life_is_distinct}
use Rattle.table_laws.proofs.of_table_machine.Risen.{KeysTell, sorted-sorted, among-sorted, among-from_sorted}
use Rattle.table_laws.proofs.of_table_machine.TableLaws.{life_told, kept_among_life, kept_tell}
use Rattle.table_laws.proofs.SortedLists.{Apart, among-sorted_by, among-from_sorted_by, sorted_by-sorted}
use Rattle.checkpoint_spec.specs.Histories.{mark_in, commands_in, checkpoint, with_events}
use Rattle.checkpoint_spec.specs.Laws as laws
use Rattle.checkpoint_spec.specs.Lists.{by_rank, if_kept, mark_of, commands_of, list_of, all_marked, all_applied, table_of_marks}
use Rattle.checkpoint_spec.proofs.NodesAgain.{all_with, node_again, of_kept}

-- ---- reports by rank

by_rank_total : IsTotalOrder by_rank
by_rank_total = on_total rank_of rank_cmp_total

apart_receipts : (xs : List Applied) → HaveDistinctReceipts xs → Apart by_rank by_rank_total xs
apart_receipts [] h = tt
apart_receipts (x ∷ xs) h = (λ y a tied. h.0 y a (equal_ranks y x tied), apart_receipts xs h.1)

apart_ranks : (xs : List Applied) → ranked.Apart by_rank by_rank_total xs → Apart by_rank by_rank_total xs
apart_ranks [] h = tt
apart_ranks (x ∷ xs) h = (h.0, apart_ranks xs h.1)

pub distinct_greatest : (count : Option ℕ) (xs : List Applied) → HaveDistinctReceipts xs → HaveDistinctReceipts (greatest count xs)
distinct_greatest None xs h = h
distinct_greatest (Some n) xs h = distinct-filter (λ x. nat_lt (length (filter (is_below x) xs)) n) xs h

module _ (ttls : Ttls) (history : Trace) (is : IsTrace history) (certname : List ℕ) where
  abbrev xs : List Applied
  xs = life ttls certname history

  abbrev kept : List Applied
  kept = kept_reports ttls certname history

  abbrev retention : Option ℤ
  retention = greatest_retention history

  kept_are_apart : Apart by_rank by_rank_total kept
  kept_are_apart =
      apart_receipts kept (distinct_greatest ttls.report_count (distinct (retained ttls retention xs))
      (distinct-filter (λ x. not (list_any (is_outranked_by x) (retained ttls retention xs))) (retained ttls retention xs)
      (distinct-filter (λ x. is_kind kind.Report x && is_retained ttls retention x) xs (life_is_distinct ttls certname history is))))

  ranks_tell : KeysTell by_rank by_rank_total (sorted report_cmp kept)
  ranks_tell x y a b tied =
      life_told ttls history certname is x y
      (kept_among_life ttls history certname x (among-from_sorted report_cmp report_cmp_total x kept a))
      (kept_among_life ttls history certname y (among-from_sorted report_cmp report_cmp_total y kept b))
      (sym (equal_ranks y x tied))

  sorted_are_apart : Apart by_rank by_rank_total (sorted report_cmp kept)
  sorted_are_apart =
      apart_ranks (sorted report_cmp kept)
      (ranked.apart-risen by_rank by_rank_total report_cmp report_cmp_total (sorted report_cmp kept) (sorted-sorted report_cmp report_cmp_total kept) ranks_tell)

  -- by rank they stand alike, in whatever order they stood
  by_rank_alike : sorted_by by_rank (sorted report_cmp kept) ≡ sorted_by by_rank kept
  by_rank_alike =
      sorted-unique by_rank by_rank_total (sorted_by by_rank (sorted report_cmp kept)) (sorted_by by_rank kept)
      (sorted_by-sorted by_rank by_rank_total (sorted report_cmp kept) sorted_are_apart) (sorted_by-sorted by_rank by_rank_total kept kept_are_apart)
      (λ w a. among-sorted_by by_rank w kept (among-from_sorted report_cmp report_cmp_total w kept (among-from_sorted_by by_rank w (sorted report_cmp kept) a)))
      (λ w a. among-sorted_by by_rank w (sorted report_cmp kept) (among-sorted report_cmp report_cmp_total w kept (kept_tell ttls history certname is) (among-from_sorted_by by_rank w kept a)))

  commands_are : commands_of (node_of ttls history certname) ≡ commands_in ttls history certname
  commands_are =
      ap (λ rs. if_kept (newest kind.Facts xs) ++ (if_kept (newest kind.Catalog xs) ++ (if_kept (newest kind.Deactivate xs) ++ (if_kept (newest kind.Expiration xs) ++ rs)))) by_rank_alike

-- ---- the list

module _ (ttls : Ttls) (history : Trace) where
  marks_are : (ns : List (List ℕ)) → map mark_of (map (node_of ttls history) ns) ≡ map (mark_in ttls history) ns
  marks_are [] = refl
  marks_are (n ∷ ns) =
      let rest = marks_are ns in
      λ i. record (mark_in ttls history n) { deactivated = stamp_of_newest_deactivation (life ttls n history) i } ∷ rest i

  all_commands : IsTrace history → (ns : List (List ℕ)) → flat_map commands_of (map (node_of ttls history) ns) ≡ flat_map (commands_in ttls history) ns
  all_commands is [] = refl
  all_commands is (n ∷ ns) =
      let first = commands_are ttls history is n in
      let rest = all_commands is ns in
      λ i. first i ++ rest i

pub tables_list_the_checkpoint : laws.TablesListTheCheckpoint
tables_list_the_checkpoint ttls history is =
    let ns = nodes ttls history in
    let ms = marks_are ttls history ns in
    let xs = all_commands ttls history is ns in
    λ i. record (checkpoint ttls history) { marks = ms i; applied = xs i }

pub one_table_has_one_checkpoint : laws.OneTableHasOneCheckpoint
one_table_has_one_checkpoint ttls history other is also e =
    sym (tables_list_the_checkpoint ttls history is) ∙ ap list_of e ∙ tables_list_the_checkpoint ttls other also

-- ---- the table again

applied_both : (xs ys : List Applied) (t : Table) → all_applied (xs ++ ys) t ≡ all_applied ys (all_applied xs t)
applied_both [] ys t = refl
applied_both (x ∷ xs) ys t = applied_both xs ys (apply x t)

-- the nodes before are below the certname
abbrev Behind : List ℕ → List Node → Type 0
Behind certname done = AllByRecursion (λ (node : Node). text_cmp certname node.certname ≡ Greater) done

put_behind : (certname : List ℕ) (change : Node → Node) (done : List Node) → Behind certname done → with_node certname change done ≡ done ++ change (empty_node certname) ∷ []
put_behind certname change [] h = refl
put_behind certname change (node ∷ done) h = rw h.0 (ap (λ ns. node ∷ ns) (put_behind certname change done h.1))

change_at : (certname : List ℕ) (change : Node → Node) (done : List Node) (node : Node) (rest : List Node) → Behind certname done → text_cmp certname node.certname ≡ Equal
    → with_node certname change (done ++ node ∷ rest) ≡ done ++ change node ∷ rest
change_at certname change [] node rest h e = rw e refl
change_at certname change (other ∷ done) node rest h e = rw h.0 (ap (λ ns. other ∷ ns) (change_at certname change done node rest h.1 e))

pub turned_greater : (m n : List ℕ) → text_cmp m n ≡ Less → text_cmp n m ≡ Greater
turned_greater m n h = text_cmp_total.antisymm n m ∙ ap ordering_reverse h

behind_more : (n : List ℕ) (done : List Node) (node : Node) → Behind n done → text_cmp node.certname n ≡ Less → Behind n (done ++ node ∷ [])
behind_more n [] node h l = (turned_greater node.certname n l, tt)
behind_more n (other ∷ done) node h l = (h.0, behind_more n done node h.1 l)

module _ (ttls : Ttls) (history : Trace) where
  abbrev with_nodes : List Node → Table
  with_nodes ns = record { ttls = ttls; expiry = greatest_expiry history; retention = greatest_retention history; nodes = ns }

  -- what the marks leave of a node
  abbrev bare : List ℕ → Node
  bare n = record (empty_node n) { active = greatest_activity (life ttls n history) }

  abbrev Above : List (List ℕ) → List Node → Type 0
  Above ns done = (n : List ℕ) → Among n ns → Behind n done

  above_more : (node : Node) (ns : List (List ℕ)) (done : List Node) → Above (node.certname ∷ ns) done → IsStrictlySortedBy text_cmp (node.certname ∷ ns) → Above ns (done ++ node ∷ [])
  above_more node ns done h s n a = behind_more n done node (h n (inr a)) (sorted-below text_cmp node.certname ns s n a)

  marks_put : (ns : List (List ℕ)) (done : List Node) → IsStrictlySortedBy text_cmp ns → Above ns done → all_marked (map (mark_in ttls history) ns) (with_nodes done) ≡ with_nodes (done ++ map bare ns)
  marks_put [] done s h = ap with_nodes (sym (append-nil done))
  marks_put (n ∷ ns) done s h =
      ap (λ l. all_marked (map (mark_in ttls history) ns) (with_nodes l)) (put_behind n (λ node. record node { active = greatest_activity (life ttls n history) }) done (h n (inl refl)))
      ∙ marks_put ns (done ++ bare n ∷ []) (sorted-rest text_cmp n ns s) (above_more (bare n) ns done h s)
      ∙ ap with_nodes (append_assoc done (bare n ∷ []) (map bare ns))

  commands_put : (certname : List ℕ) (xs : List Applied) (done : List Node) (node : Node) (rest : List Node) → Behind certname done → text_cmp certname node.certname ≡ Equal
      → ((x : Applied) → Among x xs → certname ≡ change_certname x.change)
      → all_applied xs (with_nodes (done ++ node ∷ rest)) ≡ with_nodes (done ++ all_with ttls (greatest_retention history) xs node ∷ rest)
  unfolding all_with
  commands_put certname [] done node rest h e of = refl
  commands_put certname (x ∷ xs) done node rest h e of =
      ap (λ l. all_applied xs (with_nodes l))
      (ap (λ n. with_node n (with_applied ttls (greatest_retention history) x) (done ++ node ∷ rest)) (sym (of x (inl refl)))
      ∙ change_at certname (with_applied ttls (greatest_retention history) x) done node rest h e)
      ∙ commands_put certname xs done (with_applied ttls (greatest_retention history) x node) rest h e (λ y a. of y (inr a))

  module _ (is : IsTrace history) where
    one_node : (n : List ℕ) (done rest : List Node) → Behind n done → all_applied (commands_in ttls history n) (with_nodes (done ++ bare n ∷ rest)) ≡ with_nodes (done ++ node_of ttls history n ∷ rest)
    one_node n done rest h =
        commands_put n (commands_in ttls history n) done (bare n) rest h (tied_itself text_cmp_total n) (of_kept ttls history is n)
        ∙ ap (λ node. with_nodes (done ++ node ∷ rest)) (node_again ttls history is n)

    all_nodes : (ns : List (List ℕ)) (done : List Node) → IsStrictlySortedBy text_cmp ns → Above ns done
        → all_applied (flat_map (commands_in ttls history) ns) (with_nodes (done ++ map bare ns)) ≡ with_nodes (done ++ map (node_of ttls history) ns)
    all_nodes [] done s h = refl
    all_nodes (n ∷ ns) done s h =
        applied_both (commands_in ttls history n) (flat_map (commands_in ttls history) ns) (with_nodes (done ++ bare n ∷ map bare ns))
        ∙ ap (all_applied (flat_map (commands_in ttls history) ns)) (one_node n done (map bare ns) (h n (inl refl)) ∙ ap with_nodes (sym (append_assoc done (node_of ttls history n ∷ []) (map bare ns))))
        ∙ all_nodes ns (done ++ node_of ttls history n ∷ []) (sorted-rest text_cmp n ns s) (above_more (node_of ttls history n) ns done h s)
        ∙ ap with_nodes (append_assoc done (node_of ttls history n ∷ []) (map (node_of ttls history) ns))

pub checkpoints_lead_to_the_table : laws.CheckpointsLeadToTheTable
checkpoints_lead_to_the_table ttls history is =
    let ns = nodes ttls history in
    let s = nodes_are_strictly_sorted ttls history in
    ap (all_applied (flat_map (commands_in ttls history) ns)) (marks_put ttls history ns [] s (λ n a. tt))
    ∙ all_nodes ttls history is ns [] s (λ n a. tt)

-- ---- further commands

begins : (xs : List Applied) (history : Trace) → IsTrace (with_events xs history) → IsTrace history
begins [] history is = is
begins (x ∷ xs) history is = (begins xs (applied x ∷ history) is).4

followed : (ttls : Ttls) (xs : List Applied) (history : Trace) → IsTrace (with_events xs history) → all_applied xs (table_of ttls history) ≡ table_of ttls (with_events xs history)
followed ttls [] history is = refl
followed ttls (x ∷ xs) history is =
    ap (all_applied xs) (commands_are_followed ttls x history (begins xs (applied x ∷ history) is)) ∙ followed ttls xs (applied x ∷ history) is

pub further_commands_are_followed : laws.FurtherCommandsAreFollowed
further_commands_are_followed ttls history xs is =
    applied_both (checkpoint ttls history).applied xs (table_of_marks (checkpoint ttls history))
    ∙ ap (all_applied xs) (checkpoints_lead_to_the_table ttls history (begins xs history is))
    ∙ followed ttls xs history is

pub checkpoints_are_their_own : laws.CheckpointsAreTheirOwn
checkpoints_are_their_own ttls history is = ap list_of (checkpoints_lead_to_the_table ttls history is) ∙ tables_list_the_checkpoint ttls history is

pub further_commands_are_listed : laws.FurtherCommandsAreListed
further_commands_are_listed ttls history xs is = ap list_of (further_commands_are_followed ttls history xs is) ∙ tables_list_the_checkpoint ttls (with_events xs history) is
