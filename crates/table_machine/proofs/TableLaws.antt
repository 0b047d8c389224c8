-- What the table of a history says.
use Rattle.std.proofs.Common.{◌≡◌, ◌∙◌, ℕ, List, [], ◌∷◌, ◌++◌, refl, sym, ap, Bool, true, false, not, Some, None, if◌then◌else◌, map, inl, inr}
use Rattle.std.specs.List.{filter, flat_map, list_any}
use Rattle.std.specs.List.Sorted.{IsStrictlySortedBy}
use Rattle.std.specs.Ordering.{match_ordering}
use Rattle.std.specs.declared.cmp.Ordering.{Ordering}
use Rattle.std.specs.declared.cmp.Ordering.TheVariants.{Less, Equal, Greater}
use Rattle.std.proofs.lemmas.Cmp.{tied_itself}
use Rattle.table_spec.specs.text_spec.Compact.{text_cmp}
use Rattle.table_spec.specs.fleet_rows.declared.settings.Ttls.{Ttls}
use Rattle.table_spec.specs.fleet_rows.declared.applied.Applied.{Applied}
use Rattle.table_spec.specs.history_spec.Trace.{applied, swept, Trace, IsTrace}
use Rattle.table_spec.specs.history_spec.Facts.{rows_of_newest}
use Rattle.table_spec.specs.history_spec.Report.{retained, distinct, is_outranked_by}
use Rattle.table_spec.specs.history_spec.Life.{life, is_empty, nodes, is_inactive, greatest_expiry, greatest_retention, kept_reports}
use Rattle.table_spec.proofs.of_plain_laws.Members.{Among, Among-from_filter, Among-from_Contains, Contains-from_Among}
use Rattle.history_laws.proofs.SortedTexts.{text_cmp_total, text_tied}
use Rattle.table_spec.proofs.of_plain_laws.StrictlySorted.{sorted-map, sorted-rest}
use Rattle.history_laws.proofs.TraceLemmas.{nodes_are_strictly_sorted}
use Rattle.history_laws.proofs.OneTrace.{one_thread_makes_a_trace}
use Rattle.table_spec.specs.Sorted.{report_cmp}
use Rattle.table_machine.specs.Table.{Node, node_cmp, node_of}
use Rattle.table_machine.specs.Node.{node_inactive}
use Rattle.table_machine.specs.Steps.{find_node, apply, sweep}
use Rattle.table_machine.specs.Laws as laws
use Rattle.history_laws.proofs.Filters.{filter-map, filter-same}
use Rattle.table_machine.proofs.Risen.{KeysTell, sorted-sorted, below_all, among-sorted, among-from_sorted}
use Rattle.table_machine.proofs.NodeLaws.{says_deactivated, says_expired, says_inactive, says_purged}
use Rattle.table_machine.proofs.ReportOrder.{report_cmp_total}
use Rattle.table_machine.proofs.KeptReports.{ReceiptsTell, kept_keys_tell, retained_are_reports, retained_among}
use Rattle.table_machine.proofs.LimitedReports.{greatest_among}
use Rattle.table_machine.proofs.ReportStamps.{commands_are_told, life_among}
use Rattle.table_machine.proofs.SweepSteps.{sweeps_are_followed}
use Rattle.table_machine.proofs.CommandSteps.{is_alive, is_there, commands_are_followed}

-- ---- nodes

pub nodes_tell_their_deactivation : laws.NodesTellTheirDeactivation
nodes_tell_their_deactivation ttls history certname = says_deactivated ttls (greatest_retention history) certname (life ttls certname history)

pub nodes_tell_their_expiry : laws.NodesTellTheirExpiry
nodes_tell_their_expiry ttls history certname = says_expired ttls (greatest_retention history) certname (life ttls certname history) (greatest_expiry history)

pub nodes_tell_whether_they_are_inactive : laws.NodesTellWhetherTheyAreInactive
nodes_tell_whether_they_are_inactive ttls history certname = says_inactive ttls (greatest_retention history) certname (life ttls certname history) (greatest_expiry history)

pub nodes_tell_whether_a_purge_takes_them : laws.NodesTellWhetherAPurgeTakesThem
nodes_tell_whether_a_purge_takes_them ttls m history certname = says_purged ttls (greatest_retention history) certname (life ttls certname history) m (greatest_expiry history)

pub nodes_have_the_newest : laws.NodesHaveTheNewest
nodes_have_the_newest ttls history certname = record { facts = refl; catalog = refl; deactivate = refl; expiration = refl }

pub table_nodes_are_sorted : laws.NodesAreStrictlySorted
table_nodes_are_sorted ttls history = sorted-map text_cmp node_cmp (node_of ttls history) (λ m n h. h) (nodes ttls history) (nodes_are_strictly_sorted ttls history)

-- ---- a node that is looked for

module _ (ttls : Ttls) (history : Trace) (c : List ℕ) where
  abbrev known : List ℕ → Node
  known = node_of ttls history

  absent_step : (n : List ℕ) (ns : List (List ℕ)) (p : Ordering) → text_cmp c n ≡ p → (Among c (n ∷ ns) → ⊥) → find_node c (map known ns) ≡ None → match_ordering p None (Some (known n)) (find_node c (map known ns)) ≡ None
  absent_step n ns Less e none next = refl
  absent_step n ns Equal e none next = absurd (none (inl (text_tied c n e)))
  absent_step n ns Greater e none next = next

  find-absent : (ns : List (List ℕ)) → (Among c ns → ⊥) → find_node c (map known ns) ≡ None
  find-absent [] none = refl
  find-absent (n ∷ ns) none = absent_step n ns (text_cmp c n) refl none (find-absent ns (λ a. none (inr a)))

  present_step : (n : List ℕ) (ns : List (List ℕ)) (p : Ordering) → text_cmp c n ≡ p → IsStrictlySortedBy text_cmp (n ∷ ns) → Among c (n ∷ ns) → (Among c ns → find_node c (map known ns) ≡ Some (known c)) → match_ordering p None (Some (known n)) (find_node c (map known ns)) ≡ Some (known c)
  present_step n ns Less e s a next =
      absurd (let apart : Less ≡ Equal = sym (below_all text_cmp text_cmp_total c n ns e s c a) ∙ tied_itself text_cmp_total c in cc)
  present_step n ns Equal e s a next = ap (λ m. Some (known m)) (sym (text_tied c n e))
  present_step n ns Greater e s (inl same) next =
      absurd (let apart : Greater ≡ Equal = sym e ∙ ap (text_cmp c) (sym same) ∙ tied_itself text_cmp_total c in cc)
  present_step n ns Greater e s (inr a) next = next a

  find-present : (ns : List (List ℕ)) → IsStrictlySortedBy text_cmp ns → Among c ns → find_node c (map known ns) ≡ Some (known c)
  find-present [] s a = absurd a
  find-present (n ∷ ns) s a = present_step n ns (text_cmp c n) refl s a (find-present ns (sorted-rest text_cmp n ns s))

  found_if : (b : Bool) → is_empty (life ttls c history) ≡ b → find_node c (map known (nodes ttls history)) ≡ (if b then None else Some (known c))
  found_if true e = find-absent (nodes ttls history) (λ a. let apart : true ≡ false = sym (is_alive ttls history c a) ∙ ap not e in cc)
  found_if false e = find-present (nodes ttls history) (nodes_are_strictly_sorted ttls history) (is_there ttls history c (ap not e))

pub nodes_are_found : laws.NodesAreFound
nodes_are_found ttls history certname = found_if ttls history certname (is_empty (life ttls certname history)) refl

-- ---- reports

pub reports_are_sorted : laws.ReportsAreStrictlySorted
reports_are_sorted ttls history certname = sorted-sorted report_cmp report_cmp_total (kept_reports ttls certname history)

pub life_told : (ttls : Ttls) (history : Trace) (certname : List ℕ) → IsTrace history → ReceiptsTell (life ttls certname history)
life_told ttls history certname h x y a d e = commands_are_told history h x y (life_among ttls certname history x a) (life_among ttls certname history y d) e

module _ (ttls : Ttls) (history : Trace) (certname : List ℕ) where
  abbrev pub stay : List Applied
  stay = retained ttls (greatest_retention history) (life ttls certname history)

  pub stay_told : IsTrace history → ReceiptsTell stay
  stay_told h x y a d e =
      life_told ttls history certname h x y (retained_among ttls (greatest_retention history) (life ttls certname history) x a) (retained_among ttls (greatest_retention history) (life ttls certname history) y d) e

  pub kept_among_distinct : (x : Applied) → Among x (kept_reports ttls certname history) → Among x (distinct stay)
  kept_among_distinct x a = greatest_among ttls.report_count (distinct stay) x a

  pub kept_among_stay : (x : Applied) → Among x (kept_reports ttls certname history) → Among x stay
  kept_among_stay x a = (Among-from_filter (λ y. not (list_any (is_outranked_by y) stay)) stay x (kept_among_distinct x a)).0

  pub kept_among_life : (x : Applied) → Among x (kept_reports ttls certname history) → Among x (life ttls certname history)
  kept_among_life x a = retained_among ttls (greatest_retention history) (life ttls certname history) x (kept_among_stay x a)

  -- no two reports that are kept have one key
  pub kept_tell : IsTrace history → KeysTell report_cmp report_cmp_total (kept_reports ttls certname history)
  kept_tell h x y a d tied =
      kept_keys_tell stay (retained_are_reports ttls (greatest_retention history) (life ttls certname history)) (stay_told h) x y (kept_among_distinct x a) (kept_among_distinct y d) tied

pub reports_are_those_kept : laws.ReportsAreThoseKept
reports_are_those_kept ttls history certname x h =
    let kept = kept_reports ttls certname history in (
      λ c. Contains-from_Among kept x (among-from_sorted report_cmp report_cmp_total x kept (Among-from_Contains (node_of ttls history certname).reports x c)),
      λ c. Contains-from_Among (node_of ttls history certname).reports x (among-sorted report_cmp report_cmp_total x kept (kept_tell ttls history certname h) (Among-from_Contains kept x c)),
    )

-- ---- rows of facts

pub flat_map-map : {X Y Z : Type 0} (f : Y → List Z) (g : X → Y) (xs : List X) → flat_map (λ x. f (g x)) xs ≡ flat_map f (map g xs)
flat_map-map f g [] = refl
flat_map-map f g (x ∷ xs) = ap (λ l. f (g x) ++ l) (flat_map-map f g xs)

pub fact_rows_are_of_nodes : laws.FactRowsAreThoseOfTheNodes
fact_rows_are_of_nodes ttls history = flat_map-map (λ (node : Node). rows_of_newest node.facts) (node_of ttls history) (nodes ttls history)

active_nodes : (ttls : Ttls) (history : Trace) → map (node_of ttls history) (filter (λ n. not (is_inactive ttls history n)) (nodes ttls history)) ≡ filter (λ node. not (node_inactive ttls (greatest_expiry history) node)) (map (node_of ttls history) (nodes ttls history))
active_nodes ttls history =
    ap (map (node_of ttls history)) (filter-same _ _ (λ n. ap not (sym (nodes_tell_whether_they_are_inactive ttls history n))) (nodes ttls history))
    ∙ sym (filter-map (node_of ttls history) (λ node. not (node_inactive ttls (greatest_expiry history) node)) (nodes ttls history))

pub active_fact_rows_are_of_nodes : laws.ActiveFactRowsAreThoseOfTheNodes
active_fact_rows_are_of_nodes ttls history =
    flat_map-map (λ (node : Node). rows_of_newest node.facts) (node_of ttls history) (filter (λ n. not (is_inactive ttls history n)) (nodes ttls history))
    ∙ ap (flat_map (λ (node : Node). rows_of_newest node.facts)) (active_nodes ttls history)

-- ---- the whole run

pub steps_make_the_table : laws.StepsMakeTheTable
steps_make_the_table ttls [] h = refl
steps_make_the_table ttls (applied x ∷ earlier) h =
    ap (apply x) (steps_make_the_table ttls earlier h.4) ∙ commands_are_followed ttls x earlier h
steps_make_the_table ttls (swept kinds m ∷ earlier) h =
    ap (sweep kinds m) (steps_make_the_table ttls earlier h.1) ∙ sweeps_are_followed ttls kinds m earlier

pub one_thread_is_followed : laws.OneThreadIsFollowed
one_thread_is_followed ttls items history are l = steps_make_the_table ttls history (one_thread_makes_a_trace items history are l)
