-- What a command makes of the table of a history is the table of the history with the command.
use Rattle.std.proofs.Common.{◌≡◌, ◌≢◌, ◌∙◌, ℕ, ℤ, List, [], ◌∷◌, refl, sym, ap, subst, Bool, true, false, not, Option, Some, None, if◌then◌else◌, ◌⊎◌, map, inl, inr}
use Rattle.std.specs.List.Sorted.{IsStrictlySortedBy}
use Rattle.std.specs.Ordering.{match_ordering}
use Rattle.std.specs.Str.{bytes_eq}
use Rattle.std.specs.declared.cmp.Ordering.{Ordering}
use Rattle.std.specs.declared.cmp.Ordering.TheVariants.{Less, Equal, Greater}
use Rattle.std.proofs.lemmas.Cmp.{tied_itself}
use Rattle.std.proofs.lemmas.Slice.Eq.{bytes_eq-Decides}
use Rattle.table_spec.specs.text_spec.Compact.{text_cmp}
use Rattle.table_spec.specs.fleet_rows.declared.settings.Ttls.{Ttls}
use Rattle.table_spec.specs.fleet_rows.Texts.{sorted_texts}
use Rattle.table_spec.specs.fleet_rows.Change.{change_certname}
use Rattle.table_spec.specs.fleet_rows.declared.applied.Applied.{Applied}
use Rattle.table_spec.specs.history_spec.Trace.{applied, Trace}
use Rattle.table_spec.specs.history_spec.Report.{greatest}
use Rattle.table_spec.specs.history_spec.Life.{life, is_empty, nodes, certnames, greatest_retention}
use Rattle.table_spec.proofs.of_plain_laws.Members.{Among, Among-from_Contains, Among-from_filter}
use Rattle.history_laws.proofs.SortedTexts.{text_cmp_total, text_tied}
use Rattle.table_spec.proofs.of_plain_laws.StrictlySorted.{sorted-below, sorted-rest, sorted-unique}
use Rattle.history_laws.proofs.TraceLemmas.{nodes_are_strictly_sorted, nodes_have_a_life}
use Rattle.table_spec.specs.Sorted.{report_cmp}
use Rattle.table_machine.specs.Places.{put, sorted}
use Rattle.table_machine.specs.Table.{Node, node_with, node_of, table_of}
use Rattle.table_machine.specs.Steps.{empty_node, with_applied, with_node, apply}
use Rattle.table_machine.specs.Laws.{CommandsAreFollowed}
use Rattle.history_laws.proofs.Filters.{map-among}
use Rattle.table_machine.proofs.Risen.{sorted-put, has_key, put_itself, among-from_put, below_all}
use Rattle.table_machine.proofs.KeptReports.{HaveDistinctReceipts, SameStamps}
use Rattle.table_machine.proofs.LimitedReports.{report_applied}
use Rattle.table_machine.proofs.ReportStamps.{command_is_distinct, life_has_one_stamp}

-- ---- the node of the command

pub node_applied : (ttls : Ttls) (retention : Option ℤ) (certname : List ℕ) (x : Applied) (xs : List Applied) → HaveDistinctReceipts (x ∷ xs) → SameStamps (x ∷ xs) →
    with_applied ttls retention x (node_with ttls retention certname xs) ≡ node_with ttls retention certname (x ∷ xs)
node_applied ttls retention certname x xs tell same =
    λ i. record (node_with ttls retention certname (x ∷ xs)) { reports = report_applied ttls retention x xs tell same i }

-- ---- the nodes, in place

-- a node with other commands under one certname
module _ (ttls : Ttls) (retention : Option ℤ) (c : List ℕ) (change : Node → Node) (before after : List ℕ → List Applied)
    (elsewhere : (n : List ℕ) → n ≢ c → after n ≡ before n)
    (here : node_with ttls retention c (after c) ≡ change (node_with ttls retention c (before c))) where
  abbrev old : List ℕ → Node
  old n = node_with ttls retention n (before n)

  abbrev new : List ℕ → Node
  new n = node_with ttls retention n (after n)

  as_before : (n : List ℕ) → n ≢ c → new n ≡ old n
  as_before n apart = ap (node_with ttls retention n) (elsewhere n apart)

  apart_by : (n : List ℕ) (p : Ordering) → text_cmp c n ≡ p → p ≢ Equal → n ≢ c
  apart_by n p e other same = other (sym e ∙ ap (text_cmp c) same ∙ tied_itself text_cmp_total c)

  rest_before : (ns : List (List ℕ)) → ((n : List ℕ) → Among n ns → text_cmp c n ≡ Less) → map new ns ≡ map old ns
  rest_before ns below = map-among new old ns (λ n a. as_before n (apart_by n Less (below n a) (λ e. cc)))

  absent : (n : List ℕ) (ns : List (List ℕ)) → ((m : List ℕ) → Among m (n ∷ ns) → text_cmp c m ≡ Less) → Among c (n ∷ ns) → ⊥
  absent n ns below a = let less : Less ≡ Equal = sym (below c a) ∙ tied_itself text_cmp_total c in cc

  not_further : (n : List ℕ) (ns : List (List ℕ)) → text_cmp c n ≡ Greater → (Among c ns → ⊥) → Among c (n ∷ ns) → ⊥
  not_further n ns e none (inl same) = let apart : Greater ≡ Equal = sym e ∙ ap (text_cmp c) (sym same) ∙ tied_itself text_cmp_total c in cc
  not_further n ns e none (inr a) = none a

  new_here : old c ≡ empty_node c → new c ≡ change (empty_node c)
  new_here e = here ∙ ap change e

  put_step : (n : List ℕ) (ns : List (List ℕ)) (p : Ordering) → text_cmp c n ≡ p → IsStrictlySortedBy text_cmp (n ∷ ns) → ((Among c (n ∷ ns) → ⊥) → old c ≡ empty_node c)
      → (((Among c ns → ⊥) → old c ≡ empty_node c) → map new (put (text_cmp c) c (λ m. m) ns) ≡ with_node c change (map old ns))
      → map new (match_ordering p (c ∷ n ∷ ns) (n ∷ ns) (n ∷ put (text_cmp c) c (λ m. m) ns)) ≡ match_ordering p (change (empty_node c) ∷ old n ∷ map old ns) (change (old n) ∷ map old ns) (old n ∷ with_node c change (map old ns))
  put_step n ns Less e s empty next =
      let below = below_all text_cmp text_cmp_total c n ns e s in
      let first = new_here (empty (absent n ns below)) in
      let rest = rest_before (n ∷ ns) below in
      λ i. first i ∷ rest i
  put_step n ns Equal e s empty next =
      let same : c ≡ n = text_tied c n e in
      let first : new n ≡ change (old n) = subst (λ m. new m ≡ change (old m)) same here in
      let rest = rest_before ns (λ m a. text_cmp_total.congr c n m e ∙ sorted-below text_cmp n ns s m a) in
      λ i. first i ∷ rest i
  put_step n ns Greater e s empty next =
      let first = as_before n (apart_by n Greater e (λ f. cc)) in
      let rest = next (λ none. empty (not_further n ns e none)) in
      λ i. first i ∷ rest i

  pub nodes_put : (ns : List (List ℕ)) → IsStrictlySortedBy text_cmp ns → ((Among c ns → ⊥) → old c ≡ empty_node c) → map new (put (text_cmp c) c (λ m. m) ns) ≡ with_node c change (map old ns)
  nodes_put [] s empty = ap (λ n. n ∷ []) (new_here (empty (λ a. a)))
  nodes_put (n ∷ ns) s empty =
      put_step n ns (text_cmp c n) refl s empty (λ none. nodes_put ns (sorted-rest text_cmp n ns s) none)

-- ---- which nodes there are

pub is_alive : (ttls : Ttls) (history : Trace) (n : List ℕ) → Among n (nodes ttls history) → not (is_empty (life ttls n history)) ≡ true
is_alive ttls history n a = (Among-from_filter (λ m. not (is_empty (life ttls m history))) (sorted_texts (certnames history)) n a).1

pub is_there : (ttls : Ttls) (history : Trace) (n : List ℕ) → not (is_empty (life ttls n history)) ≡ true → Among n (nodes ttls history)
is_there ttls history n alive =
    Among-from_Contains (nodes ttls history) n ((nodes_have_a_life ttls history n).1 (λ none. let apart : false ≡ true = sym (ap (λ (xs : List Applied). not (is_empty xs)) none) ∙ alive in cc))

no_life : (xs : List Applied) → (not (is_empty xs) ≡ true → ⊥) → xs ≡ []
no_life [] h = refl
no_life (x ∷ xs) h = absurd (h refl)

none_greatest : (count : Option ℕ) → greatest count [] ≡ []
none_greatest None = refl
none_greatest (Some n) = refl

module _ (ttls : Ttls) (x : Applied) (history : Trace) where
  abbrev c : List ℕ
  c = change_certname x.change

  alive_then : (b : Bool) (xs : List Applied) → not (is_empty xs) ≡ true → not (is_empty (if b then x ∷ xs else xs)) ≡ true
  alive_then true xs h = refl
  alive_then false xs h = h

  itself : bytes_eq c c ≡ true
  itself = (bytes_eq-Decides c c).1 refl

  life_here : life ttls c (applied x ∷ history) ≡ x ∷ life ttls c history
  life_here = ap (λ b. if b then x ∷ life ttls c history else life ttls c history) itself

  other_name : (b : Bool) (n : List ℕ) → bytes_eq n c ≡ b → n ≢ c → b ≡ false
  other_name true n e apart = absurd (apart ((bytes_eq-Decides n c).0 e))
  other_name false n e apart = refl

  life_elsewhere : (n : List ℕ) → n ≢ c → life ttls n (applied x ∷ history) ≡ life ttls n history
  life_elsewhere n apart = ap (λ b. if b then x ∷ life ttls n history else life ttls n history) (other_name (bytes_eq n c) n refl apart)

  node_there : (n : List ℕ) → (n ≡ c) ⊎ Among n (nodes ttls history) → Among n (nodes ttls (applied x ∷ history))
  node_there n (inl same) = is_there ttls (applied x ∷ history) n (subst (λ m. not (is_empty (life ttls m (applied x ∷ history))) ≡ true) (sym same) (ap (λ (xs : List Applied). not (is_empty xs)) life_here))
  node_there n (inr a) = is_there ttls (applied x ∷ history) n (alive_then (bytes_eq n c) (life ttls n history) (is_alive ttls history n a))

  put_there : Among c (put (text_cmp c) c (λ m. m) (nodes ttls history))
  put_there =
      let found = has_key text_cmp text_cmp_total c (λ m. m) (λ m e. e) (nodes ttls history) in
      subst (λ m. Among m (put (text_cmp c) c (λ n. n) (nodes ttls history))) (sym (text_tied c found.0 found.2)) found.1

  node_back : (b : Bool) (n : List ℕ) → bytes_eq n c ≡ b → not (is_empty (if b then x ∷ life ttls n history else life ttls n history)) ≡ true → Among n (put (text_cmp c) c (λ m. m) (nodes ttls history))
  node_back true n e alive = subst (λ m. Among m (put (text_cmp c) c (λ k. k) (nodes ttls history))) (sym ((bytes_eq-Decides n c).0 e)) put_there
  node_back false n e alive = put_itself text_cmp text_cmp_total n c (text_cmp c n) (nodes ttls history) refl (nodes_are_strictly_sorted ttls history) (is_there ttls history n alive)

  pub nodes_applied : nodes ttls (applied x ∷ history) ≡ put (text_cmp c) c (λ m. m) (nodes ttls history)
  nodes_applied =
      sorted-unique text_cmp text_cmp_total (nodes ttls (applied x ∷ history)) (put (text_cmp c) c (λ m. m) (nodes ttls history))
      (nodes_are_strictly_sorted ttls (applied x ∷ history))
      (sorted-put text_cmp text_cmp_total c (λ m. m) (λ m e. e) (nodes ttls history) (nodes_are_strictly_sorted ttls history))
      (λ n a. node_back (bytes_eq n c) n refl (is_alive ttls (applied x ∷ history) n a))
      (λ n a. node_there n (among-from_put text_cmp text_cmp_total n c (nodes ttls history) (nodes_are_strictly_sorted ttls history) a))

  -- a node that isn't there has nothing
  empty_here : (Among c (nodes ttls history) → ⊥) → node_of ttls history c ≡ empty_node c
  empty_here none =
      ap (node_with ttls (greatest_retention history) c) (no_life (life ttls c history) (λ alive. none (is_there ttls history c alive)))
      ∙ (λ i. record (empty_node c) { reports = sorted report_cmp (none_greatest ttls.report_count i) })

  followed : HaveDistinctReceipts (x ∷ life ttls c history) → SameStamps (x ∷ life ttls c history) → apply x (table_of ttls history) ≡ table_of ttls (applied x ∷ history)
  followed tell same =
      let here = ap (node_with ttls (greatest_retention history) c) life_here ∙ sym (node_applied ttls (greatest_retention history) c x (life ttls c history) tell same) in
      let put_in = nodes_put ttls (greatest_retention history) c (with_applied ttls (greatest_retention history) x) (λ n. life ttls n history) (λ n. life ttls n (applied x ∷ history)) life_elsewhere here (nodes ttls history) (nodes_are_strictly_sorted ttls history) empty_here in
      let all = ap (map (node_of ttls (applied x ∷ history))) nodes_applied ∙ put_in in
      λ i. record (table_of ttls (applied x ∷ history)) { nodes = sym all i }

pub commands_are_followed : CommandsAreFollowed
commands_are_followed ttls x history h =
    followed ttls x history (command_is_distinct ttls (change_certname x.change) x history h) (life_has_one_stamp ttls (change_certname x.change) x history h)
