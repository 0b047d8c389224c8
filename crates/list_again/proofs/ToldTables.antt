-- The table of a history in which the nodes are told one after the other.
use Rattle.std.proofs.Common.{◌≡◌, ◌≢◌, ◌∙◌, inl, ℕ, ℤ, List, [], ◌∷◌, map, refl, sym, ap, subst, Option, Some, None}
use Rattle.std.specs.List.{AllByRecursion, filter, flat_map}
use Rattle.std.specs.List.Sorted.{IsStrictlySortedBy}
use Rattle.checkpoint_spec.specs.text_spec.Compact.{text_cmp}
use Rattle.checkpoint_spec.specs.fleet_rows.Change.{change_certname}
use Rattle.checkpoint_spec.specs.fleet_rows.declared.applied.Applied.{Applied}
use Rattle.checkpoint_spec.specs.fleet_rows.declared.settings.Ttls.{Ttls}
use Rattle.checkpoint_spec.specs.history_spec.Life.{life, nodes, greatest_expiry, greatest_retention}
use Rattle.checkpoint_spec.specs.history_spec.Node.{later}
use Rattle.checkpoint_spec.specs.history_spec.Trace.{Trace, applied}
use Rattle.checkpoint_spec.specs.table_machine.Table.{node_with, node_of, table_of}
use Rattle.checkpoint_spec.specs.Histories.{with_events}
use Rattle.checkpoint_spec.proofs.of_plain_laws.Lists.{one_text}
use Rattle.checkpoint_spec.proofs.of_plain_laws.Members.{Among, All-Among, Among-from_filter, Among-from_flat_map, Among-from_map, Among-map, Among-from_Contains, Contains-from_Among}
use Rattle.checkpoint_spec.proofs.of_plain_laws.StrictlySorted.{sorted-map, sorted-unique}
use Rattle.checkpoint_spec.proofs.of_history_laws.Filters.{map-among, map-map}
use Rattle.checkpoint_spec.proofs.of_history_laws.SortedTexts.{text_cmp_total}
use Rattle.checkpoint_spec.proofs.of_history_laws.TraceLemmas.{nodes_are_strictly_sorted, nodes_have_a_life}
use Rattle.list_again.specs.Laws.{ToldNodesMakeTheTable}
use Rattle.list_again.specs.Rules.{IsTold}
use Rattle.list_again.specs.Told.{Told, all_told, change_in, changes_told, node_told, told_cmp, expire_alone, reports_alone, swept_if, history_told, table_told}
use Rattle.list_again.proofs.Blocks.{is_of, one_block}
use Rattle.list_again.proofs.ToldNodes.{all_map, own, node_from}
use Rattle.list_again.proofs.Turned.{turned, turned_step, turned_some, among_from_all_turned}

-- ---- lives

module _ (ttls : Ttls) (n : List ℕ) where
  life_with : (xs : List Applied) (history : Trace) → life ttls n (with_events xs history) ≡ turned (filter (is_of n) xs) (life ttls n history)
  life_with [] history = refl
  life_with (x ∷ xs) history = life_with xs (applied x ∷ history) ∙ turned_step (is_of n x) x (filter (is_of n) xs) (life ttls n history)

  -- neither of the sweeps takes a node
  life_expire : (o : Option ℤ) (history : Trace) → life ttls n (swept_if expire_alone o history) ≡ life ttls n history
  life_expire None history = refl
  life_expire (Some m) history = refl

  life_retain : (o : Option ℤ) (history : Trace) → life ttls n (swept_if reports_alone o history) ≡ life ttls n history
  life_retain None history = refl
  life_retain (Some m) history = refl

-- ---- sweeps

expiry_with : (xs : List Applied) (history : Trace) → greatest_expiry (with_events xs history) ≡ greatest_expiry history
expiry_with [] history = refl
expiry_with (x ∷ xs) history = expiry_with xs (applied x ∷ history)

retention_with : (xs : List Applied) (history : Trace) → greatest_retention (with_events xs history) ≡ greatest_retention history
retention_with [] history = refl
retention_with (x ∷ xs) history = retention_with xs (applied x ∷ history)

module _ (xs : List Applied) where
  expiry_swept : (expiry retention : Option ℤ) → greatest_expiry (swept_if reports_alone retention (swept_if expire_alone expiry (with_events xs []))) ≡ expiry
  expiry_swept None None = expiry_with xs []
  expiry_swept None (Some r) = expiry_with xs []
  expiry_swept (Some e) None = ap (later e) (expiry_with xs [])
  expiry_swept (Some e) (Some r) = ap (later e) (expiry_with xs [])

  retention_swept : (expiry retention : Option ℤ) → greatest_retention (swept_if reports_alone retention (swept_if expire_alone expiry (with_events xs []))) ≡ retention
  retention_swept None None = retention_with xs []
  retention_swept (Some e) None = retention_with xs []
  retention_swept None (Some r) = ap (later r) (retention_with xs [])
  retention_swept (Some e) (Some r) = ap (later r) (retention_with xs [])

-- ---- nodes

certname_told : Told Applied → List ℕ
certname_told told = told.certname

member_of : (xs : List Applied) → xs ≢ [] → (x : Applied) × Among x xs
member_of [] h = absurd (h refl)
member_of (x ∷ xs) h = (x, inl refl)

module _ (ttls : Ttls) (expiry retention : Option ℤ) (tolds : List (Told Applied)) (s : IsStrictlySortedBy told_cmp tolds) (are : AllByRecursion (λ told. IsTold ttls retention (changes_told told)) tolds) where
  abbrev again : Trace
  again = history_told expiry retention tolds

  abbrev name : Told Applied → List ℕ
  name told = told.certname

  is_told : (told : Told Applied) → Among told tolds → IsTold ttls retention (changes_told told)
  is_told told a = All-Among (λ t. IsTold ttls retention (changes_told t)) tolds told are a

  own_of : (told : Told Applied) → Among told tolds → (x : Applied) → Among x (all_told told) → change_certname x.change ≡ told.certname
  own_of told a x b = own ttls retention told (is_told told a) x b

  life_is : (n : List ℕ) → life ttls n again ≡ turned (filter (is_of n) (flat_map all_told tolds)) []
  life_is n =
      life_retain ttls n retention (swept_if expire_alone expiry (with_events (flat_map all_told tolds) []))
      ∙ life_expire ttls n expiry (with_events (flat_map all_told tolds) [])
      ∙ life_with ttls n (flat_map all_told tolds) []

  life_of : (told : Told Applied) → Among told tolds → life ttls told.certname again ≡ turned (all_told told) []
  life_of told a = life_is told.certname ∙ ap (λ xs. turned xs []) (one_block name all_told tolds s own_of told a)

  some_told : (told : Told Applied) → Among told tolds → all_told told ≢ []
  some_told told a none = (is_told told a).some (all_map change_in told ∙ ap (map change_in) none)

  there : (n : List ℕ) → Among n (nodes ttls again) → Among n (map name tolds)
  there n a =
      let some = (nodes_have_a_life ttls again n).0 (Contains-from_Among (nodes ttls again) n a) in
      let x = member_of (life ttls n again) some in
      let mine = Among-from_filter (is_of n) (flat_map all_told tolds) x.0 (among_from_all_turned x.0 (filter (is_of n) (flat_map all_told tolds)) (subst (Among x.0) (life_is n) x.1)) in
      let block = Among-from_flat_map all_told tolds x.0 mine.0 in
      let same : n ≡ block.0.certname = one_text n (change_certname x.0.change) mine.1 ∙ own_of block.0 block.1 x.0 block.2 in
      subst (λ m. Among m (map name tolds)) (sym same) (Among-map name tolds block.0 block.1)

  back : (n : List ℕ) → Among n (map name tolds) → Among n (nodes ttls again)
  back n a =
      let told = Among-from_map name tolds n a in
      let lives : life ttls n again ≡ turned (all_told told.0) [] = ap (λ m. life ttls m again) told.2 ∙ life_of told.0 told.1 in
      Among-from_Contains (nodes ttls again) n ((nodes_have_a_life ttls again n).1 (λ none. turned_some (all_told told.0) (some_told told.0 told.1) (sym lives ∙ none)))

  nodes_are : nodes ttls again ≡ map name tolds
  nodes_are =
      sorted-unique text_cmp text_cmp_total (nodes ttls again) (map name tolds) (nodes_are_strictly_sorted ttls again)
      (sorted-map told_cmp text_cmp name (λ a b h. h) tolds s) there back

  abbrev swept_expiry : greatest_expiry again ≡ expiry
  swept_expiry = expiry_swept (flat_map all_told tolds) expiry retention

  abbrev swept_retention : greatest_retention again ≡ retention
  swept_retention = retention_swept (flat_map all_told tolds) expiry retention

  node_is : (told : Told Applied) → Among told tolds → node_of ttls again told.certname ≡ node_told told
  node_is told a =
      (λ i. node_with ttls (swept_retention i) told.certname (life_of told a i)) ∙ node_from ttls retention told (is_told told a)

  table_is : table_of ttls again ≡ table_told ttls expiry retention tolds
  table_is =
      let all = ap (map (node_of ttls again)) nodes_are ∙ map-map name (node_of ttls again) tolds ∙ map-among (λ told. node_of ttls again told.certname) node_told tolds node_is in
      λ i. record { ttls = ttls; expiry = swept_expiry i; retention = swept_retention i; nodes = all i }

pub told_nodes_make_the_table : ToldNodesMakeTheTable
told_nodes_make_the_table ttls expiry retention tolds s are = table_is ttls expiry retention tolds s are
