-- A table that meets the rules is the table of the history that tells it again.
use Rattle.std.proofs.Common.{◌≡◌, ◌≢◌, ◌∙◌, ◌⊎◌, inl, inr, ℕ, ℤ, List, [], ◌∷◌, ◌++◌, map, refl, sym, ap, subst, Bool, true, false, Option, Some, None, if◌then◌else◌}
use Rattle.std.proofs.lemmas.Bool.Decides.{Decides-int_eq}
use Rattle.std.specs.Option.{option_map}
use Rattle.std.specs.Ordering.{is_gt}
use Rattle.std.specs.Prelude.{is_some}
use Rattle.std.specs.declared.cmp.Ordering.{Ordering}
use Rattle.checkpoint_spec.specs.fleet_rows.Change.{change_stamp}
use Rattle.checkpoint_spec.specs.fleet_rows.declared.applied.Applied.{Applied}
use Rattle.checkpoint_spec.specs.fleet_rows.declared.change.Change.{Change}
use Rattle.checkpoint_spec.specs.fleet_rows.declared.command.Kind.TheVariants as kind
use Rattle.checkpoint_spec.specs.fleet_rows.declared.settings.Ttls.{Ttls}
use Rattle.checkpoint_spec.specs.history_spec.Node.{later, is_activity, greatest_activity}
use Rattle.checkpoint_spec.specs.history_spec.Trace.{applied_as}
use Rattle.checkpoint_spec.specs.table_spec.Sorted.{report_cmp, insert_by, sorted_by}
use Rattle.checkpoint_spec.specs.table_machine.Places.{sorted}
use Rattle.checkpoint_spec.specs.table_machine.Table.{Node, node_cmp}
use Rattle.checkpoint_spec.specs.Lists.{by_rank, list_of}
use Rattle.checkpoint_spec.proofs.ListLaws.{tables_list_the_checkpoint}
use Rattle.checkpoint_spec.proofs.of_plain_laws.Booleans.{no_truth, never}
use Rattle.checkpoint_spec.proofs.of_plain_laws.Options.{none_some, some_is}
use Rattle.checkpoint_spec.proofs.of_plain_laws.Members.{Among, All-Among, All-from_Among, Among-from_map}
use Rattle.checkpoint_spec.proofs.of_plain_laws.StrictlySorted.{sorted-map, sorted-unique}
use Rattle.checkpoint_spec.proofs.of_history_laws.Filters.{map-map}
use Rattle.checkpoint_spec.proofs.of_history_laws.Summaries.{later_either}
use Rattle.checkpoint_spec.proofs.of_table_laws.SortedLists.{among-sorted_by, among-from_sorted_by}
use Rattle.checkpoint_spec.proofs.of_table_machine.ReportOrder.{report_cmp_total}
use Rattle.checkpoint_spec.proofs.of_table_machine.Risen.{sorted-sorted, among-sorted, among-from_sorted}
use Rattle.list_again.specs.Laws.{TablesAreToldAgain, ListsAreCheckpointsAgain}
use Rattle.list_again.specs.Rules.{IfSpare, IsTold, is_old}
use Rattle.list_again.specs.Told.{Told, if_there, all_told, change_in, changes_told, node_told, told_cmp}
use Rattle.list_again.specs.Whole.{IsActivity, IsWholeNode, greatest_there, empty_report, is_moment, lacking, told_again}
use Rattle.list_again.proofs.Reports.{keys_tell}
use Rattle.list_again.proofs.ToldNodes.{all_map, of_option, activity_first}
use Rattle.list_again.proofs.ToldTables.{told_nodes_make_the_table}

-- ---- lists that are empty

right_none : {A : Type 0} (xs ys : List A) → xs ++ ys ≡ [] → ys ≡ []
right_none [] ys h = h
right_none (x ∷ xs) ys h = absurd (let none : x ∷ (xs ++ ys) ≡ [] = h in cc)

map_none : {A B : Type 0} (f : A → B) (xs : List A) → map f xs ≡ [] → xs ≡ []
map_none f [] h = refl
map_none f (x ∷ xs) h = absurd (let none : f x ∷ map f xs ≡ [] = h in cc)

insert_some : {A : Type 0} (cmp : A → A → Ordering) (x : A) (ys : List A) → insert_by cmp x ys ≡ [] → ⊥
insert_some cmp x [] h = cc
insert_some {A} cmp x (y ∷ ys) h = by (is_gt (cmp x y)) h
  where
    by : (b : Bool) → (if b then y ∷ insert_by cmp x ys else x ∷ y ∷ ys) ≡ [] → ⊥
    by true h = cc
    by false h = cc

-- ---- the greatest activity

abbrev G : List Applied → Option ℤ
G xs = greatest_activity xs

onto : (xs ys zs : List Applied) → G ys ≡ G zs → G (xs ++ ys) ≡ G (xs ++ zs)
onto [] ys zs h = h
onto (x ∷ xs) ys zs h = ap (λ o. if is_activity x then later (change_stamp x.change) o else o) (onto xs ys zs h)

silent : (xs ys : List Applied) → ((x : Applied) → Among x xs → is_activity x ≡ false) → G (xs ++ ys) ≡ G ys
silent [] ys h = refl
silent (x ∷ xs) ys h = rw (h x (inl refl)) (silent xs ys (λ y a. h y (inr a)))

inserted : (cmp : Applied → Applied → Ordering) (x : Applied) (ys : List Applied) → G (insert_by cmp x ys) ≡ G (x ∷ ys)
inserted cmp x [] = refl
inserted cmp x (y ∷ ys) = by (is_gt (cmp x y)) (inserted cmp x ys)
  where
    by : (b : Bool) → G (insert_by cmp x ys) ≡ G (x ∷ ys) → G (if b then y ∷ insert_by cmp x ys else x ∷ y ∷ ys) ≡ G (x ∷ y ∷ ys)
    by true h =
        ap (λ o. if is_activity y then later (change_stamp y.change) o else o) h
        ∙ later_either (is_activity y) (is_activity x) (change_stamp y.change) (change_stamp x.change) (G ys)
    by false h = refl

in_any_order : (cmp : Applied → Applied → Ordering) (xs : List Applied) → G (sorted_by cmp xs) ≡ G xs
in_any_order cmp [] = refl
in_any_order cmp (x ∷ xs) =
    inserted cmp x (sorted_by cmp xs) ∙ ap (λ o. if is_activity x then later (change_stamp x.change) o else o) (in_any_order cmp xs)

-- ---- a moment that is there

moment_itself : (a : ℤ) (there : Option ℤ) → Some a ≡ there → is_moment a there ≡ true
moment_itself a None e = none_some a (sym e)
moment_itself a (Some b) e = (Decides-int_eq a b).1 (some_is a b e)

moment_there : (a : ℤ) (there : Option ℤ) → is_moment a there ≡ true → there ≡ Some a
moment_there a None h = no_truth h
moment_there a (Some b) h = ap (λ m. Some m) (sym ((Decides-int_eq a b).0 h))

module _ (ttls : Ttls) (retention : Option ℤ) where
  old_if_lacking : (a : ℤ) (there : Option ℤ) → is_moment a there ≡ false → IsActivity ttls retention (Some a) there → (later a there ≡ Some a) × (is_old ttls retention a ≡ true)
  old_if_lacking a there h (inl e) = never (is_moment a there) (moment_itself a there e) h
  old_if_lacking a there h (inr (m, same, latest, old)) =
      let one : m ≡ a = sym (some_is a m same) in (
        subst (λ n. later n there ≡ Some n) one latest,
        subst (λ n. is_old ttls retention n ≡ true) one old,
      )

  -- ---- an empty report tells the activity

  spare_step : (b : Bool) (certname : List ℕ) (a : ℤ) (there : Option ℤ) → is_moment a there ≡ b → IsActivity ttls retention (Some a) there
      → IfSpare ttls retention certname (if b then None else Some (empty_report certname a))
  spare_step true certname a there h is = tt
  spare_step false certname a there h is = (record { certname_is = refl; kind_is = refl }, (old_if_lacking a there h is).1)

  spare_is : (certname : List ℕ) (active there : Option ℤ) → IsActivity ttls retention active there → IfSpare ttls retention certname (lacking certname active there)
  spare_is certname None there is = tt
  spare_is certname (Some a) there is = spare_step (is_moment a there) certname a there refl is

  module _ (certname : List ℕ) (receipt : ℕ) (f c rs : List Applied) where
    abbrev G_there : Option ℤ
    G_there = G (f ++ (c ++ rs))

    abbrev with_spare : Option Change → Option ℤ
    with_spare o = G (f ++ (c ++ (if_there (option_map (applied_as receipt None) o) ++ rs)))

    spare_counts : (a : ℤ) → with_spare (Some (empty_report certname a)) ≡ later a G_there
    spare_counts a =
        let x = applied_as receipt None (empty_report certname a) in
        onto f (c ++ x ∷ rs) (x ∷ (c ++ rs)) (activity_first x c rs) ∙ activity_first x f (c ++ rs)

    active_step : (b : Bool) (a : ℤ) → is_moment a G_there ≡ b → IsActivity ttls retention (Some a) G_there → with_spare (if b then None else Some (empty_report certname a)) ≡ Some a
    active_step true a h is = moment_there a G_there h
    active_step false a h is = spare_counts a ∙ (old_if_lacking a G_there h is).0

    active_told : (active : Option ℤ) → IsActivity ttls retention active G_there → with_spare (lacking certname active G_there) ≡ active
    active_told None (inl e) = sym e
    active_told None (inr (a, e, latest, old)) = none_some a e
    active_told (Some a) is = active_step (is_moment a G_there) a refl is

-- ---- something is told

module _ (certname : List ℕ) (receipt : ℕ) where
  abbrev spare_of : Option ℤ → List Applied → List Applied
  spare_of active there = if_there (option_map (applied_as receipt None) (lacking certname active (G there)))

  told_some : (active : Option ℤ) (f c e d : Option Applied) (rs : List Applied) → (is_some active ≡ true) ⊎ (if_there d ++ if_there e ≢ [])
      → if_there f ++ (if_there c ++ (if_there e ++ (if_there d ++ (spare_of active (if_there f ++ (if_there c ++ rs)) ++ sorted_by by_rank rs)))) ≡ [] → ⊥
  told_some active (Some x) c e d rs h none = cc
  told_some active None (Some x) e d rs h none = cc
  told_some active None None (Some x) d rs h none = cc
  told_some active None None None (Some x) rs h none = cc
  told_some active None None None None (y ∷ ys) h none =
      insert_some by_rank y (sorted_by by_rank ys) (right_none (spare_of active (y ∷ ys)) (sorted_by by_rank (y ∷ ys)) none)
  told_some None None None None None [] (inl h) none = no_truth h
  told_some None None None None None [] (inr h) none = h refl
  told_some (Some a) None None None None [] h none = cc

-- ---- a node

pub given : (receipt : ℕ) (o : Option Change) → option_map change_in (option_map (applied_as receipt None) o) ≡ o
given receipt None = refl
given receipt (Some c) = refl

module _ (ttls : Ttls) (retention : Option ℤ) (spare : List ℕ → ℕ) (node : Node) (is : IsWholeNode ttls retention node) where
  abbrev told : Told Applied
  told = told_again spare node

  abbrev L : List Applied
  L = sorted_by by_rank node.reports

  pub is_told : IsTold ttls retention (changes_told told)
  is_told = record {
    facts = is.facts;
    catalog = is.catalog;
    expiration = is.expiration;
    deactivate = is.deactivate;
    spare = subst (IfSpare ttls retention node.certname) (sym (given (spare node.certname) (lacking node.certname node.active (greatest_there node)))) (spare_is ttls retention node.certname node.active (greatest_there node) is.active);
    reports = is.kept;
    some = λ none. told_some node.certname (spare node.certname) node.active node.facts node.catalog node.expiration node.deactivate node.reports is.some
        (map_none change_in (all_told told) (sym (all_map change_in told) ∙ none));
  }

  pub active_is : greatest_activity (all_told told) ≡ node.active
  active_is =
      let f = if_there node.facts in
      let c = if_there node.catalog in
      let e = if_there node.expiration in
      let d = if_there node.deactivate in
      let s = if_there told.spare in
      onto f _ (c ++ (s ++ node.reports)) (onto c _ (s ++ node.reports)
      (silent e (d ++ (s ++ L)) (λ x a. let k = (of_option node.certname kind.Expiration node.expiration is.expiration x a).kind_is in rw k refl)
      ∙ silent d (s ++ L) (λ x a. let k = (of_option node.certname kind.Deactivate node.deactivate is.deactivate x a).kind_is in rw k refl)
      ∙ onto s L node.reports (in_any_order by_rank node.reports)))
      ∙ active_told ttls retention node.certname (spare node.certname) f c node.reports node.active is.active

  reports_are : sorted report_cmp L ≡ node.reports
  reports_are =
      sorted-unique report_cmp report_cmp_total (sorted report_cmp L) node.reports (sorted-sorted report_cmp report_cmp_total L) is.rise
      (λ w a. among-from_sorted_by by_rank w node.reports (among-from_sorted report_cmp report_cmp_total w L a))
      (λ w a. among-sorted report_cmp report_cmp_total w L (keys_tell ttls retention node.certname L is.kept) (among-sorted_by by_rank w node.reports a))

  node_is : node_told told ≡ node
  node_is = λ i. record node { active = active_is i; reports = reports_are i }

-- ---- a table

mapped_back : {A : Type 0} (f : A → A) (xs : List A) → ((x : A) → Among x xs → f x ≡ x) → map f xs ≡ xs
mapped_back f [] h = refl
mapped_back f (x ∷ xs) h = let rest = mapped_back f xs (λ y a. h y (inr a)) in λ i. h x (inl refl) i ∷ rest i

pub tables_are_told_again : TablesAreToldAgain
tables_are_told_again spare table is =
    let again = told_again spare in
    let each : (node : Node) → Among node table.nodes → IsWholeNode table.ttls table.retention node = λ node a. All-Among (IsWholeNode table.ttls table.retention) table.nodes node is.each a in
    told_nodes_make_the_table table.ttls table.expiry table.retention (map again table.nodes)
    (sorted-map node_cmp told_cmp again (λ x y h. h) table.nodes is.nodes_rise)
    (All-from_Among (λ told. IsTold table.ttls table.retention (changes_told told)) (map again table.nodes) (λ told a.
    let node = Among-from_map again table.nodes told a in
    subst (λ (t : Told Applied). IsTold table.ttls table.retention (changes_told t)) (sym node.2) (is_told table.ttls table.retention spare node.0 (each node.0 node.1))))
    ∙ (let all = map-map again node_told table.nodes ∙ mapped_back (λ node. node_told (again node)) table.nodes (λ node a. node_is table.ttls table.retention spare node (each node a)) in
    λ i. record table { nodes = all i })

pub lists_are_checkpoints_again : ListsAreCheckpointsAgain
lists_are_checkpoints_again spare table is trace =
    sym (tables_list_the_checkpoint table.ttls _ trace) ∙ ap list_of (tables_are_told_again spare table is)
