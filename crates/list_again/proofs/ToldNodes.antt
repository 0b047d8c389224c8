-- The node of a life that is what is told of it, the last first.
use Rattle.std.proofs.Common.{◌≡◌, ◌∙◌, inl, inr, ℕ, ℤ, List, [], ◌∷◌, ◌++◌, map, refl, sym, ap, subst, Bool, true, false, not, ◌&&◌, Option, Some, None, if◌then◌else◌, append-nil}
use Rattle.std.proofs.lemmas.List.Elements.{filter-append}
use Rattle.std.specs.List.{filter}
use Rattle.std.specs.Option.{option_map}
use Rattle.checkpoint_spec.specs.fleet_rows.Change.{change_certname, change_kind, change_stamp}
use Rattle.checkpoint_spec.specs.fleet_rows.declared.applied.Applied.{Applied}
use Rattle.checkpoint_spec.specs.fleet_rows.declared.change.Change.{Change}
use Rattle.checkpoint_spec.specs.fleet_rows.declared.command.Kind.{Kind}
use Rattle.checkpoint_spec.specs.fleet_rows.declared.command.Kind.TheVariants as kind
use Rattle.checkpoint_spec.specs.fleet_rows.declared.settings.Ttls.{Ttls}
use Rattle.checkpoint_spec.specs.history_spec.Node.{later, newest, is_activity, greatest_activity}
use Rattle.checkpoint_spec.specs.history_spec.Report.{is_retained, distinct, greatest, reports_kept_of}
use Rattle.checkpoint_spec.specs.history_spec.Trace.{is_kind}
use Rattle.checkpoint_spec.specs.table_spec.Sorted.{report_cmp}
use Rattle.checkpoint_spec.specs.table_machine.Places.{sorted}
use Rattle.checkpoint_spec.specs.table_machine.Table.{node_with}
use Rattle.checkpoint_spec.proofs.of_plain_laws.Booleans.{not_both, true_both}
use Rattle.checkpoint_spec.proofs.of_plain_laws.Lists.{map_both}
use Rattle.checkpoint_spec.proofs.of_plain_laws.Members.{Among, Among-append_cases}
use Rattle.checkpoint_spec.proofs.of_history_laws.Ranks.{is_kind_from_kind}
use Rattle.checkpoint_spec.proofs.of_history_laws.Summaries.{later_either}
use Rattle.checkpoint_spec.proofs.of_table_machine.Ranked.{filter-none, filter-every}
use Rattle.list_again.specs.Rules.{IsOf, IfOf, IfSpare, IsTold, is_old}
use Rattle.list_again.specs.Told.{Told, if_there, all_told, told_map, change_in, changes_told, node_told}
use Rattle.list_again.proofs.Reports.{retained_is, left, is_report, kept_again, sorted_again}
use Rattle.list_again.proofs.Turned.{turned, turned_both, filter_turned}

-- ---- what is told, and the same of each command

there_map : {A B : Type 0} (f : A → B) (o : Option A) → if_there (option_map f o) ≡ map f (if_there o)
there_map f None = refl
there_map f (Some x) = refl

pub all_map : {A B : Type 0} (f : A → B) (told : Told A) → all_told (told_map f told) ≡ map f (all_told told)
all_map f told =
    (λ i. there_map f told.facts i ++ (there_map f told.catalog i ++ (there_map f told.expiration i ++ (there_map f told.deactivate i ++ (there_map f told.spare i ++ map f told.reports)))))
    ∙ sym (map_both f (if_there told.facts) _
    ∙ ap (λ l. map f (if_there told.facts) ++ l) (map_both f (if_there told.catalog) _
    ∙ ap (λ l. map f (if_there told.catalog) ++ l) (map_both f (if_there told.expiration) _
    ∙ ap (λ l. map f (if_there told.expiration) ++ l) (map_both f (if_there told.deactivate) _
    ∙ ap (λ l. map f (if_there told.deactivate) ++ l) (map_both f (if_there told.spare) told.reports)))))

-- ---- the newest of a kind

-- commands of other kinds say nothing
newest_passes : (k : Kind) (ys zs : List Applied) → ((y : Applied) → Among y ys → is_kind k y ≡ false) → newest k (turned ys zs) ≡ newest k zs
newest_passes k [] zs h = refl
newest_passes k (y ∷ ys) zs h = newest_passes k ys (y ∷ zs) (λ w a. h w (inr a)) ∙ rw (h y (inl refl)) refl

-- and the one of the kind is the newest
newest_is : (k : Kind) (certname : List ℕ) (o : Option Applied) (zs : List Applied) → IfOf certname k (option_map change_in o) → newest k zs ≡ None → newest k (turned (if_there o) zs) ≡ o
newest_is k certname None zs h e = e
newest_is k certname (Some x) zs h e = rw (is_kind_from_kind k x h.kind_is, e) refl

pub of_option : (certname : List ℕ) (k : Kind) (o : Option Applied) → IfOf certname k (option_map change_in o) → (x : Applied) → Among x (if_there o) → IsOf certname k x.change
of_option certname k None h x a = absurd a
of_option certname k (Some y) h x (inl e) = subst (λ (z : Applied). IsOf certname k z.change) (sym e) h
of_option certname k (Some y) h x (inr a) = absurd a

pub record IsSpare (ttls : Ttls) (retention : Option ℤ) (certname : List ℕ) (c : Change) : Type 0 where
  pub is_of : IsOf certname kind.Report c
  pub old : is_old ttls retention (change_stamp c) ≡ true

pub of_spare : (ttls : Ttls) (retention : Option ℤ) (certname : List ℕ) (o : Option Applied) → IfSpare ttls retention certname (option_map change_in o) → (x : Applied) → Among x (if_there o) → IsSpare ttls retention certname x.change
of_spare ttls retention certname None h x a = absurd a
of_spare ttls retention certname (Some y) h x (inl e) = subst (λ (z : Applied). IsSpare ttls retention certname z.change) (sym e) (record { is_of = h.0; old = h.1 })
of_spare ttls retention certname (Some y) h x (inr a) = absurd a

-- ---- the greatest activity, in whatever order

-- a command may come first
pub activity_first : (x : Applied) (xs zs : List Applied) → greatest_activity (xs ++ x ∷ zs) ≡ greatest_activity (x ∷ (xs ++ zs))
activity_first x [] zs = refl
activity_first x (y ∷ xs) zs =
    ap (λ o. if is_activity y then later (change_stamp y.change) o else o) (activity_first x xs zs)
    ∙ later_either (is_activity y) (is_activity x) (change_stamp y.change) (change_stamp x.change) (greatest_activity (xs ++ zs))

activity_turned : (xs zs : List Applied) → greatest_activity (turned xs zs) ≡ greatest_activity (xs ++ zs)
activity_turned [] zs = refl
activity_turned (x ∷ xs) zs = activity_turned xs (x ∷ zs) ∙ activity_first x xs zs

-- ---- the node

module _ (ttls : Ttls) (retention : Option ℤ) (told : Told Applied) (is : IsTold ttls retention (changes_told told)) where
  abbrev f : List Applied
  f = if_there told.facts

  abbrev c : List Applied
  c = if_there told.catalog

  abbrev e : List Applied
  e = if_there told.expiration

  abbrev d : List Applied
  d = if_there told.deactivate

  abbrev s : List Applied
  s = if_there told.spare

  abbrev rs : List Applied
  rs = told.reports

  is_facts : (x : Applied) → Among x f → IsOf told.certname kind.Facts x.change
  is_facts x a = of_option told.certname kind.Facts told.facts is.facts x a

  is_catalog : (x : Applied) → Among x c → IsOf told.certname kind.Catalog x.change
  is_catalog x a = of_option told.certname kind.Catalog told.catalog is.catalog x a

  is_expiration : (x : Applied) → Among x e → IsOf told.certname kind.Expiration x.change
  is_expiration x a = of_option told.certname kind.Expiration told.expiration is.expiration x a

  is_deactivation : (x : Applied) → Among x d → IsOf told.certname kind.Deactivate x.change
  is_deactivation x a = of_option told.certname kind.Deactivate told.deactivate is.deactivate x a

  is_spare : (x : Applied) → Among x s → IsSpare ttls retention told.certname x.change
  is_spare x a = of_spare ttls retention told.certname told.spare is.spare x a

  is_one_left : (x : Applied) → Among x rs → IsOf told.certname kind.Report x.change
  is_one_left x a = (left ttls retention told.certname rs is.reports x a).is_of

  -- each is of the node
  pub own : (x : Applied) → Among x (all_told told) → change_certname x.change ≡ told.certname
  own x a = elim (Among-append_cases f _ x a) [
    | inl b ↦ (is_facts x b).certname_is
    | inr g ↦ elim (Among-append_cases c _ x g) [
      | inl b ↦ (is_catalog x b).certname_is
      | inr h ↦ elim (Among-append_cases e _ x h) [
        | inl b ↦ (is_expiration x b).certname_is
        | inr k ↦ elim (Among-append_cases d _ x k) [
          | inl b ↦ (is_deactivation x b).certname_is
          | inr l ↦ elim (Among-append_cases s rs x l) [ inl b ↦ (is_spare x b).is_of.certname_is | inr b ↦ (is_one_left x b).certname_is ]
        ]
      ]
    ]
  ]

  -- ---- the newest of each kind

  abbrev turned_parts : List Applied
  turned_parts = turned rs (turned s (turned d (turned e (turned c (turned f [])))))

  parts_are : turned (all_told told) [] ≡ turned_parts
  parts_are =
      turned_both f _ [] ∙ turned_both c _ (turned f []) ∙ turned_both e _ (turned c (turned f [])) ∙ turned_both d _ (turned e (turned c (turned f [])))
      ∙ turned_both s rs (turned d (turned e (turned c (turned f []))))

  module _ (k : Kind) (zs : List Applied) (apart : (x : Applied) → change_kind x.change ≡ kind.Report → is_kind k x ≡ false) where
    no_report : newest k (turned rs (turned s zs)) ≡ newest k zs
    no_report =
        newest_passes k rs (turned s zs) (λ x a. apart x (is_one_left x a).kind_is)
        ∙ newest_passes k s zs (λ x a. apart x (is_spare x a).is_of.kind_is)

  no_facts : (k : Kind) (zs : List Applied) → ((x : Applied) → change_kind x.change ≡ kind.Facts → is_kind k x ≡ false) → newest k (turned f zs) ≡ newest k zs
  no_facts k zs apart = newest_passes k f zs (λ x a. apart x (is_facts x a).kind_is)

  no_catalog : (k : Kind) (zs : List Applied) → ((x : Applied) → change_kind x.change ≡ kind.Catalog → is_kind k x ≡ false) → newest k (turned c zs) ≡ newest k zs
  no_catalog k zs apart = newest_passes k c zs (λ x a. apart x (is_catalog x a).kind_is)

  no_expiration : (k : Kind) (zs : List Applied) → ((x : Applied) → change_kind x.change ≡ kind.Expiration → is_kind k x ≡ false) → newest k (turned e zs) ≡ newest k zs
  no_expiration k zs apart = newest_passes k e zs (λ x a. apart x (is_expiration x a).kind_is)

  no_deactivation : (k : Kind) (zs : List Applied) → ((x : Applied) → change_kind x.change ≡ kind.Deactivate → is_kind k x ≡ false) → newest k (turned d zs) ≡ newest k zs
  no_deactivation k zs apart = newest_passes k d zs (λ x a. apart x (is_deactivation x a).kind_is)

  facts_are : newest kind.Facts turned_parts ≡ told.facts
  facts_are =
      no_report kind.Facts _ (λ x h. rw h refl)
      ∙ no_deactivation kind.Facts _ (λ x h. rw h refl)
      ∙ no_expiration kind.Facts _ (λ x h. rw h refl)
      ∙ no_catalog kind.Facts _ (λ x h. rw h refl)
      ∙ newest_is kind.Facts told.certname told.facts [] is.facts refl

  catalog_is : newest kind.Catalog turned_parts ≡ told.catalog
  catalog_is =
      no_report kind.Catalog _ (λ x h. rw h refl)
      ∙ no_deactivation kind.Catalog _ (λ x h. rw h refl)
      ∙ no_expiration kind.Catalog _ (λ x h. rw h refl)
      ∙ newest_is kind.Catalog told.certname told.catalog (turned f []) is.catalog (no_facts kind.Catalog [] (λ x h. rw h refl))

  expiration_is : newest kind.Expiration turned_parts ≡ told.expiration
  expiration_is =
      no_report kind.Expiration _ (λ x h. rw h refl)
      ∙ no_deactivation kind.Expiration _ (λ x h. rw h refl)
      ∙ newest_is kind.Expiration told.certname told.expiration (turned c (turned f [])) is.expiration
      (no_catalog kind.Expiration (turned f []) (λ x h. rw h refl) ∙ no_facts kind.Expiration [] (λ x h. rw h refl))

  deactivation_is : newest kind.Deactivate turned_parts ≡ told.deactivate
  deactivation_is =
      no_report kind.Deactivate _ (λ x h. rw h refl)
      ∙ newest_is kind.Deactivate told.certname told.deactivate (turned e (turned c (turned f []))) is.deactivate
      (no_expiration kind.Deactivate (turned c (turned f [])) (λ x h. rw h refl)
      ∙ no_catalog kind.Deactivate (turned f []) (λ x h. rw h refl) ∙ no_facts kind.Deactivate [] (λ x h. rw h refl))

  -- ---- the reports

  abbrev stays : Applied → Bool
  stays x = is_kind kind.Report x && is_retained ttls retention x

  other_kind : (x : Applied) → is_kind kind.Report x ≡ false → stays x ≡ false
  other_kind x h = not_both (is_kind kind.Report x) (is_retained ttls retention x) h

  passed : (ys zs : List Applied) → ((x : Applied) → Among x ys → stays x ≡ false) → filter stays (ys ++ zs) ≡ filter stays zs
  passed ys zs h = filter-append stays ys zs ∙ ap (λ l. l ++ filter stays zs) (filter-none stays ys h)

  spare_goes : (x : Applied) → IsSpare ttls retention told.certname x.change → stays x ≡ false
  spare_goes x h =
      let kind_is : is_kind kind.Report x ≡ true = is_kind_from_kind kind.Report x h.is_of.kind_is in
      let gone : is_retained ttls retention x ≡ false = retained_is ttls retention x ∙ ap not h.old in
      (λ i. kind_is i && gone i)

  left_stays : (x : Applied) → Among x rs → stays x ≡ true
  left_stays x a =
      true_both (is_kind kind.Report x) (is_retained ttls retention x) (is_report ttls retention told.certname rs is.reports x a)
      (retained_is ttls retention x ∙ ap not (left ttls retention told.certname rs is.reports x a).not_old)

  stays_are : filter stays (all_told told) ≡ rs
  stays_are =
      passed f _ (λ x a. other_kind x (let h = (is_facts x a).kind_is in rw h refl))
      ∙ passed c _ (λ x a. other_kind x (let h = (is_catalog x a).kind_is in rw h refl))
      ∙ passed e _ (λ x a. other_kind x (let h = (is_expiration x a).kind_is in rw h refl))
      ∙ passed d _ (λ x a. other_kind x (let h = (is_deactivation x a).kind_is in rw h refl))
      ∙ passed s rs (λ x a. spare_goes x (is_spare x a))
      ∙ filter-every stays rs left_stays

  pub kept_are : reports_kept_of ttls retention (turned (all_told told) []) ≡ turned rs []
  kept_are =
      ap (λ xs. greatest ttls.report_count (distinct xs)) (filter_turned stays (all_told told) [] ∙ ap (λ xs. turned xs []) stays_are)
      ∙ kept_again ttls retention told.certname rs is.reports

  -- ---- together

  pub node_from : node_with ttls retention told.certname (turned (all_told told) []) ≡ node_told told
  node_from =
      let active = activity_turned (all_told told) [] ∙ ap greatest_activity (append-nil (all_told told)) in
      let facts = ap (newest kind.Facts) parts_are ∙ facts_are in
      let catalog = ap (newest kind.Catalog) parts_are ∙ catalog_is in
      let deactivate = ap (newest kind.Deactivate) parts_are ∙ deactivation_is in
      let expiration = ap (newest kind.Expiration) parts_are ∙ expiration_is in
      let reports = ap (sorted report_cmp) kept_are ∙ sorted_again ttls retention told.certname rs is.reports in
      λ i. record {
        certname = told.certname;
        active = active i;
        facts = facts i;
        catalog = catalog i;
        deactivate = deactivate i;
        expiration = expiration i;
        reports = reports i;
      }
