-- A node's kept commands, applied one after the other to the node that its marks leave, make the node of the history.
use Rattle.std.proofs.Common.{◌≡◌, ◌∙◌, ◌⊎◌, inl, inr, ℕ, ℤ, List, [], ◌∷◌, ◌++◌, refl, sym, ap, subst, Bool, true, false, if◌then◌else◌, Option, Some, None}
use Rattle.std.specs.Prelude.{int_lt}
use Rattle.table_laws.proofs.of_plain_laws.Members.{Among}
use Rattle.table_laws.specs.fleet_rows.Change.{change_certname, change_kind, change_stamp}
use Rattle.table_laws.specs.fleet_rows.declared.applied.Applied.{Applied}
use Rattle.table_laws.specs.fleet_rows.declared.command.Kind.{Kind}
use Rattle.table_laws.specs.fleet_rows.declared.command.Kind.TheVariants as kind
use Rattle.table_laws.specs.fleet_rows.declared.settings.Ttls.{Ttls}
use Rattle.table_laws.specs.history_spec.Life.{life, kept_reports, greatest_retention}
use Rattle.table_laws.specs.history_spec.Node.{later, newest, is_activity, greatest_activity}
use Rattle.table_laws.specs.history_spec.Trace.{is_kind, Trace, IsTrace}
use Rattle.table_laws.proofs.of_history_laws.Lives.{comes_from}
use Rattle.table_laws.proofs.of_history_laws.Moments.{later_comm}
use Rattle.table_laws.proofs.of_history_laws.NewestIsGreatest.{newest_is_greatest}
use Rattle.table_laws.proofs.of_history_laws.Ranks.{kind_from_is_kind}
use Rattle.table_laws.specs.table_spec.Sorted.{sorted_by}
use Rattle.table_laws.specs.table_machine.Steps.{empty_node, with_report, with_applied}
use Rattle.table_laws.specs.table_machine.Table.{Node, node_of}
use Rattle.table_laws.proofs.of_table_machine.TableLaws.{kept_among_life, kept_among_stay}
use Rattle.table_laws.proofs.of_table_machine.KeptReports.{retained_are_reports}
use Rattle.table_laws.proofs.SortedLists.{among-from_sorted_by}
use Rattle.checkpoint_spec.specs.Histories.{commands_in}
use Rattle.checkpoint_spec.specs.Lists.{by_rank, if_kept}
use Rattle.checkpoint_spec.proofs.KeptOrder.{reports_all, reports_again}

-- ---- a stamp that counts already

later_twice : (m : ℤ) (o : Option ℤ) → later m (later m o) ≡ later m o
later_twice m None = one (int_lt m m)
  where
    one : (b : Bool) → Some (if b then m else m) ≡ Some m
    one true = refl
    one false = refl
later_twice m (Some n) = two (int_lt m n) refl
  where
    one : (b : Bool) → Some (if b then m else m) ≡ Some m
    one true = refl
    one false = refl

    two : (b : Bool) → int_lt m n ≡ b → later m (Some (if b then n else m)) ≡ Some (if b then n else m)
    two true e = rw e refl
    two false e = one (int_lt m m)

counts_step : (b : Bool) (m n : ℤ) (o : Option ℤ) → later m o ≡ o → later m (if b then later n o else o) ≡ (if b then later n o else o)
counts_step true m n o h = later_comm m n o ∙ ap (later n) h
counts_step false m n o h = h

counts_here : (b : Bool) (m : ℤ) (o : Option ℤ) → b ≡ true → later m (if b then later m o else o) ≡ (if b then later m o else o)
counts_here true m o h = later_twice m o
counts_here false m o h = absurd (let apart : false ≡ true = h in cc)

-- the stamp of an activity is no later than the greatest
counts : (xs : List Applied) (x : Applied) → Among x xs → is_activity x ≡ true → later (change_stamp x.change) (greatest_activity xs) ≡ greatest_activity xs
counts [] x a h = absurd a
counts (y ∷ ys) x (inl e) h =
    subst (λ (z : Applied). later (change_stamp z.change) (if is_activity y then later (change_stamp y.change) (greatest_activity ys) else greatest_activity ys) ≡ (if is_activity y then later (change_stamp y.change) (greatest_activity ys) else greatest_activity ys))
    (sym e) (counts_here (is_activity y) (change_stamp y.change) (greatest_activity ys) (subst (λ (z : Applied). is_activity z ≡ true) e h))
counts (y ∷ ys) x (inr a) h = counts_step (is_activity y) (change_stamp x.change) (change_stamp y.change) (greatest_activity ys) (counts ys x a h)

-- ---- commands at their node

-- one after the other
unfoldable pub all_with : Ttls → Option ℤ → List Applied → Node → Node
all_with ttls retention [] node = node
all_with ttls retention (y ∷ ys) node = all_with ttls retention ys (with_applied ttls retention y node)

-- ---- the node of the checkpoint

module _ (ttls : Ttls) (trace : Trace) (is : IsTrace trace) (certname : List ℕ) where
  abbrev retention : Option ℤ
  retention = greatest_retention trace

  abbrev xs : List Applied
  xs = life ttls certname trace

  abbrev active : Option ℤ
  active = greatest_activity xs

  abbrev reports : List Applied
  reports = sorted_by by_rank (kept_reports ttls certname trace)

  abbrev with_parts : Option Applied → Option Applied → Option Applied → Option Applied → List Applied → Node
  with_parts facts catalog deactivate expiration reports = record {
    certname = certname;
    active = active;
    facts = facts;
    catalog = catalog;
    deactivate = deactivate;
    expiration = expiration;
    reports = reports;
  }

  applied_both : (ys zs : List Applied) (node : Node) → all_with ttls retention (ys ++ zs) node ≡ all_with ttls retention zs (all_with ttls retention ys node)
  unfolding all_with
  applied_both [] zs node = refl
  applied_both (y ∷ ys) zs node = applied_both ys zs (with_applied ttls retention y node)

  -- a command of a kind is all that it changes
  module _ (x : Applied) (f c d e : Option Applied) (rs : List Applied) where
    one_facts : change_kind x.change ≡ kind.Facts → later (change_stamp x.change) active ≡ active → with_applied ttls retention x (with_parts None c d e rs) ≡ with_parts (Some x) c d e rs
    one_facts k h = rw (k, h) refl

    one_catalog : change_kind x.change ≡ kind.Catalog → later (change_stamp x.change) active ≡ active → with_applied ttls retention x (with_parts f None d e rs) ≡ with_parts f (Some x) d e rs
    one_catalog k h = rw (k, h) refl

    one_deactivate : change_kind x.change ≡ kind.Deactivate → with_applied ttls retention x (with_parts f c None e rs) ≡ with_parts f c (Some x) e rs
    one_deactivate k = rw k refl

    one_expiration : change_kind x.change ≡ kind.Expiration → with_applied ttls retention x (with_parts f c d None rs) ≡ with_parts f c d (Some x) rs
    one_expiration k = rw k refl

    one_report : change_kind x.change ≡ kind.Report → later (change_stamp x.change) active ≡ active
        → with_applied ttls retention x (with_parts f c d e rs) ≡ with_parts f c d e (with_report ttls retention x rs)
    one_report k h = rw (k, h) refl

  activity : (x : Applied) → (change_kind x.change ≡ kind.Facts) ⊎ ((change_kind x.change ≡ kind.Catalog) ⊎ (change_kind x.change ≡ kind.Report)) → is_activity x ≡ true
  activity x (inl k) = rw k refl
  activity x (inr (inl k)) = rw k refl
  activity x (inr (inr k)) = rw k refl

  facts_in : (o c d e : Option Applied) (rs : List Applied) → newest kind.Facts xs ≡ o → all_with ttls retention (if_kept o) (with_parts None c d e rs) ≡ with_parts o c d e rs
  unfolding all_with
  facts_in None c d e rs h = refl
  facts_in (Some x) c d e rs h =
      let of = newest_is_greatest kind.Facts xs x h in
      let k = kind_from_is_kind kind.Facts x of.kind in
      one_facts x None c d e rs k (counts xs x of.among (activity x (inl k)))

  catalog_in : (f o d e : Option Applied) (rs : List Applied) → newest kind.Catalog xs ≡ o → all_with ttls retention (if_kept o) (with_parts f None d e rs) ≡ with_parts f o d e rs
  unfolding all_with
  catalog_in f None d e rs h = refl
  catalog_in f (Some x) d e rs h =
      let of = newest_is_greatest kind.Catalog xs x h in
      let k = kind_from_is_kind kind.Catalog x of.kind in
      one_catalog x f None d e rs k (counts xs x of.among (activity x (inr (inl k))))

  deactivate_in : (f c o e : Option Applied) (rs : List Applied) → newest kind.Deactivate xs ≡ o → all_with ttls retention (if_kept o) (with_parts f c None e rs) ≡ with_parts f c o e rs
  unfolding all_with
  deactivate_in f c None e rs h = refl
  deactivate_in f c (Some x) e rs h = one_deactivate x f c None e rs (kind_from_is_kind kind.Deactivate x (newest_is_greatest kind.Deactivate xs x h).kind)

  expiration_in : (f c d o : Option Applied) (rs : List Applied) → newest kind.Expiration xs ≡ o → all_with ttls retention (if_kept o) (with_parts f c d None rs) ≡ with_parts f c d o rs
  unfolding all_with
  expiration_in f c d None rs h = refl
  expiration_in f c d (Some x) rs h = one_expiration x f c d None rs (kind_from_is_kind kind.Expiration x (newest_is_greatest kind.Expiration xs x h).kind)

  reports_in : (ys : List Applied) (f c d e : Option Applied) (rs : List Applied) → ((x : Applied) → Among x ys → Among x (kept_reports ttls certname trace))
      → all_with ttls retention ys (with_parts f c d e rs) ≡ with_parts f c d e (reports_all ttls retention ys rs)
  unfolding all_with
  reports_in [] f c d e rs h = refl
  reports_in (x ∷ ys) f c d e rs h =
      let a = h x (inl refl) in
      let k : change_kind x.change ≡ kind.Report = kind_from_is_kind kind.Report x (retained_are_reports_at x a) in
      ap (all_with ttls retention ys) (one_report x f c d e rs k (counts xs x (kept_among_life ttls trace certname x a) (activity x (inr (inr k)))))
      ∙ reports_in ys f c d e (with_report ttls retention x rs) (λ y b. h y (inr b))
    where
      retained_are_reports_at : (x : Applied) → Among x (kept_reports ttls certname trace) → is_kind kind.Report x ≡ true
      retained_are_reports_at x a = retained_are_reports ttls retention xs x (kept_among_stay ttls trace certname x a)

  -- together they make the node
  pub node_again : all_with ttls retention (commands_in ttls trace certname) (record (empty_node certname) { active = greatest_activity (life ttls certname trace) }) ≡ node_of ttls trace certname
  node_again =
      let f = newest kind.Facts xs in
      let c = newest kind.Catalog xs in
      let d = newest kind.Deactivate xs in
      let e = newest kind.Expiration xs in
      applied_both (if_kept f) (if_kept c ++ (if_kept d ++ (if_kept e ++ reports))) (with_parts None None None None [])
      ∙ ap (all_with ttls retention (if_kept c ++ (if_kept d ++ (if_kept e ++ reports)))) (facts_in f None None None [] refl)
      ∙ applied_both (if_kept c) (if_kept d ++ (if_kept e ++ reports)) (with_parts f None None None [])
      ∙ ap (all_with ttls retention (if_kept d ++ (if_kept e ++ reports))) (catalog_in f c None None [] refl)
      ∙ applied_both (if_kept d) (if_kept e ++ reports) (with_parts f c None None [])
      ∙ ap (all_with ttls retention (if_kept e ++ reports)) (deactivate_in f c d None [] refl)
      ∙ applied_both (if_kept e) reports (with_parts f c d None [])
      ∙ ap (all_with ttls retention reports) (expiration_in f c d e [] refl)
      ∙ reports_in reports f c d e [] (λ x a. among-from_sorted_by by_rank x (kept_reports ttls certname trace) a)
      ∙ ap (with_parts f c d e) (reports_again ttls trace certname is)

  -- each is a command of the node
  in_either : (ys zs : List Applied) → ((x : Applied) → Among x ys → certname ≡ change_certname x.change) → ((x : Applied) → Among x zs → certname ≡ change_certname x.change)
      → (x : Applied) → Among x (ys ++ zs) → certname ≡ change_certname x.change
  in_either [] zs h g x a = g x a
  in_either (y ∷ ys) zs h g x (inl e) = h x (inl e)
  in_either (y ∷ ys) zs h g x (inr a) = in_either ys zs (λ z b. h z (inr b)) g x a

  of_life : (x : Applied) → Among x xs → certname ≡ change_certname x.change
  of_life x a = (comes_from ttls certname trace x a).certname

  of_newest : (k : Kind) (o : Option Applied) → newest k xs ≡ o → (x : Applied) → Among x (if_kept o) → certname ≡ change_certname x.change
  of_newest k None h x a = absurd a
  of_newest k (Some y) h x (inl e) = of_life x (subst (λ z. Among z xs) (sym e) (newest_is_greatest k xs y h).among)
  of_newest k (Some y) h x (inr a) = absurd a

  pub of_kept : (x : Applied) → Among x (commands_in ttls trace certname) → certname ≡ change_certname x.change
  of_kept =
      in_either (if_kept (newest kind.Facts xs)) _ (of_newest kind.Facts (newest kind.Facts xs) refl)
      (in_either (if_kept (newest kind.Catalog xs)) _ (of_newest kind.Catalog (newest kind.Catalog xs) refl)
      (in_either (if_kept (newest kind.Deactivate xs)) _ (of_newest kind.Deactivate (newest kind.Deactivate xs) refl)
      (in_either (if_kept (newest kind.Expiration xs)) reports (of_newest kind.Expiration (newest kind.Expiration xs) refl)
      (λ x a. of_life x (kept_among_life ttls trace certname x (among-from_sorted_by by_rank x (kept_reports ttls certname trace) a))))))
