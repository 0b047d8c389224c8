-- The rows of the table are those of the history.
use Rattle.std.proofs.Common.{◌≡◌, ◌∙◌, ℕ, List, [], ◌∷◌, refl, sym, ap, Bool, true, false, ◌&&◌, Option, Some, None, cond, inl, inr}
use Rattle.std.specs.Prelude.{nat_lt, length}
use Rattle.std.specs.List.{filter, flat_map}
use Rattle.std.specs.Cmp.{IsTotalOrder}
use Rattle.std.specs.declared.cmp.Ordering.{Ordering}
use Rattle.std.specs.declared.cmp.Ordering.TheVariants.{Less, Equal, Greater}
use Rattle.table_spec.specs.fleet_rows.declared.command.Kind.{Kind}
use Rattle.table_spec.specs.fleet_rows.declared.command.Kind.TheVariants as kind
use Rattle.table_spec.specs.fleet_rows.declared.row.Entity.{Entity}
use Rattle.table_spec.specs.fleet_rows.declared.row.Entity.TheVariants.{Nodes, Factsets, Facts, Catalogs, Resources, Edges, Reports}
use Rattle.table_spec.specs.fleet_rows.declared.settings.Ttls.{Ttls}
use Rattle.table_spec.specs.fleet_rows.declared.applied.Applied.{Applied}
use Rattle.table_spec.specs.history_spec.Trace.{is_kind, Trace, IsTrace}
use Rattle.table_spec.specs.history_spec.Node.{newest, expired}
use Rattle.table_spec.specs.history_spec.Report.{is_retained, is_below, distinct, greatest}
use Rattle.table_spec.specs.history_spec.Life.{life, nodes, greatest_expiry, greatest_retention, kept_reports}
use Rattle.table_spec.proofs.of_plain_laws.Members.{Among, Among-from_filter}
use Rattle.history_laws.proofs.NewestIsGreatest.{newest_is_greatest, none_of_kind}
use Rattle.table_spec.specs.Rows.{report_rows, node_cells, change_of, newest_change, rows_of}
use Rattle.table_spec.specs.Sorted.{insert_by, sorted_by, report_cmp}
use Rattle.table_machine.specs.Places.{put, sorted}
use Rattle.table_machine.specs.Table.{node_of}
use Rattle.table_machine.specs.Rows.{node_rows}
use Rattle.table_machine.specs.Laws.{RowsAreThoseOfTheHistory, NodesHaveTheNewestReport}
use Rattle.table_machine.proofs.Risen.{among-from_sorted, among-sorted}
use Rattle.table_machine.proofs.ReportOrder.{report_cmp_total}
use Rattle.table_machine.proofs.Ranked.{Apart}
use Rattle.table_machine.proofs.KeptReports.{ReceiptsTell, one_receipt, retained_are_reports, distinct-filter, kept_are_apart}
use Rattle.table_machine.proofs.ReportStamps.{life_is_distinct}
use Rattle.table_machine.proofs.TableLaws.{stay, life_told, kept_tell, kept_among_life, flat_map-map, nodes_tell_their_deactivation}

-- ---- two ways to sort what has distinct keys

module _ {K : Type 0} (c : K → K → Ordering) (o : IsTotalOrder c) where
  insert_step : (x y : K) (ys : List K) (p : Ordering) → c x y ≡ p → (c x y ≡ Equal → ⊥) → insert_by c x ys ≡ put (c x) x (λ z. z) ys → insert_by c x (y ∷ ys) ≡ put (c x) x (λ z. z) (y ∷ ys)
  insert_step x y ys Less e apart next = rw e refl
  insert_step x y ys Equal e apart next = absurd (apart e)
  insert_step x y ys Greater e apart next = rw e (ap (λ zs. y ∷ zs) next)

  insert-put : (x : K) (ys : List K) → ((y : K) → Among y ys → c x y ≡ Equal → ⊥) → insert_by c x ys ≡ put (c x) x (λ z. z) ys
  insert-put x [] apart = refl
  insert-put x (y ∷ ys) apart = insert_step x y ys (c x y) refl (apart y (inl refl)) (insert-put x ys (λ z a. apart z (inr a)))

  sorted_by-sorted : (xs : List K) → Apart c o xs → sorted_by c xs ≡ sorted c xs
  sorted_by-sorted [] apart = refl
  sorted_by-sorted (x ∷ xs) apart =
      ap (insert_by c x) (sorted_by-sorted xs apart.1)
      ∙ insert-put x (sorted c xs) (λ y a. apart.0 y (among-from_sorted c o y xs a))

-- ---- reports that are kept have distinct keys

apart_step : (b : Bool) (p : Applied → Bool) (x : Applied) (xs : List Applied) → Apart report_cmp report_cmp_total (x ∷ xs) → Apart report_cmp report_cmp_total (filter p xs) → Apart report_cmp report_cmp_total (cond b (x ∷ filter p xs) (filter p xs))
apart_step true p x xs h next = (λ y a. h.0 y (Among-from_filter p xs y a).0, next)
apart_step false p x xs h next = next

apart-filter : (p : Applied → Bool) (xs : List Applied) → Apart report_cmp report_cmp_total xs → Apart report_cmp report_cmp_total (filter p xs)
apart-filter p [] h = tt
apart-filter p (x ∷ xs) h = apart_step (p x) p x xs h (apart-filter p xs h.1)

greatest_apart : (count : Option ℕ) (xs : List Applied) → Apart report_cmp report_cmp_total xs → Apart report_cmp report_cmp_total (greatest count xs)
greatest_apart None xs h = h
greatest_apart (Some n) xs h = apart-filter (λ x. nat_lt (length (filter (is_below x) xs)) n) xs h

kept_in_order : (ttls : Ttls) (history : Trace) (certname : List ℕ) → IsTrace history → (node_of ttls history certname).reports ≡ sorted_by report_cmp (kept_reports ttls certname history)
kept_in_order ttls history certname h =
    let retention = greatest_retention history in
    let all = retained_are_reports ttls retention (life ttls certname history) in
    let d = distinct-filter (λ y. is_kind kind.Report y && is_retained ttls retention y) (life ttls certname history) (life_is_distinct ttls certname history h) in
    sym (sorted_by-sorted report_cmp report_cmp_total (kept_reports ttls certname history) (greatest_apart ttls.report_count (distinct (stay ttls history certname)) (kept_are_apart (stay ttls history certname) all d)))

-- ---- the newest report

same_newest : (k : Kind) (xs ys : List Applied) (o p : Option Applied) → newest k xs ≡ o → newest k ys ≡ p → ((x : Applied) → Among x xs → Among x ys) → ((x : Applied) → Among x ys → Among x xs) → ReceiptsTell ys → o ≡ p
same_newest k xs ys None None e f there back tell = refl
same_newest k xs ys None (Some y) e f there back tell =
    let g = newest_is_greatest k ys y f in
    absurd (let apart : false ≡ true = sym (none_of_kind k xs e y (back y g.among)) ∙ g.kind in cc)
same_newest k xs ys (Some x) None e f there back tell =
    let g = newest_is_greatest k xs x e in
    absurd (let apart : false ≡ true = sym (none_of_kind k ys f x (there x g.among)) ∙ g.kind in cc)
same_newest k xs ys (Some x) (Some y) e f there back tell =
    let g = newest_is_greatest k xs x e in
    let h = newest_is_greatest k ys y f in
    ap (λ z. Some z) (tell x y (there x g.among) h.among (one_receipt x y (g.greatest y (back y h.among) h.kind) (h.greatest x (there x g.among) g.kind)))

pub nodes_have_the_newest_report : NodesHaveTheNewestReport
nodes_have_the_newest_report ttls history certname h =
    let kept = kept_reports ttls certname history in
    same_newest kind.Report (sorted report_cmp kept) kept (newest kind.Report (sorted report_cmp kept)) (newest kind.Report kept) refl refl
    (λ x a. among-from_sorted report_cmp report_cmp_total x kept a) (λ x a. among-sorted report_cmp report_cmp_total x kept (kept_tell ttls history certname h) a)
    (λ x y a b e. life_told ttls history certname h x y (kept_among_life ttls history certname x a) (kept_among_life ttls history certname y b) e)

-- ---- the rows

node_rows_are : (entity : Entity) (ttls : Ttls) (history : Trace) → IsTrace history → (n : List ℕ) → node_rows entity ttls (greatest_expiry history) (node_of ttls history n) ≡ rows_of entity ttls history n
node_rows_are Nodes ttls history h n =
    λ i. node_cells n (nodes_tell_their_deactivation ttls history n i) (expired ttls (greatest_expiry history) (life ttls n history)) (newest_change kind.Facts ttls history n) (newest_change kind.Catalog ttls history n) (change_of (nodes_have_the_newest_report ttls history n h i)) ∷ []
node_rows_are Factsets ttls history h n = refl
node_rows_are Facts ttls history h n = refl
node_rows_are Catalogs ttls history h n = refl
node_rows_are Resources ttls history h n = refl
node_rows_are Edges ttls history h n = refl
node_rows_are Reports ttls history h n = ap (flat_map (λ (x : Applied). report_rows x.received x.change)) (kept_in_order ttls history n h)
node_rows_are _ ttls history h n = refl

pub rows_are_those_of_the_history : RowsAreThoseOfTheHistory
rows_are_those_of_the_history entity ttls history h =
    sym (flat_map-map (node_rows entity ttls (greatest_expiry history)) (node_of ttls history) (nodes ttls history))
    ∙ (λ i. flat_map (λ n. node_rows_are entity ttls history h n i) (nodes ttls history))
