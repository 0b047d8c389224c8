-- The moments in the rows of a history's tables can be printed.
use Rattle.std.proofs.Common.{◌≡◌, ℕ, ◌≤◌, ℤ, ◌+ℤ◌, int_lt, List, [], ◌∷◌, sym, subst, refl, Bool, true, false, ◌&&◌, Option, Some, None, inl, inr, if◌then◌else◌}
use Rattle.std.specs.Prelude.{IfSome}
use Rattle.std.specs.List.{AllByRecursion, flat_map}
use Rattle.std.specs.Str.{bytes_eq}
use Rattle.table_laws.proofs.of_plain_laws.Members.{Among, Among-from_map, Among-from_flat_map, All-from_Among}
use Rattle.table_laws.specs.stamp_time.Range.{IsStampMoment, days}
use Rattle.table_laws.proofs.of_stamp_time.RangeLaws.{stamp_is_printable, later_is_printable, stamp_in_range}
use Rattle.table_laws.specs.text_spec.Json.{Json}
use Rattle.table_laws.specs.fleet_rows.Change.{change_certname, change_stamp}
use Rattle.table_laws.specs.fleet_rows.declared.applied.Applied.{Applied}
use Rattle.table_laws.specs.fleet_rows.declared.change.Change.{Change}
use Rattle.table_laws.specs.fleet_rows.declared.change.Change.TheVariants.{Facts, Catalog, Report, Deactivate, Expiration}
use Rattle.table_laws.specs.fleet_rows.declared.change.ReportChange.{ReportChange}
use Rattle.table_laws.specs.fleet_rows.declared.command.Kind.{Kind}
use Rattle.table_laws.specs.fleet_rows.declared.command.Kind.TheVariants as kind
use Rattle.table_laws.specs.fleet_rows.declared.row.Entity.{Entity}
use Rattle.table_laws.specs.fleet_rows.declared.row.Entity.TheVariants as entity
use Rattle.table_laws.specs.fleet_rows.declared.settings.Ttls.{Ttls}
use Rattle.table_laws.specs.history_spec.Facts.{rows_of_facts}
use Rattle.table_laws.specs.history_spec.Lawful.{HasStamp, IfMoment, IsChange}
use Rattle.table_laws.specs.history_spec.Life.{life, nodes, kept_reports, greatest_expiry}
use Rattle.table_laws.specs.history_spec.Node.{later, newest, is_activity, greatest_activity, greatest_deactivation, not_before, deactivated, may_expire, expired_at, expired, is_purged}
use Rattle.table_laws.specs.history_spec.Trace.{Trace, IsTrace, applied, swept, is_kind}
use Rattle.table_laws.proofs.of_history_laws.Moments.{later_is_stamp, has_stamp_moment}
use Rattle.table_laws.proofs.of_history_laws.NewestIsGreatest.{newest_is_greatest}
use Rattle.table_laws.specs.table_spec.Cells.{moment_or_null, fact_cells, resource_cells, edge_cells}
use Rattle.table_laws.specs.table_spec.Rows.{Cells, change_of, shown, environment_cell, timestamp_cell, report_cell, factset_rows, fact_rows, catalog_rows, resource_rows, edge_rows, report_rows, rows_of, rows}
use Rattle.table_laws.specs.table_spec.Sorted.{sorted_by, resource_cmp, edge_cmp, report_cmp}
use Rattle.table_laws.proofs.of_table_machine.TableLaws.{kept_among_life}
use Rattle.table_laws.proofs.RowNodes.{life_is_lawful}
use Rattle.table_laws.proofs.SortedLists.{among-from_sorted_by}
use Rattle.paging_text.specs.Shown.{IsPrintableCell, IsPrintableRow}
use Rattle.means_laws.specs.Laws.{TablesCanBePrinted}
use Rattle.table_laws.specs.stamp_time.Limits.{most_days}

-- ---- moments

stamped : (m : ℤ) → HasStamp m → IsStampMoment m
stamped m h = stamp_in_range h.0 m h.1

abbrev IfStamp : Option ℤ → Type 0
IfStamp o = IfSome o IsStampMoment

shown_stamp : (o : Option ℤ) → IfStamp o → IsPrintableCell (moment_or_null o)
shown_stamp None h = tt
shown_stamp (Some m) h = stamp_is_printable m h

shown_moment : (o : Option ℤ) → IfMoment o → IsPrintableCell (moment_or_null o)
shown_moment None h = tt
shown_moment (Some m) h = stamp_is_printable m (stamped m h)

either_stamp : (b : Bool) (o p : Option ℤ) → IfStamp o → IfStamp p → IfStamp (if b then o else p)
either_stamp true o p h k = h
either_stamp false o p h k = k

-- ---- the rows of one change

module _ (row : Cells) where
  of_factset : (change : Change) → IsChange change → Among row (factset_rows change) → IsPrintableRow row
  of_factset (Facts c) h (inl same) = subst IsPrintableRow (sym same) (tt, (tt, (tt, (tt, (tt, (stamp_is_printable c.stamp (stamped c.stamp h.stamp), tt))))))
  of_factset (Facts c) h (inr a) = absurd a
  of_factset (Catalog c) h a = absurd a
  of_factset (Report c) h a = absurd a
  of_factset (Deactivate c) h a = absurd a
  of_factset (Expiration c) h a = absurd a

  of_fact : (change : Change) → IsChange change → Among row (fact_rows change) → IsPrintableRow row
  of_fact (Facts c) h a = let fact = Among-from_map fact_cells (rows_of_facts c) row a in subst IsPrintableRow (sym fact.2) (tt, (tt, (tt, (tt, tt))))
  of_fact (Catalog c) h a = absurd a
  of_fact (Report c) h a = absurd a
  of_fact (Deactivate c) h a = absurd a
  of_fact (Expiration c) h a = absurd a

  of_catalog : (change : Change) → IsChange change → Among row (catalog_rows change) → IsPrintableRow row
  of_catalog (Facts c) h a = absurd a
  of_catalog (Catalog c) h (inl same) =
      subst IsPrintableRow (sym same) (tt, (tt, (tt, (tt, (tt, (tt, (tt, (stamp_is_printable c.stamp (stamped c.stamp h.stamp), (tt, (tt, tt))))))))))
  of_catalog (Catalog c) h (inr a) = absurd a
  of_catalog (Report c) h a = absurd a
  of_catalog (Deactivate c) h a = absurd a
  of_catalog (Expiration c) h a = absurd a

  of_resource : (change : Change) → IsChange change → Among row (resource_rows change) → IsPrintableRow row
  of_resource (Facts c) h a = absurd a
  of_resource (Catalog c) h a =
      let one = Among-from_map (resource_cells c) (sorted_by resource_cmp c.resources) row a in
      subst IsPrintableRow (sym one.2) (tt, (tt, (tt, (tt, (tt, (tt, (tt, (tt, (tt, (tt, tt))))))))))
  of_resource (Report c) h a = absurd a
  of_resource (Deactivate c) h a = absurd a
  of_resource (Expiration c) h a = absurd a

  of_edge : (change : Change) → IsChange change → Among row (edge_rows change) → IsPrintableRow row
  of_edge (Facts c) h a = absurd a
  of_edge (Catalog c) h a =
      let one = Among-from_map (edge_cells c) (sorted_by edge_cmp c.edges) row a in
      subst IsPrintableRow (sym one.2) (tt, (tt, (tt, (tt, (tt, (tt, tt))))))
  of_edge (Report c) h a = absurd a
  of_edge (Deactivate c) h a = absurd a
  of_edge (Expiration c) h a = absurd a

  of_report : (received : Option ℤ) → IfMoment received → (change : Change) → IsChange change → Among row (report_rows received change) → IsPrintableRow row
  of_report received r (Facts c) h a = absurd a
  of_report received r (Catalog c) h a = absurd a
  of_report received r (Report c) h (inl same) = subst IsPrintableRow (sym same) (
    tt,
    (
      tt,
      (
        shown_moment c.end_time h.end_time,
        (
          tt,
          (
            tt,
            (
              tt,
              (
                tt,
                (
                  tt,
                  (
                    tt,
                    (
                      stamp_is_printable c.stamp (stamped c.stamp h.stamp),
                      (tt, (shown_moment received r, (tt, (tt, (shown_moment c.start_time h.start_time, (tt, (tt, tt))))))),
                    ),
                  ),
                ),
              ),
            ),
          ),
        ),
      ),
    ),
  )
  of_report received r (Report c) h (inr a) = absurd a
  of_report received r (Deactivate c) h a = absurd a
  of_report received r (Expiration c) h a = absurd a

-- ---- the row of a node

abbrev IfChange : Option Change → Type 0
IfChange None = Unit {0}
IfChange (Some c) = IsChange c

environment_shown : (o : Option Change) → IsPrintableCell (environment_cell o)
environment_shown None = tt
environment_shown (Some c) = tt

timestamp_shown : (o : Option Change) → IfChange o → IsPrintableCell (timestamp_cell o)
timestamp_shown None h = tt
timestamp_shown (Some c) h = stamp_is_printable (change_stamp c) (has_stamp_moment c h)

report_shown : (column : ReportChange → Json) (o : Option Change) → IsPrintableCell (report_cell column o)
report_shown column None = tt
report_shown column (Some (Facts c)) = tt
report_shown column (Some (Catalog c)) = tt
report_shown column (Some (Report c)) = tt
report_shown column (Some (Deactivate c)) = tt
report_shown column (Some (Expiration c)) = tt

abbrev AreLawful : List Applied → Type 0
AreLawful xs = (x : Applied) → Among x xs → IsChange x.change

activity : (xs : List Applied) → AreLawful xs → IfStamp (greatest_activity xs)
activity [] each = tt
activity (x ∷ xs) each =
    let rest = activity xs (λ y a. each y (inr a)) in
    either_stamp (is_activity x) (later (change_stamp x.change) (greatest_activity xs)) (greatest_activity xs)
    (later_is_stamp (change_stamp x.change) (greatest_activity xs) (has_stamp_moment x.change (each x (inl refl))) rest) rest

deactivation : (xs : List Applied) → AreLawful xs → IfStamp (greatest_deactivation xs)
deactivation [] each = tt
deactivation (x ∷ xs) each =
    let rest = deactivation xs (λ y a. each y (inr a)) in
    either_stamp (is_kind kind.Deactivate x) (later (change_stamp x.change) (greatest_deactivation xs)) (greatest_deactivation xs)
    (later_is_stamp (change_stamp x.change) (greatest_deactivation xs) (has_stamp_moment x.change (each x (inl refl))) rest) rest

counted : (d a : Option ℤ) → IfStamp d → IfStamp (not_before d a)
counted None a h = tt
counted (Some d) None h = h
counted (Some d) (Some a) h = either_stamp (int_lt d a) None (Some d) tt h

deactivated_shown : (xs : List Applied) → AreLawful xs → IsPrintableCell (moment_or_null (deactivated xs))
deactivated_shown xs each = shown_stamp (deactivated xs) (counted (greatest_deactivation xs) (greatest_activity xs) (deactivation xs each))

either_shown : (b : Bool) (o p : Option ℤ) → IsPrintableCell (moment_or_null o) → IsPrintableCell (moment_or_null p) → IsPrintableCell (moment_or_null (if b then o else p))
either_shown true o p h k = h
either_shown false o p h k = k

expired_at_shown : (n : ℕ) → n ≤ most_days → (a e : Option ℤ) → IfStamp a → IsPrintableCell (moment_or_null (expired_at (days n) a e))
expired_at_shown n few None e h = tt
expired_at_shown n few (Some a) None h = tt
expired_at_shown n few (Some a) (Some e) h = either_shown (int_lt (a +ℤ days n) e) (Some (a +ℤ days n)) None (later_is_printable a n h few) tt

expired_shown : (ttls : Ttls) (sweep : Option ℤ) (xs : List Applied) → AreLawful xs → IsPrintableCell (moment_or_null (expired ttls sweep xs))
expired_shown ttls sweep xs each =
    either_shown (may_expire xs) (expired_at (days ttls.node_days) (greatest_activity xs) sweep) None
    (expired_at_shown ttls.node_days ttls.node.1 (greatest_activity xs) sweep (activity xs each)) tt

-- ---- when the commands of a life were received

module _ (ttls : Ttls) (n : List ℕ) (x : Applied) where
  of_command : (b : Bool) (y : Applied) (earlier : Trace) → IfMoment y.received → Among x (if b then y ∷ life ttls n earlier else life ttls n earlier) → (Among x (life ttls n earlier) → IfMoment x.received) → IfMoment x.received
  of_command true y earlier h (inl same) next = subst (λ (z : Applied). IfMoment z.received) (sym same) h
  of_command true y earlier h (inr a) next = next a
  of_command false y earlier h a next = next a

  of_sweep : (b : Bool) (earlier : Trace) → Among x (if b then [] else life ttls n earlier) → (Among x (life ttls n earlier) → IfMoment x.received) → IfMoment x.received
  of_sweep true earlier a next = absurd a
  of_sweep false earlier a next = next a

  received_then : (history : Trace) → IsTrace history → Among x (life ttls n history) → IfMoment x.received
  received_then [] h a = absurd a
  received_then (applied y ∷ earlier) h a = of_command (bytes_eq n (change_certname y.change)) y earlier h.1 a (received_then earlier h.4)
  received_then (swept kinds m ∷ earlier) h a =
      of_sweep (kinds.purge && is_purged ttls m (greatest_expiry (swept kinds m ∷ earlier)) (life ttls n earlier)) earlier a (received_then earlier h.1)

-- ---- all rows

module _ (ttls : Ttls) (history : Trace) (trace : IsTrace history) (n : List ℕ) where
  life_lawful : AreLawful (life ttls n history)
  life_lawful x a = life_is_lawful ttls n history trace x a

  kept_lawful : AreLawful (kept_reports ttls n history)
  kept_lawful x a = life_lawful x (kept_among_life ttls history n x a)

  newest_lawful : (k : Kind) (xs : List Applied) → AreLawful xs → (o : Option Applied) → newest k xs ≡ o → IfChange (change_of o)
  newest_lawful k xs each None e = tt
  newest_lawful k xs each (Some x) e = each x (newest_is_greatest k xs x e).among

  node_printable : (row : Cells) → Among row (rows_of entity.Nodes ttls history n) → IsPrintableRow row
  node_printable row (inl same) =
      let xs = life ttls n history in
      let catalog = change_of (newest kind.Catalog xs) in
      let facts = change_of (newest kind.Facts xs) in
      let report = change_of (newest kind.Report (kept_reports ttls n history)) in
      subst IsPrintableRow (sym same) (
        environment_shown catalog,
        (
          timestamp_shown catalog (newest_lawful kind.Catalog xs life_lawful (newest kind.Catalog xs) refl),
          (
            tt,
            (
              deactivated_shown xs life_lawful,
              (
                expired_shown ttls (greatest_expiry history) xs life_lawful,
                (
                  environment_shown facts,
                  (
                    timestamp_shown facts (newest_lawful kind.Facts xs life_lawful (newest kind.Facts xs) refl),
                    (
                      report_shown _ report,
                      (
                        report_shown _ report,
                        (
                          report_shown _ report,
                          (environment_shown report, (timestamp_shown report (newest_lawful kind.Report (kept_reports ttls n history) kept_lawful (newest kind.Report (kept_reports ttls n history)) refl), tt)),
                        ),
                      ),
                    ),
                  ),
                ),
              ),
            ),
          ),
        ),
      )
  node_printable row (inr b) = absurd b

  shown_printable : (shown_rows : Change → List Cells) (row : Cells) → ((change : Change) → IsChange change → Among row (shown_rows change) → IsPrintableRow row) → (o : Option Change) → IfChange o → Among row (shown shown_rows o) → IsPrintableRow row
  shown_printable shown_rows row each None h a = absurd a
  shown_printable shown_rows row each (Some c) h a = each c h a

  newest_printable : (k : Kind) (shown_rows : Change → List Cells) (row : Cells) → ((change : Change) → IsChange change → Among row (shown_rows change) → IsPrintableRow row) → Among row (shown shown_rows (change_of (newest k (life ttls n history)))) → IsPrintableRow row
  newest_printable k shown_rows row each a =
      shown_printable shown_rows row each (change_of (newest k (life ttls n history))) (newest_lawful k (life ttls n history) life_lawful (newest k (life ttls n history)) refl) a

  report_printable : (row : Cells) → Among row (rows_of entity.Reports ttls history n) → IsPrintableRow row
  report_printable row a =
      let report = Among-from_flat_map (λ (x : Applied). report_rows x.received x.change) (sorted_by report_cmp (kept_reports ttls n history)) row a in
      let kept = among-from_sorted_by report_cmp report.0 (kept_reports ttls n history) report.1 in
      of_report row report.0.received (received_then ttls n report.0 history trace (kept_among_life ttls history n report.0 kept)) report.0.change (kept_lawful report.0 kept) report.2

  each_printable : (e : Entity) (row : Cells) → Among row (rows_of e ttls history n) → IsPrintableRow row
  each_printable entity.Nodes row a = node_printable row a
  each_printable entity.Factsets row a = newest_printable kind.Facts factset_rows row (of_factset row) a
  each_printable entity.Facts row a = newest_printable kind.Facts fact_rows row (of_fact row) a
  each_printable entity.Catalogs row a = newest_printable kind.Catalog catalog_rows row (of_catalog row) a
  each_printable entity.Resources row a = newest_printable kind.Catalog resource_rows row (of_resource row) a
  each_printable entity.Edges row a = newest_printable kind.Catalog edge_rows row (of_edge row) a
  each_printable entity.Reports row a = report_printable row a
  each_printable _ row a = absurd a

pub tables_can_be_printed : TablesCanBePrinted
tables_can_be_printed e ttls history trace =
    All-from_Among IsPrintableRow (rows e ttls history)
    (λ row a. let block = Among-from_flat_map (rows_of e ttls history) (nodes ttls history) row a in each_printable ttls history trace block.0 e row block.2)
