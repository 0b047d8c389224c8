-- The lists of a report can be packed, and a packed report is the report.
use Rattle.std.proofs.Common.{◌≡◌, ◌∙◌, ℕ, ℤ, ◌≤◌, List, [], Option, IfSome, sym, ap, subst, arith, lit≤}
use Rattle.checkpoint_spec.proofs.of_table_machine.ReportColumns.{are_values}
use Rattle.checkpoint_spec.proofs.of_table_laws.PrintedCells.{items_most}
use Rattle.checkpoint_spec.specs.text_spec.Json.{Json, array, items_of, levels}
use Rattle.packed_values.specs.json_machine.Values.{IsValue}
use Rattle.checkpoint_spec.specs.fleet_rows.declared.change.Change.TheVariants as change
use Rattle.checkpoint_spec.specs.fleet_rows.declared.change.ReportChange.{ReportChange}
use Rattle.checkpoint_spec.specs.stamp_time.Range.{IsStampMoment}
use Rattle.checkpoint_spec.specs.history_spec.Lawful.{IsList}
use Rattle.checkpoint_spec.specs.history_spec.Report.{report_object}
use Rattle.checkpoint_spec.specs.history_spec.Trace.{applied_as}
use Rattle.checkpoint_spec.specs.table_spec.Cells.{hash}
use Rattle.row_cells.specs.Texts.{HasPrintableMoments}
use Rattle.kept_nodes.specs.declared.kept.Report.{Report}
use Rattle.kept_nodes.specs.Kept.{IsReport}
use Rattle.kept_nodes.specs.Seen.{report_seen}

-- ---- a list of JSON values as an array

pub list_values : (js : List Json) → IsList js → IsValue (array (items_of js))
list_values js is = are_values 125 js is.elements

pub list_levels : (js : List Json) → IsList js → levels (array (items_of js)) ≤ 127
list_levels js is = let within = items_most 125 js is.elements in omega (arith, within)

pub none_values : (js : List Json) → js ≡ [] → IsValue (array (items_of js))
none_values js none = subst (λ (ks : List Json). IsValue (array (items_of ks))) (sym none) tt

pub none_levels : (js : List Json) → js ≡ [] → levels (array (items_of js)) ≤ 127
none_levels js none = subst (λ (ks : List Json). levels (array (items_of ks)) ≤ 127) (sym none) (lit≤ tt)

-- ---- a report that is unpacked, or kept

pub printable_same : (a b : ReportChange) → a ≡ b → HasPrintableMoments b → HasPrintableMoments a
printable_same a b same = subst HasPrintableMoments (sym same)

module _ (result : Report) (receipt : ℕ) (received : Option ℤ) (packed c : ReportChange) (digest : Option (List ℕ))
    (made : result ≡ record { receipt = receipt; received = received; change = packed; hash = digest }) (same : packed ≡ c) where
  held : result ≡ record { receipt = receipt; received = received; change = c; hash = digest }
  held = made ∙ (λ i. record { receipt = receipt; received = received; change = same i; hash = digest })

  pub held_is : HasPrintableMoments c → IfSome digest (λ h. h ≡ hash (report_object c)) → IsStampMoment c.stamp → IsReport result
  held_is printable shown stamp = subst IsReport (sym held) (printable, shown, stamp)

  pub held_seen : report_seen result ≡ applied_as receipt received (change.Report c)
  held_seen = ap report_seen held
