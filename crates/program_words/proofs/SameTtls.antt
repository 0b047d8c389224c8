-- Lifetimes are told by their numbers.
use Rattle.std.proofs.Common.{◌≡◌, IfSome}
use Rattle.std.specs.Coded.{×_prop, le_prop}
use Rattle.std.proofs.Props.{props}
use mathlib.Core.HLevel.{is_prop→PathP}
use Rattle.spool_spec.specs.fleet_rows.Lifetime.{IsLifetime, IsReportCount}
use Rattle.spool_spec.specs.fleet_rows.declared.settings.Ttls.{Ttls}

pub same_ttls : (a b : Ttls) → a.node_days ≡ b.node_days → a.purge_days ≡ b.purge_days → a.report_days ≡ b.report_days → a.report_count ≡ b.report_count → a ≡ b
same_ttls a b node purge report count = λ i. record {
  node_days = node i;
  purge_days = purge i;
  report_days = report i;
  report_count = count i;
  node = is_prop→PathP (λ j. IsLifetime (node j)) (λ j. ×_prop le_prop le_prop) a.node b.node i;
  purge = is_prop→PathP (λ j. IsLifetime (purge j)) (λ j. ×_prop le_prop le_prop) a.purge b.purge i;
  report = is_prop→PathP (λ j. IsLifetime (report j)) (λ j. ×_prop le_prop le_prop) a.report b.report i;
  count = is_prop→PathP (λ j. IfSome (count j) IsReportCount) (λ j. Prim.hlevel props) a.count b.count i;
}
