-- Lifetimes are known by the record that tells them.
use Rattle.std.proofs.Common.{◌≡◌, ℕ, Option, Some, None, IfSome, ap, refl}
use mathlib.Core.HLevel.{is_prop→PathP, ×_prop}
use native.Mathlib.Bridge.{le_prop}
use Rattle.core_state.specs.fleet_rows.Lifetime.{IsLifetime, IsReportCount}
use Rattle.core_state.specs.fleet_rows.declared.settings.Ttls.{Ttls}
use Rattle.core_state.specs.core_spec.Checkpoints.{settings, settings_with}

record SameDays (a b : Ttls) (m n : Option ℕ) : Type 0 where
  pub node : a.node_days ≡ b.node_days
  pub purge : a.purge_days ≡ b.purge_days
  pub report : a.report_days ≡ b.report_days
  pub count : m ≡ n

same_days : (a b : Ttls) (m n : Option ℕ) → settings_with a m ≡ settings_with b n → SameDays a b m n
same_days a b None None is = record { node = cc; purge = cc; report = cc; count = refl }
same_days a b None (Some n) is = absurd cc
same_days a b (Some m) None is = absurd cc
same_days a b (Some m) (Some n) is = record { node = cc; purge = cc; report = cc; count = let same : m ≡ n = cc in ap (λ (k : ℕ). Some k) same }

count_prop : (o : Option ℕ) (x y : IfSome o IsReportCount) → x ≡ y
count_prop None x y = refl
count_prop (Some n) x y = ×_prop le_prop le_prop x y

pub same_ttls : (a b : Ttls) → settings a ≡ settings b → a ≡ b
same_ttls a b is =
    let d = same_days a b a.report_count b.report_count is in
    λ i. record {
      node_days = d.node i;
      purge_days = d.purge i;
      report_days = d.report i;
      report_count = d.count i;
      node = is_prop→PathP (λ j. IsLifetime (d.node j)) (λ j. ×_prop le_prop le_prop) a.node b.node i;
      purge = is_prop→PathP (λ j. IsLifetime (d.purge j)) (λ j. ×_prop le_prop le_prop) a.purge b.purge i;
      report = is_prop→PathP (λ j. IsLifetime (d.report j)) (λ j. ×_prop le_prop le_prop) a.report b.report i;
      count = is_prop→PathP (λ j. IfSome (d.count j) IsReportCount) (λ j. count_prop (d.count j)) a.count b.count i;
    }
