-- Kinds are told apart by their numbers, and ranks are ordered totally.
use Rattle.std.proofs.Common.{◌≡◌, ◌∙◌, ℕ, zero, suc, arith, refl, sym, ap, true, false}
use Rattle.std.specs.declared.cmp.Ordering.{Ordering}
use Rattle.std.specs.declared.cmp.Ordering.TheVariants.{Less, Equal, Greater}
use Rattle.std.specs.Ordering.{is_lt, is_gt, ordering_reverse}
use Rattle.std.specs.Cmp.{IsTotalOrder}
use Rattle.std.proofs.lemmas.Cmp.{nat_cmp_total, int_cmp_total, on_total, then_total, upto, tied_itself}
use Rattle.spool_spec.proofs.of_plain_laws.Orderings.{less_not_greater}
use Rattle.spool_spec.specs.fleet_rows.Rank.{rank_cmp}
use Rattle.spool_spec.specs.fleet_rows.declared.rank.Rank.{Rank}
use Rattle.spool_spec.specs.fleet_rows.declared.command.Kind.{Kind}
use Rattle.spool_spec.specs.fleet_rows.declared.command.Kind.TheVariants.{Facts, Catalog, Report, Deactivate, Expiration}
use Rattle.spool_spec.specs.fleet_rows.Change.{change_kind, kind_number}
use Rattle.spool_spec.specs.fleet_rows.declared.applied.Applied.{Applied}
use Rattle.spool_spec.specs.history_spec.Trace.{is_kind}

-- ---- kinds

kind_at : ℕ → Kind
kind_at zero = Facts
kind_at (suc zero) = Catalog
kind_at (suc (suc zero)) = Report
kind_at (suc (suc (suc zero))) = Deactivate
kind_at (suc (suc (suc (suc n)))) = Expiration

kind_at-number : (k : Kind) → kind_at (kind_number k) ≡ k
unfolding kind_at
kind_at-number Facts = refl
kind_at-number Catalog = refl
kind_at-number Report = refl
kind_at-number Deactivate = refl
kind_at-number Expiration = refl

pub kind_from_is_kind : (k : Kind) (x : Applied) → is_kind k x ≡ true → change_kind x.change ≡ k
kind_from_is_kind k x h =
    let number : kind_number (change_kind x.change) ≡ kind_number k = grind arith in
    sym (kind_at-number (change_kind x.change)) ∙ ap kind_at number ∙ kind_at-number k

pub is_kind_from_kind : (k : Kind) (x : Applied) → change_kind x.change ≡ k → is_kind k x ≡ true
is_kind_from_kind k x h = rw h (grind arith)

-- ---- ranks

pub rank_cmp_total : IsTotalOrder rank_cmp
rank_cmp_total = then_total (on_total (λ (r : Rank). r.stamp) int_cmp_total) (on_total (λ (r : Rank). r.receipt) nat_cmp_total)

-- no rank is below itself
pub not_below_itself : (a : Rank) → is_lt (rank_cmp a a) ≡ false
not_below_itself a = ap is_lt (tied_itself rank_cmp_total a)

turned : (o p : Ordering) → o ≡ ordering_reverse p → is_lt o ≡ is_gt p
turned o Less e = ap is_lt e
turned o Equal e = ap is_lt e
turned o Greater e = ap is_lt e

pub turned_round : (a b : Rank) → is_lt (rank_cmp a b) ≡ is_gt (rank_cmp b a)
turned_round a b = turned (rank_cmp a b) (rank_cmp b a) (rank_cmp_total.antisymm a b)

-- of two ranks not both are below the other
pub not_below_back : (a b : Rank) → is_lt (rank_cmp a b) ≡ true → is_lt (rank_cmp b a) ≡ false
not_below_back a b h = turned_round b a ∙ less_not_greater (rank_cmp a b) h

-- what isn't below b isn't below what b isn't below
pub not_below_further : (a b c : Rank) → is_lt (rank_cmp a b) ≡ false → is_lt (rank_cmp b c) ≡ false → is_lt (rank_cmp a c) ≡ false
not_below_further a b c h k =
    turned_round a c ∙ upto rank_cmp_total c b a (sym (turned_round b c) ∙ k) (sym (turned_round a b) ∙ h)
