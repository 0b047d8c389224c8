-- What a node that is kept says is what its commands say.
use Rattle.std.proofs.Common.{◌≡◌, ◌∙◌, ℕ, ℤ, List, [], ◌∷◌, refl, sym, ap, arith, Bool, true, false, ◌||◌, Option, Some, None, if◌then◌else◌}
use Rattle.std.specs.Prelude.{◌-ℤ◌, ◌<ℤ◌, int_lt, is_some}
use Rattle.std.specs.declared.cmp.Ordering.{Ordering}
use Rattle.std.specs.declared.cmp.Ordering.TheVariants.{Less, Equal, Greater}
use Rattle.std.specs.Ordering.{is_lt, int_cmp, nat_cmp, ordering_then}
use Rattle.std.proofs.lemmas.Cmp.{int_ranked}
use Rattle.std.proofs.lemmas.Int.{ints}
use Rattle.table_spec.specs.fleet_rows.declared.command.Kind.TheVariants as kind
use Rattle.table_spec.specs.fleet_rows.declared.settings.Ttls.{Ttls}
use Rattle.table_spec.specs.fleet_rows.Change.{change_stamp}
use Rattle.table_spec.specs.fleet_rows.declared.applied.Applied.{Applied}
use Rattle.table_spec.specs.history_spec.Trace.{is_kind}
use Rattle.table_spec.specs.history_spec.Node.{later, greater, newest, greatest_deactivation, greatest_activity, deactivated, expired, inactive, is_purged, not_before, is_before, days}
use Rattle.table_machine.specs.Table.{node_with}
use Rattle.table_machine.specs.Node.{stamp_of_newest, node_deactivated, node_expired, node_inactive, node_purged}

chosen_later : (a b : ℤ) → a <ℤ b → b ≡ (if int_lt a b then b else a)
chosen_later a b h = grind (arith, ints)

chosen_first : (a b : ℤ) → b <ℤ a → a ≡ (if int_lt a b then b else a)
chosen_first a b h = grind (arith, ints)

chosen_same : (a b : ℤ) → a ≡ b → a ≡ (if int_lt a b then b else a)
chosen_same a b h = grind (arith, ints)

either_stamp : (b : Bool) (a : ℤ) (x y : Applied) → change_stamp x.change ≡ a → change_stamp y.change ≡ a → change_stamp (if b then y else x).change ≡ a
either_stamp true a x y e f = f
either_stamp false a x y e f = e

-- the stamp of the greater of two ranks is the later stamp
later_stamp : (o : Ordering) (a b : ℤ) (x y : Applied) (p : Ordering) → change_stamp x.change ≡ a → change_stamp y.change ≡ b → int_cmp a b ≡ o → change_stamp (if is_lt (ordering_then o p) then y else x).change ≡ (if int_lt a b then b else a)
later_stamp Less a b x y p e f h = let less : a <ℤ b = int_ranked a b Less (sym h) in f ∙ chosen_later a b less
later_stamp Equal a b x y p e f h =
    let same : a ≡ b = int_ranked a b Equal (sym h) in either_stamp (is_lt p) a x y e (f ∙ sym same) ∙ chosen_same a b same
later_stamp Greater a b x y p e f h = let greater : b <ℤ a = int_ranked a b Greater (sym h) in e ∙ chosen_first a b greater

greater_stamp : (x : Applied) (o : Option Applied) → stamp_of_newest (greater x o) ≡ later (change_stamp x.change) (stamp_of_newest o)
greater_stamp x None = refl
greater_stamp x (Some y) =
    ap (λ m. Some m) (later_stamp (int_cmp (change_stamp x.change) (change_stamp y.change)) (change_stamp x.change) (change_stamp y.change) x y (nat_cmp x.receipt y.receipt) refl refl refl)

stamp_step : (b : Bool) (x : Applied) (o : Option Applied) (m : Option ℤ) → stamp_of_newest o ≡ m → stamp_of_newest (if b then greater x o else o) ≡ (if b then later (change_stamp x.change) m else m)
stamp_step true x o m h = greater_stamp x o ∙ ap (later (change_stamp x.change)) h
stamp_step false x o m h = h

pub stamp_of_newest_deactivation : (xs : List Applied) → stamp_of_newest (newest kind.Deactivate xs) ≡ greatest_deactivation xs
stamp_of_newest_deactivation [] = refl
stamp_of_newest_deactivation (x ∷ xs) = stamp_step (is_kind kind.Deactivate x) x (newest kind.Deactivate xs) (greatest_deactivation xs) (stamp_of_newest_deactivation xs)

module _ (ttls : Ttls) (retention : Option ℤ) (certname : List ℕ) (xs : List Applied) where
  pub says_deactivated : node_deactivated (node_with ttls retention certname xs) ≡ deactivated xs
  says_deactivated = ap (λ m. not_before m (greatest_activity xs)) (stamp_of_newest_deactivation xs)

  pub says_expired : (expiry : Option ℤ) → node_expired ttls expiry (node_with ttls retention certname xs) ≡ expired ttls expiry xs
  says_expired expiry = refl

  pub says_inactive : (expiry : Option ℤ) → node_inactive ttls expiry (node_with ttls retention certname xs) ≡ inactive ttls expiry xs
  says_inactive expiry = ap (λ m. is_some m || is_some (expired ttls expiry xs)) says_deactivated

  pub says_purged : (m : ℤ) (expiry : Option ℤ) → node_purged ttls m expiry (node_with ttls retention certname xs) ≡ is_purged ttls m expiry xs
  says_purged m expiry = ap (λ t. is_before t (m -ℤ days ttls.purge_days) || is_before (expired ttls expiry xs) (m -ℤ days ttls.purge_days)) says_deactivated
