-- Where a node is deactivated, expired and inactive, and where a purge takes it.
use Rattle.std.proofs.Common.{◌≡◌, ◌∙◌, ◌⊎◌, inl, inr, ℤ, List, refl, sym, ap, subst, Bool, true, false, ◌||◌, Option, Some, None, if◌then◌else◌, arith}
use Rattle.std.specs.Prelude.{int_lt, is_some, ◌<ℤ◌, ◌≤ℤ◌, ◌+ℤ◌, ◌-ℤ◌}
use Rattle.std.proofs.lemmas.Int.{ints}
use Rattle.spool_spec.proofs.of_plain_laws.Booleans.{no_truth}
use Rattle.spool_spec.proofs.of_plain_laws.Options.{none_some}
use Rattle.spool_spec.specs.fleet_rows.declared.change.Change.{Change}
use Rattle.spool_spec.specs.fleet_rows.declared.change.Change.TheVariants.{Facts, Catalog, Report, Deactivate, Expiration}
use Rattle.spool_spec.specs.fleet_rows.declared.change.ExpirationChange.{ExpirationChange}
use Rattle.spool_spec.specs.fleet_rows.declared.command.Kind.TheVariants as kind
use Rattle.spool_spec.specs.fleet_rows.declared.settings.Ttls.{Ttls}
use Rattle.spool_spec.specs.fleet_rows.declared.applied.Applied.{Applied}
use Rattle.spool_spec.specs.fleet_rows.Change.{change_stamp}
use Rattle.spool_spec.specs.history_spec.Node.{days, newest, greatest_activity, greatest_deactivation, not_before, deactivated, lets_expire, newest_lets_expire, may_expire, expired_at, expired, is_before}
use Rattle.history_laws.specs.GreatestLaws.{IsGreatestOf, HasStamped, IsActivity, IsDeactivation}
use Rattle.history_laws.specs.StateLaws.{IsDeactivatedAt, DeactivatedNodes, MayExpire, IsExpiredAt, ExpiredNodes, InactiveNodes, PurgedNodes}
use Rattle.history_laws.proofs.GreatestMoments.{activity_is_the_greatest, deactivation_is_the_greatest}

-- ---- deactivated

module _ (xs : List Applied) where
  of_none : (d : ℤ) → IsGreatestOf (HasStamped IsDeactivation xs) None → ¬ IsDeactivatedAt xs d
  of_none d none h = none d h.there

  is_at : (d : ℤ) (active : Option ℤ) → IsGreatestOf (HasStamped IsDeactivation xs) (Some d) → IsGreatestOf (HasStamped IsActivity xs) active
      → ((a : ℤ) → active ≡ Some a → a ≤ℤ d) → IsDeactivatedAt xs d
  is_at d None greatest none h = record {
    there = greatest.0;
    none_later = λ x c of. elim of [
      | inl deactivation ↦ greatest.1 (change_stamp x.change) (x, c, deactivation, refl)
      | inr activity ↦ absurd (none (change_stamp x.change) (x, c, activity, refl))
    ];
  }
  is_at d (Some a) greatest active h = record {
    there = greatest.0;
    none_later = λ x c of. elim of [
      | inl deactivation ↦ greatest.1 (change_stamp x.change) (x, c, deactivation, refl)
      | inr activity ↦ (let up : change_stamp x.change ≤ℤ a = active.1 (change_stamp x.change) (x, c, activity, refl) in let on : a ≤ℤ d = h a refl in grind (arith, ints))
    ];
  }

  one_greatest : (d e : ℤ) → IsGreatestOf (HasStamped IsDeactivation xs) (Some e) → IsDeactivatedAt xs d → e ≡ d
  one_greatest d e greatest h =
      let up : d ≤ℤ e = greatest.1 d h.there in
      let down : e ≤ℤ d = (let c = greatest.0 in subst (λ z. z ≤ℤ d) c.3 (h.none_later c.0 c.1 (inl c.2))) in
      grind (arith, ints)

  told : (d a : ℤ) (b : Bool) (deactivation : ℤ) → int_lt deactivation a ≡ b → IsGreatestOf (HasStamped IsDeactivation xs) (Some deactivation) → IsGreatestOf (HasStamped IsActivity xs) (Some a)
      → (if b then None else Some deactivation) ≡ Some d → IsDeactivatedAt xs d
  told d a true deactivation e g h k = none_some d k
  told d a false deactivation e g h k =
      let same : deactivation ≡ d = cc in
      let up : a ≤ℤ deactivation = grind (arith, ints) in
      subst (IsDeactivatedAt xs) same (is_at deactivation (Some a) g h (λ b is. let one : a ≡ b = cc in subst (λ z. z ≤ℤ deactivation) one up))

  to_words : (d : ℤ) (deactivation active : Option ℤ) → IsGreatestOf (HasStamped IsDeactivation xs) deactivation → IsGreatestOf (HasStamped IsActivity xs) active
      → not_before deactivation active ≡ Some d → IsDeactivatedAt xs d
  to_words d None active g h k = none_some d k
  to_words d (Some e) None g h k = let same : e ≡ d = cc in subst (IsDeactivatedAt xs) same (is_at e None g h (λ a is. none_some a is))
  to_words d (Some e) (Some a) g h k = told d a (int_lt e a) e refl g h k

  from_words : (d : ℤ) (deactivation active : Option ℤ) → IsGreatestOf (HasStamped IsDeactivation xs) deactivation → IsGreatestOf (HasStamped IsActivity xs) active
      → IsDeactivatedAt xs d → not_before deactivation active ≡ Some d
  from_words d None active g h at = absurd (of_none d g at)
  from_words d (Some e) None g h at = ap (λ z. Some z) (one_greatest d e g at)
  from_words d (Some e) (Some a) g h at =
      let same : e ≡ d = one_greatest d e g at in
      let up : a ≤ℤ d = (let c = h.0 in subst (λ z. z ≤ℤ d) c.3 (at.none_later c.0 c.1 (inr c.2))) in
      rw same (let not_later : int_lt d a ≡ false = grind (arith, ints) in rw not_later refl)

pub deactivated_nodes : DeactivatedNodes
deactivated_nodes xs d = (
  to_words xs d (greatest_deactivation xs) (greatest_activity xs) (deactivation_is_the_greatest xs) (activity_is_the_greatest xs),
  from_words xs d (greatest_deactivation xs) (greatest_activity xs) (deactivation_is_the_greatest xs) (activity_is_the_greatest xs),
)

-- ---- expired

lets : (change : Change) → lets_expire change ≡ true → (c : ExpirationChange) → change ≡ Expiration c → c.expire ≡ true
lets change h c e = ap lets_expire (sym e) ∙ h

may_in_words : (o : Option Applied) → newest_lets_expire o ≡ true → (x : Applied) (c : ExpirationChange) → o ≡ Some x → x.change ≡ Expiration c → c.expire ≡ true
may_in_words None h x c e f = none_some x e
may_in_words (Some y) h x c e f = let same : y ≡ x = cc in lets y.change h c (ap (λ (z : Applied). z.change) same ∙ f)

may_from_words : (o : Option Applied) → ((x : Applied) (c : ExpirationChange) → o ≡ Some x → x.change ≡ Expiration c → c.expire ≡ true) → newest_lets_expire o ≡ true
may_from_words None h = refl
may_from_words (Some y) h = by y.change refl
  where
    by : (change : Change) → y.change ≡ change → lets_expire change ≡ true
    by (Facts c) e = refl
    by (Catalog c) e = refl
    by (Report c) e = refl
    by (Deactivate c) e = refl
    by (Expiration c) e = h y c refl e

module _ (ttls : Ttls) (xs : List Applied) (t : ℤ) where
  ends : (b : Bool) (a e : ℤ) → int_lt (a +ℤ days ttls.node_days) e ≡ b → MayExpire xs → greatest_activity xs ≡ Some a → (if b then Some (a +ℤ days ttls.node_days) else None) ≡ Some t → IsExpiredAt ttls (Some e) xs t
  ends true a e f may active h =
      let same : a +ℤ days ttls.node_days ≡ t = cc in
      record { may = may; active = a; is_active = active; ended = sym same; swept = e; is_swept = refl; later = subst (λ z. z <ℤ e) same (grind (arith, ints)) }
  ends false a e f may active h = none_some t h

  expired_in_words : (b : Bool) (active sweep : Option ℤ) → may_expire xs ≡ b → greatest_activity xs ≡ active → (if b then expired_at (days ttls.node_days) active sweep else None) ≡ Some t → IsExpiredAt ttls sweep xs t
  expired_in_words false active sweep e f h = none_some t h
  expired_in_words true None sweep e f h = none_some t h
  expired_in_words true (Some a) None e f h = none_some t h
  expired_in_words true (Some a) (Some m) e f h = ends (int_lt (a +ℤ days ttls.node_days) m) a m refl (may_in_words (newest kind.Expiration xs) e) f h

  expired_from_words : (sweep : Option ℤ) → IsExpiredAt ttls sweep xs t → expired ttls sweep xs ≡ Some t
  expired_from_words sweep h =
      let may : may_expire xs ≡ true = may_from_words (newest kind.Expiration xs) h.may in
      let later : int_lt (h.active +ℤ days ttls.node_days) h.swept ≡ true = (let less : (h.active +ℤ days ttls.node_days) <ℤ h.swept = subst (λ z. z <ℤ h.swept) h.ended h.later in grind (arith, ints)) in
      (λ i. if may i then expired_at (days ttls.node_days) (h.is_active i) (h.is_swept i) else None)
      ∙ ap (λ b. if b then Some (h.active +ℤ days ttls.node_days) else None) later ∙ ap (λ z. Some z) (sym h.ended)

pub expired_nodes : ExpiredNodes
expired_nodes ttls sweep xs t = (expired_in_words ttls xs t (may_expire xs) (greatest_activity xs) sweep refl refl, expired_from_words ttls xs t sweep)

-- ---- inactive, and to be purged

some_of_two : (o p : Option ℤ) → (is_some o || is_some p) ≡ true → (t : ℤ) × ((o ≡ Some t) ⊎ (p ≡ Some t))
some_of_two (Some t) p h = (t, inl refl)
some_of_two None (Some t) h = (t, inr refl)
some_of_two None None h = no_truth h

or_right : (b : Bool) → (b || true) ≡ true
or_right true = refl
or_right false = refl

either_some : (o p : Option ℤ) (t : ℤ) → (o ≡ Some t) ⊎ (p ≡ Some t) → (is_some o || is_some p) ≡ true
either_some o p t (inl e) = ap (λ z. is_some z || is_some p) e
either_some o p t (inr e) = ap (λ z. is_some o || is_some z) e ∙ or_right (is_some o)

pub inactive_nodes : InactiveNodes
inactive_nodes ttls sweep xs = (
  some_of_two (deactivated xs) (expired ttls sweep xs),
  λ h. either_some (deactivated xs) (expired ttls sweep xs) h.0 h.1,
)

before_of_two : (edge : ℤ) (o p : Option ℤ) (b : Bool) → is_before o edge ≡ b → (b || is_before p edge) ≡ true → (t : ℤ) × ((o ≡ Some t) ⊎ (p ≡ Some t)) × (t <ℤ edge)
before_of_two edge None p true e h = no_truth e
before_of_two edge (Some t) p true e h = (t, inl refl, grind (arith, ints))
before_of_two edge o None false e h = no_truth h
before_of_two edge o (Some t) false e h = (t, inr refl, grind (arith, ints))

either_before : (edge : ℤ) (o p : Option ℤ) (t : ℤ) → (o ≡ Some t) ⊎ (p ≡ Some t) → t <ℤ edge → (is_before o edge || is_before p edge) ≡ true
either_before edge o p t (inl e) h = let less : int_lt t edge ≡ true = grind (arith, ints) in ap (λ z. is_before z edge || is_before p edge) e ∙ ap (λ b. b || is_before p edge) less
either_before edge o p t (inr e) h = let less : int_lt t edge ≡ true = grind (arith, ints) in ap (λ z. is_before o edge || is_before z edge) e ∙ ap (λ b. is_before o edge || b) less ∙ or_right (is_before o edge)

pub purged_nodes : PurgedNodes
purged_nodes ttls m sweep xs =
    let edge = m -ℤ days ttls.purge_days in (
      before_of_two edge (deactivated xs) (expired ttls sweep xs) (is_before (deactivated xs) edge) refl,
      λ h. either_before edge (deactivated xs) (expired ttls sweep xs) h.0 h.1 h.2,
    )
