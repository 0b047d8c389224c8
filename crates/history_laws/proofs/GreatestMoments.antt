-- Greatest moments: of the stamps of a node's commands, and of sweeps.
use Rattle.std.proofs.Common.{◌≡◌, ◌∙◌, ◌⊎◌, inl, inr, ℤ, pos, List, [], ◌∷◌, refl, sym, ap, subst, Bool, true, false, ◌||◌, Option, Some, None, if◌then◌else◌, arith}
use Rattle.std.specs.Prelude.{int_lt, ◌≤ℤ◌}
use Rattle.std.specs.List.{Contains}
use Rattle.std.proofs.lemmas.Int.{ints}
use Rattle.spool_spec.proofs.of_plain_laws.Booleans.{no_truth}
use Rattle.spool_spec.specs.fleet_rows.declared.command.Kind.TheVariants as kind
use Rattle.spool_spec.specs.fleet_rows.declared.settings.Kinds.{Kinds}
use Rattle.spool_spec.specs.fleet_rows.declared.applied.Applied.{Applied}
use Rattle.spool_spec.specs.fleet_rows.Change.{change_stamp}
use Rattle.spool_spec.specs.history_spec.Trace.{TraceEvent, applied, swept, Trace, is_kind}
use Rattle.spool_spec.specs.history_spec.Node.{later, is_activity, greatest_activity, greatest_deactivation}
use Rattle.spool_spec.specs.history_spec.Life.{greatest_expiry, greatest_retention}
use Rattle.history_laws.specs.GreatestLaws.{IsGreatestOf, HasStamped, HasSwept, IsActivity, IsDeactivation, ActivityIsTheGreatest, DeactivationIsTheGreatest, ExpiryIsTheGreatest, RetentionIsTheGreatest}
use Rattle.history_laws.proofs.Members.{Among, Among-from_Contains, Contains-from_Among}
use Rattle.history_laws.proofs.Ranks.{kind_from_is_kind, is_kind_from_kind}

-- facts that say the same have the same greatest moment
pub greatest_of_same : (P Q : ℤ → Type 0) (o : Option ℤ) → ((m : ℤ) → P m → Q m) → ((m : ℤ) → Q m → P m) → IsGreatestOf P o → IsGreatestOf Q o
greatest_of_same P Q None to from h = λ m q. h m (from m q)
greatest_of_same P Q (Some greatest) to from h = (to greatest h.0, λ m q. h.1 m (from m q))

module _ {X : Type 0} (test : X → Bool) (value : X → ℤ) where
  -- an element that passes the test has the value
  abbrev HasValue : List X → ℤ → Type 0
  HasValue xs m = (x : X) × Among x xs × (test x ≡ true) × (value x ≡ m)

  in_front : (x : X) (xs : List X) (m : ℤ) → HasValue xs m → HasValue (x ∷ xs) m
  in_front x xs m h = (h.0, inr h.1, h.2, h.3)

  is_behind : (x : X) (xs : List X) (m : ℤ) → test x ≡ false → HasValue (x ∷ xs) m → HasValue xs m
  is_behind x xs m e (y, inl same, passes, is) = no_truth (sym e ∙ ap test (sym same) ∙ passes)
  is_behind x xs m e (y, inr a, passes, is) = (y, a, passes, is)

  first_or_behind : (x : X) (xs : List X) (m : ℤ) → HasValue (x ∷ xs) m → (m ≡ value x) ⊎ HasValue xs m
  first_or_behind x xs m (y, inl same, passes, is) = inl (sym is ∙ ap value same)
  first_or_behind x xs m (y, inr a, passes, is) = inr (y, a, passes, is)

  later_of : (x : X) (xs : List X) (b : Bool) (n : ℤ) → int_lt (value x) n ≡ b → test x ≡ true → IsGreatestOf (HasValue xs) (Some n) → IsGreatestOf (HasValue (x ∷ xs)) (Some (if b then n else value x))
  later_of x xs true n e passes h = (
    in_front x xs n h.0,
    λ m a. elim (first_or_behind x xs m a) [ inl is ↦ rw is (grind (arith, ints)) | inr b ↦ h.1 m b ],
  )
  later_of x xs false n e passes h = (
    (x, inl refl, passes, refl),
    λ m a. elim (first_or_behind x xs m a) [ inl is ↦ rw is (grind (arith, ints)) | inr b ↦ (let below : m ≤ℤ n = h.1 m b in grind (arith, ints)) ],
  )

  -- one more element
  pub greatest_step : (x : X) (xs : List X) (b : Bool) (o : Option ℤ) → test x ≡ b → IsGreatestOf (HasValue xs) o → IsGreatestOf (HasValue (x ∷ xs)) (if b then later (value x) o else o)
  greatest_step x xs true None e h = (
    (x, inl refl, e, refl),
    λ m a. elim (first_or_behind x xs m a) [ inl is ↦ rw is (grind (arith, ints)) | inr b ↦ absurd (h m b) ],
  )
  greatest_step x xs true (Some n) e h = later_of x xs (int_lt (value x) n) n refl e h
  greatest_step x xs false None e h = λ m a. h m (is_behind x xs m e a)
  greatest_step x xs false (Some n) e h = (in_front x xs n h.0, λ m a. h.1 m (is_behind x xs m e a))

-- ---- of commands

active_of : (xs : List Applied) → IsGreatestOf (HasValue is_activity (λ (x : Applied). change_stamp x.change) xs) (greatest_activity xs)
active_of [] = λ m a. a.1
active_of (x ∷ xs) = greatest_step is_activity (λ (y : Applied). change_stamp y.change) x xs (is_activity x) (greatest_activity xs) refl (active_of xs)

deactivated_of : (xs : List Applied) → IsGreatestOf (HasValue (is_kind kind.Deactivate) (λ (x : Applied). change_stamp x.change) xs) (greatest_deactivation xs)
deactivated_of [] = λ m a. a.1
deactivated_of (x ∷ xs) = greatest_step (is_kind kind.Deactivate) (λ (y : Applied). change_stamp y.change) x xs (is_kind kind.Deactivate x) (greatest_deactivation xs) refl (deactivated_of xs)

of_three : (a b c : Bool) → (a || b || c) ≡ true → (a ≡ true) ⊎ (b ≡ true) ⊎ (c ≡ true)
of_three true b c h = inl refl
of_three false true c h = inr (inl refl)
of_three false false c h = inr (inr h)

pub activity_is : (x : Applied) → is_activity x ≡ true → IsActivity x
activity_is x h = elim (of_three (is_kind kind.Facts x) (is_kind kind.Catalog x) (is_kind kind.Report x) h) [
  | inl e ↦ inl (kind_from_is_kind kind.Facts x e)
  | inr (inl e) ↦ inr (inl (kind_from_is_kind kind.Catalog x e))
  | inr (inr e) ↦ inr (inr (kind_from_is_kind kind.Report x e))
]

third : (a b : Bool) → (a || b || true) ≡ true
third true b = refl
third false true = refl
third false false = refl

second : (a c : Bool) → (a || true || c) ≡ true
second true c = refl
second false c = refl

pub is_activity_of : (x : Applied) → IsActivity x → is_activity x ≡ true
is_activity_of x (inl e) = rw (is_kind_from_kind kind.Facts x e) refl
is_activity_of x (inr (inl e)) = ap (λ b. is_kind kind.Facts x || b || is_kind kind.Report x) (is_kind_from_kind kind.Catalog x e) ∙ second (is_kind kind.Facts x) (is_kind kind.Report x)
is_activity_of x (inr (inr e)) = ap (λ b. is_kind kind.Facts x || is_kind kind.Catalog x || b) (is_kind_from_kind kind.Report x e) ∙ third (is_kind kind.Facts x) (is_kind kind.Catalog x)

pub activity_is_the_greatest : ActivityIsTheGreatest
activity_is_the_greatest xs =
    greatest_of_same (HasValue is_activity (λ (x : Applied). change_stamp x.change) xs) (HasStamped IsActivity xs) (greatest_activity xs)
    (λ m h. (h.0, Contains-from_Among xs h.0 h.1, activity_is h.0 h.2, h.3)) (λ m h. (h.0, Among-from_Contains xs h.0 h.1, is_activity_of h.0 h.2, h.3)) (active_of xs)

pub deactivation_is_the_greatest : DeactivationIsTheGreatest
deactivation_is_the_greatest xs =
    greatest_of_same (HasValue (is_kind kind.Deactivate) (λ (x : Applied). change_stamp x.change) xs) (HasStamped IsDeactivation xs) (greatest_deactivation xs)
    (λ m h. (h.0, Contains-from_Among xs h.0 h.1, kind_from_is_kind kind.Deactivate h.0 h.2, h.3)) (λ m h. (h.0, Among-from_Contains xs h.0 h.1, is_kind_from_kind kind.Deactivate h.0 h.2, h.3)) (deactivated_of xs)

-- ---- of sweeps

abbrev sweeps : (Kinds → Bool) → TraceEvent → Bool
sweeps test (applied x) = false
sweeps test (swept kinds m) = test kinds

abbrev moment_of : TraceEvent → ℤ
moment_of (applied x) = pos 0
moment_of (swept kinds m) = m

abbrev is_expiry : Kinds → Bool
is_expiry kinds = kinds.expire

abbrev is_retention : Kinds → Bool
is_retention kinds = kinds.reports

expiry_of : (history : Trace) → IsGreatestOf (HasValue (sweeps is_expiry) moment_of history) (greatest_expiry history)
expiry_of [] = λ m a. a.1
expiry_of (applied x ∷ earlier) = greatest_step (sweeps is_expiry) moment_of (applied x) earlier false (greatest_expiry earlier) refl (expiry_of earlier)
expiry_of (swept kinds m ∷ earlier) = greatest_step (sweeps is_expiry) moment_of (swept kinds m) earlier kinds.expire (greatest_expiry earlier) refl (expiry_of earlier)

retention_of : (history : Trace) → IsGreatestOf (HasValue (sweeps is_retention) moment_of history) (greatest_retention history)
retention_of [] = λ m a. a.1
retention_of (applied x ∷ earlier) = greatest_step (sweeps is_retention) moment_of (applied x) earlier false (greatest_retention earlier) refl (retention_of earlier)
retention_of (swept kinds m ∷ earlier) = greatest_step (sweeps is_retention) moment_of (swept kinds m) earlier kinds.reports (greatest_retention earlier) refl (retention_of earlier)

module _ (test : Kinds → Bool) (history : Trace) where
  a_sweep : (e : TraceEvent) (m : ℤ) → Among e history → sweeps test e ≡ true → moment_of e ≡ m → HasSwept (λ (kinds : Kinds). test kinds ≡ true) history m
  a_sweep (applied x) m a passes is = no_truth passes
  a_sweep (swept kinds n) m a passes is = (kinds, subst (λ p. Contains history (swept kinds p)) is (Contains-from_Among history (swept kinds n) a), passes)

  of_sweeps : (o : Option ℤ) → IsGreatestOf (HasValue (sweeps test) moment_of history) o → IsGreatestOf (HasSwept (λ (kinds : Kinds). test kinds ≡ true) history) o
  of_sweeps o h =
      greatest_of_same (HasValue (sweeps test) moment_of history) (HasSwept (λ (kinds : Kinds). test kinds ≡ true) history) o
      (λ m h. a_sweep h.0 m h.1 h.2 h.3) (λ m h. (swept h.0 m, Among-from_Contains history (swept h.0 m) h.1, h.2, refl)) h

pub expiry_is_the_greatest : ExpiryIsTheGreatest
expiry_is_the_greatest history = of_sweeps is_expiry history (greatest_expiry history) (expiry_of history)

pub retention_is_the_greatest : RetentionIsTheGreatest
retention_is_the_greatest history = of_sweeps is_retention history (greatest_retention history) (retention_of history)
