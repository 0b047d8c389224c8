-- The later of two moments: the order in which they are looked at doesn't matter, and it is one of them. The moment of a change.
use Rattle.std.proofs.Common.{◌≡◌, ℤ, arith, ap, Bool, true, false, Option, Some, None, if◌then◌else◌}
use Rattle.std.specs.Prelude.{int_lt, IfSome}
use Rattle.std.proofs.lemmas.Int.{ints}
use Rattle.spool_spec.proofs.of_stamp_time.RangeLaws.{stamp_in_range}
use Rattle.spool_spec.specs.stamp_time.Range.{IsStampMoment}
use Rattle.spool_spec.specs.fleet_rows.Change.{change_stamp}
use Rattle.spool_spec.specs.fleet_rows.declared.change.Change.{Change}
use Rattle.spool_spec.specs.fleet_rows.declared.change.Change.TheVariants.{Facts, Catalog, Report, Deactivate, Expiration}
use Rattle.spool_spec.specs.history_spec.Lawful.{IsChange}
use Rattle.spool_spec.specs.history_spec.Node.{later}

greatest : (m n p : ℤ) → ◌≡◌ {A = ℤ} (if int_lt m (if int_lt n p then p else n) then (if int_lt n p then p else n) else m) (if int_lt n (if int_lt m p then p else m) then (if int_lt m p then p else m) else n)
greatest m n p = grind (arith, ints)

of_two : (m n : ℤ) → ◌≡◌ {A = ℤ} (if int_lt m n then n else m) (if int_lt n m then m else n)
of_two m n = grind (arith, ints)

pub later_comm : (m n : ℤ) (o : Option ℤ) → later m (later n o) ≡ later n (later m o)
later_comm m n None = ap (λ x. Some x) (of_two m n)
later_comm m n (Some p) = ap (λ x. Some x) (greatest m n p)

stamp_if : (b : Bool) (m n : ℤ) → IsStampMoment m → IsStampMoment n → IsStampMoment (if b then n else m)
stamp_if true m n h k = k
stamp_if false m n h k = h

pub later_is_stamp : (m : ℤ) (o : Option ℤ) → IsStampMoment m → IfSome o IsStampMoment → IfSome (later m o) IsStampMoment
later_is_stamp m None h k = h
later_is_stamp m (Some n) h k = stamp_if (int_lt m n) m n h k

-- a change has a stamp's moment
pub has_stamp_moment : (c : Change) → IsChange c → IsStampMoment (change_stamp c)
has_stamp_moment (Facts c) h = stamp_in_range h.stamp.0 c.stamp h.stamp.1
has_stamp_moment (Catalog c) h = stamp_in_range h.stamp.0 c.stamp h.stamp.1
has_stamp_moment (Report c) h = stamp_in_range h.stamp.0 c.stamp h.stamp.1
has_stamp_moment (Deactivate c) h = stamp_in_range h.stamp.0 c.stamp h.stamp.1
has_stamp_moment (Expiration c) h = stamp_in_range h.stamp.0 c.stamp h.stamp.1
