-- Cases on the tests that the machine makes of a byte.
use Rattle.std.proofs.Common.{◌≡◌, ℕ, ◌<◌, ◌≤◌, true, false, ◌&&◌, arith, ◌==◌, nat_lt, nat_le}
use Rattle.std.specs.Char.{digit_value}
use Rattle.json_machine.specs.Machine.{is_hex}

-- ---- from a fact to the test

pub lt_true : (a b : ℕ) → a < b → nat_lt a b ≡ true
lt_true a b h = grind arith

pub lt_false : (a b : ℕ) → b ≤ a → nat_lt a b ≡ false
lt_false a b h = grind arith

pub le_true : (a b : ℕ) → a ≤ b → nat_le a b ≡ true
le_true a b h = grind arith

pub eq_above : (a b : ℕ) → b < a → (a == b) ≡ false
eq_above a b h = grind arith

pub eq_below : (a b : ℕ) → a < b → (a == b) ≡ false
eq_below a b h = grind arith

pub is_hex_true : (b : ℕ) → digit_value b < 16 → is_hex b ≡ true
is_hex_true b h = grind arith

-- ---- from the test to the fact

pub below : (a b : ℕ) → nat_lt a b ≡ true → a < b
below a b h = grind arith

pub above : (a b : ℕ) → nat_lt a b ≡ false → b ≤ a
above a b h = grind arith

pub both_le : (a b c d : ℕ) → nat_le a b && nat_le c d ≡ true → (a ≤ b) × (c ≤ d)
both_le a b c d h = (grind arith, grind arith)

pub le_lt : (a b c d : ℕ) → nat_le a b && nat_lt c d ≡ true → (a ≤ b) × (c < d)
le_lt a b c d h = (grind arith, grind arith)

pub hex_is : (b : ℕ) → is_hex b ≡ true → digit_value b < 16
hex_is b h = grind arith
