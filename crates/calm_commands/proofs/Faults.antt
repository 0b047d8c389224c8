-- Of the store's two disks one counted a fault where the store did.
use Rattle.std.proofs.Common.{◌≡◌, ◌⊎◌, inl, inr, ℕ, ◌+◌, ◌≤◌, Bool, true, false, arith, refl, nat_lt}
use Rattle.query_answer.specs.fleet_ports.Counts.{Rose}
use Rattle.command_core.specs.fleet_keeper.Keeper.{IsBounded}

-- of two counts that rose by so many together
one_rose : (b : Bool) (f a0 b0 a1 b1 : ℕ) → nat_lt a0 a1 ≡ b → 1 ≤ f → f + a0 + b0 ≤ a1 + b1 → Rose a0 a1 ⊎ Rose b0 b1
one_rose true f a0 b0 a1 b1 is some sum = inl (grind (arith, is))
one_rose false f a0 b0 a1 b1 is some sum = inr (let not : a1 ≤ a0 = grind (arith, is) in omega (arith, not))

pub rose : (f a0 b0 a1 b1 : ℕ) → 1 ≤ f → IsBounded (0, a0, b0) f a1 b1 → Rose a0 a1 ⊎ Rose b0 b1
rose f a0 b0 a1 b1 some (inl sum) = one_rose (nat_lt a0 a1) f a0 b0 a1 b1 refl some (omega (arith, sum))
rose f a0 b0 a1 b1 some (inr (inl last)) = inl (omega (arith, last))
rose f a0 b0 a1 b1 some (inr (inr last)) = inr (omega (arith, last))
