-- The bounds of numbers by their digits.
use Rattle.std.proofs.Common.{◌≡◌, ℕ, zero, ◌+◌, ◌-◌, ◌*◌, ◌^◌, ◌≤◌, ◌<◌, arith, ap}
use Rattle.std.proofs.Math.Nat.{mul-lt-mul_of_pos_right, one-le-pow}
use Rattle.std.proofs.lemmas.Nat.{pow-add}

-- a number of i digits with zeros behind it, n in all
pub scaled_under : (v i n : ℕ) → v < 10 ^ i → i ≤ n → v * 10 ^ (n - i) < 10 ^ n
scaled_under v i n bound le =
    let positive : zero < 10 ^ (n - i) = one-le-pow (n - i) 10 (omega arith) in
    let below : v * 10 ^ (n - i) < 10 ^ i * 10 ^ (n - i) = mul-lt-mul_of_pos_right bound positive in
    let e : 10 ^ (i + (n - i)) ≡ 10 ^ i * 10 ^ (n - i) = pow-add 10 i (n - i) in
    let same : 10 ^ (i + (n - i)) ≡ 10 ^ n = ap (λ k. 10 ^ k) (omega arith) in
    omega (arith, below, e, same)
