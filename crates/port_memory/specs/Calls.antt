-- Calls are numbered from 1. A call whose number is listed fails.
use Rattle.std.specs.Prelude.{ℕ, ◌+◌, ◌-◌, ◌^◌, min, Bool, List, nat_eq}
use Rattle.std.specs.List.{list_any}

abbrev pub is_listed : List ℕ → ℕ → Bool
is_listed numbers number = list_any (λ n. nat_eq n number) numbers

-- the count plus one, up to 2^64 - 1
abbrev pub next : ℕ → ℕ
next count = min (count + 1) (2 ^ 64 - 1)
