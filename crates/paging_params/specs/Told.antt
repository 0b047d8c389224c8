-- The results of the readers of parameters.
use Rattle.std.specs.Prelude.{◌≡◌, ℕ, List, Bool, true, false, Result, Ok, Err}
use Rattle.json_read.specs.declared.fault.ReadFault.{ReadFault}
use Rattle.json_read.specs.declared.fault.ReadFault.TheVariants as read
use Rattle.ast_tree.specs.query_spec.declared.parts.Paging.{Paging}
use Rattle.paging_params.specs.declared.read.PagingFault.{PagingFault}
use Rattle.paging_params.specs.declared.read.PagingFault.TheVariants.{BadPaging, Memory}

-- the result is this answer, or memory ran out
abbrev pub Tells : Result Paging PagingFault → Result Paging (List ℕ) → Type 0
Tells (Ok paging) answer = answer ≡ Ok paging
Tells (Err (BadPaging name)) answer = answer ≡ Err name
Tells (Err Memory) answer = Unit {0}

-- P holds for the answer, unless memory ran out
abbrev pub IsRead : Result Paging PagingFault → (Result Paging (List ℕ) → Type 0) → Type 0
IsRead (Ok paging) P = P (Ok paging)
IsRead (Err (BadPaging name)) P = P (Err name)
IsRead (Err Memory) P = Unit {0}

-- the fault means that a text spells no JSON value
abbrev pub spells_nothing : ReadFault → Bool
spells_nothing (read.NotJson at) = true
spells_nothing (read.TooDeep at) = true
spells_nothing read.Memory = false
