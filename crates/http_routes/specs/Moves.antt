-- How an answer changes the outside state: the inbox, and which patterns were read.
use Rattle.std.specs.Prelude.{◌≡◌, ℕ, List, true, Option, Some, None}
use Rattle.std.specs.List.{list_any}
use Rattle.routes_spec.specs.fleet_ports.Counts.{Counts}
use Rattle.routes_spec.specs.fleet_rows.declared.command.Command.{Command}
use Rattle.routes_spec.specs.pattern_port.Refused.{Asked, asked_more}
use Rattle.fleet_rows.specs.declared.submitted.Submitted.{Submitted}
use Rattle.routes_spec.specs.Answers.{Met}

-- `submit` was called once with this step, or it wasn't called and the inbox is unchanged
abbrev pub Submits : {H : Type 0} → (Command → Submitted → H → H → Type 0) → Option (Command × Submitted) → H → H → Type 0
Submits Step None old new = new ≡ old
Submits Step (Some (c, s)) old new = Step c s old new

-- some of the texts was refused as a pattern
abbrev pub IsOneRefused : List Asked → Type 0
IsOneRefused asked = list_any (λ (a : Asked). a.1) asked ≡ true

-- these texts were read as patterns, and the count of refusals rose if one was refused
pub record Reads (asked : List Asked) (before now : Option (List Asked)) (count later : ℕ) : Type 0 where
  pub read : now ≡ asked_more before asked
  pub counted : Counts count later (IsOneRefused asked)

pub record Moves {H : Type 0} (Step : Command → Submitted → H → H → Type 0) (met : Met) (inbox after : H) (before now : Option (List Asked)) (count later : ℕ) : Type 0 where
  pub submits : Submits Step met.submitted inbox after
  pub reads : Reads met.asked before now count later
