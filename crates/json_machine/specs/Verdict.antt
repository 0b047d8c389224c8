-- The verdict on a text: the value that it spells, or the offset at which it goes wrong.
use Rattle.std.specs.Prelude.{ℕ, List}
use Rattle.text_spec.specs.Json.{Json}
use Rattle.text_spec.specs.JsonText.{Spells, NotJsonAt, TooDeepAt}

pub data Verdict : Type 0 where
  spelled : Json → Verdict
  not_json : ℕ → Verdict
  too_deep : ℕ → Verdict

-- the verdict is true of the bytes
abbrev pub Means : List ℕ → Verdict → Type 0
Means bytes (spelled v) = Spells bytes v
Means bytes (not_json at) = NotJsonAt bytes at
Means bytes (too_deep at) = TooDeepAt bytes at
