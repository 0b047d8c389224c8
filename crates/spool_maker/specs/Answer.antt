-- What making a spool does to the bytes of a sink.
use Rattle.std.specs.Prelude.{◌≡◌, ℕ, ◌≤◌, ◌<◌, List, ◌++◌, length, take, Option}
use Rattle.std.specs.Io.KnownBytes.{Appends, Keeps}
use Rattle.spool_maker.specs.declared.maker.Made.{Made}
use Rattle.spool_maker.specs.declared.maker.Made.TheVariants as made

-- On success the whole text was appended. After a write fault a shorter prefix was. Without memory a prefix was
abbrev pub MatchMade : Made → List ℕ → Option (List ℕ) → Option (List ℕ) → Type 0
MatchMade made.Ok text before after = Appends before after text
MatchMade made.WriteFault text before after = (taken : ℕ) × (taken < length text) × Appends before after (take taken text)
MatchMade made.Memory text before after = (taken : ℕ) × (taken ≤ length text) × Appends before after (take taken text)

-- On success a prefix of the due text was appended and the rest is left. A write fault appends less than the due text. Without
-- memory nothing is appended.
abbrev pub MatchAdded : Made → List ℕ → List ℕ → Option (List ℕ) → Option (List ℕ) → Type 0
MatchAdded made.Ok due left before after = (went : List ℕ) × (went ++ left ≡ due) × Appends before after went
MatchAdded made.WriteFault due left before after = (taken : ℕ) × (taken < length due) × Appends before after (take taken due)
MatchAdded made.Memory due left before after = Keeps before after
