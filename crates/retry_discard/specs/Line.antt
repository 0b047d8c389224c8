-- The line that prints a discarded command.
use Rattle.std.specs.Prelude.{◌≡◌, ℕ, List, ◌∷◌, ◌++◌, decimal}
use Rattle.core_spec.specs.text_spec.Stamp.{IsPrintedStamp}
use Rattle.wire_fields.specs.wire_spec.Refusals.{cause_text}
use Rattle.spool_spec.specs.Spool.{kind_word}
use Rattle.core_spec.specs.declared.dead.Dead.{Dead}

-- receipt, word of the kind, version, receive time and cause, separated by single spaces
abbrev pub line_text : Dead → List ℕ → List ℕ
line_text d received =
    decimal d.receipt ++ 32 ∷ (kind_word d.command.kind ++ 32 ∷ (decimal d.command.version ++ 32 ∷ (received ++ 32 ∷ cause_text d.cause)))

-- the line of a discarded command; the moment has three digits of its second's fraction
pub record IsLineOf (d : Dead) (line : List ℕ) : Type 0 where
  pub received : List ℕ
  pub printed : IsPrintedStamp 3 received d.command.received
  pub line_is : line ≡ line_text d received
