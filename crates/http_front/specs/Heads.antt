-- What is read from a head's text.
use Rattle.std.specs.Prelude.{◌≡◌, ℕ, ◌≤◌, List, length}
use Rattle.httparse.specs.Grammar.{RequestHead, ReadsRequest}
use Rattle.http_spec.specs.declared.request.Head.{Head}
use Rattle.http_spec.specs.Framing.{heads_of}
use Rattle.http_front.specs.declared.head.Parts.{Parts}
use Rattle.http_front.specs.declared.head.ReadHead.{ReadHead}
use Rattle.http_front.specs.declared.head.ReadHead.TheVariants as read
use Rattle.http_spec.specs.Limits.{most_lines}

abbrev pub pair_head : List ℕ × List ℕ → Head
pair_head p = record { name = p.0; value = p.1 }

-- the parts are those of a head of the grammar with which the text begins
pub record ArePartsOf (parts : Parts) (text : List ℕ) : Type 0 where
  pub head : RequestHead
  pub behind : List ℕ
  pub reads : ReadsRequest text head behind
  pub few : length head.fields ≤ most_lines
  pub method : parts.method ≡ head.method
  pub target : parts.target ≡ head.target
  pub headers : parts.headers ≡ heads_of head.fields
  pub minor : parts.minor ≡ head.minor

abbrev pub IsReadHead : ReadHead → List ℕ → Type 0
IsReadHead (read.Head parts) text = ArePartsOf parts text
IsReadHead read.Bad text = (head : RequestHead) (behind : List ℕ) → ReadsRequest text head behind → length head.fields ≤ most_lines → ⊥
IsReadHead read.Memory text = Unit {0}
