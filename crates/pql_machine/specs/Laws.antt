-- Statements of the laws on PQL texts.
use Rattle.std.specs.Prelude.{◌≡◌, ℕ, List}
use Rattle.pql_spec.specs.Texts.{Answer, AnswerOf}

abbrev pub TextsHaveOneAnswer : Type 0
TextsHaveOneAnswer = (text : List ℕ) (answer other : Answer) → AnswerOf text answer → AnswerOf text other → answer ≡ other

abbrev pub TextsHaveSomeAnswer : Type 0
TextsHaveSomeAnswer = (text : List ℕ) → (answer : Answer) × AnswerOf text answer
