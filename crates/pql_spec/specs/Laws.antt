-- Statements of the laws on these definitions.
use Rattle.std.specs.Prelude.{◌≡◌, ℕ, List, []}
use Rattle.pql_spec.specs.declared.token.Token.{Token}
use Rattle.pql_spec.specs.Texts.{BeginsWith}

abbrev pub TextsHaveOneList : Type 0
TextsHaveOneList = (text : List ℕ) (ts us : List Token) → BeginsWith text ts [] → BeginsWith text us [] → ts ≡ us
