-- The printed text of a refusal.
use Rattle.std.specs.Prelude.{ℕ, List, [], ◌∷◌, ◌++◌, codes, decimal}
use Rattle.query_answer.specs.declared.refusal.QueryRefusal.{QueryRefusal}
use Rattle.query_answer.specs.declared.refusal.QueryRefusal.TheVariants.{TooLong, NotJson, PqlBad, NotQuery, UnknownEntity, UnknownField, BadOperand, BadPattern, SumTooLarge}

abbrev pub dotted : List ℕ → List ℕ
dotted [] = []
dotted (n ∷ ns) = (codes "." ++ decimal n) ++ dotted ns

-- a space and the numbers of the place, joined by dots; nothing for the outermost place
abbrev pub path_text : List ℕ → List ℕ
path_text [] = []
path_text (n ∷ ns) = (codes " " ++ decimal n) ++ dotted ns

abbrev pub refusal_text : QueryRefusal → List ℕ
refusal_text TooLong = codes "too long"
refusal_text (NotJson at) = codes "not json at " ++ decimal at
refusal_text (PqlBad at) = codes "pql bad at " ++ decimal at
refusal_text (NotQuery p) = codes "not a query" ++ path_text p
refusal_text (UnknownEntity p) = codes "unknown entity" ++ path_text p
refusal_text (UnknownField p) = codes "unknown field" ++ path_text p
refusal_text (BadOperand p) = codes "bad operand" ++ path_text p
refusal_text (BadPattern p) = codes "bad pattern" ++ path_text p
refusal_text (SumTooLarge p) = codes "sum too large" ++ path_text p
