-- How the line of a refused query is printed.
use Rattle.std.specs.Prelude.{ℕ, List, [], ◌∷◌, ◌++◌, codes, decimal}
use Rattle.calm_commands.specs.declared.status.Status.{Status}
use Rattle.calm_commands.specs.declared.status.Status.TheVariants.{QueryRefused}

-- the line ends with a number, or with nothing
abbrev pub IsNumbered : Status → Type 0
IsNumbered (QueryRefused why) = ⊥
IsNumbered _ = Unit {0}

-- each number after a mark: the given one before the first number, a dot before the others; then a line end
abbrev pub numbers_line : List ℕ → List ℕ → List ℕ
numbers_line mark [] = 10 ∷ []
numbers_line mark (n ∷ ns) = mark ++ (decimal n ++ numbers_line (codes ".") ns)
