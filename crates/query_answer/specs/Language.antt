-- The language of a query's text.
use Rattle.std.specs.Prelude.{ℕ, ◌==◌, List, [], ◌∷◌, Bool, false, if◌then◌else◌}
use Rattle.ast_reader.specs.json_machine.Machine.{is_space}

-- the first byte after white space is `[`
abbrev pub is_ast : List ℕ → Bool
is_ast [] = false
is_ast (x ∷ xs) = if is_space x then is_ast xs else x == 91
