-- The results of the code, compared with the definitions of the AST.
use Rattle.std.specs.Prelude.{◌≡◌, List, ◌++◌, Result, Ok, Err}
use Rattle.query_spec.specs.Ast.{Read, ◌>>=◌}
use Rattle.ast_parts.specs.declared.fault.FormFault.{FormFault}
use Rattle.ast_parts.specs.declared.fault.FormFault.TheVariants.{NoForm, Memory}

-- the code fails at the definition's place, or memory ran out, which may happen for any value
abbrev pub Fails : {B : Type 0} → FormFault → Read B → Type 0
Fails (NoForm p) r = r ≡ Err p
Fails Memory r = Unit {0}

abbrev pub Gives : {X Y : Type 0} → (X → Y) → Result X FormFault → Read Y → Type 0
Gives view (Ok x) r = r ≡ Ok (view x)
Gives view (Err e) r = Fails e r

-- the list that is read, after the items that were read before
abbrev pub with_front : {A : Type 0} → List A → Read (List A) → Read (List A)
with_front front r = r >>= λ xs. Ok (front ++ xs)
