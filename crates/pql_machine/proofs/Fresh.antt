-- Which names are free for an output.
use Rattle.std.proofs.Common.{◌≡◌, ◌∙◌, ℕ, List, [], ◌∷◌, Bool, true, false, ◌&&◌, ◌||◌, refl, ap, subst, Option, Some, None, if◌then◌else◌}
use Rattle.std.specs.Prelude.{codes}
use Rattle.std.specs.List.{list_any}
use Rattle.std.specs.Str.{bytes_eq}
use Rattle.std.proofs.lemmas.Slice.Eq.{bytes_eq-Decides}
use Rattle.pql_spec.proofs.of_plain_laws.Lists.{one_text}
use Rattle.pql_spec.proofs.of_plain_laws.Booleans.{neither}
use Rattle.pql_spec.specs.query_spec.declared.parts.Function.{Function}
use Rattle.pql_spec.specs.query_spec.declared.parts.Function.TheVariants.{Count, Sum, Min, Max}
use Rattle.pql_spec.specs.query_spec.declared.parts.Name.{Name}
use Rattle.pql_spec.specs.query_spec.declared.parts.Selected.{Selected}
use Rattle.pql_spec.specs.query_spec.declared.parts.Selected.TheVariants.{Column as plain, Rows as rows_counted, Function as applied}
use Rattle.pql_spec.specs.query_spec.Parts.{clashes, output_name, is_function}
use Rattle.pql_spec.specs.query_spec.Words.{function_named, function_name}
use Rattle.pql_spec.specs.Grammar.{IsFresh}
use Rattle.pql_machine.specs.Least.{some_name}

abbrev IsNamed : List ℕ → Option Function → Type 0
IsNamed s None = Unit {0}
IsNamed s (Some g) = s ≡ function_name g

one_of : (b : Bool) (s : List ℕ) (g : Function) (o : Option Function) → (b ≡ true → s ≡ function_name g) → IsNamed s o → IsNamed s (if b then Some g else o)
one_of true s g o e h = e refl
one_of false s g o e h = h

-- a function's name has its bytes
named_is : (s : List ℕ) → IsNamed s (function_named s)
unfolding function_named
named_is s =
    one_of _ s Count _ (one_text s _) (one_of _ s Sum _ (one_text s _) (one_of _ s Min _ (one_text s _) (one_of _ s Max None (one_text s _) tt)))

less : (x y : Bool) → (x && (true || y)) ≡ false → (x && (false || y)) ≡ false
less true y h = absurd (wrong h)
  where
    wrong : true ≡ false → ⊥
    wrong h = cc
less false y h = refl

-- where a function may stand, so may a column of its name
pub name-fresh : (f : Name) (g : Function) (c : Name) (cs : List Selected) → function_named f.text ≡ Some g → IsFresh cs (applied g c) → IsFresh cs (plain f)
name-fresh f g c cs e w = free cs w
  where
    same : f.text ≡ function_name g
    same = subst (IsNamed f.text) e (named_is f.text)

    free : (ds : List Selected) → IsFresh ds (applied g c) → IsFresh ds (plain f)
    free [] w = refl
    free (d ∷ ds) w =
        let n = neither (clashes (applied g c) d) (list_any (clashes (applied g c)) ds) w in
        let one : clashes (plain f) d ≡ false = ap (λ s. bytes_eq s (output_name d) && (false || is_function d)) same ∙ less (bytes_eq (function_name g) (output_name d)) (is_function d) n.0 in
        λ i. one i || free ds n.1 i

and_false : (b : Bool) → (b && false) ≡ false
and_false true = refl
and_false false = refl

some-apart : (s : Selected) → clashes (plain some_name) s ≡ false
some-apart (plain n) = and_false (bytes_eq (codes "a") n.text)
some-apart rows_counted = refl
some-apart (applied Count n) = refl
some-apart (applied Sum n) = refl
some-apart (applied Min n) = refl
some-apart (applied Max n) = refl

-- the name of no function is free
pub some-fresh : (cs : List Selected) → IsFresh cs (plain some_name)
some-fresh [] = refl
some-fresh (c ∷ cs) = λ i. some-apart c i || some-fresh cs i
