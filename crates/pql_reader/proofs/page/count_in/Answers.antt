use Rattle.std.proofs.Common.{◌≡◌, ◌∙◌, ℕ, List, Bool, true, false, Option, Some, None, if◌then◌else◌, refl, subst, sym, ap}
use Rattle.std.specs.Prelude.{option_map}
use Rattle.pql_spec.specs.Grammar.{is_count, number_of}
use Rattle.pql_machine.specs.Machine as machine
use Rattle.pql_reader.proofs.page.count_in.Goals as goal

either : (b : Bool) (n : ℕ) (f : ℕ → machine.State) → (if b then Some (f n) else None) ≡ option_map f (if b then Some n else None)
either true n f = refl
either false n f = refl

counted : (s : List ℕ) (r : Option ℕ) (f : ℕ → machine.State) → r ≡ (if is_count s then Some (number_of s) else None) → (if is_count s then Some (f (number_of s)) else None) ≡ option_map f r
counted s r f e = either (is_count s) (number_of s) f ∙ ap (option_map f) (sym e)

pub returns-in-Num : goal.returns-in-Num
returns-in-Num c = λ f.
    subst (λ v. machine.with_count v f ≡ option_map f c.count_of.result) (sym c.in-Num.is) (counted c.in-Num.number c.count_of.result f c.count_of.ensures)
