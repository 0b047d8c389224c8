-- What holds of all elements of a list, and of one that is pushed, holds of all then.
use Rattle.std.proofs.Common.{◌≡◌, List, [], ◌∷◌, ◌++◌, sym, subst}
use Rattle.std.specs.List.{AllByRecursion}
use Rattle.ttl_sweeps.proofs.of_plain_laws.Members.{all_more}

pub all_pushed : {X : Type 0} (P : X → Type 0) (xs new : List X) (x : X) → new ≡ xs ++ x ∷ [] → AllByRecursion P xs → P x → AllByRecursion P new
all_pushed P xs new x is all h = subst (AllByRecursion P) (sym is) (all_more P xs x all h)
