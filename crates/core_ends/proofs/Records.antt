-- Records behind those that there were.
use Rattle.std.proofs.Common.{◌≡◌, ◌∙◌, List, [], ◌∷◌, ◌++◌, Option, Some, sym, ap}
use Rattle.std.proofs.lemmas.List.{append-nil}
use Rattle.command_core.specs.fleet_keeper.Records.{with_one}

pub none_more : {A : Type 0} (a b : Option (List A)) (records : List A) → b ≡ a → a ≡ Some records → b ≡ Some (records ++ [])
none_more {A} a b records same is = same ∙ (is ∙ ap (λ (xs : List A). Some xs) (sym (append-nil records)))

pub one_more : {A : Type 0} (a b : Option (List A)) (record_is : A) (records : List A) → b ≡ with_one a record_is → a ≡ Some records → b ≡ Some (records ++ record_is ∷ [])
one_more {A} a b record_is records grown is = grown ∙ ap (λ (o : Option (List A)). with_one o record_is) is
