-- A step whose outcome is known.
use Rattle.std.proofs.Common.{◌≡◌, refl, Option, Some, None}
use Rattle.pql_spec.proofs.of_plain_laws.Options.{none_some}
use Rattle.pql_machine.specs.Machine.{and_then}

pub bound : {A B : Type 0} (o : Option A) (f : A → Option B) (b : B) → and_then o f ≡ Some b → (a : A) × (o ≡ Some a) × (f a ≡ Some b)
bound None f b e = none_some b e
bound (Some a) f b e = (a, refl, e)
