-- Values that were read fit their list.
use Rattle.std.proofs.Common.{◌≡◌, ℕ, ◌^◌, ◌<◌, List, length, Option, Some, None, arith, IfSome}
use Rattle.std.specs.Prelude.{Result, IfOk, Ok, Err}
use Rattle.std.specs.List.{AllByRecursion}
use Rattle.json_read.specs.text_spec.Json.{Json}
use Rattle.record_fields.specs.history_spec.Lawful.{IsJson}
use Rattle.record_fields.specs.Reading.{Shows}
use Rattle.record_fields.proofs.Fields.{IsBytes}
use Rattle.record_values.specs.Fields.{json_at}
use Rattle.record_values.specs.Lists.{list_at}
use Rattle.record_values.proofs.Lists.{as_list}
use Rattle.record_values.proofs.Values.{json}

values_within : (bytes : List ℕ) (x : List Json) (rest : List ℕ) → IsBytes bytes → list_at (json_at 125) bytes ≡ Some (x, rest) → AllByRecursion (IsJson 125) x × (length x < 2 ^ 32)
values_within bytes x rest are e = ((as_list (json 125 (omega arith))).takes bytes x rest are e).1

pub values_fit : {X E : Type 0} (items : X → List Json) (rest : X → List ℕ) (bytes : List ℕ) (r : Result (Option X) E) → IsBytes bytes
    → IfOk r (λ o. Shows (λ x. (items x, rest x)) o (list_at (json_at 125) bytes)) → IfOk r (λ o. IfSome o (λ x. AllByRecursion (IsJson 125) (items x) × (length (items x) < 2 ^ 32)))
values_fit items rest bytes (Ok (Some x)) are shows = values_within bytes (items x) (rest x) are shows
values_fit items rest bytes (Ok None) are shows = tt
values_fit items rest bytes (Err e) are shows = tt
