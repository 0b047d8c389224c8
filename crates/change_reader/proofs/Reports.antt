-- The lists of reports.
use Rattle.std.proofs.Common.{◌≡◌, true, false, ℕ, suc, List, ◌∷◌, sym, ◌∙◌}
use Rattle.std.specs.Prelude.{Result, Ok, Err}
use Rattle.std.specs.Result.{is_err}
use Rattle.json_read.specs.text_spec.Json.{Json}
use Rattle.wire_catalog.specs.fleet_rows.declared.refusal.Refusal.{Refusal}
use Rattle.wire_catalog.specs.wire_spec.Table.{Checked, each_from, ◌>>=◌}
use Rattle.wire_catalog.specs.wire_fields.Checks.{checked}
use Rattle.change_reader.specs.Together.{is_taken}
use Rattle.change_reader.proofs.Together.{checked_not}

-- ---- a list is refused where its first element is

first_refused : {A : Type 0} (check : ℕ → Json → Checked A) (i : ℕ) (j : Json) (js : List Json) (refusal : Refusal) (c : Checked A) → Err refusal ≡ checked c
    → Err refusal ≡ checked (c >>= (λ b. each_from (suc i) check js >>= (λ bs. Ok (b ∷ bs))))
first_refused check i j js refusal (Ok a) e = absurd cc
first_refused check i j js refusal (Err other) e = e

pub refused_list : {A : Type 0} (check : ℕ → Json → Checked A) (i : ℕ) (j : Json) (js : List Json) (r : Result (Unit {0}) Refusal) (whole : Checked (List A))
    → is_err r ≡ true → r ≡ checked (check i j) → checked (each_from i check (j ∷ js)) ≡ checked whole → false ≡ is_taken whole
refused_list check i j js (Ok done) whole failed is same = absurd cc
refused_list check i j js (Err refusal) whole failed is same = sym (checked_not whole (first_refused check i j js refusal (check i j) is ∙ same))
