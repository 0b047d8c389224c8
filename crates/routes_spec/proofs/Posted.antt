-- Parameters and a body post one thing.
use Rattle.std.proofs.Common.{◌≡◌, ◌∙◌, ℕ, ℤ, List, refl, sym, ap, arith, Option, Some, None}
use Rattle.std.specs.Prelude.{codes}
use Rattle.std.proofs.lemmas.Fmt.{decimal_injective}
use Rattle.query_answer.specs.fleet_rows.declared.command.Command.{Command}
use Rattle.paging_params.specs.Params.{last_under}
use Rattle.routes_spec.specs.Commands.{Checked, IsVersion, checked_command, IsPosted}
use Rattle.routes_spec.specs.Parameters.{Parameters}

one_version : (text : Option (List ℕ)) (v w : Option ℕ) → IsVersion text v → IsVersion text w → v ≡ w
one_version None v w h k = h ∙ sym k
one_version (Some text) (Some m) (Some n) h k = ap Some (decimal_injective m n (omega (arith, h.0)) (omega (arith, k.0)) (sym h.1 ∙ k.1))
one_version (Some text) (Some m) None h k = absurd (k m h.0 h.1)
one_version (Some text) None (Some n) h k = absurd (h n k.0 k.1)
one_version (Some text) None None h k = refl

pub one_posted : (now : ℤ) (params : Parameters) (body : List ℕ) (a b : Checked Command) → IsPosted now params body a → IsPosted now params body b → a ≡ b
one_posted now params body a b (v, vh, va) (w, wh, wb) =
    va ∙ ap (checked_command now params body) (one_version (last_under (codes "version") params) v w vh wh) ∙ sym wb
