-- The result of checking a posted command.
use Rattle.std.specs.Prelude.{◌≡◌, ℕ, ℤ, List, Option, codes, if◌then◌else◌, Ok, Err}
use Rattle.paging_params.specs.Params.{last_under}
use Rattle.routes_spec.specs.Commands.{Checked, needed, unless_bad, if_filled, kind_named, has_checksum, command}
use Rattle.routes_spec.specs.Parameters.{Parameters}
use Rattle.routes_spec.specs.fleet_rows.declared.command.Command.{Command as Handed}
use Rattle.routes_spec.specs.fleet_rows.declared.command.Kind.{Kind}
use Rattle.http_routes.specs.declared.command.Posted.{Posted}
use Rattle.http_routes.specs.declared.command.Posted.TheVariants as told

-- the result is this answer, or memory ran out
abbrev pub Tells : Posted → Checked Handed → Type 0
Tells (told.Command c) answer = answer ≡ Ok c
Tells (told.Bad text) answer = answer ≡ Err text.now
Tells told.Memory answer = Unit {0}

-- P holds for the answer, unless memory ran out
abbrev pub IsTold : Posted → (Checked Handed → Type 0) → Type 0
IsTold (told.Command c) P = P (Ok c)
IsTold (told.Bad text) P = P (Err text.now)
IsTold told.Memory P = Unit {0}

-- ---- the definition's checks, from the last one backwards; each assumes that the earlier ones passed

abbrev pub with_kind : ℤ → Parameters → List ℕ → ℕ → Kind → Checked Handed
with_kind now params body version kind = if has_checksum (last_under (codes "checksum") params) body then Ok (command kind version now body) else Err (codes "bad checksum")

abbrev pub with_version : ℤ → Parameters → List ℕ → List ℕ → ℕ → Checked Handed
with_version now params body word version = unless_bad (codes "bad command") (kind_named word) (λ kind. with_kind now params body version kind)

abbrev pub with_certname : ℤ → Parameters → List ℕ → List ℕ → Option ℕ → Checked Handed
with_certname now params body word version = unless_bad (codes "bad version") version (λ n. with_version now params body word n)

abbrev pub with_text : ℤ → Parameters → List ℕ → List ℕ → Option ℕ → Checked Handed
with_text now params body word version = needed (codes "certname") (if_filled (last_under (codes "certname") params)) (λ _. with_certname now params body word version)

abbrev pub with_word : ℤ → Parameters → List ℕ → Option ℕ → List ℕ → Checked Handed
with_word now params body version word = needed (codes "version") (last_under (codes "version") params) (λ _. with_text now params body word version)
