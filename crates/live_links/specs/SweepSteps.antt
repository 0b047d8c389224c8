-- What a request to sweep asks for, checked step by step.
use Rattle.std.specs.Prelude.{◌≡◌, ℕ, ℤ, List, codes, Option, Ok, Err}
use Rattle.http_routes.specs.fleet_rows.declared.settings.Kinds.{Kinds}
use Rattle.http_routes.specs.routes.Commands.{Checked, needed, unless_bad}
use Rattle.http_routes.specs.routes.Parameters.{Parameters}
use Rattle.paging_params.specs.Params.{last_under}
use Rattle.live_links.specs.Sweeps.{kinds_named}
use Rattle.live_links.specs.declared.sweeps.SweepAsked.{SweepAsked}
use Rattle.live_links.specs.declared.sweeps.SweepAsked.TheVariants as asked

abbrev pub answer_of : SweepAsked → Checked (Kinds × ℤ)
answer_of (asked.Sweep kinds m) = Ok (kinds, m)
answer_of (asked.Bad text) = Err text.now

-- the result is this answer
abbrev pub Tells : SweepAsked → Checked (Kinds × ℤ) → Type 0
Tells told answer = answer ≡ answer_of told

abbrev pub IsTold : SweepAsked → (Checked (Kinds × ℤ) → Type 0) → Type 0
IsTold told P = P (answer_of told)

-- ---- the definition's checks, from the last one backwards; each assumes that the earlier ones passed

abbrev pub at_moment : Kinds → Option ℤ → Checked (Kinds × ℤ)
at_moment kinds moment = unless_bad (codes "bad at") moment (λ m. Ok (kinds, m))

abbrev pub with_at : List ℕ → Option ℤ → Checked (Kinds × ℤ)
with_at text moment = unless_bad (codes "bad kinds") (kinds_named text) (λ kinds. at_moment kinds moment)

abbrev pub with_kinds : Parameters → Option ℤ → List ℕ → Checked (Kinds × ℤ)
with_kinds params moment text = needed (codes "at") (last_under (codes "at") params) (λ _. with_at text moment)
