-- The route that sweeps the tables: POST /pdb/admin/v1/sweep?kinds=KINDS&at=STAMP, after PuppetDB's admin endpoint (v1). KINDS are
-- some of `expire`, `purge` and `reports` in this order, joined by commas. STAMP names a moment (a profile of RFC 3339).
use Rattle.std.specs.Prelude.{◌≡◌, ℕ, ℤ, List, [], ◌∷◌, Bool, true, false, if◌then◌else◌, codes, Option, Some, None, Ok}
use Rattle.std.specs.Str.{bytes_eq}
use Rattle.http_routes.specs.fleet_rows.declared.settings.Kinds.{Kinds}
use Rattle.http_routes.specs.routes.query_answer.spool_spec.Spool.{joined, kind_words}
use Rattle.http_routes.specs.routes.Commands.{Checked, needed, unless_bad}
use Rattle.http_routes.specs.routes.Parameters.{Parameters}
use Rattle.http_routes.specs.routes.Routes.{path_of}
use Rattle.live_stage.specs.core_ends.history_spec.text_spec.Stamp.{IsStampOf}
use Rattle.paging_params.specs.Params.{last_under}

abbrev pub is_sweep : List ℕ → Bool
is_sweep target = bytes_eq (path_of target) (codes "/pdb/admin/v1/sweep")

abbrev pub kinds : Bool → Bool → Bool → Kinds
kinds expire purge reports = record { expire = expire; purge = purge; reports = reports }

-- at least one of the three
abbrev pub some_kinds : List Kinds
some_kinds =
    kinds true false false ∷ kinds false true false ∷ kinds false false true ∷ kinds true true false ∷ kinds true false true
    ∷ kinds false true true ∷ kinds true true true ∷ []

-- those whose words, joined by commas, are this text
abbrev pub kinds_among : List Kinds → List ℕ → Option Kinds
kinds_among [] text = None
kinds_among (k ∷ ks) text = if bytes_eq text (joined (kind_words k)) then Some k else kinds_among ks text

unfoldable pub kinds_named : List ℕ → Option Kinds
kinds_named text = kinds_among some_kinds text

-- the moment that the parameter names, if there is one and it is a stamp
abbrev pub IsMoment : Option (List ℕ) → Option ℤ → Type 0
IsMoment None moment = moment ≡ None
IsMoment (Some text) (Some m) = IsStampOf text m
IsMoment (Some text) None = (m : ℤ) → IsStampOf text m → ⊥

-- the checks, in their order
abbrev pub checked_sweep : Parameters → Option ℤ → Checked (Kinds × ℤ)
checked_sweep params moment =
    needed (codes "kinds") (last_under (codes "kinds") params) (λ text.
    needed (codes "at") (last_under (codes "at") params) (λ _.
    unless_bad (codes "bad kinds") (kinds_named text) (λ kinds.
    unless_bad (codes "bad at") moment (λ m. Ok (kinds, m)))))

-- the sweep that these parameters ask for, or the text of the first error
abbrev pub IsSweepAsked : Parameters → Checked (Kinds × ℤ) → Type 0
IsSweepAsked params asked = (moment : Option ℤ) × IsMoment (last_under (codes "at") params) moment × (asked ≡ checked_sweep params moment)
