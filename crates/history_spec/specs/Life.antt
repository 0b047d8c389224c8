-- The part of a history that counts for a node.
use Rattle.std.specs.Prelude.{ℕ, ℤ, List, [], ◌∷◌, Bool, true, false, not, ◌&&◌, if◌then◌else◌, Option, None, filter}
use Rattle.std.specs.Str.{bytes_eq}
use Rattle.wire_spec.specs.fleet_rows.declared.settings.Ttls.{Ttls}
use Rattle.wire_spec.specs.fleet_rows.Texts.{sorted_texts}
use Rattle.wire_spec.specs.fleet_rows.declared.applied.Applied.{Applied}
use Rattle.history_spec.specs.Trace.{applied, swept, Trace}
use Rattle.wire_spec.specs.fleet_rows.Change.{change_certname}
use Rattle.history_spec.specs.Node.{later, is_purged, inactive}
use Rattle.history_spec.specs.Report.{reports_kept_of}

-- the greatest moment of a sweep with `expire`
abbrev pub greatest_expiry : Trace → Option ℤ
greatest_expiry [] = None
greatest_expiry (applied x ∷ earlier) = greatest_expiry earlier
greatest_expiry (swept kinds m ∷ earlier) = if kinds.expire then later m (greatest_expiry earlier) else greatest_expiry earlier

-- the greatest moment of a sweep with `reports`
abbrev pub greatest_retention : Trace → Option ℤ
greatest_retention [] = None
greatest_retention (applied x ∷ earlier) = greatest_retention earlier
greatest_retention (swept kinds m ∷ earlier) = if kinds.reports then later m (greatest_retention earlier) else greatest_retention earlier

-- the node's applied commands since the last purge that removed it; a sweep expires first and then purges
abbrev pub life : Ttls → List ℕ → Trace → List Applied
life ttls node [] = []
life ttls node (applied x ∷ earlier) =
    if bytes_eq node (change_certname x.change) then x ∷ life ttls node earlier else life ttls node earlier
life ttls node (swept kinds m ∷ earlier) =
    if kinds.purge && is_purged ttls m (greatest_expiry (swept kinds m ∷ earlier)) (life ttls node earlier)
    then [] else life ttls node earlier

abbrev pub is_empty : List Applied → Bool
is_empty [] = true
is_empty (x ∷ xs) = false

abbrev pub certnames : Trace → List (List ℕ)
certnames [] = []
certnames (applied x ∷ earlier) = change_certname x.change ∷ certnames earlier
certnames (swept kinds m ∷ earlier) = certnames earlier

-- a node exists if its life has a command; the nodes are sorted by their bytes
abbrev pub nodes : Ttls → Trace → List (List ℕ)
nodes ttls history = filter (λ node. not (is_empty (life ttls node history))) (sorted_texts (certnames history))

abbrev pub is_inactive : Ttls → Trace → List ℕ → Bool
is_inactive ttls history node = inactive ttls (greatest_expiry history) (life ttls node history)

abbrev pub kept_reports : Ttls → List ℕ → Trace → List Applied
kept_reports ttls node history = reports_kept_of ttls (greatest_retention history) (life ttls node history)
