-- What is printed for small histories.
use Rattle.std.proofs.Common.{◌≡◌, refl, ℕ, pos, ◌+◌, ◌-◌, ◌*◌, List, [], ◌∷◌, true, false, Some, codes}
use Rattle.history_spec.specs.text_spec.Json.{number}
use Rattle.history_spec.specs.text_spec.Compact.{escaped}
use Rattle.history_spec.specs.fleet_rows.declared.change.Change.{Change}
use Rattle.history_spec.specs.fleet_rows.declared.change.Change.TheVariants.{Facts, Deactivate, Expiration}
use Rattle.history_spec.specs.fleet_rows.declared.row.Entity.TheVariants as entity
use Rattle.history_spec.specs.Trace.{TraceEvent, applied_as, applied, swept, Trace}
use Rattle.history_spec.specs.fleet_rows.Defaults.{default_ttls}
use Rattle.table_spec.specs.Rows.{active_rows}
use Rattle.table_spec.specs.RowsText.{rows_text}

-- 2024-05-01T10:00:00Z
abbrev ten : ℕ
ten = 1_714_557_600_000_000_000

abbrev hour : ℕ
hour = 3_600_000_000_000

abbrev day : ℕ
day = 86_400_000_000_000

abbrev facts : List ℕ → List ℕ → ℕ → Change
facts node value at =
    Facts (record { certname = node; environment = Some (codes "production"); values = (codes "k", number value) ∷ []; stamp = pos at; producer = Some (codes "m") })

abbrev at_receipt : ℕ → Change → TraceEvent
at_receipt receipt change = applied (applied_as receipt (Some (pos 0)) change)

abbrev expiry : ℕ → TraceEvent
expiry m = swept (record { expire = true; purge = false; reports = false }) (pos m)

abbrev purge : ℕ → TraceEvent
purge m = swept (record { expire = false; purge = true; reports = false }) (pos m)

abbrev printed : Trace → List ℕ
printed history = rows_text entity.Facts (active_rows entity.Facts default_ttls history)

no_event : printed [] ≡ codes "[]"
no_event = refl

-- the history is a list of events, the newest first, so these stand in the opposite order to that in which they came

one_fact : printed (at_receipt 1 (facts (codes "a") (codes "1") ten) ∷ []) ≡ codes "[{\"certname\":\"a\",\"environment\":\"production\",\"name\":\"k\",\"value\":1}]"
unfolding escaped
one_fact = refl

older_behind_newer : printed (at_receipt 2 (facts (codes "a") (codes "1") ten) ∷ at_receipt 1 (facts (codes "a") (codes "2") (ten + hour)) ∷ []) ≡ codes "[{\"certname\":\"a\",\"environment\":\"production\",\"name\":\"k\",\"value\":2}]"
unfolding escaped
older_behind_newer = refl

equal_stamps_go_to_the_later_receipt : printed (at_receipt 2 (facts (codes "a") (codes "2") ten) ∷ at_receipt 1 (facts (codes "a") (codes "1") ten) ∷ []) ≡ codes "[{\"certname\":\"a\",\"environment\":\"production\",\"name\":\"k\",\"value\":2}]"
unfolding escaped
equal_stamps_go_to_the_later_receipt = refl

-- 12:00:00.000000001+02:00 is a nanosecond before 10:00:00.000000002Z
one_nanosecond_decides : printed (at_receipt 2 (facts (codes "a") (codes "2") (ten + 1)) ∷ at_receipt 1 (facts (codes "a") (codes "1") (ten + 2)) ∷ []) ≡ codes "[{\"certname\":\"a\",\"environment\":\"production\",\"name\":\"k\",\"value\":1}]"
unfolding escaped
one_nanosecond_decides = refl

abbrev deactivation : ℕ → Change
deactivation at = Deactivate (record { certname = codes "a"; stamp = pos at })

deactivated_at_the_same_moment : printed (at_receipt 2 (deactivation ten) ∷ at_receipt 1 (facts (codes "a") (codes "1") ten) ∷ []) ≡ codes "[]"
deactivated_at_the_same_moment = refl

active_a_nanosecond_later : printed (at_receipt 3 (facts (codes "a") (codes "1") (ten + 1)) ∷ at_receipt 2 (deactivation ten) ∷ at_receipt 1 (facts (codes "a") (codes "1") ten) ∷ []) ≡ codes "[{\"certname\":\"a\",\"environment\":\"production\",\"name\":\"k\",\"value\":1}]"
unfolding escaped
active_a_nanosecond_later = refl

not_expired_at_the_edge : printed (expiry (ten + 7 * day) ∷ at_receipt 1 (facts (codes "a") (codes "1") ten) ∷ []) ≡ codes "[{\"certname\":\"a\",\"environment\":\"production\",\"name\":\"k\",\"value\":1}]"
unfolding escaped
not_expired_at_the_edge = refl

expired_behind_the_edge : printed (expiry (ten + 7 * day + 1) ∷ at_receipt 1 (facts (codes "a") (codes "1") ten) ∷ []) ≡ codes "[]"
expired_behind_the_edge = refl

abbrev keeps_from_expiring : ℕ → Change
keeps_from_expiring at = Expiration (record { certname = codes "a"; stamp = pos at; expire = false })

expiration_configured : printed (expiry (ten + 8 * day) ∷ at_receipt 2 (keeps_from_expiring ten) ∷ at_receipt 1 (facts (codes "a") (codes "1") ten) ∷ []) ≡ codes "[{\"certname\":\"a\",\"environment\":\"production\",\"name\":\"k\",\"value\":1}]"
unfolding escaped
expiration_configured = refl

-- a purge at the edge leaves the node, and the deactivation with it
not_purged_at_the_edge : printed (at_receipt 3 (facts (codes "a") (codes "3") (ten - hour)) ∷ purge (ten + 14 * day) ∷ at_receipt 2 (deactivation ten) ∷ at_receipt 1 (facts (codes "a") (codes "1") ten) ∷ []) ≡ codes "[]"
not_purged_at_the_edge = refl

-- a nanosecond later it takes them, and older facts begin a new life
new_life_behind_a_purge : printed (at_receipt 3 (facts (codes "a") (codes "3") (ten - hour)) ∷ purge (ten + 14 * day + 1) ∷ at_receipt 2 (deactivation ten) ∷ at_receipt 1 (facts (codes "a") (codes "1") ten) ∷ []) ≡ codes "[{\"certname\":\"a\",\"environment\":\"production\",\"name\":\"k\",\"value\":3}]"
unfolding escaped
new_life_behind_a_purge = refl

rows_by_bytes : printed (at_receipt 2 (facts (codes "a") (codes "1") ten) ∷ at_receipt 1 (facts (codes "Z") (codes "2") ten) ∷ []) ≡ codes "[{\"certname\":\"Z\",\"environment\":\"production\",\"name\":\"k\",\"value\":2},{\"certname\":\"a\",\"environment\":\"production\",\"name\":\"k\",\"value\":1}]"
unfolding escaped
rows_by_bytes = refl
