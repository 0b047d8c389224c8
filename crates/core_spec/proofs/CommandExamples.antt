-- What payloads decode to, and which have a group.
use Rattle.std.proofs.Common.{◌≡◌, ◌≤◌, ℕ, pos, List, length, arith, refl, codes, None, Some, Ok, Err}
use Rattle.jiff.proofs.OnLiterals.{jiff_on_literals}
use Rattle.json_read.specs.text_spec.StampReader.{stamp_of, date_at, time_at, two_digits, one_of, fraction_at, distance_at, offset_at}
use Rattle.table_spec.specs.fleet_rows.declared.change.Change.TheVariants as change
use Rattle.table_spec.specs.fleet_rows.declared.command.Command.{Command}
use Rattle.table_spec.specs.fleet_rows.declared.command.Kind.{Kind}
use Rattle.table_spec.specs.fleet_rows.declared.command.Kind.TheVariants as kind
use Rattle.table_spec.specs.fleet_rows.declared.refusal.Refusal.TheVariants.{BadVersion, NotJson, NotObject}
use Rattle.core_spec.specs.Commands.{verdict_of, answer_of, key_of}

abbrev pub sent : Kind → ℕ → List ℕ → Command
sent k version payload = record { kind = k; version = version; received = pos 0; payload = payload }

pub deactivation : List ℕ
deactivation = codes "{\"certname\":\"a\",\"producer_timestamp\":\"2024-05-01T10:00:00Z\"}"

pub it_is_short : length deactivation ≤ 16_777_216
unfolding deactivation
it_is_short = omega arith

pub it_decodes : answer_of (sent kind.Deactivate 3 deactivation) ≡ Ok (change.Deactivate (record { certname = codes "a"; stamp = pos 1_714_557_600_000_000_000 }))
unfolding answer_of verdict_of deactivation stamp_of date_at time_at two_digits one_of fraction_at distance_at offset_at jiff_on_literals
it_decodes = refl

pub its_group_is_its_node_and_kind : key_of (sent kind.Deactivate 3 deactivation) ≡ Some (record { certname = codes "a"; kind = kind.Deactivate }, pos 1_714_557_600_000_000_000)
unfolding key_of verdict_of deactivation stamp_of date_at time_at two_digits one_of fraction_at distance_at offset_at jiff_on_literals
its_group_is_its_node_and_kind = refl

-- the version says nothing of the group
another_version_is_refused : answer_of (sent kind.Deactivate 2 deactivation) ≡ Err BadVersion
unfolding answer_of
another_version_is_refused = refl

another_version_has_its_group : key_of (sent kind.Deactivate 2 deactivation) ≡ Some (record { certname = codes "a"; kind = kind.Deactivate }, pos 1_714_557_600_000_000_000)
unfolding key_of verdict_of deactivation stamp_of date_at time_at two_digits one_of fraction_at distance_at offset_at jiff_on_literals
another_version_has_its_group = refl

a_report_has_no_group : key_of (sent kind.Report 8 deactivation) ≡ None
unfolding key_of verdict_of deactivation stamp_of date_at time_at two_digits one_of fraction_at distance_at offset_at jiff_on_literals
a_report_has_no_group = refl

facts_that_lack_their_values_have_a_group : key_of (sent kind.Facts 5 deactivation) ≡ Some (record { certname = codes "a"; kind = kind.Facts }, pos 1_714_557_600_000_000_000)
unfolding key_of verdict_of deactivation stamp_of date_at time_at two_digits one_of fraction_at distance_at offset_at jiff_on_literals
facts_that_lack_their_values_have_a_group = refl

an_empty_certname_is_no_group : key_of (sent kind.Deactivate 3 (codes "{\"certname\":\"\",\"producer_timestamp\":\"2024-05-01T10:00:00Z\"}")) ≡ None
unfolding key_of verdict_of
an_empty_certname_is_no_group = refl

without_a_stamp_there_is_no_group : key_of (sent kind.Deactivate 3 (codes "{\"certname\":\"a\",\"producer_timestamp\":\"today\"}")) ≡ None
unfolding key_of verdict_of stamp_of date_at time_at two_digits one_of fraction_at distance_at offset_at jiff_on_literals
without_a_stamp_there_is_no_group = refl

a_list_has_no_group : key_of (sent kind.Deactivate 3 (codes "[]")) ≡ None
unfolding key_of verdict_of
a_list_has_no_group = refl

a_list_is_refused : answer_of (sent kind.Deactivate 3 (codes "[]")) ≡ Err NotObject
unfolding answer_of verdict_of
a_list_is_refused = refl

a_payload_that_is_cut_is_refused_at_its_end : answer_of (sent kind.Deactivate 3 (codes "{\"a\":")) ≡ Err (NotJson 5)
unfolding answer_of verdict_of
a_payload_that_is_cut_is_refused_at_its_end = refl

a_payload_that_is_cut_has_no_group : key_of (sent kind.Deactivate 3 (codes "{\"a\":")) ≡ None
unfolding key_of verdict_of
a_payload_that_is_cut_has_no_group = refl
