-- Texts of items, and texts that are none.
use Rattle.std.proofs.Common.{◌≡◌, refl, pos, [], ◌∷◌, true, false, Some, None, codes}
use Rattle.std.specs.Fmt.{digits}
use Rattle.jiff.proofs.OnLiterals.{jiff_on_literals}
use Rattle.spool_spec.specs.text_spec.StampReader.{stamp_of, date_at, time_at, two_digits, one_of, fraction_at, distance_at, offset_at}
use Rattle.spool_spec.specs.fleet_rows.declared.command.Command.{Command}
use Rattle.spool_spec.specs.fleet_rows.declared.command.Kind.TheVariants.{Facts, Expiration}
use Rattle.spool_spec.specs.fleet_rows.declared.settings.Kinds.{Kinds}
use Rattle.spool_spec.specs.history_spec.Thread.{command, sweep}
use Rattle.spool_spec.specs.Spool.{command_text, sweep_text}
use Rattle.history_laws.specs.Reading.{kind_at, command_at, kinds_at, sweep_at, item_at}

-- what is received at the moment 7
abbrev facts : Command
facts = record { kind = Facts; version = 5; received = pos 7; payload = codes "{}" }

text_of_facts : command_text facts ≡ codes "replace_facts 5 2\n{}\n"
unfolding digits
text_of_facts = refl

facts_are_read : item_at (pos 7) (codes "replace_facts 5 2\n{}\nsweep") ≡ Some (command facts, codes "sweep")
unfolding item_at kind_at command_at one_of digits
facts_are_read = refl

-- a payload may be empty, and may have line feeds
empty_payload : item_at (pos 7) (codes "configure_expiration 1 0\n\n") ≡ Some (command (record { kind = Expiration; version = 1; received = pos 7; payload = [] }), [])
unfolding item_at kind_at command_at one_of digits
empty_payload = refl

payload_of_a_line_feed : item_at (pos 7) (codes "replace_facts 5 1\n\n\n") ≡ Some (command (record { kind = Facts; version = 5; received = pos 7; payload = 10 ∷ [] }), [])
unfolding item_at kind_at command_at one_of digits
payload_of_a_line_feed = refl

greatest_version : item_at (pos 7) (codes "replace_facts 4294967295 0\n\n") ≡ Some (command (record { kind = Facts; version = 4_294_967_295; received = pos 7; payload = [] }), [])
unfolding item_at kind_at command_at one_of digits
greatest_version = refl

version_of_33_bits : item_at (pos 7) (codes "replace_facts 4294967296 0\n\n") ≡ None
unfolding item_at kind_at command_at one_of digits
version_of_33_bits = refl

leading_zero : item_at (pos 7) (codes "replace_facts 05 0\n\n") ≡ None
unfolding item_at kind_at command_at one_of digits
leading_zero = refl

two_spaces : item_at (pos 7) (codes "replace_facts  5 0\n\n") ≡ None
unfolding item_at kind_at command_at one_of digits
two_spaces = refl

unknown_word : item_at (pos 7) (codes "replace_fact 5 0\n\n") ≡ None
unfolding item_at kind_at command_at one_of digits
unknown_word = refl

payload_cut_off : item_at (pos 7) (codes "replace_facts 5 3\n{}\n") ≡ None
unfolding item_at kind_at command_at one_of digits
payload_cut_off = refl

no_last_line_feed : item_at (pos 7) (codes "replace_facts 5 2\n{}") ≡ None
unfolding item_at kind_at command_at one_of digits
no_last_line_feed = refl

-- a payload may have 16 MiB, and no more
too_long : item_at (pos 7) (codes "replace_facts 5 16777217\n") ≡ None
unfolding item_at kind_at command_at one_of digits
too_long = refl

-- ---- sweeps

abbrev expire_and_purge : Kinds
expire_and_purge = record { expire = true; purge = true; reports = false }

text_of_a_sweep : sweep_text expire_and_purge (codes "2024-05-01T10:00:00Z") ≡ codes "sweep expire,purge 2024-05-01T10:00:00Z\n"
text_of_a_sweep = refl

sweep_is_read : item_at (pos 7) (codes "sweep expire,purge 2024-05-01T10:00:00Z\nstore") ≡ Some (sweep expire_and_purge (pos 1_714_557_600_000_000_000), codes "store")
unfolding item_at kind_at kinds_at sweep_at stamp_of date_at time_at two_digits one_of fraction_at distance_at offset_at jiff_on_literals
sweep_is_read = refl

sweep_of_all : item_at (pos 7) (codes "sweep expire,purge,reports 2024-05-01T12:00:00.5+02:00\n") ≡ Some (sweep (record { expire = true; purge = true; reports = true }) (pos 1_714_557_600_500_000_000), [])
unfolding item_at kind_at kinds_at sweep_at stamp_of date_at time_at two_digits one_of fraction_at distance_at offset_at jiff_on_literals
sweep_of_all = refl

sweep_for_nothing : item_at (pos 7) (codes "sweep  2024-05-01T10:00:00Z\n") ≡ None
unfolding item_at kind_at kinds_at sweep_at one_of
sweep_for_nothing = refl

kinds_out_of_order : item_at (pos 7) (codes "sweep purge,expire 2024-05-01T10:00:00Z\n") ≡ None
unfolding item_at kind_at kinds_at sweep_at one_of
kinds_out_of_order = refl

kind_twice : item_at (pos 7) (codes "sweep purge,purge 2024-05-01T10:00:00Z\n") ≡ None
unfolding item_at kind_at kinds_at sweep_at one_of
kind_twice = refl

no_stamp : item_at (pos 7) (codes "sweep purge 2024-05-01\n") ≡ None
unfolding item_at kind_at kinds_at sweep_at stamp_of date_at time_at two_digits one_of fraction_at distance_at offset_at jiff_on_literals
no_stamp = refl
