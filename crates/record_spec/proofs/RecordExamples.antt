-- Records and fields, and the bytes that spell them.
use Rattle.std.proofs.Common.{◌≡◌, refl, pos, [], ◌∷◌, true, false, Some, None, codes}
use Rattle.std.specs.Prelude.{neg_ℤ}
use Rattle.history_spec.specs.text_spec.Compact.{escaped}
use Rattle.history_spec.specs.text_spec.Json.{boolean}
use Rattle.history_spec.specs.fleet_rows.declared.change.Change.TheVariants as change
use Rattle.history_spec.specs.fleet_rows.declared.command.Command.{Command}
use Rattle.history_spec.specs.fleet_rows.declared.command.Kind.TheVariants as kind
use Rattle.history_spec.specs.fleet_rows.declared.refusal.Cause.TheVariants as cause
use Rattle.history_spec.specs.fleet_rows.declared.refusal.Field.TheVariants as field
use Rattle.history_spec.specs.fleet_rows.declared.refusal.Refusal.TheVariants as refusal
use Rattle.record_spec.specs.declared.queue.QueueRecord.TheVariants as queue
use Rattle.record_spec.specs.declared.store.StoreRecord.TheVariants as store
use Rattle.record_spec.specs.Changes.{change_text}
use Rattle.record_spec.specs.Parts.{bytes_text, optional, list_text, moment_text, long_text, bool_text}
use Rattle.record_spec.specs.Queue.{queue_text}
use Rattle.record_spec.specs.Refusals.{refusal_bytes, cause_bytes}
use Rattle.record_spec.specs.Store.{store_text}

-- ---- logs that were just laid

the_base_of_a_laid_queue : queue_text (queue.Base 0) ≡ 0 ∷ 0 ∷ 0 ∷ 0 ∷ 0 ∷ 0 ∷ 0 ∷ 0 ∷ 0 ∷ []
the_base_of_a_laid_queue = refl

the_lifetimes_of_a_laid_store : store_text (store.Settings 7 14 14) ≡ 0 ∷ 7 ∷ 0 ∷ 0 ∷ 0 ∷ 14 ∷ 0 ∷ 0 ∷ 0 ∷ 14 ∷ 0 ∷ 0 ∷ 0 ∷ []
the_lifetimes_of_a_laid_store = refl

the_lifetimes_with_a_limit : store_text (store.Limits 7 14 3650 500) ≡ 6 ∷ 7 ∷ 0 ∷ 0 ∷ 0 ∷ 14 ∷ 0 ∷ 0 ∷ 0 ∷ 66 ∷ 14 ∷ 0 ∷ 0 ∷ 244 ∷ 1 ∷ 0 ∷ 0 ∷ []
the_lifetimes_with_a_limit = refl

the_base_of_a_laid_store : store_text (store.Base None None None) ≡ 1 ∷ 0 ∷ 0 ∷ 0 ∷ []
the_base_of_a_laid_store = refl

-- ---- the queue

a_done : queue_text (queue.Done 1) ≡ 4 ∷ 1 ∷ 0 ∷ 0 ∷ 0 ∷ 0 ∷ 0 ∷ 0 ∷ 0 ∷ []
a_done = refl

a_superseded : queue_text (queue.Superseded 1 258) ≡ 5 ∷ 1 ∷ 0 ∷ 0 ∷ 0 ∷ 0 ∷ 0 ∷ 0 ∷ 0 ∷ 2 ∷ 1 ∷ 0 ∷ 0 ∷ 0 ∷ 0 ∷ 0 ∷ 0 ∷ []
a_superseded = refl

a_failure : queue_text (queue.Fail 1 0 2) ≡ 7 ∷ 1 ∷ 0 ∷ 0 ∷ 0 ∷ 0 ∷ 0 ∷ 0 ∷ 0 ∷ 0 ∷ 0 ∷ 0 ∷ 0 ∷ 0 ∷ 0 ∷ 0 ∷ 0 ∷ 2 ∷ 0 ∷ 0 ∷ 0 ∷ 0 ∷ 0 ∷ 0 ∷ 0 ∷ []
a_failure = refl

a_refused : queue_text (queue.Refused 1 refusal.NotObject) ≡ 6 ∷ 1 ∷ 0 ∷ 0 ∷ 0 ∷ 0 ∷ 0 ∷ 0 ∷ 0 ∷ 3 ∷ []
a_refused = refl

abbrev command : Command
command = record { kind = kind.Deactivate; version = 3; received = pos 1; payload = codes "{}" }

-- the receipt, the kind, the version, the moment, and the payload behind its length
a_submit : queue_text (queue.Submit 2 command)
    ≡ 3 ∷ 2 ∷ 0 ∷ 0 ∷ 0 ∷ 0 ∷ 0 ∷ 0 ∷ 0 ∷ 3 ∷ 3 ∷ 0 ∷ 0 ∷ 0 ∷ 1 ∷ 0 ∷ 0 ∷ 0 ∷ 0 ∷ 0 ∷ 0 ∷ 0 ∷ 0 ∷ 0 ∷ 0 ∷ 0 ∷ 0 ∷ 0 ∷ 0 ∷ 0 ∷ 2 ∷ 0 ∷ 0 ∷ 0 ∷ 123 ∷ 125 ∷ []
unfolding moment_text
a_submit = refl

a_place : refusal_bytes (refusal.Missing (record { field = field.ExpireFacts; outer = None; inner = Some 7 })) ≡ 4 ∷ 42 ∷ 0 ∷ 1 ∷ 7 ∷ 0 ∷ 0 ∷ 0 ∷ []
a_place = refl

a_place_in_the_payload : cause_bytes (cause.Refused (refusal.NotJson 300)) ≡ 0 ∷ 1 ∷ 44 ∷ 1 ∷ 0 ∷ 0 ∷ 0 ∷ 0 ∷ 0 ∷ 0 ∷ []
a_place_in_the_payload = refl

failures : cause_bytes cause.Failures ≡ 1 ∷ []
failures = refl

-- ---- the store

-- 18 bytes
a_purge : store_text (store.Swept (record { expire = false; purge = true; reports = false }) (pos 0)) ≡ 4 ∷ 2 ∷ 0 ∷ 0 ∷ 0 ∷ 0 ∷ 0 ∷ 0 ∷ 0 ∷ 0 ∷ 0 ∷ 0 ∷ 0 ∷ 0 ∷ 0 ∷ 0 ∷ 0 ∷ 0 ∷ []
unfolding moment_text
a_purge = refl

a_sweep_of_all_kinds : store_text (store.Swept (record { expire = true; purge = true; reports = true }) (pos 256)) ≡ 4 ∷ 7 ∷ 0 ∷ 1 ∷ 0 ∷ 0 ∷ 0 ∷ 0 ∷ 0 ∷ 0 ∷ 0 ∷ 0 ∷ 0 ∷ 0 ∷ 0 ∷ 0 ∷ 0 ∷ 0 ∷ []
unfolding moment_text
a_sweep_of_all_kinds = refl

a_moment_before_1970 : moment_text (neg_ℤ (pos 1)) ≡ 255 ∷ 255 ∷ 255 ∷ 255 ∷ 255 ∷ 255 ∷ 255 ∷ 255 ∷ 255 ∷ 255 ∷ 255 ∷ 255 ∷ 255 ∷ 255 ∷ 255 ∷ 255 ∷ []
unfolding moment_text
a_moment_before_1970 = refl

a_moment_of_more_than_64_bits : moment_text (pos 18_446_744_073_709_551_618) ≡ 2 ∷ 0 ∷ 0 ∷ 0 ∷ 0 ∷ 0 ∷ 0 ∷ 0 ∷ 1 ∷ 0 ∷ 0 ∷ 0 ∷ 0 ∷ 0 ∷ 0 ∷ 0 ∷ []
unfolding moment_text
a_moment_of_more_than_64_bits = refl

marks : store_text (store.Marks (record { certname = codes "a"; active = None; deactivated = None })) ≡ 2 ∷ 1 ∷ 0 ∷ 0 ∷ 0 ∷ 97 ∷ 0 ∷ 0 ∷ []
marks = refl

-- ---- fields and changes

a_text : bytes_text (codes "ab") ≡ 2 ∷ 0 ∷ 0 ∷ 0 ∷ 97 ∷ 98 ∷ []
a_text = refl

an_absent_value : optional long_text None ≡ 0 ∷ []
an_absent_value = refl

a_present_value : optional bool_text (Some true) ≡ 1 ∷ 1 ∷ []
a_present_value = refl

a_list : list_text bytes_text (codes "a" ∷ codes "" ∷ []) ≡ 2 ∷ 0 ∷ 0 ∷ 0 ∷ 1 ∷ 0 ∷ 0 ∷ 0 ∷ 97 ∷ 0 ∷ 0 ∷ 0 ∷ 0 ∷ []
a_list = refl

-- its kind, its certname, no environment, its values as compact text, its stamp, and no producer
facts_of_a_node : change_text (change.Facts (record { certname = codes "a"; environment = None; values = (codes "u", boolean true) ∷ []; stamp = pos 0; producer = None }))
    ≡ 0 ∷ 1 ∷ 0 ∷ 0 ∷ 0 ∷ 97 ∷ 0 ∷ 10 ∷ 0 ∷ 0 ∷ 0 ∷ 123 ∷ 34 ∷ 117 ∷ 34 ∷ 58 ∷ 116 ∷ 114 ∷ 117 ∷ 101 ∷ 125
    ∷ 0 ∷ 0 ∷ 0 ∷ 0 ∷ 0 ∷ 0 ∷ 0 ∷ 0 ∷ 0 ∷ 0 ∷ 0 ∷ 0 ∷ 0 ∷ 0 ∷ 0 ∷ 0 ∷ 0 ∷ []
unfolding moment_text escaped
facts_of_a_node = refl

an_expiration : change_text (change.Expiration (record { certname = codes "a"; stamp = pos 0; expire = false }))
    ≡ 4 ∷ 1 ∷ 0 ∷ 0 ∷ 0 ∷ 97 ∷ 0 ∷ 0 ∷ 0 ∷ 0 ∷ 0 ∷ 0 ∷ 0 ∷ 0 ∷ 0 ∷ 0 ∷ 0 ∷ 0 ∷ 0 ∷ 0 ∷ 0 ∷ 0 ∷ 0 ∷ []
unfolding moment_text
an_expiration = refl
