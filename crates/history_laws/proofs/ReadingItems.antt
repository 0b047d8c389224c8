-- The text of an item is read as the item.
use Rattle.std.proofs.Common.{◌≡◌, ◌≢◌, ◌∙◌, ℕ, ◌<◌, ◌≤◌, ◌^◌, ℤ, List, [], ◌∷◌, ◌++◌, length, arith, refl, sym, ap, Bool, true, false, ◌&&◌, nat_le, Some, append_assoc, codes}
use Rattle.std.specs.Prelude.{decimal, nat_lt}
use Rattle.spool_spec.specs.text_spec.StampReader.{one_of}
use Rattle.wire_laws.proofs.of_text_laws.StampLaws.{stamp_is_read}
use Rattle.spool_spec.specs.fleet_rows.declared.command.Command.{Command}
use Rattle.spool_spec.specs.fleet_rows.declared.command.Kind.{Kind}
use Rattle.spool_spec.specs.fleet_rows.declared.command.Kind.TheVariants.{Facts, Catalog, Report, Deactivate, Expiration}
use Rattle.spool_spec.specs.fleet_rows.declared.settings.Kinds.{Kinds}
use Rattle.spool_spec.specs.history_spec.Thread.{command, sweep}
use Rattle.spool_spec.specs.Spool.{kind_word, joined, kind_words, IsCommandText, IsSweepText}
use Rattle.history_laws.specs.Reading.{kind_at, command_at, kinds_at, sweep_at, item_at}
use Rattle.history_laws.specs.SpoolLaws.{ItemTextsAreRead}
use Rattle.history_laws.proofs.Feeds.{no_feed-stamp}
use Rattle.history_laws.proofs.ReadingFronts.{one_of-byte, number_at-decimal, bytes_at-append, line_at-append}
use Rattle.spool_spec.specs.json_tree.Limits.{most_payload}

-- ---- commands

kind_at-word : (kind : Kind) (r : List ℕ) → kind_at (kind_word kind ++ 32 ∷ r) ≡ Some (kind, r)
unfolding kind_at
kind_at-word Facts r = refl
kind_at-word Catalog r = refl
kind_at-word Report r = refl
kind_at-word Deactivate r = refl
kind_at-word Expiration r = refl

command_at-text : (received : ℤ) (kind : Kind) (version : ℕ) (payload rest : List ℕ) → version < 2 ^ 32 → length payload ≤ most_payload → command_at received kind (decimal version ++ 32 ∷ (decimal (length payload) ++ 10 ∷ (payload ++ 10 ∷ rest))) ≡ Some (command (record { kind = kind; version = version; received = received; payload = payload }), rest)
unfolding command_at
command_at-text received kind version payload rest small few =
    let fits : (nat_lt version (2 ^ 32) && nat_le (length payload) most_payload) ≡ true = grind arith in
    rw (number_at-decimal version 32 (decimal (length payload) ++ 10 ∷ (payload ++ 10 ∷ rest)) refl (omega arith), one_of-byte 32 (decimal (length payload) ++ 10 ∷ (payload ++ 10 ∷ rest)))
    (rw (number_at-decimal (length payload) 10 (payload ++ 10 ∷ rest) refl (omega arith), one_of-byte 10 (payload ++ 10 ∷ rest))
    (rw (bytes_at-append payload (10 ∷ rest), one_of-byte 10 rest) (rw fits refl)))

command-rest : (w v s p rest : List ℕ) → (w ++ 32 ∷ (v ++ 32 ∷ (s ++ 10 ∷ (p ++ 10 ∷ [])))) ++ rest ≡ w ++ 32 ∷ (v ++ 32 ∷ (s ++ 10 ∷ (p ++ 10 ∷ rest)))
command-rest w v s p rest = simp append_assoc

command_is_read : (received : ℤ) (c : Command) (text rest : List ℕ) → IsCommandText received c text → item_at received (text ++ rest) ≡ Some (command c, rest)
unfolding item_at
command_is_read received c text rest h =
    let tail = decimal c.version ++ 32 ∷ (decimal (length c.payload) ++ 10 ∷ (c.payload ++ 10 ∷ rest)) in
    let bytes : text ++ rest ≡ kind_word c.kind ++ 32 ∷ tail = ap (λ t. t ++ rest) h.text_is ∙ command-rest (kind_word c.kind) (decimal c.version) (decimal (length c.payload)) c.payload rest in
    rw bytes (rw (kind_at-word c.kind tail) (rw (command_at-text received c.kind c.version c.payload rest h.version h.payload) (rw (sym h.received_is) refl)))

-- ---- sweeps

kinds_at-words : (expire purge reports : Bool) (r : List ℕ) → kind_words (record { expire = expire; purge = purge; reports = reports }) ≢ [] → kinds_at (joined (kind_words (record { expire = expire; purge = purge; reports = reports })) ++ 32 ∷ r) ≡ Some (record { expire = expire; purge = purge; reports = reports }, r)
unfolding kinds_at one_of
kinds_at-words true true true r h = refl
kinds_at-words true true false r h = refl
kinds_at-words true false true r h = refl
kinds_at-words true false false r h = refl
kinds_at-words false true true r h = refl
kinds_at-words false true false r h = refl
kinds_at-words false false true r h = refl
kinds_at-words false false false r h = absurd (h refl)

sweep-rest : (w s rest : List ℕ) → (w ++ 32 ∷ (s ++ 10 ∷ [])) ++ rest ≡ w ++ 32 ∷ (s ++ 10 ∷ rest)
sweep-rest w s rest = simp append_assoc

sweep_is_read : (received : ℤ) (kinds : Kinds) (m : ℤ) (text rest : List ℕ) → IsSweepText kinds m text → item_at received (text ++ rest) ≡ Some (sweep kinds m, rest)
unfolding item_at kind_at sweep_at
sweep_is_read received kinds m text rest h =
    let bytes : text ++ rest ≡ codes "sweep " ++ (joined (kind_words kinds) ++ 32 ∷ (h.stamp ++ 10 ∷ rest)) = ap (λ t. t ++ rest) h.text_is ∙ ap (λ t. codes "sweep " ++ t) (sweep-rest (joined (kind_words kinds)) h.stamp rest) in
    let line = line_at-append h.stamp rest (no_feed-stamp h.stamp m h.moment) in
    rw bytes (rw (kinds_at-words kinds.expire kinds.purge kinds.reports (h.stamp ++ 10 ∷ rest) h.some_kind) (rw line (rw (stamp_is_read h.stamp m h.moment) refl)))

pub item_texts_are_read : ItemTextsAreRead
item_texts_are_read received (command c) text rest h = command_is_read received c text rest h
item_texts_are_read received (sweep kinds m) text rest h = sweep_is_read received kinds m text rest h
