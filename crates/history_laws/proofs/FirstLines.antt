-- The first line of an item's text is short.
use Rattle.std.proofs.Common.{◌≡◌, ◌∙◌, ℕ, suc, ◌+◌, ◌<◌, ◌≤◌, ◌^◌, ℤ, List, [], ◌∷◌, ◌++◌, length, arith, refl, sym, Bool, true, false, not, ◌&&◌, ◌==◌, eqb, Option, Some, None, append_assoc, length-append, codes}
use Rattle.std.specs.Prelude.{decimal}
use Rattle.std.specs.List.{list_all}
use Rattle.std.proofs.lemmas.Fmt.{decimal_is_IsNumeral, length-decimal-le}
use Rattle.spool_spec.proofs.of_plain_laws.Booleans.{no_truth}
use Rattle.spool_spec.specs.text_spec.Stamp.{fraction_text, zone_text, stamp_text, Zone, utc, ahead, behind, IsFraction, StampText, IsStampText}
use Rattle.spool_spec.specs.fleet_rows.declared.command.Command.{Command}
use Rattle.spool_spec.specs.fleet_rows.declared.command.Kind.{Kind}
use Rattle.spool_spec.specs.fleet_rows.declared.command.Kind.TheVariants.{Facts, Catalog, Report, Deactivate, Expiration}
use Rattle.spool_spec.specs.fleet_rows.declared.settings.Kinds.{Kinds}
use Rattle.spool_spec.specs.history_spec.Thread.{command, sweep}
use Rattle.spool_spec.specs.Spool.{kind_word, joined, kind_words, IsCommandText, IsSweepText}
use Rattle.history_laws.specs.SpoolLaws.{HasFirstLine, FirstLinesAreShort}
use Rattle.history_laws.proofs.Feeds.{NoFeed, no_feed-append, no_feed-between, no_feed-digits, no_feed-stamp}

-- ---- words

feed_step : (b : Bool) (x : ℕ) (xs : List ℕ) → eqb x 10 ≡ b → (not b && list_all (λ c. not (c == 10)) xs) ≡ true → (list_all (λ c. not (c == 10)) xs ≡ true → NoFeed xs) → NoFeed (x ∷ xs)
feed_step true x xs e h next = no_truth h
feed_step false x xs e h next = ((λ (same : x ≡ 10). grind arith), next h)

no_feed-tested : (xs : List ℕ) → list_all (λ c. not (c == 10)) xs ≡ true → NoFeed xs
no_feed-tested [] h = tt
no_feed-tested (x ∷ xs) h = feed_step (eqb x 10) x xs refl h (no_feed-tested xs)

record IsWord (n : ℕ) (word : List ℕ) : Type 0 where
  no_feed : NoFeed word
  short : length word ≤ n

kind_word_is : (kind : Kind) → IsWord 20 (kind_word kind)
kind_word_is Facts = record { no_feed = no_feed-tested (kind_word Facts) refl; short = omega arith }
kind_word_is Catalog = record { no_feed = no_feed-tested (kind_word Catalog) refl; short = omega arith }
kind_word_is Report = record { no_feed = no_feed-tested (kind_word Report) refl; short = omega arith }
kind_word_is Deactivate = record { no_feed = no_feed-tested (kind_word Deactivate) refl; short = omega arith }
kind_word_is Expiration = record { no_feed = no_feed-tested (kind_word Expiration) refl; short = omega arith }

abbrev words_of : Bool → Bool → Bool → List ℕ
words_of expire purge reports = joined (kind_words (record { expire = expire; purge = purge; reports = reports }))

words_are : (expire purge reports : Bool) → IsWord 20 (words_of expire purge reports)
words_are true true true = record { no_feed = no_feed-tested (words_of true true true) refl; short = omega arith }
words_are true true false = record { no_feed = no_feed-tested (words_of true true false) refl; short = omega arith }
words_are true false true = record { no_feed = no_feed-tested (words_of true false true) refl; short = omega arith }
words_are true false false = record { no_feed = no_feed-tested (words_of true false false) refl; short = omega arith }
words_are false true true = record { no_feed = no_feed-tested (words_of false true true) refl; short = omega arith }
words_are false true false = record { no_feed = no_feed-tested (words_of false true false) refl; short = omega arith }
words_are false false true = record { no_feed = no_feed-tested (words_of false false true) refl; short = omega arith }
words_are false false false = record { no_feed = tt; short = omega arith }

decimal_is : (n : ℕ) → n < 10 ^ 10 → IsWord 10 (decimal n)
decimal_is n small =
    let numeral = decimal_is_IsNumeral n (omega arith) in
    record { no_feed = no_feed-digits (decimal n) numeral.0.1; short = length-decimal-le 10 n (omega arith) small (omega arith) }

-- ---- stamps

fraction_is_short : (fraction : Option (List ℕ)) → IsFraction fraction → length (fraction_text fraction) ≤ 10
fraction_is_short None h = omega arith
fraction_is_short (Some digits) h = omega (arith, h.1)

zone_is_short : (zone : Zone) → length (zone_text zone) ≤ 6
zone_is_short (utc letter) = omega arith
zone_is_short (ahead hour minute) = omega arith
zone_is_short (behind hour minute) = omega arith

stamp_is_short : (s : StampText) → IsStampText s → length (stamp_text s) ≤ 35
stamp_is_short s h =
    let fraction = fraction_is_short s.fraction h.fraction in
    let zone = zone_is_short s.zone in
    let end : length (fraction_text s.fraction ++ zone_text s.zone) ≡ length (fraction_text s.fraction) + length (zone_text s.zone) = length-append (fraction_text s.fraction) (zone_text s.zone) in
    omega (arith, fraction, zone, end)

-- ---- items

command_line : (w v s p : List ℕ) → w ++ 32 ∷ (v ++ 32 ∷ (s ++ 10 ∷ (p ++ 10 ∷ []))) ≡ (w ++ 32 ∷ (v ++ 32 ∷ s)) ++ 10 ∷ (p ++ 10 ∷ [])
command_line w v s p = sym (simp append_assoc)

length-between : (xs : List ℕ) (c : ℕ) (ys : List ℕ) → length (xs ++ c ∷ ys) ≡ length xs + suc (length ys)
length-between xs c ys = length-append xs (c ∷ ys)

command_has_line : (received : ℤ) (c : Command) (text : List ℕ) → IsCommandText received c text → HasFirstLine 200 text
command_has_line received c text h =
    let word = kind_word_is c.kind in
    let version = decimal_is c.version (omega (arith, h.version)) in
    let size = decimal_is (length c.payload) (omega (arith, h.payload)) in
    let numbers = decimal c.version ++ 32 ∷ decimal (length c.payload) in
    let numbers_length = length-between (decimal c.version) 32 (decimal (length c.payload)) in
    let line_length = length-between (kind_word c.kind) 32 numbers in
    record {
      line = kind_word c.kind ++ 32 ∷ numbers;
      rest = c.payload ++ 10 ∷ [];
      text_is = h.text_is ∙ command_line (kind_word c.kind) (decimal c.version) (decimal (length c.payload)) c.payload;
      no_feed = no_feed-between (kind_word c.kind) 32 numbers word.no_feed (λ e. omega (arith, e)) (no_feed-between (decimal c.version) 32 (decimal (length c.payload)) version.no_feed (λ e. omega (arith, e)) size.no_feed);
      short = omega (arith, word.short, version.short, size.short, numbers_length, line_length);
    }

sweep_line : (w s : List ℕ) → w ++ 32 ∷ (s ++ 10 ∷ []) ≡ (w ++ 32 ∷ s) ++ 10 ∷ []
sweep_line w s = sym (simp append_assoc)

sweep_has_line : (kinds : Kinds) (m : ℤ) (text : List ℕ) → IsSweepText kinds m text → HasFirstLine 200 text
sweep_has_line kinds m text h =
    let words = words_are kinds.expire kinds.purge kinds.reports in
    let front = codes "sweep " ++ joined (kind_words kinds) in
    let no_feed : NoFeed front = no_feed-append (codes "sweep ") (joined (kind_words kinds)) (no_feed-tested (codes "sweep ") refl) words.no_feed in
    let front_length : length front ≡ 6 + length (joined (kind_words kinds)) = length-append (codes "sweep ") (joined (kind_words kinds)) in
    let stamp : length h.stamp ≤ 35 = rw h.moment.text_is (stamp_is_short h.moment.stamp h.moment.is_stamp) in
    record {
      line = front ++ 32 ∷ h.stamp;
      rest = [];
      text_is = h.text_is ∙ sweep_line front h.stamp;
      no_feed = no_feed-between front 32 h.stamp no_feed (λ e. omega (arith, e)) (no_feed-stamp h.stamp m h.moment);
      short = omega (arith, words.short, front_length, stamp, length-between front 32 h.stamp);
    }

pub first_lines_are_short : FirstLinesAreShort
first_lines_are_short received (command c) text h = command_has_line received c text h
first_lines_are_short received (sweep kinds m) text h = sweep_has_line kinds m text h
