-- What is read is the text of an item.
use Rattle.std.proofs.Common.{◌≡◌, ◌≢◌, ◌∙◌, ℕ, ◌<◌, ◌≤◌, ◌^◌, ℤ, List, [], ◌∷◌, ◌++◌, length, arith, refl, sym, ap, subst, Bool, true, false, ◌&&◌, ◌||◌, nat_le, if◌then◌else◌, Option, Some, None, append_assoc, codes, ◌⊎◌, inl, inr}
use Rattle.std.specs.Prelude.{decimal, nat_lt}
use Rattle.spool_spec.specs.text_spec.Stamp.{IsStampOf}
use Rattle.spool_spec.specs.text_spec.StampReader.{◌>>=◌, one_of, stamp_of}
use Rattle.wire_laws.proofs.of_text_laws.StampLaws.{stamps_are_read}
use Rattle.spool_spec.specs.fleet_rows.declared.command.Command.{Command}
use Rattle.spool_spec.specs.fleet_rows.declared.command.Kind.{Kind}
use Rattle.spool_spec.specs.fleet_rows.declared.command.Kind.TheVariants.{Facts, Catalog, Report, Deactivate, Expiration}
use Rattle.spool_spec.specs.fleet_rows.declared.settings.Kinds.{Kinds}
use Rattle.spool_spec.specs.history_spec.Thread.{Item, command, sweep}
use Rattle.spool_spec.specs.Spool.{kind_word, joined, kind_words, command_text, sweep_text, IsCommandText, IsSweepText, IsItemText}
use Rattle.history_laws.specs.Reading.{or_else, after_word, number_at, bytes_at, line_at, kind_if, kind_at, command_at, is_there, comma_if, word_if, kinds_at, sweep_at, item_at}
use Rattle.history_laws.specs.SpoolLaws.{WhatIsReadIsAnItemText}
use Rattle.spool_spec.proofs.of_plain_laws.Options.{none_some, when}
use Rattle.spool_spec.proofs.of_text_spec.Fronts.{bound, one_of-is}
use Rattle.history_laws.proofs.ReadingFronts.{after_word-is, number_at-is, bytes_at-is, line_at-is}
use Rattle.spool_spec.specs.json_tree.Limits.{most_payload}

either : {A : Type 0} (a b : Option A) (q : A) → or_else a b ≡ Some q → (a ≡ Some q) ⊎ (b ≡ Some q)
either None b q h = inr h
either (Some a) b q h = inl h

-- ---- commands

kind_if-is : (kind : Kind) (bytes : List ℕ) (q : Kind × List ℕ) → kind_if kind (after_word (kind_word kind ++ 32 ∷ []) bytes) ≡ Some q → bytes ≡ kind_word q.0 ++ 32 ∷ q.1
kind_if-is kind bytes q h = found (after_word (kind_word kind ++ 32 ∷ []) bytes) refl h
  where
    found : (o : Option (List ℕ)) → after_word (kind_word kind ++ 32 ∷ []) bytes ≡ o → kind_if kind o ≡ Some q → bytes ≡ kind_word q.0 ++ 32 ∷ q.1
    found None e h = absurd (none_some q h)
    found (Some rest) e h =
        let same : (kind, rest) ≡ q = cc in
        after_word-is (kind_word kind ++ 32 ∷ []) bytes rest e ∙ append_assoc (kind_word kind) (32 ∷ []) rest ∙ ap (λ (p : Kind × List ℕ). kind_word p.0 ++ 32 ∷ p.1) same

kind_at-is : (bytes : List ℕ) (q : Kind × List ℕ) → kind_at bytes ≡ Some q → bytes ≡ kind_word q.0 ++ 32 ∷ q.1
unfolding kind_at
kind_at-is bytes q h =
    elim (either (kind_if Facts (after_word (codes "replace_facts ") bytes)) _ q h) [
      | inl a ↦ kind_if-is Facts bytes q a
      | inr a ↦ elim (either (kind_if Catalog (after_word (codes "replace_catalog ") bytes)) _ q a) [
        | inl b ↦ kind_if-is Catalog bytes q b
        | inr b ↦ elim (either (kind_if Report (after_word (codes "store_report ") bytes)) _ q b) [
          | inl c ↦ kind_if-is Report bytes q c
          | inr c ↦ elim (either (kind_if Deactivate (after_word (codes "deactivate_node ") bytes)) _ q c) [
            | inl d ↦ kind_if-is Deactivate bytes q d
            | inr d ↦ kind_if-is Expiration bytes q d
          ]
        ]
      ]
    ]

record CommandStands (received : ℤ) (kind : Kind) (bytes : List ℕ) (q : Item × List ℕ) : Type 0 where
  version : ℕ
  payload : List ℕ
  small : version < 2 ^ 32
  few : length payload ≤ most_payload
  item_is : q.0 ≡ command (record { kind = kind; version = version; received = received; payload = payload })
  bytes_are : bytes ≡ decimal version ++ 32 ∷ (decimal (length payload) ++ 10 ∷ (payload ++ 10 ∷ q.1))

command_bytes : (version : ℕ) (payload bytes a b c d e f rest : List ℕ) (size : ℕ) → bytes ≡ decimal version ++ a → a ≡ 32 ∷ b → b ≡ decimal size ++ c → c ≡ 10 ∷ d → d ≡ payload ++ e → e ≡ 10 ∷ f → f ≡ rest → length payload ≡ size → bytes ≡ decimal version ++ 32 ∷ (decimal (length payload) ++ 10 ∷ (payload ++ 10 ∷ rest))
command_bytes version payload bytes a b c d e f rest size g h i j k l m n = cc

command_at-is : (received : ℤ) (kind : Kind) (bytes : List ℕ) (q : Item × List ℕ) → command_at received kind bytes ≡ Some q → CommandStands received kind bytes q
unfolding command_at
command_at-is received kind bytes q h =
    let a = bound (number_at bytes) _ q h in
    let b = bound (one_of 32 32 a.0.1) _ q a.2 in
    let c = bound (number_at b.0) _ q b.2 in
    let d = bound (one_of 10 10 c.0.1) _ q c.2 in
    let e = bound (bytes_at c.0.0 d.0) _ q d.2 in
    let f = bound (one_of 10 10 e.0.1) _ q e.2 in
    let g = when (nat_lt a.0.0 (2 ^ 32) && nat_le c.0.0 most_payload) (command (record { kind = kind; version = a.0.0; received = received; payload = e.0.0 }), f.0) q f.2 in
    let taken = bytes_at-is c.0.0 d.0 e.0 e.1 in
    let rest : f.0 ≡ q.1 = ap (λ p. p.1) g.1 in
    record {
      version = a.0.0;
      payload = e.0.0;
      small = grind arith;
      few = (let size : length e.0.0 ≡ c.0.0 = taken.0 in grind arith);
      item_is = sym (ap (λ p. p.0) g.1);
      bytes_are =
          command_bytes a.0.0 e.0.0 bytes a.0.1 b.0 c.0.1 d.0 e.0.1 f.0 q.1 c.0.0 (number_at-is bytes a.0 a.1) (one_of-is 32 a.0.1 b.0 b.1) (number_at-is b.0 c.0 c.1) (one_of-is 10 c.0.1 d.0 d.1) taken.1 (one_of-is 10 e.0.1 f.0 f.1) rest taken.0;
    }

-- ---- sweeps

is_there-is : (o : Option (List ℕ)) (word bytes : List ℕ) → ((rest : List ℕ) → o ≡ Some rest → bytes ≡ word ++ rest) → bytes ≡ (if (is_there bytes o).0 then word else []) ++ (is_there bytes o).1
is_there-is None word bytes h = refl
is_there-is (Some rest) word bytes h = h rest refl

word_if-is : (later : Bool) (word bytes : List ℕ) → bytes ≡ (if (word_if later word bytes).0 then comma_if later ++ word else []) ++ (word_if later word bytes).1
word_if-is later word bytes = is_there-is (after_word (comma_if later ++ word) bytes) (comma_if later ++ word) bytes (after_word-is (comma_if later ++ word) bytes)

abbrev some_words : Bool → Bool → Bool → List ℕ → List ℕ
some_words expire purge reports rest =
    (if expire then codes "expire" else []) ++ ((if purge then comma_if expire ++ codes "purge" else []) ++ ((if reports then comma_if (expire || purge) ++ codes "reports" else []) ++ rest))

abbrev kinds_of : Bool → Bool → Bool → Kinds
kinds_of expire purge reports = record { expire = expire; purge = purge; reports = reports }

words_are : (expire purge reports : Bool) (rest : List ℕ) → some_words expire purge reports rest ≡ joined (kind_words (kinds_of expire purge reports)) ++ rest
words_are true true true rest = refl
words_are true true false rest = refl
words_are true false true rest = refl
words_are true false false rest = refl
words_are false true true rest = refl
words_are false true false rest = refl
words_are false false true rest = refl
words_are false false false rest = refl

some_kind : (expire purge reports : Bool) → (expire || purge || reports) ≡ true → kind_words (kinds_of expire purge reports) ≢ []
some_kind true purge reports h = λ e. cc
some_kind false true reports h = λ e. cc
some_kind false false true h = λ e. cc
some_kind false false false h = λ e. cc

record KindsStand (bytes : List ℕ) (q : Kinds × List ℕ) : Type 0 where
  bytes_are : bytes ≡ joined (kind_words q.0) ++ 32 ∷ q.1
  some : kind_words q.0 ≢ []

flags_stand : (expire purge reports : Bool) (bytes rest : List ℕ) (q : Kinds × List ℕ) → bytes ≡ some_words expire purge reports rest → (if expire || purge || reports then (one_of 32 32 rest >>= (λ r. Some (kinds_of expire purge reports, r))) else None) ≡ Some q → KindsStand bytes q
flags_stand expire purge reports bytes rest q e h = told (expire || purge || reports) refl h
  where
    told : (b : Bool) → (expire || purge || reports) ≡ b → (if b then (one_of 32 32 rest >>= (λ r. Some (kinds_of expire purge reports, r))) else None) ≡ Some q → KindsStand bytes q
    told false f h = absurd (none_some q h)
    told true f h =
        let a = bound (one_of 32 32 rest) _ q h in
        let same : (kinds_of expire purge reports, a.0) ≡ q = cc in
        subst (KindsStand bytes) same (record {
          bytes_are = e ∙ words_are expire purge reports rest ∙ ap (λ t. joined (kind_words (kinds_of expire purge reports)) ++ t) (one_of-is 32 rest a.0 a.1);
          some = some_kind expire purge reports f;
        })

kinds_at-is : (bytes : List ℕ) (q : Kinds × List ℕ) → kinds_at bytes ≡ Some q → KindsStand bytes q
unfolding kinds_at
kinds_at-is bytes q h =
    let a = word_if false (codes "expire") bytes in
    let b = word_if a.0 (codes "purge") a.1 in
    let c = word_if (a.0 || b.0) (codes "reports") b.1 in
    flags_stand a.0 b.0 c.0 bytes c.1 q
    (word_if-is false (codes "expire") bytes ∙ ap (λ t. (if a.0 then codes "expire" else []) ++ t) (word_if-is a.0 (codes "purge") a.1 ∙ ap (λ t. (if b.0 then comma_if a.0 ++ codes "purge" else []) ++ t) (word_if-is (a.0 || b.0) (codes "reports") b.1))) h

record SweepStands (bytes : List ℕ) (q : Item × List ℕ) : Type 0 where
  kinds : Kinds
  moment : ℤ
  stamp : List ℕ
  is_stamp : IsStampOf stamp moment
  some : kind_words kinds ≢ []
  item_is : q.0 ≡ sweep kinds moment
  bytes_are : bytes ≡ joined (kind_words kinds) ++ 32 ∷ (stamp ++ 10 ∷ q.1)

sweep_at-is : (bytes : List ℕ) (q : Item × List ℕ) → sweep_at bytes ≡ Some q → SweepStands bytes q
unfolding sweep_at
sweep_at-is bytes q h =
    let a = bound (kinds_at bytes) _ q h in
    let b = bound (line_at a.0.1) _ q a.2 in
    let c = bound (stamp_of b.0.0) _ q b.2 in
    let same : (sweep a.0.0 c.0, b.0.1) ≡ q = cc in
    let stands = kinds_at-is bytes a.0 a.1 in
    record {
      kinds = a.0.0;
      moment = c.0;
      stamp = b.0.0;
      is_stamp = (stamps_are_read b.0.0 c.0).0 c.1;
      some = stands.some;
      item_is = sym (ap (λ p. p.0) same);
      bytes_are =
          stands.bytes_are ∙ ap (λ t. joined (kind_words a.0.0) ++ 32 ∷ t) (line_at-is a.0.1 b.0 b.1 ∙ ap (λ p. b.0.0 ++ 10 ∷ p.1) same);
    }

-- ---- items

command-rest : (w v s p rest : List ℕ) → w ++ 32 ∷ (v ++ 32 ∷ (s ++ 10 ∷ (p ++ 10 ∷ rest))) ≡ (w ++ 32 ∷ (v ++ 32 ∷ (s ++ 10 ∷ (p ++ 10 ∷ [])))) ++ rest
command-rest w v s p rest = sym (simp append_assoc)

sweep-rest : (w s rest : List ℕ) → w ++ 32 ∷ (s ++ 10 ∷ rest) ≡ (w ++ 32 ∷ (s ++ 10 ∷ [])) ++ rest
sweep-rest w s rest = sym (simp append_assoc)

abbrev ItemStands : ℤ → List ℕ → Item × List ℕ → Type 0
ItemStands received bytes q = (text : List ℕ) × IsItemText received q.0 text × (bytes ≡ text ++ q.1)

command_stands : (received : ℤ) (bytes : List ℕ) (q : Item × List ℕ) → kind_at bytes >>= (λ kind. command_at received kind.0 kind.1) ≡ Some q → ItemStands received bytes q
command_stands received bytes q h =
    let a = bound (kind_at bytes) (λ kind. command_at received kind.0 kind.1) q h in
    let s = command_at-is received a.0.0 a.0.1 q a.2 in
    let c : Command = record { kind = a.0.0; version = s.version; received = received; payload = s.payload } in
    let is_text : IsCommandText received c (command_text c) = record { text_is = refl; version = s.small; payload = s.few; received_is = refl } in (
      command_text c,
      subst (λ item. IsItemText received item (command_text c)) (sym s.item_is) is_text,
      kind_at-is bytes a.0 a.1 ∙ ap (λ t. kind_word a.0.0 ++ 32 ∷ t) s.bytes_are ∙ command-rest (kind_word a.0.0) (decimal s.version) (decimal (length s.payload)) s.payload q.1,
    )

sweep_stands : (received : ℤ) (bytes : List ℕ) (q : Item × List ℕ) → after_word (codes "sweep ") bytes >>= (λ rest. sweep_at rest) ≡ Some q → ItemStands received bytes q
sweep_stands received bytes q h =
    let a = bound (after_word (codes "sweep ") bytes) (λ rest. sweep_at rest) q h in
    let s = sweep_at-is a.0 q a.2 in
    let is_text : IsSweepText s.kinds s.moment (sweep_text s.kinds s.stamp) = record { stamp = s.stamp; moment = s.is_stamp; text_is = refl; some_kind = s.some } in (
      sweep_text s.kinds s.stamp,
      subst (λ item. IsItemText received item (sweep_text s.kinds s.stamp)) (sym s.item_is) is_text,
      after_word-is (codes "sweep ") bytes a.0 a.1 ∙ ap (λ t. codes "sweep " ++ t) (s.bytes_are ∙ sweep-rest (joined (kind_words s.kinds)) s.stamp q.1),
    )

pub what_is_read_is_an_item_text : WhatIsReadIsAnItemText
unfolding item_at
what_is_read_is_an_item_text received bytes item rest h =
    elim (either (kind_at bytes >>= (λ kind. command_at received kind.0 kind.1)) _ (item, rest) h) [
      | inl a ↦ command_stands received bytes (item, rest) a
      | inr a ↦ sweep_stands received bytes (item, rest) a
    ]
