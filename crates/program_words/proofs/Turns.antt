-- One word of clap's walk, for a command with the two options and one positional that takes every plain word.
use Rattle.std.proofs.Common.{◌≡◌, ◌∙◌, ◌⊎◌, inl, inr, ℕ, zero, suc, List, [], ◌∷◌, ◌&&◌, Bool, true, false, cond, codes, length, Option, Some, None, is_some, refl, sym, ap, true≢false}
use Rattle.std.specs.Prelude.{option_map, slice_get}
use Rattle.std.specs.Str.{bytes_eq, chars}
use Rattle.std.proofs.lemmas.Slice.Eq.{bytes_eq-Decides}
use Rattle.clap.specs.Lexer.{long_of, short_of}
use Rattle.clap.specs.Walk.{Text, Row, Rule, Held, Walk, Waiting, idle, option, positional, next, trailing, value, arg_by_id, arg_by_index, arg_by_long, arg_by_short, settled_rows, used, subcommand_met, plain_word, after_step, word_met, plain, is_pending, positional_held}
use Rattle.clap.specs.Simple.{Shape, new_rule}
use Rattle.clap.specs.Faults.{settle_fault, use_fault, word_fault, step_fault, flags_fault, bundle_step_fault}
use Rattle.clap.specs.Kinds.{Kinds, or_else}
use Rattle.clap.specs.declared.error.kind.ErrorKind.TheVariants as kind
use Rattle.clap.proofs.WalkLemmas.{bundle_ends}
use Rattle.program_words.proofs.Rows.{same_bytes}
use Rattle.clap.specs.declared.builder.action.ArgAction.TheVariants.{Set, Append}
use Rattle.clap.specs.declared.builder.value_parser.ValueParser.TheVariants as vp
use Rattle.program_words.specs.Words.{Word, Name, serve_option, links_option}
use Rattle.program_words.specs.Made.{plain_id}
use Rattle.program_words.specs.Scanning.{Look, ends, names, refused, other, look, long_look, short_look, other_look, name_id, option_named, Takes}

-- ---- the arguments, as building leaves them

abbrev pub option_rule : Name → Rule
option_rule name = record (new_rule (name_id name)) {
  long = Some (name_id name);
  action = Some Set;
  parser = Some vp.String;
  range = Some (record { start_inclusive = 1; end_inclusive = 1 });
}

abbrev pub plain_rule : Rule
plain_rule = record (new_rule plain_id) {
  action = Some Append;
  index = Some 1;
  parser = Some vp.String;
  range = Some (record { start_inclusive = 1; end_inclusive = 1 });
}

-- what a walk finds among the arguments
pub record IsReader (t : Takes) (s : Shape) : Type 0 where
  pub again : s.args_override_self ≡ false
  pub by_long : (name : Text) → arg_by_long s.rules name ≡ option_map option_rule (option_named t name)
  pub by_short : (x : ℕ) → arg_by_short s.rules x ≡ None
  pub by_index : arg_by_index s.rules 1 ≡ Some plain_rule
  pub by_id : (name : Name) → t name ≡ true → arg_by_id s.rules (name_id name) ≡ Some (option_rule name)
  pub by_plain_id : arg_by_id s.rules plain_id ≡ Some plain_rule

-- ---- what a word looks like

abbrev pub dashes : Word
dashes = 45 ∷ 45 ∷ []

abbrev pub Seen : Takes → Word → Look → Type 0
Seen t word ends = bytes_eq word dashes ≡ true
Seen t word (names name v) = (bytes_eq word dashes ≡ false) × ((text : Word) × (long_of word ≡ Some (text, v)) × (option_named t text ≡ Some name))
Seen t word refused = (bytes_eq word dashes ≡ false)
    × (((p : Word × Option Word) × (long_of word ≡ Some p) × (option_named t p.0 ≡ None))
    ⊎ ((long_of word ≡ None) × ((flags : Word) × (short_of word ≡ Some flags) × (is_some (slice_get (chars flags) 0) ≡ true))))
Seen t word other = (bytes_eq word dashes ≡ false) × (long_of word ≡ None)
    × ((short_of word ≡ None) ⊎ ((flags : Word) × (short_of word ≡ Some flags) × (slice_get (chars flags) 0 ≡ None)))

seen_flags : (t : Takes) (word flags : Word) (first : Option ℕ) → bytes_eq word dashes ≡ false → long_of word ≡ None → short_of word ≡ Some flags → slice_get (chars flags) 0 ≡ first
    → Seen t word (cond (is_some first) refused other)
seen_flags t word flags None two none short is = (two, none, inr (flags, short, is))
seen_flags t word flags (Some x) two none short is = (two, inr (none, (flags, short, ap is_some is)))

seen_short : (t : Takes) (word : Word) (flags : Option Word) → bytes_eq word dashes ≡ false → long_of word ≡ None → short_of word ≡ flags → Seen t word (short_look flags)
seen_short t word None two none short = (two, none, inl short)
seen_short t word (Some flags) two none short = seen_flags t word flags (slice_get (chars flags) 0) two none short refl

seen_named : (t : Takes) (word : Word) (p : Word × Option Word) (name : Option Name) → bytes_eq word dashes ≡ false → long_of word ≡ Some p → option_named t p.0 ≡ name → Seen t word (long_look name p.1)
seen_named t word p None two long is = (two, inl (p, long, is))
seen_named t word p (Some name) two long is = (two, (p.0, long, is))

seen_long : (t : Takes) (word : Word) (long : Option (Word × Option Word)) → bytes_eq word dashes ≡ false → long_of word ≡ long → Seen t word (other_look t long word)
seen_long t word None two long = seen_short t word (short_of word) two long refl
seen_long t word (Some p) two long = seen_named t word p (option_named t p.0) two long refl

seen_two : (t : Takes) (word : Word) (b : Bool) → bytes_eq word dashes ≡ b → Seen t word (cond b ends (other_look t (long_of word) word))
seen_two t word true two = two
seen_two t word false two = seen_long t word (long_of word) two refl

pub seen : (t : Takes) (word : Word) → Seen t word (look t word)
unfolding look
seen t word = seen_two t word (bytes_eq word dashes) refl

-- an option that is named is one that the command takes
pub is_taken : (t : Takes) (text : Word) (name : Name) → option_named t text ≡ Some name → (text ≡ name_id name) × (t name ≡ true)
is_taken t text name is = go (bytes_eq (codes "serve") text) (t serve_option) (bytes_eq (codes "links") text) (t links_option) refl refl refl refl is
  where
    here : (n : Name) → n ≡ name → bytes_eq (name_id n) text ≡ true → t n ≡ true → (text ≡ name_id name) × (t name ≡ true)
    here n same eq takes = (sym ((bytes_eq-Decides (name_id n) text).0 eq) ∙ ap name_id same, ap t (sym same) ∙ takes)

    go : (a b c d : Bool) → bytes_eq (codes "serve") text ≡ a → t serve_option ≡ b → bytes_eq (codes "links") text ≡ c → t links_option ≡ d
        → cond (a && b) (Some serve_option) (cond (c && d) (Some links_option) None) ≡ Some name → (text ≡ name_id name) × (t name ≡ true)
    go true true c d ea tb ec td e = here serve_option (cc) ea tb
    go true false true true ea tb ec td e = here links_option (cc) ec td
    go false b true true ea tb ec td e = here links_option (cc) ec td
    go true false true false ea tb ec td e = absurd (cc)
    go true false false d ea tb ec td e = absurd (cc)
    go false b true false ea tb ec td e = absurd (cc)
    go false b false d ea tb ec td e = absurd (cc)

-- ---- faults

abbrev pub IsFault : Kinds → Type 0
IsFault kinds = kinds ≡ [] → ⊥

pub first_fault : (a b : Kinds) → IsFault a → IsFault (or_else a b)
first_fault [] b h e = h refl
first_fault (k ∷ a) b h e = h e'
  where
    e' : k ∷ a ≡ []
    e' = absurd (cc)

-- ---- states between two words

abbrev pub hold : List Row → Option (Text × List Text) → Held
hold rows pending = record { rows = rows; pending = pending; skip = 0 }

abbrev pub at : List Row → Option (Text × List Text) → Waiting → Bool → Walk
at rows pending waiting is_trailing =
    record { held = hold rows pending; waiting = waiting; position = 1; is_trailing = is_trailing; stopped = None }

no_subcommand : (waiting : Waiting) (word : Text) → subcommand_met [] waiting word ≡ None
no_subcommand idle word = refl
no_subcommand (option id) word = refl
no_subcommand positional word = refl

abbrev pub is_open : Waiting → Bool
is_open idle = true
is_open (option id) = false
is_open positional = true

module _ (t : Takes) (s : Shape) (f : IsReader t s) where
  -- ---- what a word comes to

  pub met_ends : (waiting : Waiting) (word : Text) (h : Held) → Seen t word ends → word_met s.rules [] false waiting 1 word h ≡ (h, trailing 1)
  met_ends waiting word h two = rw (no_subcommand waiting word, two) refl

  pub met_waits : (waiting : Waiting) (word : Text) (name : Name) (rows : List Row) (pending : Option (Text × List Text)) → Seen t word (names name None)
      → word_met s.rules [] false waiting 1 word (hold rows pending) ≡ (hold (settled_rows s.rules pending rows) (Some (name_id name, [])), next (option (name_id name)))
  met_waits waiting word name rows pending l = rw (no_subcommand waiting word, l.0, l.1.1, f.by_long l.1.0, l.1.2) refl

  pub met_value : (waiting : Waiting) (word : Text) (name : Name) (v : Word) (rows : List Row) (pending : Option (Text × List Text)) → Seen t word (names name (Some v))
      → word_met s.rules [] false waiting 1 word (hold rows pending) ≡ (hold (used (option_rule name) (v ∷ []) (settled_rows s.rules pending rows)) None, next idle)
  met_value waiting word name v rows pending l = rw (no_subcommand waiting word, l.0, l.1.1, f.by_long l.1.0, l.1.2) refl

  pub met_open : (waiting : Waiting) (word : Text) (rows : List Row) (pending : Option (Text × List Text)) → is_open waiting ≡ true → Seen t word other
      → word_met s.rules [] false waiting 1 word (hold rows pending) ≡ (hold rows pending, value)
  met_open waiting word rows pending free (two, none, inl short) = rw (no_subcommand waiting word, two, none, short) (opens waiting free)
    where
      opens : (w : Waiting) → is_open w ≡ true → plain_word s.rules w word (hold rows pending) ≡ (hold rows pending, value)
      opens idle e = refl
      opens (option id) e = absurd (true≢false (sym e))
      opens positional e = refl
  met_open waiting word rows pending free (two, none, inr short) =
      rw (no_subcommand waiting word, two, none, short.1, sym (bundle_ends s.rules (length short.0) short.0 0 plain (hold rows pending) (sym short.2))) (opens waiting free)
    where
      opens : (w : Waiting) → is_open w ≡ true → plain_word s.rules w word (hold rows pending) ≡ (hold rows pending, value)
      opens idle e = refl
      opens (option id) e = absurd (true≢false (sym e))
      opens positional e = refl

  pub met_option : (word : Text) (name : Name) (rows : List Row) → t name ≡ true → Seen t word other
      → word_met s.rules [] false (option (name_id name)) 1 word (hold rows (Some (name_id name, []))) ≡ (hold rows (Some (name_id name, word ∷ [])), next idle)
  met_option word name rows taken (two, none, inl short) = rw (two, none, short, f.by_id name taken, same_bytes (name_id name)) refl
  met_option word name rows taken (two, none, inr short) =
      rw (two, none, short.1, sym (bundle_ends s.rules (length short.0) short.0 0 plain (hold rows (Some (name_id name, []))) (sym short.2)), f.by_id name taken, same_bytes (name_id name)) refl

  -- ---- its fault

  abbrev pub settles : List Row → Option (Text × List Text) → Kinds
  settles rows pending = settle_fault s.rules s.args_override_self (hold rows pending)

  pub fault_ends : (waiting : Waiting) (word : Text) (h : Held) → Seen t word ends → word_fault s [] false waiting word h ≡ []
  fault_ends waiting word h two = rw (no_subcommand waiting word, two) refl

  pub fault_waits : (waiting : Waiting) (word : Text) (name : Name) (rows : List Row) (pending : Option (Text × List Text)) → Seen t word (names name None)
      → word_fault s [] false waiting word (hold rows pending) ≡ settles rows pending
  fault_waits waiting word name rows pending l = rw (no_subcommand waiting word, l.0, l.1.1, f.by_long l.1.0, l.1.2) refl

  pub fault_value : (waiting : Waiting) (word : Text) (name : Name) (v : Word) (rows : List Row) (pending : Option (Text × List Text)) → Seen t word (names name (Some v))
      → word_fault s [] false waiting word (hold rows pending)
      ≡ or_else (settles rows pending) (use_fault s.args_override_self (option_rule name) (v ∷ []) (settled_rows s.rules pending rows))
  fault_value waiting word name v rows pending l = rw (no_subcommand waiting word, l.0, l.1.1, f.by_long l.1.0, l.1.2) refl

  flags_refused : (again : Bool) (flags : Text) (first : Option ℕ) (h : Held) → slice_get (chars flags) 0 ≡ first → is_some first ≡ true → IsFault (flags_fault s.rules again (length flags) flags 0 h)
  unfolding flags_fault chars
  flags_refused again [] first h is some e = absurd (true≢false (sym (ap is_some is ∙ some)))
  flags_refused again (x ∷ xs) None h is some e = absurd (true≢false (sym some))
  flags_refused again (x ∷ xs) (Some y) h is some e =
      let none : bundle_step_fault s.rules again (Some y) (x ∷ xs) 0 h (flags_fault s.rules again (length xs)) ≡ [] = ap (λ o. bundle_step_fault s.rules again o (x ∷ xs) 0 h (flags_fault s.rules again (length xs))) (sym is) ∙ e in
      let bad : kind.UnknownArgument ∷ [] ≡ [] = rw (f.by_short y) at none in
      absurd (cc)

  pub fault_refused : (waiting : Waiting) (word : Text) (rows : List Row) (pending : Option (Text × List Text)) → Seen t word refused → IsFault (word_fault s [] false waiting word (hold rows pending))
  fault_refused waiting word rows pending (two, inl l) e =
      let bad : kind.UnknownArgument ∷ [] ≡ [] = rw (no_subcommand waiting word, two, l.1, f.by_long l.0.0, l.2) at e in
      absurd (cc)
  fault_refused waiting word rows pending (two, inr l) e =
      flags_refused s.args_override_self l.1.0 (slice_get (chars l.1.0) 0) (hold rows pending) refl l.1.2 (rw (no_subcommand waiting word, two, l.0, l.1.1) at e)

  none_ends : (again : Bool) (k : ℕ) (flags : Text) (h : Held) → slice_get (chars flags) 0 ≡ None → flags_fault s.rules again k flags 0 h ≡ []
  unfolding flags_fault
  none_ends again zero flags h is = refl
  none_ends again (suc k) flags h is = rw is refl

  pub fault_other : (waiting : Waiting) (word : Text) (rows : List Row) (pending : Option (Text × List Text)) → Seen t word other → word_fault s [] false waiting word (hold rows pending) ≡ []
  fault_other waiting word rows pending (two, none, inl short) = rw (no_subcommand waiting word, two, none, short) refl
  fault_other waiting word rows pending (two, none, inr short) =
      rw (no_subcommand waiting word, two, none, short.1, none_ends s.args_override_self (length short.0) short.0 (hold rows pending) short.2) refl

  -- a plain word settles what is pending
  no_several : (b : Bool) → (b && false) ≡ false
  no_several true = refl
  no_several false = refl

  pub fault_plain : (rows : List Row) (pending : Option (Text × List Text)) → step_fault s 1 (hold rows pending) value ≡ settles rows pending
  fault_plain rows pending = rw (f.by_index, no_several (is_pending plain_rule pending)) refl

  held_plain : (rows : List Row) (pending : Option (Text × List Text)) (word : Text)
      → positional_held s.rules plain_rule word (hold rows pending) ≡ hold (settled_rows s.rules pending rows) (Some (plain_id, word ∷ []))
  held_plain rows pending word = rw (no_several (is_pending plain_rule pending)) refl

  pub after_plain : (rows : List Row) (pending : Option (Text × List Text)) (waiting : Waiting) (is_trailing : Bool) (word : Text)
      → after_step s.rules word (at rows pending waiting is_trailing) (hold rows pending) value
      ≡ at (settled_rows s.rules pending rows) (Some (plain_id, word ∷ [])) positional is_trailing
  after_plain rows pending waiting true word = rw (f.by_index, held_plain rows pending word) refl
  after_plain rows pending waiting false word = rw (f.by_index, held_plain rows pending word) refl
