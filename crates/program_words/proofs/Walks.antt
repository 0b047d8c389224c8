-- clap's walk over all the words, by what `read_from` reads of them.
use Rattle.std.proofs.Common.{◌≡◌, ◌∙◌, List, [], ◌∷◌, ◌++◌, ◌&&◌, Bool, true, false, cond, Option, Some, None, is_some, refl, sym, ap, subst}
use Rattle.std.specs.Prelude.{option_map, option_and_then, fold, unwrap_or}
use Rattle.std.specs.Str.{bytes_eq}
use Rattle.clap.specs.Walk.{Text, Row, Walk, Waiting, Held, Step, idle, option, positional, value, all_of, has_row, settled_rows, used, walked, word_met, after_step, with_values}
use Rattle.clap.specs.Simple.{Shape}
use Rattle.clap.specs.Faults.{settle_fault, use_fault, turn_fault, walk_fault, word_fault, step_fault}
use Rattle.clap.specs.Kinds.{Kinds, or_else}
use Rattle.clap.specs.declared.error.kind.ErrorKind.TheVariants as kind
use Rattle.clap.specs.declared.parser.matches.ValueSource.TheVariants.{CommandLine}
use Rattle.clap.specs.declared.builder.value_parser.Reading.TheVariants.{AsWritten}
use Rattle.program_words.specs.Words.{Word, Name, serve_option, links_option, Split}
use Rattle.program_words.specs.Scanning.{Look, ends, names, refused, other, look, name_id, Mode, parts, wait, behind, value_of, set_value, first_value, with_plain, goes_on, look_step, finish, read_from, Takes}
use Rattle.program_words.specs.Made.{plain_id}
use Rattle.program_words.specs.Splitting.{one, some_words, RowsAre}
use Rattle.program_words.proofs.Rows.{row_is_there, more_of, others_stay, nothing_out}
use Rattle.program_words.proofs.Turns.{IsReader, is_taken, Seen, seen, IsFault, first_fault, hold, at, is_open, option_rule, plain_rule, settles, met_ends, met_waits, met_value, met_open, met_option, fault_ends, fault_waits, fault_value, fault_refused, fault_other, fault_plain, after_plain}

-- ---- what rows hold

no_plain_id : (name : Name) → bytes_eq (name_id name) plain_id ≡ false
no_plain_id serve_option = refl
no_plain_id links_option = refl

plain_no_id : (name : Name) → bytes_eq plain_id (name_id name) ≡ false
plain_no_id serve_option = refl
plain_no_id links_option = refl

some_more : (plain : List Word) (word : Word) → Some (unwrap_or (some_words plain) [] ++ word ∷ []) ≡ some_words (plain ++ word ∷ [])
some_more [] word = refl
some_more (w ∷ plain) word = refl

-- a plain word more
pub plain_told : (rows : List Row) (split : Split) (word : Word) → RowsAre rows split → RowsAre (used plain_rule (word ∷ []) rows) (with_plain word split)
plain_told rows split word are = record {
  values = λ name. others_stay plain_id (name_id name) AsWritten CommandLine (word ∷ []) rows (plain_no_id name) ∙ are.values name ∙ same name;
  plain = more_of plain_id AsWritten CommandLine (word ∷ []) rows ∙ ap (λ o. Some (unwrap_or o [] ++ word ∷ [])) are.plain ∙ some_more split.plain word;
}
  where
    same : (name : Name) → option_map one (value_of name split) ≡ option_map one (value_of name (with_plain word split))
    same serve_option = refl
    same links_option = refl

-- an option's value
told_here : (name : Name) (v : Word) (split : Split) → Some (one v) ≡ option_map one (value_of name (set_value name v split))
told_here serve_option v split = refl
told_here links_option v split = refl

set_plain : (name : Name) (v : Word) (split : Split) → some_words split.plain ≡ some_words (set_value name v split).plain
set_plain serve_option v split = refl
set_plain links_option v split = refl

no_row : (rows : List Row) (split : Split) (name : Name) → RowsAre rows split → value_of name split ≡ None → has_row (name_id name) rows ≡ false
no_row rows split name are none = row_is_there (name_id name) rows ∙ ap is_some (are.values name) ∙ ap (λ o. is_some (option_map one o)) none

a_row : (rows : List Row) (split : Split) (name : Name) (had : Word) → RowsAre rows split → value_of name split ≡ Some had → has_row (name_id name) rows ≡ true
a_row rows split name had are some = row_is_there (name_id name) rows ∙ ap is_some (are.values name) ∙ ap (λ o. is_some (option_map one o)) some

used_is : (rows : List Row) (split : Split) (name : Name) (v : Word) → RowsAre rows split → value_of name split ≡ None
    → used (option_rule name) (v ∷ []) rows ≡ with_values (name_id name) AsWritten CommandLine (v ∷ []) rows
used_is rows split name v are none = ap (with_values (name_id name) AsWritten CommandLine (v ∷ [])) (nothing_out (name_id name) rows (no_row rows split name are none))

pub value_told : (rows : List Row) (split : Split) (name : Name) (v : Word) → RowsAre rows split → value_of name split ≡ None
    → RowsAre (used (option_rule name) (v ∷ []) rows) (set_value name v split)
value_told rows split name v are none = subst (λ rs. RowsAre rs (set_value name v split)) (sym (used_is rows split name v are none)) (record {
  values = values name none;
  plain = others_stay (name_id name) plain_id AsWritten CommandLine (v ∷ []) rows (no_plain_id name) ∙ are.plain ∙ set_plain name v split;
})
  where
    here : (n : Name) → value_of n split ≡ None → all_of (name_id n) (with_values (name_id n) AsWritten CommandLine (v ∷ []) rows) ≡ option_map one (value_of n (set_value n v split))
    here n none =
        more_of (name_id n) AsWritten CommandLine (v ∷ []) rows
        ∙ ap (λ o. Some (unwrap_or o [] ++ v ∷ [])) (are.values n ∙ ap (option_map one) none) ∙ told_here n v split

    values : (n : Name) → value_of n split ≡ None → (m : Name) → all_of (name_id m) (with_values (name_id n) AsWritten CommandLine (v ∷ []) rows) ≡ option_map one (value_of m (set_value n v split))
    values serve_option none serve_option = here serve_option none
    values links_option none links_option = here links_option none
    values serve_option none links_option = others_stay (name_id serve_option) (name_id links_option) AsWritten CommandLine (v ∷ []) rows refl ∙ are.values links_option
    values links_option none serve_option = others_stay (name_id links_option) (name_id serve_option) AsWritten CommandLine (v ∷ []) rows refl ∙ are.values serve_option

-- ---- faults in a row

pub second_fault : (a b : Kinds) → IsFault b → IsFault (or_else a b)
second_fault [] b h = h
second_fault (k ∷ a) b h = λ e. absurd (cc)

none_first : (a b : Kinds) → a ≡ [] → or_else a b ≡ b
none_first a b e = ap (λ k. or_else k b) e

module _ (t : Takes) (s : Shape) (f : IsReader t s) where
  -- a use of an option passes where it is the first one
  use_is : (name : Name) (v : Word) (rows : List Row) → use_fault s.args_override_self (option_rule name) (v ∷ []) rows ≡ cond (has_row (name_id name) rows) (kind.ArgumentConflict ∷ []) []
  use_is name v rows = rw f.again (go (has_row (name_id name) rows))
    where
      go : (b : Bool) → or_else (cond (b && true) (kind.ArgumentConflict ∷ []) []) [] ≡ cond b (kind.ArgumentConflict ∷ []) []
      go true = refl
      go false = refl

  first_use : (name : Name) (v : Word) (rows : List Row) (split : Split) → RowsAre rows split → value_of name split ≡ None
      → use_fault s.args_override_self (option_rule name) (v ∷ []) rows ≡ []
  first_use name v rows split are none = use_is name v rows ∙ ap (λ b. cond b (kind.ArgumentConflict ∷ []) []) (no_row rows split name are none)

  second_use : (name : Name) (v had : Word) (rows : List Row) (split : Split) → RowsAre rows split → value_of name split ≡ Some had
      → IsFault (use_fault s.args_override_self (option_rule name) (v ∷ []) rows)
  second_use name v had rows split are some e =
      let bad : kind.ArgumentConflict ∷ [] ≡ [] = sym (use_is name v rows ∙ ap (λ b. cond b (kind.ArgumentConflict ∷ []) []) (a_row rows split name had are some)) ∙ e in
      absurd (cc)

  -- what a pending option or plain word settles to
  settles_option : (name : Name) (vs : List Word) (rows : List Row) → t name ≡ true → settles t s f rows (Some (name_id name, vs)) ≡ use_fault s.args_override_self (option_rule name) vs rows
  settles_option name vs rows taken = rw (f.by_id name taken) refl

  settled_option : (name : Name) (vs : List Word) (rows : List Row) → t name ≡ true → settled_rows s.rules (Some (name_id name, vs)) rows ≡ used (option_rule name) vs rows
  settled_option name vs rows taken = rw (f.by_id name taken) refl

  settles_plain : (word : Word) (rows : List Row) → settles t s f rows (Some (plain_id, word ∷ [])) ≡ []
  settles_plain word rows = rw f.by_plain_id refl

  settled_plain : (word : Word) (rows : List Row) → settled_rows s.rules (Some (plain_id, word ∷ [])) rows ≡ used plain_rule (word ∷ []) rows
  settled_plain word rows = rw f.by_plain_id refl

  waits_fault : (name : Name) (rows : List Row) → t name ≡ true → IsFault (settles t s f rows (Some (name_id name, [])))
  waits_fault name rows taken e =
      let bad : kind.InvalidValue ∷ [] ≡ [] = rw (f.by_id name taken) at e in
      absurd (cc)

  -- ---- the rest of the words

  abbrev pub faults : Walk → List Word → Kinds
  faults w words = or_else (walk_fault s [] w words) (settle_fault s.rules s.args_override_self (fold (walked s.rules []) w words).held)

  abbrev pub rows_at_end : Walk → List Word → List Row
  rows_at_end w words = settled_rows s.rules (fold (walked s.rules []) w words).held.pending (fold (walked s.rules []) w words).held.rows

  faults_next : (w : Walk) (word : Word) (words : List Word) → turn_fault s [] w word ≡ [] → faults w (word ∷ words) ≡ faults (walked s.rules [] w word) words
  unfolding walk_fault
  faults_next w word words none =
      ap (λ k. or_else (or_else k (walk_fault s [] (walked s.rules [] w word) words)) (settle_fault s.rules s.args_override_self (fold (walked s.rules []) (walked s.rules [] w word) words).held)) none

  faults_here : (w : Walk) (word : Word) (words : List Word) → IsFault (turn_fault s [] w word) → IsFault (faults w (word ∷ words))
  unfolding walk_fault
  faults_here w word words h = first_fault _ _ (first_fault _ _ h)

  faults_later : (w : Walk) (word : Word) (words : List Word) → IsFault (faults (walked s.rules [] w word) words) → IsFault (faults w (word ∷ words))
  unfolding walk_fault
  faults_later w word words h = go (turn_fault s [] w word) (walk_fault s [] (walked s.rules [] w word) words)
      (settle_fault s.rules s.args_override_self (fold (walked s.rules []) (walked s.rules [] w word) words).held) h
    where
      go : (a b c : Kinds) → IsFault (or_else b c) → IsFault (or_else (or_else a b) c)
      go [] b c h = h
      go (k ∷ a) b c h = λ e. absurd (cc)

  abbrev pub Comes : Walk → List Word → Option Split → Type 0
  Comes w words None = IsFault (faults w words)
  Comes w words (Some split) = (faults w words ≡ []) × RowsAre (rows_at_end w words) split

  -- ---- where a word leads

  after_met : (rows : List Row) (pending : Option (Text × List Text)) (waiting : Waiting) (is_trailing : Bool) (word : Text) (m : Held × Step)
      → word_met s.rules [] is_trailing waiting 1 word (hold rows pending) ≡ m
      → walked s.rules [] (at rows pending waiting is_trailing) word ≡ after_step s.rules word (at rows pending waiting is_trailing) m.0 m.1
  unfolding walked
  after_met rows pending waiting is_trailing word m met = ap (λ p. after_step s.rules word (at rows pending waiting is_trailing) p.0 p.1) met

  walk_ends : (rows : List Row) (pending : Option (Text × List Text)) (waiting : Waiting) (word : Text) → Seen t word ends
      → walked s.rules [] (at rows pending waiting false) word ≡ at rows pending waiting true
  walk_ends rows pending waiting word l = after_met rows pending waiting false word _ (met_ends t s f waiting word (hold rows pending) l)

  walk_waits : (rows : List Row) (pending : Option (Text × List Text)) (waiting : Waiting) (word : Text) (name : Name) → Seen t word (names name None)
      → walked s.rules [] (at rows pending waiting false) word ≡ at (settled_rows s.rules pending rows) (Some (name_id name, [])) (option (name_id name)) false
  walk_waits rows pending waiting word name l = after_met rows pending waiting false word _ (met_waits t s f waiting word name rows pending l)

  walk_value : (rows : List Row) (pending : Option (Text × List Text)) (waiting : Waiting) (word : Text) (name : Name) (v : Word) → Seen t word (names name (Some v))
      → walked s.rules [] (at rows pending waiting false) word ≡ at (used (option_rule name) (v ∷ []) (settled_rows s.rules pending rows)) None idle false
  walk_value rows pending waiting word name v l = after_met rows pending waiting false word _ (met_value t s f waiting word name v rows pending l)

  walk_plain : (rows : List Row) (pending : Option (Text × List Text)) (waiting : Waiting) (word : Text) → is_open waiting ≡ true → Seen t word other
      → walked s.rules [] (at rows pending waiting false) word ≡ at (settled_rows s.rules pending rows) (Some (plain_id, word ∷ [])) positional false
  walk_plain rows pending waiting word free l =
      after_met rows pending waiting false word _ (met_open t s f waiting word rows pending free l) ∙ after_plain t s f rows pending waiting false word

  walk_option : (rows : List Row) (name : Name) (word : Text) → t name ≡ true → Seen t word other
      → walked s.rules [] (at rows (Some (name_id name, [])) (option (name_id name)) false) word ≡ at rows (Some (name_id name, word ∷ [])) idle false
  walk_option rows name word taken l =
      after_met rows (Some (name_id name, [])) (option (name_id name)) false word _ (met_option t s f word name rows taken l)

  walk_behind : (rows : List Row) (pending : Option (Text × List Text)) (waiting : Waiting) (word : Text)
      → walked s.rules [] (at rows pending waiting true) word ≡ at (settled_rows s.rules pending rows) (Some (plain_id, word ∷ [])) positional true
  walk_behind rows pending waiting word = after_met rows pending waiting true word (hold rows pending, value) refl ∙ after_plain t s f rows pending waiting true word

  -- ---- words to which only faults come

  turn_here : (w : Walk) (word : Text) (a b : Kinds) → IsFault a → turn_fault s [] w word ≡ or_else a b → IsFault (turn_fault s [] w word)
  turn_here w word a b h is e = first_fault a b h (sym is ∙ e)

  -- what is pending doesn't settle, and no option waits
  dead_trailing : (rows : List Row) (pending : Option (Text × List Text)) (waiting : Waiting) (words : List Word) → IsFault (settles t s f rows pending)
      → IsFault (faults (at rows pending waiting true) words)
  unfolding walk_fault
  dead_trailing rows pending waiting [] h = h
  dead_trailing rows pending waiting (word ∷ words) h = faults_here (at rows pending waiting true) word words (λ e. h (sym (fault_plain t s f rows pending) ∙ e))

  dead_turn : (rows : List Row) (pending : Option (Text × List Text)) (waiting : Waiting) (word : Text) (words : List Word) (l : Look) → Seen t word l → is_open waiting ≡ true
      → IsFault (settles t s f rows pending) → IsFault (faults (at rows pending waiting false) (word ∷ words))
  dead_turn rows pending waiting word words ends l free h =
      faults_later (at rows pending waiting false) word words (subst (λ w. IsFault (faults w words)) (sym (walk_ends rows pending waiting word l)) (dead_trailing rows pending waiting words h))
  dead_turn rows pending waiting word words (names name None) l free h =
      faults_here (at rows pending waiting false) word words (first_fault _ _ (subst IsFault (sym (fault_waits t s f waiting word name rows pending l)) h))
  dead_turn rows pending waiting word words (names name (Some v)) l free h =
      faults_here (at rows pending waiting false) word words (first_fault _ _ (subst IsFault (sym (fault_value t s f waiting word name v rows pending l)) (first_fault _ _ h)))
  dead_turn rows pending waiting word words refused l free h =
      faults_here (at rows pending waiting false) word words (first_fault _ _ (fault_refused t s f waiting word rows pending l))
  dead_turn rows pending waiting word words other l free h =
      faults_here (at rows pending waiting false) word words (second_fault _ _ (subst IsFault (sym (ap (λ m. step_fault s 1 m.0 m.1) (met_open t s f waiting word rows pending free l) ∙ fault_plain t s f rows pending)) h))

  dead : (rows : List Row) (pending : Option (Text × List Text)) (waiting : Waiting) (words : List Word) → is_open waiting ≡ true
      → IsFault (settles t s f rows pending) → IsFault (faults (at rows pending waiting false) words)
  unfolding walk_fault
  dead rows pending waiting [] free h = h
  dead rows pending waiting (word ∷ words) free h = dead_turn rows pending waiting word words (look t word) (seen t word) free h

  -- ---- one word

  pub data State : Type 0 where
    in_parts : List Row → Option (Text × List Text) → Waiting → State
    in_wait : List Row → Name → State
    in_behind : List Row → Option (Text × List Text) → Waiting → State

  abbrev pub walk_at : State → Walk
  walk_at (in_parts rows pending waiting) = at rows pending waiting false
  walk_at (in_wait rows name) = at rows (Some (name_id name, [])) (option (name_id name)) false
  walk_at (in_behind rows pending waiting) = at rows pending waiting true

  abbrev pub mode_at : State → Mode
  mode_at (in_parts rows pending waiting) = parts
  mode_at (in_wait rows name) = wait name
  mode_at (in_behind rows pending waiting) = behind

  -- what is pending settles, and the rows then hold what is told
  abbrev pub Standing : State → Split → Type 0
  Standing (in_parts rows pending waiting) split = (is_open waiting ≡ true) × (settles t s f rows pending ≡ []) × RowsAre (settled_rows s.rules pending rows) split
  Standing (in_wait rows name) split = (t name ≡ true) × RowsAre rows split
  Standing (in_behind rows pending waiting) split = (settles t s f rows pending ≡ []) × RowsAre (settled_rows s.rules pending rows) split

  -- one word leads to what it is read as, or only to faults
  abbrev pub Goes : Walk → Text → Option (Mode × Split) → Type 0
  Goes w word None = (words : List Word) → IsFault (faults w (word ∷ words))
  Goes w word (Some p) = (turn_fault s [] w word ≡ [])
      × ((to : State) × (walked s.rules [] w word ≡ walk_at to) × (mode_at to ≡ p.0) × Standing to p.1)

  turn_by : (rows : List Row) (pending : Option (Text × List Text)) (waiting : Waiting) (word : Text) (m : Held × Step)
      → word_met s.rules [] false waiting 1 word (hold rows pending) ≡ m → word_fault s [] false waiting word (hold rows pending) ≡ [] → step_fault s 1 m.0 m.1 ≡ []
      → turn_fault s [] (at rows pending waiting false) word ≡ []
  turn_by rows pending waiting word m met none step = none_first _ _ none ∙ ap (λ p. step_fault s 1 p.0 p.1) met ∙ step

  first_word : (rows : List Row) (pending : Option (Text × List Text)) (waiting : Waiting) (word : Text) (words : List Word)
      → IsFault (word_fault s [] false waiting word (hold rows pending)) → IsFault (faults (at rows pending waiting false) (word ∷ words))
  first_word rows pending waiting word words h = faults_here (at rows pending waiting false) word words (first_fault _ _ h)

  -- `--x=V`
  parts_value : (rows : List Row) (pending : Option (Text × List Text)) (waiting : Waiting) (split : Split) (word : Text) (name : Name) (v : Word) (had : Option Word)
      → Standing (in_parts rows pending waiting) split → Seen t word (names name (Some v)) → value_of name split ≡ had
      → Goes (at rows pending waiting false) word (goes_on (first_value had name v split))
  parts_value rows pending waiting split word name v None h l none = (
    turn_by rows pending waiting word _ (met_value t s f waiting word name v rows pending l)
        (fault_value t s f waiting word name v rows pending l ∙ none_first _ _ h.1 ∙ first_use name v (settled_rows s.rules pending rows) split h.2 none) refl,
    (
      in_parts (used (option_rule name) (v ∷ []) (settled_rows s.rules pending rows)) None idle,
      walk_value rows pending waiting word name v l,
      refl,
      (refl, refl, value_told (settled_rows s.rules pending rows) split name v h.2 none),
    ),
  )
  parts_value rows pending waiting split word name v (Some had) h l some = λ words.
      first_word rows pending waiting word words (subst IsFault (sym (fault_value t s f waiting word name v rows pending l))
      (second_fault _ _ (second_use name v had (settled_rows s.rules pending rows) split h.2 some)))

  parts_step : (rows : List Row) (pending : Option (Text × List Text)) (waiting : Waiting) (split : Split) (word : Text) (l : Look) → Standing (in_parts rows pending waiting) split → Seen t word l
      → Goes (at rows pending waiting false) word (look_step l parts split word)
  parts_step rows pending waiting split word ends h l = (
    turn_by rows pending waiting word _ (met_ends t s f waiting word (hold rows pending) l) (fault_ends t s f waiting word (hold rows pending) l) refl,
    (in_behind rows pending waiting, walk_ends rows pending waiting word l, refl, (h.1, h.2)),
  )
  parts_step rows pending waiting split word (names name None) h l = (
    turn_by rows pending waiting word _ (met_waits t s f waiting word name rows pending l) (fault_waits t s f waiting word name rows pending l ∙ h.1) refl,
    (in_wait (settled_rows s.rules pending rows) name, walk_waits rows pending waiting word name l, refl, ((is_taken t l.1.0 name l.1.2).1, h.2)),
  )
  parts_step rows pending waiting split word (names name (Some v)) h l = parts_value rows pending waiting split word name v (value_of name split) h l refl
  parts_step rows pending waiting split word refused h l = λ words. first_word rows pending waiting word words (fault_refused t s f waiting word rows pending l)
  parts_step rows pending waiting split word other h l = (
    turn_by rows pending waiting word _ (met_open t s f waiting word rows pending h.0 l) (fault_other t s f waiting word rows pending l) (fault_plain t s f rows pending ∙ h.1),
    (
      in_parts (settled_rows s.rules pending rows) (Some (plain_id, word ∷ [])) positional,
      walk_plain rows pending waiting word h.0 l,
      refl,
      (
        refl,
        settles_plain word (settled_rows s.rules pending rows),
        subst (λ rs. RowsAre rs (with_plain word split)) (sym (settled_plain word (settled_rows s.rules pending rows))) (plain_told (settled_rows s.rules pending rows) split word h.2),
      ),
    ),
  )

  -- the value of an option that waits
  wait_value : (rows : List Row) (split : Split) (word : Text) (name : Name) (had : Option Word) → t name ≡ true → RowsAre rows split → Seen t word other → value_of name split ≡ had
      → Goes (walk_at (in_wait rows name)) word (goes_on (first_value had name word split))
  wait_value rows split word name None taken h l none = (
    turn_by rows (Some (name_id name, [])) (option (name_id name)) word _ (met_option t s f word name rows taken l) (fault_other t s f (option (name_id name)) word rows (Some (name_id name, [])) l) refl,
    (
      in_parts rows (Some (name_id name, word ∷ [])) idle,
      walk_option rows name word taken l,
      refl,
      (
        refl,
        settles_option name (word ∷ []) rows taken ∙ first_use name word rows split h none,
        subst (λ rs. RowsAre rs (set_value name word split)) (sym (settled_option name (word ∷ []) rows taken)) (value_told rows split name word h none),
      ),
    ),
  )
  wait_value rows split word name (Some had) taken h l some = λ words.
      faults_later (walk_at (in_wait rows name)) word words (subst (λ w. IsFault (faults w words)) (sym (walk_option rows name word taken l))
      (dead rows (Some (name_id name, word ∷ [])) idle words refl (subst IsFault (sym (settles_option name (word ∷ []) rows taken)) (second_use name word had rows split h some))))

  wait_step : (rows : List Row) (split : Split) (word : Text) (name : Name) (l : Look) → t name ≡ true → RowsAre rows split → Seen t word l
      → Goes (walk_at (in_wait rows name)) word (look_step l (wait name) split word)
  wait_step rows split word name ends taken h l = λ words.
      faults_later (walk_at (in_wait rows name)) word words (subst (λ w. IsFault (faults w words)) (sym (walk_ends rows (Some (name_id name, [])) (option (name_id name)) word l))
      (dead_trailing rows (Some (name_id name, [])) (option (name_id name)) words (waits_fault name rows taken)))
  wait_step rows split word name (names next_name None) taken h l = λ words.
      first_word rows (Some (name_id name, [])) (option (name_id name)) word words
      (subst IsFault (sym (fault_waits t s f (option (name_id name)) word next_name rows (Some (name_id name, [])) l)) (waits_fault name rows taken))
  wait_step rows split word name (names next_name (Some v)) taken h l = λ words.
      first_word rows (Some (name_id name, [])) (option (name_id name)) word words
      (subst IsFault (sym (fault_value t s f (option (name_id name)) word next_name v rows (Some (name_id name, [])) l)) (first_fault _ _ (waits_fault name rows taken)))
  wait_step rows split word name refused taken h l = λ words.
      first_word rows (Some (name_id name, [])) (option (name_id name)) word words (fault_refused t s f (option (name_id name)) word rows (Some (name_id name, [])) l)
  wait_step rows split word name other taken h l = wait_value rows split word name (value_of name split) taken h l refl

  behind_goes : (rows : List Row) (pending : Option (Text × List Text)) (waiting : Waiting) (split : Split) (word : Text) → Standing (in_behind rows pending waiting) split
      → Goes (at rows pending waiting true) word (Some (behind, with_plain word split))
  behind_goes rows pending waiting split word h = (
    fault_plain t s f rows pending ∙ h.0,
    (
      in_behind (settled_rows s.rules pending rows) (Some (plain_id, word ∷ [])) positional,
      walk_behind rows pending waiting word,
      refl,
      (
        settles_plain word (settled_rows s.rules pending rows),
        subst (λ rs. RowsAre rs (with_plain word split)) (sym (settled_plain word (settled_rows s.rules pending rows))) (plain_told (settled_rows s.rules pending rows) split word h.1),
      ),
    ),
  )

  behind_step : (rows : List Row) (pending : Option (Text × List Text)) (waiting : Waiting) (split : Split) (word : Text) (l : Look) → Standing (in_behind rows pending waiting) split
      → Goes (at rows pending waiting true) word (look_step l behind split word)
  behind_step rows pending waiting split word ends h = behind_goes rows pending waiting split word h
  behind_step rows pending waiting split word (names name None) h = behind_goes rows pending waiting split word h
  behind_step rows pending waiting split word (names name (Some v)) h = behind_goes rows pending waiting split word h
  behind_step rows pending waiting split word refused h = behind_goes rows pending waiting split word h
  behind_step rows pending waiting split word other h = behind_goes rows pending waiting split word h

  step : (st : State) (split : Split) (word : Text) → Standing st split → Goes (walk_at st) word (look_step (look t word) (mode_at st) split word)
  step (in_parts rows pending waiting) split word h = parts_step rows pending waiting split word (look t word) h (seen t word)
  step (in_wait rows name) split word h = wait_step rows split word name (look t word) h.0 h.1 (seen t word)
  step (in_behind rows pending waiting) split word h = behind_step rows pending waiting split word (look t word) h

  -- ---- all words

  ended : (st : State) (split : Split) → Standing st split → Comes (walk_at st) [] (finish (mode_at st) split)
  unfolding walk_fault
  ended (in_parts rows pending waiting) split h = (h.1, h.2)
  ended (in_wait rows name) split h = waits_fault name rows h.0
  ended (in_behind rows pending waiting) split h = (h.0, h.1)

  advance : (w : Walk) (word : Word) (words : List Word) (o : Option Split) → turn_fault s [] w word ≡ [] → Comes (walked s.rules [] w word) words o → Comes w (word ∷ words) o
  advance w word words None none h = faults_later w word words h
  advance w word words (Some split) none h = (faults_next w word words none ∙ h.0, h.1)

  further : (w : Walk) (word : Word) (words : List Word) (o : Option (Mode × Split)) → Goes w word o
      → ((to : State) (split : Split) → Standing to split → Comes (walk_at to) words (read_from t (mode_at to) split words))
      → Comes w (word ∷ words) (option_and_then (λ n. read_from t n.0 n.1 words) o)
  further w word words None doomed rest = doomed words
  further w word words (Some p) goes rest =
      let to = goes.1.0 in
      advance w word words (read_from t p.0 p.1 words) goes.0
      (subst (λ m. Comes (walked s.rules [] w word) words (read_from t m p.1 words)) goes.1.2
      (subst (λ v. Comes v words (read_from t (mode_at to) p.1 words)) (sym goes.1.1) (rest to p.1 goes.1.3)))

  -- clap's walk over any words, from where it stands, comes to what is read of them
  pub reads : (words : List Word) (st : State) (split : Split) → Standing st split → Comes (walk_at st) words (read_from t (mode_at st) split words)
  reads [] st split h = ended st split h
  reads (word ∷ words) st split h =
      further (walk_at st) word words (look_step (look t word) (mode_at st) split word) (step st split word h) (λ to told standing. reads words to told standing)
