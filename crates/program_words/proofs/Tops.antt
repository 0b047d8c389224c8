-- The command over all arguments: clap reads the first one as a subcommand.
use Rattle.std.proofs.Common.{◌≡◌, ◌∙◌, inl, inr, ℕ, List, [], ◌∷◌, ◌++◌, ◌&&◌, map, length, Bool, true, false, cond, Option, Some, None, is_some, codes, refl, sym, ap, ap₂, subst, true≢false}
use Rattle.std.specs.Prelude.{option_map, fold, find, slice_get}
use Rattle.std.specs.Option.{option_map_or}
use Rattle.std.specs.Str.{bytes_eq, chars}
use Rattle.std.proofs.lemmas.Slice.Eq.{bytes_eq-Decides}
use Rattle.clap.specs.Walk.{Text, Row, Held, Names, Walk, answers_to, finished, nothing_held, settled, walk, walked, walk_from, idle, word_met, plain}
use Rattle.clap.specs.Simple.{Shape, built, entered, rows_at, label_of, names_of, subcommand_of}
use Rattle.clap.specs.Faults.{check_fault, defaults_fault, entered_fault, level_fault, fault_of, is_simple_and_free, settle_fault, turn_fault, walk_fault, word_fault, step_fault, flags_fault, bundle_step_fault}
use Rattle.clap.specs.Kinds.{Kinds, or_else}
use Rattle.clap.specs.declared.error.kind.ErrorKind.TheVariants as kind
use Rattle.clap.proofs.WalkLemmas.{walk_stopped, bundle_ends}
use Rattle.program_words.specs.Words.{Word, Split, alone}
use Rattle.program_words.specs.Scanning.{takes_at, Look, ends, names, refused, other, look, parts, read_from}
use Rattle.program_words.specs.Made.{verbs, all, is_verb}
use Rattle.program_words.specs.Splitting.{RowsAre}
use Rattle.program_words.proofs.Turns.{Seen, seen, IsFault, first_fault, at}
use Rattle.program_words.proofs.Walks.{Comes, faults, rows_at_end, in_parts, reads, second_fault}
use Rattle.program_words.proofs.Leaves.{top, leaf, leaf_is, leaf_name, leaf_aliases, leaf_fault, leaf_finished, subs_are, or_none, nothing_told}

pub all_simple : is_simple_and_free all ≡ true
all_simple = refl

abbrev pub label : Text → Text × List Text
label name = (name, [])

names_are : names_of (built all) ≡ map label verbs
names_are = refl

-- ---- the first word

met_one : (vs : List Text) (word : Text) → is_verb vs word ≡ true → option_map (λ (p : Text × List Text). p.0) (find (answers_to word) (map label vs)) ≡ Some word
met_one [] word is = absurd (true≢false (sym is))
met_one (v ∷ vs) word is = go (bytes_eq v word) refl (λ e. met_one vs word e)
  where
    go : (b : Bool) → bytes_eq v word ≡ b → (is_verb vs word ≡ true → option_map (λ (p : Text × List Text). p.0) (find (answers_to word) (map label vs)) ≡ Some word)
        → option_map (λ (p : Text × List Text). p.0) (find (answers_to word) (map label (v ∷ vs))) ≡ Some word
    go true e rest = rw e (ap (λ (t : Text). Some t) ((bytes_eq-Decides v word).0 e))
    go false e rest = rw e (rest (rw e at is))

met_none : (vs : List Text) (word : Text) → is_verb vs word ≡ false → option_map (λ (p : Text × List Text). p.0) (find (answers_to word) (map label vs)) ≡ None
met_none [] word is = refl
met_none (v ∷ vs) word is = go (bytes_eq v word) refl (λ e. met_none vs word e)
  where
    go : (b : Bool) → bytes_eq v word ≡ b → (is_verb vs word ≡ false → option_map (λ (p : Text × List Text). p.0) (find (answers_to word) (map label vs)) ≡ None)
        → option_map (λ (p : Text × List Text). p.0) (find (answers_to word) (map label (v ∷ vs))) ≡ None
    go true e rest = absurd (true≢false (rw e at is))
    go false e rest = rw e (rest (rw e at is))

leaf_one : (vs : List Text) (word : Text) → is_verb vs word ≡ true → find (λ (s : Shape). answers_to word (label_of s)) (map leaf vs) ≡ Some (leaf word)
unfolding leaf
leaf_one [] word is = absurd (true≢false (sym is))
leaf_one (v ∷ vs) word is = go (bytes_eq v word) refl (λ e. leaf_one vs word e)
  where
    go : (b : Bool) → bytes_eq v word ≡ b → (is_verb vs word ≡ true → find (λ (s : Shape). answers_to word (label_of s)) (map leaf vs) ≡ Some (leaf word))
        → find (λ (s : Shape). answers_to word (label_of s)) (map leaf (v ∷ vs)) ≡ Some (leaf word)
    go true e rest = rw (leaf_name v, leaf_aliases v, e) (ap (λ (t : Text). Some (leaf t)) ((bytes_eq-Decides v word).0 e))
    go false e rest = rw (leaf_name v, leaf_aliases v, e) (rest (rw e at is))

abbrev ns : Names
ns = map label verbs

abbrev stopped : Text → List Word → Walk
stopped name words = record (walk_from nothing_held) { stopped = Some (name, words) }

first_word : (word : Text) → is_verb verbs word ≡ true → walked [] ns (walk_from nothing_held) word ≡ stopped word []
unfolding walked
first_word word is = rw (met_one verbs word is) refl

walk_stops : (word : Text) (words : List Word) → is_verb verbs word ≡ true → walk [] ns nothing_held (word ∷ words) ≡ stopped word words
walk_stops word words is = ap (λ (w : Walk). fold (walked [] ns) w words) (first_word word is) ∙ sym (walk_stopped [] ns (walk_from nothing_held) word [] words)

stopped_faults : (name : Text) (seen words : List Word) → walk_fault top ns (stopped name seen) words ≡ []
unfolding walk_fault walked
stopped_faults name seen [] = refl
stopped_faults name seen (word ∷ words) = stopped_faults name (seen ++ word ∷ []) words

no_help : (b : Bool) (k : Kinds) → cond (b && false) k [] ≡ []
no_help true k = refl
no_help false k = refl

first_fine : (word : Text) → is_verb verbs word ≡ true → turn_fault top ns (walk_from nothing_held) word ≡ []
first_fine word is = rw (met_one verbs word is) (ap (λ k. or_else k []) (no_help (bytes_eq word (codes "help")) (kind.DisplayHelp ∷ kind.InvalidSubcommand ∷ [])))

walk_fine : (word : Text) (words : List Word) → is_verb verbs word ≡ true → walk_fault top ns (walk_from nothing_held) (word ∷ words) ≡ []
unfolding walk_fault
walk_fine word words is =
    ap (λ k. or_else k (walk_fault top ns (walked [] ns (walk_from nothing_held) word) words)) (first_fine word is)
    ∙ ap (λ (w : Walk). walk_fault top ns w words) (first_word word is) ∙ stopped_faults word [] words

found_is : (word : Text) → is_verb verbs word ≡ true → find (λ (s : Shape). answers_to word (label_of s)) (built all).subs ≡ Some (leaf word)
found_is word is = ap (find (λ (s : Shape). answers_to word (label_of s))) subs_are ∙ leaf_one verbs word is

entered_is : (word : Text) (words : List Word) → is_verb verbs word ≡ true → entered (built all) (Some (word, words)) ≡ Some (rows_at (leaf word) words)
entered_is word words is = ap (option_map (λ (s : Shape). rows_at s words)) (found_is word is)

below_is : (word : Text) (words : List Word) → is_verb verbs word ≡ true → entered_fault (built all) (Some (word, words)) ≡ level_fault (leaf word) [] nothing_held words false []
below_is word words is = ap (λ (o : Option Shape). option_map_or (λ (s : Shape). level_fault s [] nothing_held words false []) o []) (found_is word is)

top_fault : (word : Text) (words : List Word) (below : Kinds) → is_verb verbs word ≡ true → level_fault top ns nothing_held (word ∷ words) true below ≡ below
unfolding defaults_fault
top_fault word words below is =
    let end = (walk [] ns nothing_held (word ∷ words)).held in
    ap (λ k. or_else k (or_else below (or_else (settle_fault [] false end) (or_else (defaults_fault (settled [] end).rows []) (check_fault top (finished [] end) true))))) (walk_fine word words is)
    ∙ ap (λ (v : Walk). or_else below (or_else (settle_fault [] false v.held) (or_else (defaults_fault (settled [] v.held).rows []) (check_fault top (finished [] v.held) true)))) (walk_stops word words is)
    ∙ or_none below

-- the words behind a command are read at its own level, and only there may they fail
pub all_fault : (word : Text) (words : List Word) → is_verb verbs word ≡ true → fault_of all (word ∷ words) ≡ faults (takes_at word) (leaf word) (leaf_is word).reads (at [] None idle false) words
all_fault word words is =
    ap (λ (v : Walk). level_fault top ns nothing_held (word ∷ words) (is_some (entered (built all) v.stopped)) (entered_fault (built all) v.stopped)) (walk_stops word words is)
    ∙ ap₂ (λ (o : Option (Text × List Row)) (k : Kinds). level_fault top ns nothing_held (word ∷ words) (is_some o) k) (entered_is word words is) (below_is word words is)
    ∙ top_fault word words (level_fault (leaf word) [] nothing_held words false []) is
    ∙ leaf_fault (takes_at word) (leaf word) (leaf_is word) words

pub all_matches : (word : Text) (words : List Word) → is_verb verbs word ≡ true
    → subcommand_of all (word ∷ words) ≡ Some (word, rows_at_end (takes_at word) (leaf word) (leaf_is word).reads (at [] None idle false) words)
all_matches word words is =
    ap (λ (v : Walk). entered (built all) v.stopped) (walk_stops word words is) ∙ entered_is word words is
    ∙ ap (λ (name : Text). Some (name, finished (leaf word).rules (walk (leaf word).rules [] nothing_held words).held)) (leaf_name word)
    ∙ ap (λ (rows : List Row). Some (word, rows)) (leaf_finished (takes_at word) (leaf word) (leaf_is word) (walk (leaf word).rules [] nothing_held words).held)

-- ---- words that begin with no command

first_refused : (again : Bool) (flags : Text) (first : Option ℕ) (h : Held) → slice_get (chars flags) 0 ≡ first → is_some first ≡ true → IsFault (flags_fault [] again (length flags) flags 0 h)
unfolding flags_fault chars
first_refused again [] first h is some e = absurd (true≢false (sym (ap is_some is ∙ some)))
first_refused again (x ∷ xs) None h is some e = absurd (true≢false (sym some))
first_refused again (x ∷ xs) (Some y) h is some e =
    let bad : kind.UnknownArgument ∷ [] ≡ [] = ap (λ o. bundle_step_fault [] again o (x ∷ xs) 0 h (flags_fault [] again (length xs))) (sym is) ∙ e in
    absurd (cc)

walk_first : (w : Walk) (word : Text) (words : List Word) → IsFault (turn_fault top ns w word) → IsFault (walk_fault top ns w (word ∷ words))
unfolding walk_fault
walk_first w word words h = first_fault _ _ h

level_first : (words : List Word) → IsFault (walk_fault top ns (walk_from nothing_held) words) → IsFault (fault_of all words)
level_first words h = first_fault _ _ h

abbrev behind_dashes : Walk
behind_dashes = record (walk_from nothing_held) { is_trailing = true }

dashes_walk : (word : Text) → is_verb verbs word ≡ false → Seen (takes_at word) word ends → walked [] ns (walk_from nothing_held) word ≡ behind_dashes
unfolding walked
dashes_walk word none two = rw (met_none verbs word none, two) refl

dashes_turn : (word : Text) → is_verb verbs word ≡ false → Seen (takes_at word) word ends → turn_fault top ns (walk_from nothing_held) word ≡ []
dashes_turn word none two = rw (met_none verbs word none, two) refl

stray : (word : Text) → IsFault (turn_fault top ns behind_dashes word)
stray word e = absurd (cc)

pub nothing_asked : IsFault (fault_of all [])
unfolding walk_fault defaults_fault
nothing_asked e = absurd (cc)

dashes_alone : (word : Text) → is_verb verbs word ≡ false → Seen (takes_at word) word ends → IsFault (fault_of all (word ∷ []))
unfolding walk_fault defaults_fault
dashes_alone word none two e =
    let same : fault_of all (word ∷ []) ≡ or_else (or_else (turn_fault top ns (walk_from nothing_held) word) []) (kind.MissingSubcommand ∷ []) =
    ap (λ (w : Walk). level_fault top ns nothing_held (word ∷ []) (is_some (entered (built all) w.stopped)) (entered_fault (built all) w.stopped)) (dashes_walk word none two)
    ∙ ap (λ (w : Walk). or_else (walk_fault top ns (walk_from nothing_held) (word ∷ [])) (or_else (settle_fault [] false w.held) (or_else (defaults_fault (settled [] w.held).rows []) (check_fault top (finished [] w.held) false)))) (dashes_walk word none two) in
    let bad : kind.MissingSubcommand ∷ [] ≡ [] = ap (λ k. or_else (or_else k []) (kind.MissingSubcommand ∷ [])) (sym (dashes_turn word none two)) ∙ sym same ∙ e in
    absurd (cc)

dashes_more : (word next : Text) (words : List Word) → is_verb verbs word ≡ false → Seen (takes_at word) word ends → IsFault (walk_fault top ns (walk_from nothing_held) (word ∷ next ∷ words))
unfolding walk_fault
dashes_more word next words none two =
    second_fault _ _ (subst (λ (w : Walk). IsFault (walk_fault top ns w (next ∷ words))) (sym (dashes_walk word none two)) (walk_first behind_dashes next words (stray next)))

no_verb : (word : Text) (words : List Word) (l : Look) → is_verb verbs word ≡ false → Seen (takes_at word) word l → IsFault (fault_of all (word ∷ words))
no_verb word [] ends none two = dashes_alone word none two
no_verb word (w ∷ words) ends none two = level_first (word ∷ w ∷ words) (dashes_more word w words none two)
no_verb word words (names name v) none l = level_first (word ∷ words) (walk_first (walk_from nothing_held) word words (λ e.
    let bad : kind.UnknownArgument ∷ [] ≡ [] = rw (met_none verbs word none, l.0, l.1.1) at e in
    absurd (cc)))
no_verb word words refused none (two, inl l) = level_first (word ∷ words) (walk_first (walk_from nothing_held) word words (λ e.
    let bad : kind.UnknownArgument ∷ [] ≡ [] = rw (met_none verbs word none, two, l.1) at e in
    absurd (cc)))
no_verb word words refused none (two, inr l) = level_first (word ∷ words) (walk_first (walk_from nothing_held) word words (first_fault _ _ (λ (e : word_fault top ns false idle word nothing_held ≡ []).
    first_refused false l.1.0 (slice_get (chars l.1.0) 0) nothing_held refl l.1.2 (rw (met_none verbs word none, two, l.0, l.1.1) at e))))
no_verb word words other none (two, long, inl short) = level_first (word ∷ words) (walk_first (walk_from nothing_held) word words (second_fault _ _ (λ (e : step_fault top 1 (word_met [] ns false idle 1 word nothing_held).0 (word_met [] ns false idle 1 word nothing_held).1 ≡ []).
    let bad : kind.UnknownArgument ∷ kind.InvalidSubcommand ∷ [] ≡ [] = rw (met_none verbs word none, two, long, short) at e in
    absurd (cc))))
no_verb word words other none (two, long, inr short) = level_first (word ∷ words) (walk_first (walk_from nothing_held) word words (second_fault _ _ (λ (e : step_fault top 1 (word_met [] ns false idle 1 word nothing_held).0 (word_met [] ns false idle 1 word nothing_held).1 ≡ []).
    let bad : kind.UnknownArgument ∷ kind.InvalidSubcommand ∷ [] ≡ [] =
    rw (met_none verbs word none, two, long, short.1, sym (bundle_ends [] (length short.0) short.0 0 plain nothing_held (sym short.2))) at e in
    absurd (cc))))

-- words that begin with no command are refused
pub none_asked : (word : Text) (words : List Word) → is_verb verbs word ≡ false → IsFault (fault_of all (word ∷ words))
none_asked word words none = no_verb word words (look (takes_at word) word) none (seen (takes_at word) word)

-- ---- what clap finds, at its own level

abbrev pub FindsBelow : Text → List Word → Option Split → Type 0
FindsBelow word words None = IsFault (fault_of all (word ∷ words))
FindsBelow word words (Some split) = (fault_of all (word ∷ words) ≡ [])
    × ((rows : List Row) × (subcommand_of all (word ∷ words) ≡ Some (word, rows)) × RowsAre rows split)

finds_below : (word : Text) (words : List Word) (o : Option Split) → is_verb verbs word ≡ true → Comes (takes_at word) (leaf word) (leaf_is word).reads (at [] None idle false) words o → FindsBelow word words o
finds_below word words None is h = λ e. h (sym (all_fault word words is) ∙ e)
finds_below word words (Some split) is h =
    (all_fault word words is ∙ h.0, (rows_at_end (takes_at word) (leaf word) (leaf_is word).reads (at [] None idle false) words, all_matches word words is, h.1))

pub clap_finds_below : (word : Text) (words : List Word) → is_verb verbs word ≡ true → FindsBelow word words (read_from (takes_at word) parts (alone []) words)
clap_finds_below word words is =
    finds_below word words (read_from (takes_at word) parts (alone []) words) is (reads (takes_at word) (leaf word) (leaf_is word).reads words (in_parts [] None idle) (alone []) (refl, refl, nothing_told))
