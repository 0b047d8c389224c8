-- Words split exactly as clap reads them, where no `-` stands alone before `--` and no option's value is dashed.
use Rattle.std.proofs.Common.{◌≡◌, ◌∙◌, inl, inr, List, [], ◌∷◌, ◌++◌, flat_map, ◌||◌, Bool, true, false, cond, Option, Some, None, codes, append_assoc, append-nil, refl, sym, ap, subst, true≢false, length, ◌≤◌, nat_lt}
use Rattle.std.specs.Prelude.{option_map, option_and_then}
use Rattle.std.specs.Str.{bytes_eq, IsUtf8}
use Rattle.spool_spec.proofs.of_plain_laws.Options.{some_is}
use Rattle.program_words.specs.Words.{Word, Name, serve_option, links_option, name_word, Part, plain_word, apart, in_one, part_words, is_dashed, AreParts, value_for, values_in, plain_in, ending, behind, listed, Split, IsSplit, alone}
use Rattle.program_words.specs.Scanning.{Look, ends, names, refused, other, look, Mode, value_of, set_value, first_value, with_value, with_plain, goes_on, look_step, finish, read_from, has_lone, Texts, IsUndashed, HasValues, Takes}
use Rattle.program_words.specs.Scanning as mode
use Rattle.program_words.specs.Splitting.{few}
use Rattle.std.proofs.lemmas.Bool.{le-ltb}
use Rattle.program_words.proofs.Turns.{Seen, seen}
use Rattle.program_words.proofs.Looks.{look_ends, look_apart, look_in_one, look_plain, ends_is, apart_is, in_one_is, other_is}

-- Where that much is told, these words come to the split by further parts.
pub record Splits (told : Split) (words : List Word) (split : Split) : Type 0 where
  pub parts : List Part
  pub end : Option (List Word)
  pub words_are : words ≡ flat_map part_words parts ++ ending end
  pub are_parts : AreParts parts
  pub values : (name : Name) → listed (value_of name told) ++ flat_map (values_in name) parts ≡ listed (value_of name split)
  pub plain_is : told.plain ++ (flat_map plain_in parts ++ behind end) ≡ split.plain

-- ---- what is read splits so

ends_here : (told split : Split) → told ≡ split → Splits told [] split
ends_here told split e = record {
  parts = [];
  end = None;
  words_are = refl;
  are_parts = tt;
  values = λ name. append-nil (listed (value_of name told)) ∙ ap (λ (s : Split). listed (value_of name s)) e;
  plain_is = append-nil told.plain ∙ ap (λ (s : Split). s.plain) e;
}

-- what stands behind `--` is plain
pub record AllPlain (told : Split) (words : List Word) (split : Split) : Type 0 where
  pub values : (name : Name) → value_of name told ≡ value_of name split
  pub plain : told.plain ++ words ≡ split.plain

ends_behind : (told split : Split) (rest : List Word) → AllPlain told rest split → Splits told (codes "--" ∷ rest) split
ends_behind told split rest all = record {
  parts = [];
  end = Some rest;
  words_are = refl;
  are_parts = tt;
  values = λ name. append-nil (listed (value_of name told)) ∙ ap listed (all.values name);
  plain_is = all.plain;
}

plain_same : (name : Name) (word : Word) (told : Split) → value_of name told ≡ value_of name (with_plain word told)
plain_same serve_option word told = refl
plain_same links_option word told = refl

plain_first : (told split : Split) (word : Word) (rest : List Word) → is_dashed word ≡ false → Splits (with_plain word told) rest split → Splits told (word ∷ rest) split
plain_first told split word rest plain s = record {
  parts = plain_word word ∷ s.parts;
  end = s.end;
  words_are = ap (λ ws. word ∷ ws) s.words_are;
  are_parts = (plain, s.are_parts);
  values = λ name. ap (λ o. listed o ++ flat_map (values_in name) s.parts) (plain_same name word told) ∙ s.values name;
  plain_is = sym (append_assoc told.plain (word ∷ []) (flat_map plain_in s.parts ++ behind s.end)) ∙ s.plain_is;
}

value_first : (name m : Name) (told split : Split) (v : Word) (more : List Word) → value_of name told ≡ None
    → listed (value_of m (set_value name v told)) ++ more ≡ listed (value_of m split) → listed (value_of m told) ++ (value_for m v name ++ more) ≡ listed (value_of m split)
value_first serve_option serve_option told split v more none e = ap (λ o. listed o ++ (v ∷ more)) none ∙ e
value_first links_option links_option told split v more none e = ap (λ o. listed o ++ (v ∷ more)) none ∙ e
value_first serve_option links_option told split v more none e = e
value_first links_option serve_option told split v more none e = e

set_same : (name : Name) (v : Word) (told : Split) → told.plain ≡ (set_value name v told).plain
set_same serve_option v told = refl
set_same links_option v told = refl

apart_first : (name : Name) (told split : Split) (v : Word) (rest : List Word) → value_of name told ≡ None → Splits (set_value name v told) rest split
    → Splits told (name_word name ∷ v ∷ rest) split
apart_first name told split v rest none s = record {
  parts = apart name v ∷ s.parts;
  end = s.end;
  words_are = ap (λ ws. name_word name ∷ v ∷ ws) s.words_are;
  are_parts = (tt, s.are_parts);
  values = λ m. value_first name m told split v (flat_map (values_in m) s.parts) none (s.values m);
  plain_is = ap (λ ws. ws ++ (flat_map plain_in s.parts ++ behind s.end)) (set_same name v told) ∙ s.plain_is;
}

in_one_first : (name : Name) (told split : Split) (v : Word) (rest : List Word) → value_of name told ≡ None → Splits (set_value name v told) rest split
    → Splits told ((name_word name ++ 61 ∷ v) ∷ rest) split
in_one_first name told split v rest none s = record {
  parts = in_one name v ∷ s.parts;
  end = s.end;
  words_are = ap (λ ws. (name_word name ++ 61 ∷ v) ∷ ws) s.words_are;
  are_parts = (tt, s.are_parts);
  values = λ m. value_first name m told split v (flat_map (values_in m) s.parts) none (s.values m);
  plain_is = ap (λ ws. ws ++ (flat_map plain_in s.parts ++ behind s.end)) (set_same name v told) ∙ s.plain_is;
}

-- an option waits for its value, and the words behind the value split
pub record Waits (name : Name) (told : Split) (words : List Word) (split : Split) : Type 0 where
  pub value : Word
  pub rest : List Word
  pub words_are : words ≡ value ∷ rest
  pub none : value_of name told ≡ None
  pub splits : Splits (set_value name value told) rest split

Means : Mode → Split → List Word → Split → Type 0
Means mode.parts told words split = has_lone words ≡ false → Texts words → Splits told words split
Means (mode.wait name) told words split = has_lone words ≡ false → Texts words → Waits name told words split
Means mode.behind told words split = AllPlain told words split

went : (t : Takes) (o : Option (Mode × Split)) (words : List Word) (split : Split) → option_and_then (λ n. read_from t n.0 n.1 words) o ≡ Some split
    → (n : Mode × Split) × (o ≡ Some n) × (read_from t n.0 n.1 words ≡ Some split)
went t None words split e = absurd (cc)
went t (Some n) words split e = (n, refl, e)

first_by : (had : Option Word) (name : Name) (v : Word) (told : Split) (n : Mode × Split) → goes_on (first_value had name v told) ≡ Some n
    → (had ≡ None) × (n ≡ (mode.parts, set_value name v told))
first_by None name v told n e = (refl, sym (some_is (mode.parts, set_value name v told) n e))
first_by (Some had) name v told n e = absurd (cc)

arrives : (rest : List Word) (split : Split) (n p : Mode × Split) → Some p ≡ Some n → Means n.0 n.1 rest split → Means p.0 p.1 rest split
arrives rest split n p e means = subst (λ (q : Mode × Split). Means q.0 q.1 rest split) (sym (some_is p n e)) means

lone_rest : (word : Word) (rest : List Word) → bytes_eq word (codes "--") ≡ false → has_lone (word ∷ rest) ≡ false → (bytes_eq word (codes "-") ≡ false) × (has_lone rest ≡ false)
lone_rest word rest two e = go (bytes_eq word (codes "-")) refl (rw two at e)
  where
    go : (b : Bool) → bytes_eq word (codes "-") ≡ b → (bytes_eq word (codes "-") || has_lone rest) ≡ false → (bytes_eq word (codes "-") ≡ false) × (has_lone rest ≡ false)
    go true one e = absurd (true≢false (rw one at e))
    go false one e = (one, rw one at e)

-- a word that is neither a flag nor a lone `-` isn't dashed
undashed : (t : Takes) (word : Word) → IsUtf8 word → Seen t word other → bytes_eq word (codes "-") ≡ false → is_dashed word ≡ false
undashed t word utf8 l one = elim (other_is t word utf8 l) [
  | inl plain ↦ plain
  | inr dash ↦
      let bad : true ≡ false = ap (λ (w : Word). bytes_eq w (codes "-")) (sym dash) ∙ one in
      absurd (true≢false bad)
]

parts_means : (t : Takes) (told split : Split) (word : Word) (rest : List Word) (l : Look) (n : Mode × Split) → Seen t word l → look_step l mode.parts told word ≡ Some n → Means n.0 n.1 rest split
    → Means mode.parts told (word ∷ rest) split
unfolding Means
parts_means t told split word rest ends n l e means = λ lone texts.
    subst (λ (w : Word). Splits told (w ∷ rest) split) (sym (ends_is t word l)) (ends_behind told split rest (arrives rest split n (mode.behind, told) e means))
parts_means t told split word rest (names name None) n l e means = λ lone texts.
    let w : has_lone rest ≡ false → Texts rest → Waits name told rest split = arrives rest split n (mode.wait name, told) e means in
    let waits = w (lone_rest word rest l.0 lone).1 (texts.1 l.0) in
    subst (λ (u : Word). Splits told (u ∷ rest) split) (sym (apart_is t word name l))
    (subst (λ us. Splits told (name_word name ∷ us) split) (sym waits.words_are) (apart_first name told split waits.value waits.rest waits.none waits.splits))
parts_means t told split word rest (names name (Some v)) n l e means = λ lone texts.
    let first = first_by (value_of name told) name v told n e in
    let next : Means mode.parts (set_value name v told) rest split = arrives rest split n (mode.parts, set_value name v told) (ap (λ p. Some p) (sym first.1)) means in
    subst (λ (u : Word). Splits told (u ∷ rest) split) (sym (in_one_is t word name v l))
    (in_one_first name told split v rest first.0 (next (lone_rest word rest l.0 lone).1 (texts.1 l.0)))
parts_means t told split word rest refused n l e means = absurd (cc)
parts_means t told split word rest other n l e means = λ lone texts.
    let next : Means mode.parts (with_plain word told) rest split = arrives rest split n (mode.parts, with_plain word told) e means in
    let alone_not = lone_rest word rest l.0 lone in
    plain_first told split word rest (undashed t word texts.0 l alone_not.0) (next alone_not.1 (texts.1 l.0))

wait_means : (t : Takes) (name : Name) (told split : Split) (word : Word) (rest : List Word) (l : Look) (n : Mode × Split) → Seen t word l → look_step l (mode.wait name) told word ≡ Some n → Means n.0 n.1 rest split
    → Means (mode.wait name) told (word ∷ rest) split
unfolding Means
wait_means t name told split word rest ends n l e means = absurd (cc)
wait_means t name told split word rest (names next None) n l e means = absurd (cc)
wait_means t name told split word rest (names next (Some v)) n l e means = absurd (cc)
wait_means t name told split word rest refused n l e means = absurd (cc)
wait_means t name told split word rest other n l e means = λ lone texts.
    let first = first_by (value_of name told) name word told n e in
    let next : Means mode.parts (set_value name word told) rest split = arrives rest split n (mode.parts, set_value name word told) (ap (λ p. Some p) (sym first.1)) means in
    record { value = word; rest = rest; words_are = refl; none = first.0; splits = next (lone_rest word rest l.0 lone).1 (texts.1 l.0) }

behind_more : (told split : Split) (word : Word) (rest : List Word) (n : Mode × Split) → Some (mode.behind, with_plain word told) ≡ Some n → Means n.0 n.1 rest split → AllPlain told (word ∷ rest) split
unfolding Means
behind_more told split word rest n e means =
    let all : AllPlain (with_plain word told) rest split = arrives rest split n (mode.behind, with_plain word told) e means in
    record { values = λ name. plain_same name word told ∙ all.values name; plain = sym (append_assoc told.plain (word ∷ []) rest) ∙ all.plain }

behind_means : (told split : Split) (word : Word) (rest : List Word) (l : Look) (n : Mode × Split) → look_step l mode.behind told word ≡ Some n → Means n.0 n.1 rest split → AllPlain told (word ∷ rest) split
behind_means told split word rest ends n e means = behind_more told split word rest n e means
behind_means told split word rest (names name None) n e means = behind_more told split word rest n e means
behind_means told split word rest (names name (Some v)) n e means = behind_more told split word rest n e means
behind_means told split word rest refused n e means = behind_more told split word rest n e means
behind_means told split word rest other n e means = behind_more told split word rest n e means

one_means : (t : Takes) (m : Mode) (told split : Split) (word : Word) (rest : List Word) (n : Mode × Split) → look_step (look t word) m told word ≡ Some n → Means n.0 n.1 rest split → Means m told (word ∷ rest) split
unfolding Means
one_means t mode.parts told split word rest n e means = parts_means t told split word rest (look t word) n (seen t word) e means
one_means t (mode.wait name) told split word rest n e means = wait_means t name told split word rest (look t word) n (seen t word) e means
one_means t mode.behind told split word rest n e means = behind_means told split word rest (look t word) n e means

no_word : (m : Mode) (told split : Split) → finish m told ≡ Some split → Means m told [] split
unfolding Means
no_word mode.parts told split e = λ lone texts. ends_here told split (some_is told split e)
no_word (mode.wait name) told split e = absurd (cc)
no_word mode.behind told split e =
    let same = some_is told split e in
    record { values = λ name. ap (λ (s : Split). value_of name s) same; plain = append-nil told.plain ∙ ap (λ (s : Split). s.plain) same }

read_means : (t : Takes) (words : List Word) (m : Mode) (told split : Split) → read_from t m told words ≡ Some split → Means m told words split
read_means t [] m told split e = no_word m told split e
read_means t (word ∷ rest) m told split e =
    let w = went t (look_step (look t word) m told word) rest split e in
    one_means t m told split word rest w.0 w.1 (read_means t rest w.0.0 w.0.1 split w.2)

pub read_is_split : (t : Takes) (words : List Word) (split : Split) → has_lone words ≡ false → Texts words → read_from t mode.parts (alone []) words ≡ Some split → IsSplit words split
unfolding Means
read_is_split t words split lone texts e =
    let s : Splits (alone []) words split = read_means t words mode.parts (alone []) split e lone texts in
    record { parts = s.parts; end = s.end; words_are = s.words_are; are_parts = s.are_parts; serve_is = s.values serve_option; links_is = s.values links_option; plain_is = s.plain_is }

-- ---- what splits so is read

same_value : (o t : Option Word) → listed o ≡ listed t → o ≡ t
same_value None None e = refl
same_value None (Some b) e = absurd (cc)
same_value (Some a) None e = absurd (cc)
same_value (Some a) (Some b) e = (let one : a ≡ b = cc in ap (λ w. Some w) one)

no_more : (o t : Option Word) → listed o ++ [] ≡ listed t → o ≡ t
no_more o t e = same_value o t (sym (append-nil (listed o)) ∙ e)

-- a value that is told is the first one, and the last
record IsOnly (o t : Option Word) (v : Word) (rest : List Word) : Type 0 where
  none : o ≡ None
  more : listed (Some v) ++ rest ≡ listed t
  is : t ≡ Some v

only : (o t : Option Word) (v : Word) (rest : List Word) → listed o ++ (v ∷ rest) ≡ listed t → IsOnly o t v rest
only None None v rest e = absurd (cc)
only None (Some b) v rest e = (let one : b ≡ v = cc in record { none = refl; more = e; is = ap (λ w. Some w) one })
only (Some a) None v rest e = absurd (cc)
only (Some a) (Some b) v rest e = (let more : v ∷ rest ≡ [] = cc in absurd (cc))

same_split : (a b : Split) → ((name : Name) → value_of name a ≡ value_of name b) → a.plain ≡ b.plain → a ≡ b
same_split a b values plain = λ i. record { serve = values serve_option i; links = values links_option i; plain = plain i }

next_is : (t : Takes) (s : Option (Mode × Split)) (m : Mode) (told : Split) (words : List Word) → s ≡ Some (m, told) → option_and_then (λ n. read_from t n.0 n.1 words) s ≡ read_from t m told words
next_is t s m told words e = ap (λ o. option_and_then (λ n. read_from t n.0 n.1 words) o) e

behind_look : (l : Look) (told : Split) (word : Word) → look_step l mode.behind told word ≡ Some (mode.behind, with_plain word told)
behind_look ends told word = refl
behind_look (names name None) told word = refl
behind_look (names name (Some v)) told word = refl
behind_look refused told word = refl
behind_look other told word = refl

behind_read : (t : Takes) (words : List Word) (told split : Split) → AllPlain told words split → read_from t mode.behind told words ≡ Some split
behind_read t [] told split all = ap (λ s. Some s) (same_split told split all.values (sym (append-nil told.plain) ∙ all.plain))
behind_read t (word ∷ words) told split all =
    next_is t (look_step (look t word) mode.behind told word) mode.behind (with_plain word told) words (behind_look (look t word) told word)
    ∙ behind_read t words (with_plain word told) split (record {
      values = λ name. sym (plain_same name word told) ∙ all.values name;
      plain = append_assoc told.plain (word ∷ []) words ∙ all.plain;
    })

value_goes : (name : Name) (v : Word) (told : Split) → value_of name told ≡ None → goes_on (with_value name v told) ≡ Some (mode.parts, set_value name v told)
value_goes name v told none = ap (λ o. goes_on (first_value o name v told)) none

-- one part less
record Less (told : Split) (part : Part) (parts : List Part) (end : Option (List Word)) (split : Split) : Type 0 where
  values : (name : Name) → listed (value_of name told) ++ (values_in name part ++ flat_map (values_in name) parts) ≡ listed (value_of name split)
  plain : told.plain ++ ((plain_in part ++ flat_map plain_in parts) ++ behind end) ≡ split.plain

next_value : (name m : Name) (told split : Split) (v : Word) (more : Name → List Word)
    → ((k : Name) → listed (value_of k told) ++ (value_for k v name ++ more k) ≡ listed (value_of k split)) → listed (value_of m (set_value name v told)) ++ more m ≡ listed (value_of m split)
next_value serve_option serve_option told split v more e = (only told.serve split.serve v (more serve_option) (e serve_option)).more
next_value links_option links_option told split v more e = (only told.links split.links v (more links_option) (e links_option)).more
next_value serve_option links_option told split v more e = e links_option
next_value links_option serve_option told split v more e = e serve_option

value_is : (name : Name) (told split : Split) (v : Word) (more : Name → List Word)
    → ((k : Name) → listed (value_of k told) ++ (value_for k v name ++ more k) ≡ listed (value_of k split)) → IsOnly (value_of name told) (value_of name split) v (more name)
value_is serve_option told split v more e = only told.serve split.serve v (more serve_option) (e serve_option)
value_is links_option told split v more e = only told.links split.links v (more links_option) (e links_option)

lone_plain : (word : Word) (rest : List Word) → is_dashed word ≡ false → has_lone (word ∷ rest) ≡ has_lone rest
lone_plain [] rest plain = refl
lone_plain (b ∷ word) rest plain = rw plain refl

lone_apart : (name : Name) (v : Word) (rest : List Word) → is_dashed v ≡ false → has_lone (name_word name ∷ v ∷ rest) ≡ has_lone rest
lone_apart serve_option v rest plain = lone_plain v rest plain
lone_apart links_option v rest plain = lone_plain v rest plain

lone_in_one : (name : Name) (v : Word) (rest : List Word) → has_lone ((name_word name ++ 61 ∷ v) ∷ rest) ≡ has_lone rest
lone_in_one serve_option v rest = refl
lone_in_one links_option v rest = refl

apart_read : (t : Takes) (name : Name) (told : Split) (v : Word) (rest : List Word) → t name ≡ true → value_of name told ≡ None → is_dashed v ≡ false
    → read_from t mode.parts told (name_word name ∷ v ∷ rest) ≡ read_from t mode.parts (set_value name v told) rest
apart_read t name told v rest taken none plain =
    next_is t (look_step (look t (name_word name)) mode.parts told (name_word name)) (mode.wait name) told (v ∷ rest) (ap (λ l. look_step l mode.parts told (name_word name)) (look_apart t name taken))
    ∙ next_is t (look_step (look t v) (mode.wait name) told v) mode.parts (set_value name v told) rest
    (ap (λ l. look_step l (mode.wait name) told v) (look_plain t v plain) ∙ value_goes name v told none)

in_one_read : (t : Takes) (name : Name) (told : Split) (v : Word) (rest : List Word) → t name ≡ true → value_of name told ≡ None
    → read_from t mode.parts told ((name_word name ++ 61 ∷ v) ∷ rest) ≡ read_from t mode.parts (set_value name v told) rest
in_one_read t name told v rest taken none =
    next_is t (look_step (look t (name_word name ++ 61 ∷ v)) mode.parts told (name_word name ++ 61 ∷ v)) mode.parts (set_value name v told) rest
    (ap (λ l. look_step l mode.parts told (name_word name ++ 61 ∷ v)) (look_in_one t name v taken) ∙ value_goes name v told none)

plain_read : (t : Takes) (told : Split) (word : Word) (rest : List Word) → is_dashed word ≡ false → read_from t mode.parts told (word ∷ rest) ≡ read_from t mode.parts (with_plain word told) rest
plain_read t told word rest plain =
    next_is t (look_step (look t word) mode.parts told word) mode.parts (with_plain word told) rest (ap (λ l. look_step l mode.parts told word) (look_plain t word plain))

ends_read : (t : Takes) (told : Split) (rest : List Word) → read_from t mode.parts told (codes "--" ∷ rest) ≡ read_from t mode.behind told rest
ends_read t told rest = next_is t (look_step (look t (codes "--")) mode.parts told (codes "--")) mode.behind told rest (ap (λ l. look_step l mode.parts told (codes "--")) (look_ends t))

abbrev IsRead : Takes → Split → List Word → Split → Type 0
IsRead t told words split = (read_from t mode.parts told words ≡ Some split) × (has_lone words ≡ false)

-- an option that has a value is one that the command takes
taken_by : (t : Takes) (name : Name) (split : Split) (v : Word) → HasValues t split → value_of name split ≡ Some v → t name ≡ true
taken_by t name split v has is = go (t name) refl
  where
    go : (b : Bool) → t name ≡ b → t name ≡ true
    go true e = e
    go false e =
        let bad : None ≡ Some v = sym (has.taken name e) ∙ is in
        absurd (cc)

parts_read : (t : Takes) (parts : List Part) (end : Option (List Word)) (told split : Split) → HasValues t split → AreParts parts
    → ((name : Name) → listed (value_of name told) ++ flat_map (values_in name) parts ≡ listed (value_of name split))
    → told.plain ++ (flat_map plain_in parts ++ behind end) ≡ split.plain → IsRead t told (flat_map part_words parts ++ ending end) split
parts_read t [] None told split plain are values all =
    (ap (λ s. Some s) (same_split told split (λ name. no_more (value_of name told) (value_of name split) (values name)) (sym (append-nil told.plain) ∙ all)), refl)
parts_read t [] (Some words) told split plain are values all = (
  ends_read t told words ∙ behind_read t words told split (record { values = λ name. no_more (value_of name told) (value_of name split) (values name); plain = all }),
  refl,
)
parts_read t (plain_word word ∷ parts) end told split plain are values all =
    let rest = flat_map part_words parts ++ ending end in
    let again = parts_read t parts end (with_plain word told) split plain are.1 (λ name. ap (λ o. listed o ++ flat_map (values_in name) parts) (sym (plain_same name word told)) ∙ values name)
    (append_assoc told.plain (word ∷ []) (flat_map plain_in parts ++ behind end) ∙ all) in
    (plain_read t told word rest are.0 ∙ again.0, lone_plain word rest are.0 ∙ again.1)
parts_read t (apart name v ∷ parts) end told split plain are values all =
    let rest = flat_map part_words parts ++ ending end in
    let one = value_is name told split v (λ k. flat_map (values_in k) parts) values in
    let undashed : is_dashed v ≡ false = subst IsUndashed one.is (plain.undashed name) in
    let again = parts_read t parts end (set_value name v told) split plain are.1 (λ m. next_value name m told split v (λ k. flat_map (values_in k) parts) values)
    (ap (λ ws. ws ++ (flat_map plain_in parts ++ behind end)) (sym (set_same name v told)) ∙ all) in
    (apart_read t name told v rest (taken_by t name split v plain one.is) one.none undashed ∙ again.0, lone_apart name v rest undashed ∙ again.1)
parts_read t (in_one name v ∷ parts) end told split plain are values all =
    let rest = flat_map part_words parts ++ ending end in
    let one = value_is name told split v (λ k. flat_map (values_in k) parts) values in
    let again = parts_read t parts end (set_value name v told) split plain are.1 (λ m. next_value name m told split v (λ k. flat_map (values_in k) parts) values)
    (ap (λ ws. ws ++ (flat_map plain_in parts ++ behind end)) (sym (set_same name v told)) ∙ all) in
    (in_one_read t name told v rest (taken_by t name split v plain one.is) one.none ∙ again.0, lone_in_one name v rest ∙ again.1)

pub split_is_read : (t : Takes) (words : List Word) (split : Split) → HasValues t split → IsSplit words split → IsRead t (alone []) words split
split_is_read t words split plain is =
    subst (λ ws. IsRead t (alone []) ws split) (sym is.words_are) (parts_read t is.parts is.end (alone []) split plain is.are_parts (each is) is.plain_is)
  where
    each : IsSplit words split → (name : Name) → listed (value_of name (alone [])) ++ flat_map (values_in name) is.parts ≡ listed (value_of name split)
    each _ serve_option = is.serve_is
    each _ links_option = is.links_is

-- no command has more than four plain words
pub few_is : (split : Split) → length split.plain ≤ 4 → few split ≡ Some split
few_is split le = ap (λ b. option_map (λ (p : List Word). record split { plain = p }) (cond b None (Some split.plain))) (le-ltb 4 (length split.plain) le)

few_same : (b : Bool) (split told : Split) → option_map (λ (p : List Word). record split { plain = p }) (cond b None (Some split.plain)) ≡ Some told → split ≡ told
few_same true split told e = absurd (cc)
few_same false split told e = some_is split told e

pub few_was : (split told : Split) → few split ≡ Some told → split ≡ told
few_was split told e = few_same (nat_lt 4 (length split.plain)) split told e
