-- The answers of the command with a subcommand for each command.
use Rattle.std.proofs.Common.{◌≡◌, ◌∙◌, ◌≤◌, inl, inr, List, [], ◌∷◌, map, Bool, true, false, Option, Some, None, IfSome, length, refl, sym, ap, subst, true≢false}
use Rattle.std.specs.Prelude.{option_map}
use Rattle.std.specs.Prelude.{Box}
use Rattle.std.specs.Box.{box_value}
use Rattle.clap.specs.Walk.{Text, Row, rows_of}
use Rattle.clap.specs.Matches.{subcommand_name_of}
use Rattle.clap.specs.declared.parser.matches.ArgMatches.TheViews.{out-ArgMatches, out-SubCommand}
use Rattle.clap.specs.declared.parser.matches.SubCommand.{SubCommand}
use Rattle.clap.specs.declared.parser.matches.Found.{Found}
use Rattle.clap.specs.Simple.{App, HasMatchesOf, is_simple, subcommand_of, subcommand_rows, subcommand_rows_of}
use Rattle.clap.specs.Faults.{fault_of, is_simple_and_free}
use Rattle.clap.specs.Kinds.{HasKind, IsAmong}
use Rattle.clap.specs.Values.{kind_of}
use Rattle.clap.specs.declared.error.Error.{Error}
use Rattle.clap.specs.declared.error.kind.ErrorKind.TheVariants.{OutOfMemory}
use Rattle.clap.specs.declared.parser.matches.ArgMatches.{ArgMatches}
use Rattle.spool_spec.proofs.of_plain_laws.Options.{some_is}
use Rattle.program_words.specs.Words.{Word, Split, IsSplit, alone}
use Rattle.program_words.specs.Scanning.{takes_at, parts, read_from, HasValues}
use Rattle.program_words.specs.Made.{all, verbs, is_verb, Names}
use Rattle.program_words.specs.Splitting.{RowsAre, IsMet, IsUnread, CommandTold, command_split, KeepsBelow, IsLone, TextsBehind, HasTold, split_of, few}
use Rattle.program_words.proofs.Found.{told}
use Rattle.program_words.proofs.Tops.{all_simple, clap_finds_below, none_asked, nothing_asked, FindsBelow}
use Rattle.program_words.proofs.Splits.{read_is_split, split_is_read, few_is, few_was}

met_below : (word : Text) (words : List Word) (met : Option (Text × List Row)) (o : Option Split) → is_verb verbs word ≡ true → read_from (takes_at word) parts (alone []) words ≡ o → FindsBelow word words o
    → fault_of all (word ∷ words) ≡ [] → met ≡ subcommand_of all (word ∷ words) → IsMet (word ∷ words) met
met_below word words met None is e finds none same = absurd (finds none)
met_below word words met (Some split) is e finds none same = (is, (split, e, (finds.1.0, same ∙ finds.1.1, finds.1.2)))

met_first : (word : Text) (words : List Word) (met : Option (Text × List Row)) (b : Bool) → is_verb verbs word ≡ b → fault_of all (word ∷ words) ≡ [] → met ≡ subcommand_of all (word ∷ words) → IsMet (word ∷ words) met
met_first word words met true is none same = met_below word words met (read_from (takes_at word) parts (alone []) words) is refl (clap_finds_below word words is) none same
met_first word words met false is none same = absurd (none_asked word words is none)

met_all : (words : List Word) (met : Option (Text × List Row)) → fault_of all words ≡ [] → met ≡ subcommand_of all words → IsMet words met
met_all [] met none same = absurd (nothing_asked none)
met_all (word ∷ words) met none same = met_first word words met (is_verb verbs word) refl none same

all_is_simple : is_simple all ≡ true
all_is_simple = refl

-- clap reads the texts of the words, which are the words
pub map_same : (f : Word → Word) (words : List Word) → ((word : Word) → f word ≡ word) → map f words ≡ words
map_same f [] same = refl
map_same f (word ∷ words) same = λ i. same word i ∷ map_same f words same i

pub is_met : (app : App) (words : List Word) (m : ArgMatches) → app ≡ all → (is_simple_and_free app ≡ true → fault_of app words ≡ []) → HasMatchesOf app words m → IsMet words (subcommand_rows_of m)
is_met app words m is kinds matches =
    let none : fault_of all words ≡ [] = subst (λ (a : App). is_simple_and_free a ≡ true → fault_of a words ≡ []) is kinds all_simple in
    let has : HasMatchesOf all words m = subst (λ (a : App). HasMatchesOf a words m) is matches in
    met_all words (subcommand_rows_of m) none (has all_is_simple).1

unread_below : (word : Text) (words : List Word) (e : Error) (o : Option Split) → read_from (takes_at word) parts (alone []) words ≡ o → FindsBelow word words o → HasKind (fault_of all (word ∷ words)) e
    → (kind_of e ≡ OutOfMemory → ⊥) → read_from (takes_at word) parts (alone []) words ≡ None
unread_below word words e None is finds has other = is
unread_below word words e (Some split) is finds (inl memory) other = absurd (other memory)
unread_below word words e (Some split) is finds (inr among) other = absurd (subst (λ ks. IsAmong (kind_of e) ks) finds.0 among)

unread_all : (words : List Word) (e : Error) → HasKind (fault_of all words) e → (kind_of e ≡ OutOfMemory → ⊥) → IsUnread words
unread_all [] e has other = tt
unread_all (word ∷ words) e has other = λ is. unread_below word words e (read_from (takes_at word) parts (alone []) words) refl (clap_finds_below word words is) has other

pub is_unread : (app : App) (words : List Word) (e : Error) → app ≡ all → (is_simple_and_free app ≡ true → HasKind (fault_of app words) e) → (kind_of e ≡ OutOfMemory → ⊥) → IsUnread words
is_unread app words e is kinds other =
    unread_all words e (subst (λ (a : App). is_simple_and_free a ≡ true → HasKind (fault_of a words) e) is kinds all_simple) other

-- ---- what is kept

few_pair : (o : Option Split) (word : Word) (p : Word × Split) → option_map (λ (s : Split). (word, s)) o ≡ Some p → (o ≡ Some p.1) × (word ≡ p.0)
few_pair None word p e = absurd (cc)
few_pair (Some s) word p e =
    let same : (word, s) ≡ p = cc in
    (ap (λ (q : Word × Split). Some q.1) same, ap (λ (q : Word × Split). q.0) same)

pub asked_names : (words : List Word) (met : Option (Text × List Row)) (o : Option CommandTold) → IsLone words false → TextsBehind words → IsMet words met → KeepsBelow met o
    → IfSome o (λ p. Names words p.0.now (split_of p.1))
asked_names words met None lone texts is keeps = tt
asked_names [] met (Some p) lone texts is keeps = absurd is
asked_names (word ∷ words) met (Some p) lone texts is keeps =
    let found = is.1 in
    let pair = few_pair (few found.0) word (p.0.now, split_of p.1) (sym (keeps word found.2.0 found.0 found.2.1 found.2.2)) in
    let same : found.0 ≡ split_of p.1 = few_was found.0 (split_of p.1) pair.0 in
    (pair.1, is.0, subst (λ (s : Split). IsSplit words s) same (read_is_split (takes_at word) words found.0 (sym (lone word words refl)) (texts word words refl) found.1))

valued : (word verb : Word) (split : Split) → word ≡ verb → HasValues (takes_at verb) split → HasValues (takes_at word) split
valued word verb split same has = subst (λ (w : Word). HasValues (takes_at w) split) (sym same) has

pub names_asked : (words : List Word) (met : Option (Text × List Row)) (o : Option CommandTold) → IsMet words met → KeepsBelow met o
    → (verb : Word) (split : Split) → Names words verb split → HasValues (takes_at verb) split → length split.plain ≤ 4 → command_split o ≡ Some (verb, split)
names_asked [] met o is keeps verb split asks plain le = absurd is
names_asked (word ∷ words) met o is keeps verb split asks plain le =
    let found = is.1 in
    let same : found.0 ≡ split = some_is found.0 split (sym found.1 ∙ (split_is_read (takes_at word) words split (valued word verb split asks.0 plain) asks.2).0) in
    keeps word found.2.0 found.0 found.2.1 found.2.2 ∙ ap (λ (s : Split). option_map (λ (t : Split). (word, t)) (few s)) same
    ∙ ap (option_map (λ (t : Split). (word, t))) (few_is split le) ∙ ap (λ (w : Word). Some (w, split)) asks.0

pub none_asks : (words : List Word) → IsUnread words → (verb : Word) (split : Split) → Names words verb split → HasValues (takes_at verb) split → ⊥
none_asks [] none verb split asks plain = asks
none_asks (word ∷ words) none verb split asks plain =
    let bad : None ≡ Some split = sym (none asks.1) ∙ (split_is_read (takes_at word) words split (valued word verb split asks.0 plain) asks.2).0 in
    absurd (cc)

pub lone_asks : (words : List Word) → IsLone words true → (verb : Word) (split : Split) → Names words verb split → HasValues (takes_at verb) split → ⊥
lone_asks [] lone verb split asks plain = asks
lone_asks (word ∷ words) lone verb split asks plain = true≢false (lone word words refl ∙ (split_is_read (takes_at word) words split (valued word verb split asks.0 plain) asks.2).1)

-- ---- the subcommand that was met

name_first : {Z : Type 0} (o : Option (Box SubCommand Z)) → option_map (λ (p : Text × List Row). p.0) (subcommand_rows o) ≡ option_map (λ b. (out-SubCommand (box_value b)).name.now) o
name_first None = refl
name_first (Some b) = refl

pub name_is : (m : ArgMatches) (name word : Word) (rows : List Row) → Some name ≡ subcommand_name_of m → subcommand_rows_of m ≡ Some (word, rows) → name ≡ word
name_is m name word rows named met =
    let same : Some name ≡ Some word = named ∙ sym (name_first (out-ArgMatches m).subcommand) ∙ ap (option_map (λ (p : Text × List Row). p.0)) met in
    cc

pub rows_are : (m : ArgMatches) (found rows : List Row) (word : Word) → Some found ≡ option_map (λ (p : Text × List Row). p.1) (subcommand_rows_of m) → subcommand_rows_of m ≡ Some (word, rows) → found ≡ rows
rows_are m found rows word given met =
    let same : Some found ≡ Some rows = given ∙ ap (option_map (λ (p : Text × List Row). p.1)) met in
    cc

pub told_below : (inner : Found) (found rows : List Row) (split : Split) → rows_of inner ≡ found → found ≡ rows → RowsAre rows split → HasTold inner split
told_below inner found rows split is same are = told inner split (subst (λ rs. RowsAre rs split) (sym (is ∙ same)) are)
