-- What the code keeps of the arguments after the command.
use Rattle.std.specs.Prelude.{◌≡◌, Bool, true, List, [], ◌∷◌, length, Option, Some, None, if◌then◌else◌, nat_lt, option_map}
use Rattle.std.specs.Borrow.{Bor}
use Rattle.clap.specs.Words.{first_value, raw_values}
use Rattle.clap.specs.Matches.{matched_of}
use Rattle.clap.specs.declared.parser.matches.Found.{Found}
use Rattle.clap.specs.Walk.{Row, Text, all_of}
use Rattle.program_words.specs.Words.{Word, Name, Split, alone}
use Rattle.program_words.specs.Scanning.{name_id, takes_at, value_of, parts, read_from, has_lone, Texts}
use Rattle.program_words.specs.Made.{plain_id, verbs, is_verb}
use Rattle.program_words.specs.declared.told.Plain.{Plain}
use Rattle.program_words.specs.declared.told.Plain.TheVariants.{Zero, One, Two, Three, Four}
use Rattle.program_words.specs.declared.told.Told.{Told}

-- ---- what is told

abbrev pub plain_words : Plain → List Word
plain_words Zero = []
plain_words (One a) = a.now ∷ []
plain_words (Two a b) = a.now ∷ b.now ∷ []
plain_words (Three a b c) = a.now ∷ b.now ∷ c.now ∷ []
plain_words (Four a b c d) = a.now ∷ b.now ∷ c.now ∷ d.now ∷ []

abbrev pub value_word : Option (Bor Word) → Option Word
value_word = option_map (λ value. value.now)

abbrev pub split_of : Told → Split
split_of told = record { serve = value_word told.serve; links = value_word told.links; plain = plain_words told.plain }

-- no command has more than four plain arguments
abbrev pub few_words : List Word → Option (List Word)
few_words words = if nat_lt 4 (length words) then None else Some words

abbrev pub few : Split → Option Split
few split = option_map (λ plain. record split { plain = plain }) (few_words split.plain)

-- ---- what clap tells

abbrev pub some_words : List Word → Option (List Word)
some_words [] = None
some_words (word ∷ words) = Some (word ∷ words)

abbrev pub one : Word → List Word
one word = word ∷ []

-- the rows hold what is told
pub record RowsAre (rows : List Row) (split : Split) : Type 0 where
  pub values : (name : Name) → all_of (name_id name) rows ≡ option_map one (value_of name split)
  pub plain : all_of plain_id rows ≡ some_words split.plain

-- the matches hold what is told
pub record HasTold (found : Found) (split : Split) : Type 0 where
  pub values : (name : Name) → first_value found (name_id name) ≡ value_of name split
  pub plain : option_map raw_values (matched_of found plain_id) ≡ some_words split.plain

-- what was met is the first argument, and its rows hold what is read after it
abbrev pub IsMet : List Word → Option (Text × List Row) → Type 0
IsMet [] met = ⊥
IsMet (word ∷ words) met = (is_verb verbs word ≡ true)
    × ((split : Split) × (read_from (takes_at word) parts (alone []) words ≡ Some split) × ((rows : List Row) × (met ≡ Some (word, rows)) × RowsAre rows split))

-- the first argument is no command, or those after it aren't read
abbrev pub IsUnread : List Word → Type 0
IsUnread [] = Unit {0}
IsUnread (word ∷ words) = is_verb verbs word ≡ true → read_from (takes_at word) parts (alone []) words ≡ None

abbrev pub CommandTold : Type 0
CommandTold = Bor Word × Told

abbrev pub command_split : Option CommandTold → Option (Word × Split)
command_split = option_map (λ (p : CommandTold). (p.0.now, split_of p.1))

abbrev pub KeepsBelow : Option (Text × List Row) → Option CommandTold → Type 0
KeepsBelow met o = (word : Word) (rows : List Row) (split : Split) → met ≡ Some (word, rows) → RowsAre rows split → command_split o ≡ option_map (λ (s : Split). (word, s)) (few split)

abbrev pub IsLone : List Word → Bool → Type 0
IsLone words lone = (word : Word) (rest : List Word) → words ≡ word ∷ rest → lone ≡ has_lone rest

abbrev pub TextsBehind : List Word → Type 0
TextsBehind words = (word : Word) (rest : List Word) → words ≡ word ∷ rest → Texts rest
