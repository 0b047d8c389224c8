-- What clap reads of the arguments after the command, as one function of an argument and of what is told so far.
use Rattle.std.specs.Prelude.{◌≡◌, ◌||◌, ◌&&◌, Bool, false, cond, List, [], ◌∷◌, ◌++◌, Option, Some, None, is_some, codes, option_and_then, option_map, slice_get}
use Rattle.std.specs.Str.{bytes_eq, chars, IsUtf8}
use Rattle.clap.specs.Lexer.{long_of, short_of}
use Rattle.program_words.specs.Words.{Word, Name, serve_option, links_option, Split, is_dashed}

-- the options that a command takes
abbrev pub Takes : Type 0
Takes = Name → Bool

-- `run` takes both options, `serve` takes `--links`, and no other command takes any
abbrev pub takes_at : Word → Takes
takes_at command serve_option = bytes_eq command (codes "run")
takes_at command links_option = bytes_eq command (codes "run") || bytes_eq command (codes "serve")

abbrev pub name_id : Name → Word
name_id serve_option = codes "serve"
name_id links_option = codes "links"

-- the option of the name after `--`
abbrev pub option_named : Takes → Word → Option Name
option_named takes name =
    cond (bytes_eq (codes "serve") name && takes serve_option) (Some serve_option)
    (cond (bytes_eq (codes "links") name && takes links_option) (Some links_option) None)

-- what an argument looks like
pub data Look : Type 0 where
  ends : Look
  names : Name → Option Word → Look
  refused : Look
  other : Look

abbrev pub long_look : Option Name → Option Word → Look
long_look None value = refused
long_look (Some name) value = names name value

abbrev pub short_look : Option Word → Look
short_look None = other
short_look (Some flags) = cond (is_some (slice_get (chars flags) 0)) refused other

abbrev pub other_look : Takes → Option (Word × Option Word) → Word → Look
other_look takes (Some p) word = long_look (option_named takes p.0) p.1
other_look takes None word = short_look (short_of word)

unfoldable pub look : Takes → Word → Look
look takes word = cond (bytes_eq word (45 ∷ 45 ∷ [])) ends (other_look takes (long_of word) word)

-- between two arguments: before `--`, where an option waits for its value, or after `--`
pub data Mode : Type 0 where
  parts : Mode
  wait : Name → Mode
  behind : Mode

abbrev pub value_of : Name → Split → Option Word
value_of serve_option split = split.serve
value_of links_option split = split.links

abbrev pub set_value : Name → Word → Split → Split
set_value serve_option value split = record split { serve = Some value }
set_value links_option value split = record split { links = Some value }

-- the option's value, which it may not have yet
abbrev pub first_value : Option Word → Name → Word → Split → Option Split
first_value None name value split = Some (set_value name value split)
first_value (Some had) name value split = None

abbrev pub with_value : Name → Word → Split → Option Split
with_value name value split = first_value (value_of name split) name value split

abbrev pub with_plain : Word → Split → Split
with_plain word split = record split { plain = split.plain ++ word ∷ [] }

abbrev pub goes_on : Option Split → Option (Mode × Split)
goes_on = option_map (λ split. (parts, split))

abbrev pub look_step : Look → Mode → Split → Word → Option (Mode × Split)
look_step ends parts split word = Some (behind, split)
look_step (names name None) parts split word = Some (wait name, split)
look_step (names name (Some value)) parts split word = goes_on (with_value name value split)
look_step other parts split word = Some (parts, with_plain word split)
look_step other (wait name) split word = goes_on (with_value name word split)
look_step _ behind split word = Some (behind, with_plain word split)
look_step _ _ split word = None

abbrev pub finish : Mode → Split → Option Split
finish parts split = Some split
finish (wait name) split = None
finish behind split = Some split

abbrev pub read_from : Takes → Mode → Split → List Word → Option Split
read_from takes mode split [] = finish mode split
read_from takes mode split (word ∷ words) =
    option_and_then (λ next. read_from takes next.0 next.1 words) (look_step (look takes word) mode split word)

-- a `-` stands alone before `--`
abbrev pub has_lone : List Word → Bool
has_lone [] = false
has_lone (word ∷ words) = cond (bytes_eq word (codes "--")) false (bytes_eq word (codes "-") || has_lone words)

abbrev pub IsUndashed : Option Word → Type 0
IsUndashed None = Unit {0}
IsUndashed (Some word) = is_dashed word ≡ false

-- no option's value begins with `-`, and only options that the command takes have a value
pub record HasValues (takes : Takes) (split : Split) : Type 0 where
  pub undashed : (name : Name) → IsUndashed (value_of name split)
  pub taken : (name : Name) → takes name ≡ false → value_of name split ≡ None

-- the arguments up to `--` are texts
abbrev pub Texts : List Word → Type 0
Texts [] = Unit {0}
Texts (word ∷ words) = IsUtf8 word × (bytes_eq word (codes "--") ≡ false → Texts words)
