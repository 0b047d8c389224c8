-- Which arguments of a command line spell which request.
use Rattle.std.specs.Prelude.{◌≡◌, ◌≢◌, ◌⊎◌, ℕ, ◌==◌, ◌≤◌, ◌<◌, ◌^◌, List, [], ◌∷◌, ◌++◌, flat_map, Option, Some, None, Bool, true, false, codes, decimal}
use Rattle.spool_spec.specs.text_spec.Stamp.{IsStampOf}
use Rattle.spool_spec.specs.fleet_rows.Defaults.{default_ttls}
use Rattle.spool_spec.specs.fleet_rows.declared.settings.Ttls.{Ttls}
use Rattle.spool_spec.specs.history_spec.Lawful.{HasStamp}
use Rattle.spool_spec.specs.Spool.{joined, kind_words}
use Rattle.program_words.specs.declared.request.Request.{Request}
use Rattle.program_words.specs.declared.request.Request.TheVariants.{Show, Init, Run, Serve, Sweep, Compact, Discards, Payload, Query, Make}
use Rattle.program_words.specs.declared.request.Serving.{Serving}
use Rattle.spool_spec.specs.fleet_rows.Limits.{most_workers}

-- ---- options and plain arguments

abbrev pub Word : Type 0
Word = List ℕ

-- the two options, `--serve` and `--links`
pub data Name : Type 0 where
  serve_option : Name
  links_option : Name

abbrev pub name_word : Name → Word
name_word serve_option = codes "--serve"
name_word links_option = codes "--links"

-- one part of the arguments after the command: a plain argument, or an option with its value, in two arguments or in one
pub data Part : Type 0 where
  plain_word : Word → Part
  apart : Name → Word → Part
  in_one : Name → Word → Part

-- the arguments of a part: `V`, `--x V` or `--x=V` (61 is `=`)
abbrev pub part_words : Part → List Word
part_words (plain_word word) = word ∷ []
part_words (apart name value) = name_word name ∷ value ∷ []
part_words (in_one name value) = (name_word name ++ 61 ∷ value) ∷ []

-- the argument begins with `-` (45)
abbrev pub is_dashed : Word → Bool
is_dashed [] = false
is_dashed (byte ∷ bytes) = byte == 45

-- a plain argument doesn't begin with `-`
abbrev pub IsPart : Part → Type 0
IsPart (plain_word word) = is_dashed word ≡ false
IsPart (apart name value) = Unit {0}
IsPart (in_one name value) = Unit {0}

abbrev pub AreParts : List Part → Type 0
AreParts [] = Unit {0}
AreParts (part ∷ parts) = IsPart part × AreParts parts

abbrev pub value_for : Name → Word → Name → List Word
value_for serve_option value serve_option = value ∷ []
value_for links_option value links_option = value ∷ []
value_for _ value _ = []

-- the values that this part gives to the option
abbrev pub values_in : Name → Part → List Word
values_in name (plain_word word) = []
values_in name (apart other value) = value_for name value other
values_in name (in_one other value) = value_for name value other

abbrev pub plain_in : Part → List Word
plain_in (plain_word word) = word ∷ []
plain_in (apart name value) = []
plain_in (in_one name value) = []

-- `--` and the arguments after it, if `--` is given
abbrev pub ending : Option (List Word) → List Word
ending None = []
ending (Some words) = codes "--" ∷ words

abbrev pub behind : Option (List Word) → List Word
behind None = []
behind (Some words) = words

abbrev pub listed : Option Word → List Word
listed None = []
listed (Some word) = word ∷ []

-- the values of the options, and the plain arguments
pub record Split : Type 0 where
  pub serve : Option Word
  pub links : Option Word
  pub plain : List Word

-- plain arguments without any option
abbrev pub alone : List Word → Split
alone plain = record { serve = None; links = None; plain = plain }

-- The arguments are a sequence of parts, optionally followed by `--` and plain arguments. Each option has at most one value.
pub record IsSplit (words : List Word) (split : Split) : Type 0 where
  pub parts : List Part
  pub end : Option (List Word)
  pub words_are : words ≡ flat_map part_words parts ++ ending end
  pub are_parts : AreParts parts
  pub serve_is : flat_map (values_in serve_option) parts ≡ listed split.serve
  pub links_is : flat_map (values_in links_option) parts ≡ listed split.links
  pub plain_is : flat_map plain_in parts ++ behind end ≡ split.plain

-- ---- lifetimes

-- the greatest number of reports as an argument, if it is given
abbrev pub count_words : Option ℕ → List Word
count_words None = []
count_words (Some count) = decimal count ∷ []

-- the three lifetimes in days, and the greatest number of reports
abbrev pub lifetime_words : Ttls → List Word
lifetime_words ttls = decimal ttls.node_days ∷ decimal ttls.purge_days ∷ decimal ttls.report_days ∷ count_words ttls.report_count

-- the arguments give the lifetimes; without arguments the defaults hold
abbrev pub AreLifetimes : List Word → Ttls → Type 0
AreLifetimes numbers ttls = ((numbers ≡ []) × (ttls ≡ default_ttls)) ⊎ (numbers ≡ lifetime_words ttls)

-- ---- requests

-- the number of connections to serve: the value of `--links`, or 2^32 - 1
abbrev pub AreLinks : Option Word → ℕ → Type 0
AreLinks None count = count ≡ 4_294_967_295
AreLinks (Some word) count = (word ≡ decimal count) × (1 ≤ count) × (count ≤ 4_294_967_295)

abbrev pub IsPort : Word → ℕ → Type 0
IsPort word port = (word ≡ decimal port) × (1 ≤ port) × (port ≤ 65_535)

-- what is served after a run. Without `--serve` it is nothing, and `--links` is forbidden
abbrev pub IsServing : Option Word → Option Word → Option Serving → Type 0
IsServing serve links None = (serve ≡ None) × (links ≡ None)
IsServing serve links (Some serving) = ((word : Word) × (serve ≡ Some word) × IsPort word serving.port) × AreLinks links serving.links

-- the request has these values of the options
abbrev pub HasOptions : Option Word → Option Word → Request → Type 0
HasOptions serve links (Run workers now serving) = IsServing serve links serving
HasOptions serve links (Serve serving now) = (serve ≡ None) × AreLinks links serving.links
HasOptions serve links _ = (serve ≡ None) × (links ≡ None)

-- The command and its plain arguments spell the request, apart from its options. Numbers are decimal, without a sign or a leading
-- zero. A sweep's kinds are some of `expire`, `purge` and `reports`, in this order, joined by commas.
abbrev pub ArePlain : List Word → Request → Type 0
ArePlain words Show = words ≡ codes "show" ∷ []
ArePlain words (Init ttls) = (numbers : List Word) × (words ≡ codes "init" ∷ numbers) × AreLifetimes numbers ttls
ArePlain words (Run workers now serving) = (stamp : Word) × (words ≡ codes "run" ∷ decimal workers ∷ stamp ∷ []) × (1 ≤ workers) × (workers ≤ most_workers) × IsStampOf stamp now
ArePlain words (Serve serving now) = (port : Word) × (stamp : Word) × (words ≡ codes "serve" ∷ port ∷ stamp ∷ []) × IsPort port serving.port × IsStampOf stamp now
ArePlain words (Sweep kinds now) = (stamp : Word) × (words ≡ codes "sweep" ∷ joined (kind_words kinds) ∷ stamp ∷ []) × (kind_words kinds ≢ []) × IsStampOf stamp now
ArePlain words Compact = words ≡ codes "compact" ∷ []
ArePlain words Discards = words ≡ codes "discards" ∷ []
ArePlain words (Payload receipt) = (words ≡ codes "payload" ∷ decimal receipt ∷ []) × (receipt < 2 ^ 64)
ArePlain words Query = (text : Word) × (words ≡ codes "query" ∷ text ∷ [])
ArePlain words (Make seed count) = (words ≡ codes "make" ∷ decimal seed ∷ decimal count ∷ []) × (seed < 2 ^ 64) × (count ≤ 1_000_000)

-- the command with these options and plain arguments spells the request
abbrev pub Asks : Word → Split → Request → Type 0
Asks command split request = HasOptions split.serve split.links request × ArePlain (command ∷ split.plain) request

-- The arguments spell the request: the first is the command, and the others split into the request's options and plain arguments.
abbrev pub IsRequest : List Word → Request → Type 0
IsRequest [] request = ⊥
IsRequest (command ∷ words) request = (split : Split) × IsSplit words split × Asks command split request

-- the arguments ask for the query of this text
abbrev pub AsksQuery : List Word → Word → Type 0
AsksQuery [] text = ⊥
AsksQuery (command ∷ words) text = (command ≡ codes "query") × IsSplit words (alone (text ∷ []))

-- the arguments spell some request
abbrev pub IsCommand : List Word → Type 0
IsCommand words = (request : Request) × IsRequest words request

-- the moment of the request, if it has one, has a stamp
abbrev pub HasMoment : Request → Type 0
HasMoment (Run workers now serving) = HasStamp now
HasMoment (Serve serving now) = HasStamp now
HasMoment (Sweep kinds now) = HasStamp now
HasMoment _ = Unit {0}

-- the command uses the four files
abbrev pub uses_disks : Request → Bool
uses_disks Show = false
uses_disks (Make seed count) = false
uses_disks _ = true

-- the first argument is the name of a command that may wait
abbrev pub MayWait : List Word → Type 0
MayWait [] = ⊥
MayWait (word ∷ words) = (word ≡ codes "run") ⊎ (word ≡ codes "serve")
