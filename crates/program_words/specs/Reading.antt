-- A reader of arguments, as functions.
use Rattle.std.specs.Prelude.{ℕ, List, Option, Some, None, Bool, true, false, if◌then◌else◌, codes}
use Rattle.std.specs.Str.{bytes_eq}
use Rattle.spool_spec.specs.fleet_rows.declared.settings.Kinds.{Kinds}
use Rattle.program_words.specs.declared.verb.Verb.{Verb}
use Rattle.program_words.specs.declared.verb.Verb.TheVariants.{Show, Init, Run, Serve, Sweep, Compact, Discards, Payload, Query, Make}

abbrev pub verb_word : Verb → List ℕ
verb_word Show = codes "show"
verb_word Init = codes "init"
verb_word Run = codes "run"
verb_word Serve = codes "serve"
verb_word Sweep = codes "sweep"
verb_word Compact = codes "compact"
verb_word Discards = codes "discards"
verb_word Payload = codes "payload"
verb_word Query = codes "query"
verb_word Make = codes "make"

-- the command takes options
abbrev pub takes_options : Verb → Bool
takes_options Run = true
takes_options Serve = true
takes_options _ = false

unfoldable pub verb_at : List ℕ → Option Verb
verb_at word =
    if bytes_eq word (codes "show") then Some Show
    else (if bytes_eq word (codes "init") then Some Init
    else (if bytes_eq word (codes "run") then Some Run
    else (if bytes_eq word (codes "serve") then Some Serve
    else (if bytes_eq word (codes "sweep") then Some Sweep
    else (if bytes_eq word (codes "compact") then Some Compact
    else (if bytes_eq word (codes "discards") then Some Discards
    else (if bytes_eq word (codes "payload") then Some Payload
    else (if bytes_eq word (codes "query") then Some Query
    else (if bytes_eq word (codes "make") then Some Make
    else None)))))))))

abbrev pub kinds : Bool → Bool → Bool → Kinds
kinds expire purge reports = record { expire = expire; purge = purge; reports = reports }

unfoldable pub kinds_at : List ℕ → Option Kinds
kinds_at word =
    if bytes_eq word (codes "expire") then Some (kinds true false false)
    else (if bytes_eq word (codes "purge") then Some (kinds false true false)
    else (if bytes_eq word (codes "reports") then Some (kinds false false true)
    else (if bytes_eq word (codes "expire,purge") then Some (kinds true true false)
    else (if bytes_eq word (codes "expire,reports") then Some (kinds true false true)
    else (if bytes_eq word (codes "purge,reports") then Some (kinds false true true)
    else (if bytes_eq word (codes "expire,purge,reports") then Some (kinds true true true)
    else None))))))

abbrev pub waits_at : List ℕ → Bool
waits_at word = if bytes_eq word (codes "run") then true else bytes_eq word (codes "serve")
