-- What words ask for, by their request.
use Rattle.std.proofs.Common.{◌≡◌, ◌∙◌, ℕ, ◌≤◌, ℤ, Option, List, [], ◌∷◌, Some, None, codes, sym, ap, subst}
use Rattle.spool_spec.proofs.of_plain_laws.Options.{some_is}
use Rattle.program_words.specs.Words.{Word, Split, IsSplit, alone, IsRequest, AsksQuery}
use Rattle.program_words.specs.declared.request.Request.{Request}
use Rattle.program_words.specs.declared.request.Serving.{Serving}
use Rattle.program_words.specs.declared.request.Request.TheVariants.{Run, Query}
use Rattle.program_words.specs.Scanning.{takes_at}
use Rattle.program_words.proofs.Splits.{split_is_read}
use Rattle.program_words.proofs.Values.{none_valued}
use Rattle.spool_spec.specs.fleet_rows.Limits.{most_workers}

-- ---- a run

pub asked_run : (words : List Word) (workers : ℕ) (now : ℤ) (serving : Option Serving) → IsRequest words (Run workers now serving) → (1 ≤ workers) × (workers ≤ most_workers)
asked_run [] workers now serving is = absurd is
asked_run (command ∷ words) workers now serving is = (is.2.1.2, is.2.1.3)

-- behind which nothing is served
pub run_alone : (request : Request) (workers : ℕ) (now : ℤ) (serving : Option Serving) → request ≡ Run workers now serving → serving ≡ None → request ≡ Run workers now None
run_alone request workers now serving is none = is ∙ ap (λ (s : Option Serving). Run workers now s) none

-- or something is
pub not_alone : (request : Request) (workers w : ℕ) (now n : ℤ) (serving : Option Serving) (s : Serving) → request ≡ Run workers now serving → serving ≡ Some s → request ≡ Run w n None → ⊥
not_alone request workers w now n serving s is some also =
    let both : Run workers now serving ≡ Run w n None = sym is ∙ also in
    let none : serving ≡ None = cc in
    let never : Some s ≡ None = sym some ∙ none in
    absurd (cc)

-- ---- a query

bare : (split : Split) (text : Word) → split.serve ≡ None → split.links ≡ None → split.plain ≡ text ∷ [] → split ≡ alone (text ∷ [])
bare split text serve links plain = λ i. record { serve = serve i; links = links i; plain = plain i }

pub query_asks : (words : List Word) → IsRequest words Query → (text : Word) × AsksQuery words text
query_asks [] is = absurd is
query_asks (command ∷ words) is =
    let split = is.0 in
    let plain = is.2.1 in
    let same : command ∷ split.plain ≡ codes "query" ∷ plain.0 ∷ [] = plain.1 in
    let query : command ≡ codes "query" = cc in
    let rest : split.plain ≡ plain.0 ∷ [] = cc in
    (plain.0, (query, subst (λ (s : Split). IsSplit words s) (bare split plain.0 is.2.0.0 is.2.0.1 rest) is.1))

pub one_query : (words : List Word) (a b : Word) → AsksQuery words a → AsksQuery words b → a ≡ b
one_query [] a b is also = absurd is
one_query (command ∷ words) a b is also =
    let t = takes_at command in
    let read = split_is_read t words (alone (a ∷ [])) (none_valued t (a ∷ [])) is.1 in
    let again = split_is_read t words (alone (b ∷ [])) (none_valued t (b ∷ [])) also.1 in
    let same : a ∷ [] ≡ b ∷ [] = ap (λ (s : Split). s.plain) (some_is (alone (a ∷ [])) (alone (b ∷ [])) (sym read.0 ∙ again.0)) in
    cc
