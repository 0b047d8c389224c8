-- Arguments that split, and the request that they spell.
use Rattle.std.proofs.Common.{◌≡◌, ◌∙◌, ◌≤◌, List, [], ◌∷◌, Option, Some, None, IfSome, codes, length, lit≤, refl, sym, ap, subst}
use Rattle.std.specs.Prelude.{option_map, option_and_then}
use Rattle.std.specs.Borrow.{Bor}
use Rattle.spool_spec.proofs.of_plain_laws.Options.{none_some, some_is}
use Rattle.program_words.specs.Words.{Word, Split, IsSplit, Asks, IsRequest, AsksQuery, HasMoment, alone}
use Rattle.program_words.specs.Scanning.{takes_at, HasValues}
use Rattle.program_words.specs.Made.{verbs, is_verb, Names}
use Rattle.program_words.specs.Splitting.{value_word, split_of, CommandTold, command_split}
use Rattle.program_words.specs.declared.request.Asked.{Asked}
use Rattle.program_words.specs.declared.request.Request.{Request}
use Rattle.program_words.specs.declared.request.Request.TheVariants.{Query}
use Rattle.program_words.specs.declared.verb.Verb.{Verb}
use Rattle.program_words.specs.Reading.{verb_word, verb_at}
use Rattle.program_words.proofs.Requests.{asks_few, is_named, no_other, moments}
use Rattle.program_words.proofs.Values.{has_values, none_valued}

abbrev pub request_in : Option Asked → Option Request
request_in = option_map (λ (asked : Asked). asked.request)

abbrev pub text_in : Option Asked → Option Word
text_in = option_and_then (λ (asked : Asked). value_word asked.query)

-- what was split is found again
abbrev pub Finds : List Word → Option CommandTold → Type 0
Finds words o = (command : Word) (split : Split) → Names words command split → HasValues (takes_at command) split → length split.plain ≤ 4 → command_split o ≡ Some (command, split)

-- ---- requests

pub spelled : (words : List Word) (command : Word) (split : Split) (o : Option Asked) → Names words command split → IfSome o (λ asked. Asks command split asked.request)
    → IfSome o (λ asked. IsRequest words asked.request)
spelled words command split None names asks = tt
spelled [] command split (Some asked) names asks = absurd names
spelled (word ∷ words) command split (Some asked) names asks = (split, names.2, subst (λ (w : Word). Asks w split asked.request) (sym names.0) asks)

asked_so : (words : List Word) (o : Option CommandTold) (r : Request) → Finds words o → IsRequest words r → (command : Word) × (split : Split) × (command_split o ≡ Some (command, split)) × Asks command split r
asked_so [] o r finds is = absurd is
asked_so (word ∷ words) o r finds is =
    (word, is.0, finds word is.0 (refl, is_named word is.0.plain r is.2.1, is.1) (has_values word is.0 r is.2) (asks_few word is.0 r is.2), is.2)

-- the one request of the arguments
pub one_spelled : (words : List Word) (p : CommandTold) (o : Option Asked) → Finds words (Some p) → ((r : Request) → Asks p.0.now (split_of p.1) r → request_in o ≡ Some r)
    → (r : Request) → IsRequest words r → request_in o ≡ Some r
one_spelled words p o finds every r is =
    let a = asked_so words (Some p) r finds is in
    let same : (p.0.now, split_of p.1) ≡ (a.0, a.1) = some_is (p.0.now, split_of p.1) (a.0, a.1) a.2 in
    every r (subst (λ (q : Word × Split). Asks q.0 q.1 r) (sym same) a.3)

-- arguments that don't split spell none
pub none_spelled : (words : List Word) → Finds words None → (r : Request) → IsRequest words r → ⊥
none_spelled words finds r is =
    let a = asked_so words None r finds is in
    none_some (a.0, a.1) a.2

pub have_moments : (words : List Word) (o : Option Asked) → IfSome o (λ asked. IsRequest words asked.request) → IfSome o (λ asked. HasMoment asked.request)
have_moments words None is = tt
have_moments words (Some asked) is = moments words (Some asked.request) is

-- ---- the text of a query

text_so : (words : List Word) (command : Word) (split : Split) (o : Option (Bor Word)) → Names words command split
    → IfSome o (λ text. (command ≡ codes "query") × (split ≡ alone (text.now ∷ []))) → IfSome o (λ text. AsksQuery words text.now)
text_so words command split None names is = tt
text_so [] command split (Some text) names is = absurd names
text_so (word ∷ words) command split (Some text) names is = (names.0 ∙ is.0, subst (IsSplit words) is.1 names.2)

pub text_spelled : (words : List Word) (command : Word) (split : Split) (o : Option Asked) → Names words command split
    → IfSome o (λ asked. IfSome asked.query (λ text. (command ≡ codes "query") × (split ≡ alone (text.now ∷ []))))
    → IfSome o (λ asked. IfSome asked.query (λ text. AsksQuery words text.now))
text_spelled words command split None names is = tt
text_spelled words command split (Some asked) names is = text_so words command split asked.query names is

query_so : (words : List Word) (o : Option CommandTold) (text : Word) → Finds words o → AsksQuery words text → command_split o ≡ Some (codes "query", alone (text ∷ []))
query_so [] o text finds is = absurd is
query_so (word ∷ words) o text finds is =
    finds (codes "query") (alone (text ∷ [])) (is.0, ap (is_verb verbs) is.0, is.1) (none_valued (takes_at (codes "query")) (text ∷ [])) (lit≤ tt)

pub one_text : (words : List Word) (p : CommandTold) (o : Option Asked) → Finds words (Some p)
    → ((text : Word) → p.0.now ≡ codes "query" → split_of p.1 ≡ alone (text ∷ []) → text_in o ≡ Some text) → (text : Word) → AsksQuery words text → text_in o ≡ Some text
one_text words p o finds every text is =
    let same : (p.0.now, split_of p.1) ≡ (codes "query", alone (text ∷ [])) = some_is (p.0.now, split_of p.1) (codes "query", alone (text ∷ [])) (query_so words (Some p) text finds is) in
    every text (ap (λ (q : Word × Split). q.0) same) (ap (λ (q : Word × Split). q.1) same)

pub none_texted : (words : List Word) → Finds words None → (text : Word) → AsksQuery words text → ⊥
none_texted words finds text is = none_some (codes "query", alone (text ∷ [])) (query_so words None text finds is)

-- ---- a command and what it asks for

pub nothing_asked_by : (command : Word) (split : Split) (r : Request) → verb_at command ≡ None → Asks command split r → ⊥
nothing_asked_by command split r none asks = no_other command split.plain r none asks.1

pub asked_as : (command : Word) (v : Verb) (split : Split) (r : Request) (o : Option Request) → command ≡ verb_word v → o ≡ None
    → ((q : Request) → Asks (verb_word v) split q → o ≡ Some q) → Asks command split r → ⊥
asked_as command v split r o word none every asks = none_some r (sym none ∙ every r (subst (λ (w : Word). Asks w split r) word asks))

pub query_asked : (command : Word) (split : Split) (text : Word) → command ≡ codes "query" → split ≡ alone (text ∷ []) → Asks command split Query
query_asked command split text query is =
    subst (λ (w : Word). Asks w split Query) (sym query) (subst (λ (s : Split). Asks (codes "query") s Query) (sym is) ((refl, refl), (text, refl)))
