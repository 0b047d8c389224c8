-- Arguments spell at most one request.
use Rattle.std.proofs.Common.{◌≡◌, ◌∙◌, ℕ, ℤ, ◌<◌, ◌^◌, Option, List, [], ◌∷◌, Some, None, inl, inr, arith, IfSome, refl, sym, ap, subst}
use Rattle.std.specs.Prelude.{decimal}
use Rattle.std.proofs.lemmas.Fmt.{decimal_injective}
use Rattle.spool_spec.proofs.of_plain_laws.Options.{none_some, some_is}
use Rattle.spool_spec.specs.text_spec.Stamp.{IsStampOf}
use Rattle.spool_spec.specs.text_spec.StampReader.{stamp_of}
use Rattle.spool_spec.specs.fleet_rows.Lifetime.{IsLifetime, IsReportCount}
use Rattle.spool_spec.specs.fleet_rows.declared.settings.Ttls.{Ttls}
use Rattle.spool_spec.specs.Spool.{joined, kind_words}
use Rattle.text_laws.proofs.StampLaws.{stamp_is_read}
use Rattle.program_words.specs.Words.{Word, Split, AreLinks, AreLifetimes, IsPort, IsServing, HasOptions, Asks, IsRequest, lifetime_words, count_words}
use Rattle.program_words.specs.Reading.{kinds_at}
use Rattle.program_words.specs.Scanning.{takes_at}
use Rattle.program_words.specs.declared.request.Request.{Request}
use Rattle.program_words.specs.declared.request.Request.TheVariants as request
use Rattle.program_words.specs.declared.request.Serving.{Serving}
use Rattle.program_words.specs.declared.verb.Verb.{Verb}
use Rattle.program_words.specs.declared.verb.Verb.TheVariants as verb
use Rattle.program_words.proofs.Requests.{Gives, GivesRun, GivesServe, GivesSweep, GivesPayload, GivesMake, both_give, kinds_at-word, two_same, given_serving, given_served}
use Rattle.program_words.proofs.SameTtls.{same_ttls}
use Rattle.program_words.proofs.Splits.{split_is_read}
use Rattle.program_words.proofs.Values.{has_values}

-- ---- parts of a request

one_number : (word : Word) (a b : ℕ) → a < 2 ^ 64 → b < 2 ^ 64 → word ≡ decimal a → word ≡ decimal b → a ≡ b
one_number word a b small also is other = decimal_injective a b small also (sym is ∙ other)

one_moment : (word other : Word) (a b : ℤ) → word ≡ other → IsStampOf word a → IsStampOf other b → a ≡ b
one_moment word other a b same is also = some_is a b (sym (stamp_is_read word a is) ∙ ap stamp_of same ∙ stamp_is_read other b also)

one_links : (links : Option Word) (a b : ℕ) → AreLinks links a → AreLinks links b → a ≡ b
one_links None a b is also = is ∙ sym also
one_links (Some word) a b is also = one_number word a b (omega arith) (omega arith) is.0 also.0

one_port : (word : Word) (a b : ℕ) → IsPort word a → IsPort word b → a ≡ b
one_port word a b is also = one_number word a b (omega arith) (omega arith) is.0 also.0

served_same : (a b : Serving) → a.port ≡ b.port → a.links ≡ b.links → a ≡ b
served_same a b port links = λ i. record { port = port i; links = links i }

one_serving : (serve links : Option Word) (a b : Option Serving) → IsServing serve links a → IsServing serve links b → a ≡ b
one_serving serve links None None is also = refl
one_serving serve links None (Some b) is also = absurd (none_some also.0.0 (sym is.0 ∙ also.0.1))
one_serving serve links (Some a) None is also = absurd (none_some is.0.0 (sym also.0 ∙ is.0.1))
one_serving serve links (Some a) (Some b) is also =
    let same : is.0.0 ≡ also.0.0 = some_is is.0.0 also.0.0 (sym is.0.1 ∙ also.0.1) in
    ap (λ (s : Serving). Some s) (served_same a b (one_port also.0.0 a.port b.port (subst (λ (w : Word). IsPort w a.port) same is.0.2) also.0.2) (one_links links a.links b.links is.1 also.1))

one_count : (a b : Option ℕ) → IfSome a IsReportCount → IfSome b IsReportCount → count_words a ≡ count_words b → a ≡ b
one_count None None is also same = refl
one_count None (Some b) is also same = absurd (cc)
one_count (Some a) None is also same = absurd (cc)
one_count (Some a) (Some b) is also same =
    let words : decimal a ≡ decimal b = cc in
    ap (λ (n : ℕ). Some n) (decimal_injective a b (omega (arith, is.0, is.1)) (omega (arith, also.0, also.1)) words)

first_is : (a b : Word) (more rest : List Word) → a ∷ more ≡ b ∷ rest → a ≡ b
first_is a b more rest e = cc

rest_is : (a b : Word) (more rest : List Word) → a ∷ more ≡ b ∷ rest → more ≡ rest
rest_is a b more rest e = cc

one_days : (a b : ℕ) → IsLifetime a → IsLifetime b → decimal a ≡ decimal b → a ≡ b
one_days a b is also same = decimal_injective a b (omega (arith, is.0, is.1)) (omega (arith, also.0, also.1)) same

ttls_same : (a b : Ttls) → lifetime_words a ≡ lifetime_words b → a ≡ b
ttls_same a b e =
    let second = rest_is (decimal a.node_days) (decimal b.node_days) (decimal a.purge_days ∷ decimal a.report_days ∷ count_words a.report_count) (decimal b.purge_days ∷ decimal b.report_days ∷ count_words b.report_count) e in
    let third = rest_is (decimal a.purge_days) (decimal b.purge_days) (decimal a.report_days ∷ count_words a.report_count) (decimal b.report_days ∷ count_words b.report_count) second in
    same_ttls a b
    (one_days a.node_days b.node_days a.node b.node (first_is (decimal a.node_days) (decimal b.node_days) (decimal a.purge_days ∷ decimal a.report_days ∷ count_words a.report_count) (decimal b.purge_days ∷ decimal b.report_days ∷ count_words b.report_count) e))
    (one_days a.purge_days b.purge_days a.purge b.purge (first_is (decimal a.purge_days) (decimal b.purge_days) (decimal a.report_days ∷ count_words a.report_count) (decimal b.report_days ∷ count_words b.report_count) second))
    (one_days a.report_days b.report_days a.report b.report (first_is (decimal a.report_days) (decimal b.report_days) (count_words a.report_count) (count_words b.report_count) third))
    (one_count a.report_count b.report_count a.count b.count (rest_is (decimal a.report_days) (decimal b.report_days) (count_words a.report_count) (count_words b.report_count) third))

one_lifetimes : (numbers : List Word) (a b : Ttls) → AreLifetimes numbers a → AreLifetimes numbers b → a ≡ b
one_lifetimes numbers a b (inl is) (inl also) = is.1 ∙ sym also.1
one_lifetimes numbers a b (inl is) (inr also) = (let never : [] ≡ lifetime_words b = sym is.0 ∙ also in absurd (cc))
one_lifetimes numbers a b (inr is) (inl also) = (let never : [] ≡ lifetime_words a = sym also.0 ∙ is in absurd (cc))
one_lifetimes numbers a b (inr is) (inr also) = ttls_same a b (sym is ∙ also)

-- ---- the request of a command

one_run : (split : Split) (a b : Request) → HasOptions split.serve split.links a → HasOptions split.serve split.links b → GivesRun split.plain a → GivesRun split.plain b → a ≡ b
one_run split a b has also g h =
    let words = two_same (decimal g.workers) g.stamp (decimal h.workers) h.stamp (sym g.words ∙ h.words) in
    let workers = decimal_injective g.workers h.workers (omega (arith, g.most)) (omega (arith, h.most)) words.0 in
    let moment = one_moment g.stamp h.stamp g.now h.now words.1 g.moment h.moment in
    let serving = one_serving split.serve split.links g.serving h.serving (given_serving split.serve split.links a g.workers g.now g.serving g.is has) (given_serving split.serve split.links b h.workers h.now h.serving h.is also) in
    g.is ∙ (λ i. request.Run (workers i) (moment i) (serving i)) ∙ sym h.is

one_serve : (split : Split) (a b : Request) → HasOptions split.serve split.links a → HasOptions split.serve split.links b → GivesServe split.plain a → GivesServe split.plain b → a ≡ b
one_serve split a b has also g h =
    let words = two_same g.port g.stamp h.port h.stamp (sym g.words ∙ h.words) in
    let moment = one_moment g.stamp h.stamp g.now h.now words.1 g.moment h.moment in
    let port = one_port h.port g.serving.port h.serving.port (subst (λ (w : Word). IsPort w g.serving.port) words.0 g.is_port) h.is_port in
    let links = one_links split.links g.serving.links h.serving.links (given_served split.serve split.links a g.serving g.now g.is has).1 (given_served split.serve split.links b h.serving h.now h.is also).1 in
    g.is ∙ (λ i. request.Serve (served_same g.serving h.serving port links i) (moment i)) ∙ sym h.is

one_sweep : (plain : List Word) (a b : Request) → GivesSweep plain a → GivesSweep plain b → a ≡ b
one_sweep plain a b g h =
    let words = two_same (joined (kind_words g.kinds)) g.stamp (joined (kind_words h.kinds)) h.stamp (sym g.words ∙ h.words) in
    let moment = one_moment g.stamp h.stamp g.now h.now words.1 g.moment h.moment in
    let kinds : g.kinds ≡ h.kinds = some_is g.kinds h.kinds (sym (kinds_at-word g.kinds g.some) ∙ ap kinds_at words.0 ∙ kinds_at-word h.kinds h.some) in
    g.is ∙ (λ i. request.Sweep (kinds i) (moment i)) ∙ sym h.is

one_payload : (plain : List Word) (a b : Request) → GivesPayload plain a → GivesPayload plain b → a ≡ b
one_payload plain a b g h =
    g.is ∙ ap (λ (n : ℕ). request.Payload n) (decimal_injective g.receipt h.receipt g.small h.small (first_is (decimal g.receipt) (decimal h.receipt) [] [] (sym g.words ∙ h.words))) ∙ sym h.is

one_make : (plain : List Word) (a b : Request) → GivesMake plain a → GivesMake plain b → a ≡ b
one_make plain a b g h =
    let words = two_same (decimal g.seed) (decimal g.count) (decimal h.seed) (decimal h.count) (sym g.words ∙ h.words) in
    let seed = decimal_injective g.seed h.seed g.small h.small words.0 in
    let count = decimal_injective g.count h.count (omega (arith, g.most)) (omega (arith, h.most)) words.1 in
    g.is ∙ (λ i. request.Make (seed i) (count i)) ∙ sym h.is

one_given : (v : Verb) (split : Split) (a b : Request) → HasOptions split.serve split.links a → HasOptions split.serve split.links b → Gives v split.plain a → Gives v split.plain b → a ≡ b
one_given verb.Show split a b has also g h = g.0 ∙ sym h.0
one_given verb.Init split a b has also g h = g.1 ∙ ap (λ (ttls : Ttls). request.Init ttls) (one_lifetimes split.plain g.0 h.0 g.2 h.2) ∙ sym h.1
one_given verb.Run split a b has also g h = one_run split a b has also g h
one_given verb.Serve split a b has also g h = one_serve split a b has also g h
one_given verb.Sweep split a b has also g h = one_sweep split.plain a b g h
one_given verb.Compact split a b has also g h = g.0 ∙ sym h.0
one_given verb.Discards split a b has also g h = g.0 ∙ sym h.0
one_given verb.Payload split a b has also g h = one_payload split.plain a b g h
one_given verb.Query split a b has also g h = g.1 ∙ sym h.1
one_given verb.Make split a b has also g h = one_make split.plain a b g h

one_asked : (command : Word) (split : Split) (a b : Request) → Asks command split a → Asks command split b → a ≡ b
one_asked command split a b is also =
    let both = both_give command split.plain a b is.1 also.1 in
    one_given both.0 split a b is.0 also.0 both.1 both.2

-- ---- and all of it

pub one_request : (words : List Word) (a b : Request) → IsRequest words a → IsRequest words b → a ≡ b
one_request [] a b is also = absurd is
one_request (command ∷ words) a b is also =
    let t = takes_at command in
    let read = split_is_read t words is.0 (has_values command is.0 a is.2) is.1 in
    let again = split_is_read t words also.0 (has_values command also.0 b also.2) also.1 in
    let same : is.0 ≡ also.0 = some_is is.0 also.0 (sym read.0 ∙ again.0) in
    one_asked command also.0 a b (subst (λ (s : Split). Asks command s a) same is.2) also.2
