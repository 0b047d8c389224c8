-- What stands behind the word of a command, by that word.
use Rattle.std.proofs.Common.{◌≡◌, ◌≢◌, ◌∙◌, ℕ, ℤ, ◌≤◌, ◌<◌, ◌^◌, List, [], ◌∷◌, Option, Some, None, IfSome, Bool, true, false, inl, inr, lit≤, length, refl, sym, ap, subst, codes}
use Rattle.std.specs.Prelude.{decimal}
use Rattle.spool_spec.specs.text_spec.Stamp.{IsStampOf}
use Rattle.spool_spec.specs.fleet_rows.declared.settings.Kinds.{Kinds}
use Rattle.spool_spec.specs.fleet_rows.declared.settings.Ttls.{Ttls}
use Rattle.spool_spec.specs.Spool.{joined, kind_words}
use Rattle.program_words.specs.Words.{Split, alone, count_words, AreLifetimes, IsServing, IsPort, AreLinks, HasOptions, ArePlain, Asks, IsRequest, HasMoment}
use Rattle.program_words.specs.Made.{verbs, is_verb}
use Rattle.program_words.specs.Reading.{verb_word, verb_at, takes_options, kinds, kinds_at}
use Rattle.program_words.specs.declared.request.Request.{Request}
use Rattle.program_words.specs.declared.request.Request.TheVariants as request
use Rattle.program_words.specs.declared.request.Serving.{Serving}
use Rattle.program_words.specs.declared.verb.Verb.{Verb}
use Rattle.program_words.specs.declared.verb.Verb.TheVariants as verb
use Rattle.spool_spec.specs.fleet_rows.Limits.{most_workers}

-- ---- words

pub verb_at-word : (v : Verb) → verb_at (verb_word v) ≡ Some v
unfolding verb_at
verb_at-word verb.Show = refl
verb_at-word verb.Init = refl
verb_at-word verb.Run = refl
verb_at-word verb.Serve = refl
verb_at-word verb.Sweep = refl
verb_at-word verb.Compact = refl
verb_at-word verb.Discards = refl
verb_at-word verb.Payload = refl
verb_at-word verb.Query = refl
verb_at-word verb.Make = refl

by_bits : (e p r : Bool) → kind_words (kinds e p r) ≢ [] → kinds_at (joined (kind_words (kinds e p r))) ≡ Some (kinds e p r)
unfolding kinds_at
by_bits false false false some = absurd (some refl)
by_bits true false false some = refl
by_bits false true false some = refl
by_bits false false true some = refl
by_bits true true false some = refl
by_bits true false true some = refl
by_bits false true true some = refl
by_bits true true true some = refl

pub kinds_at-word : (k : Kinds) → kind_words k ≢ [] → kinds_at (joined (kind_words k)) ≡ Some k
kinds_at-word k some = by_bits k.expire k.purge k.reports some

-- the verb of a request
verb_in : Request → Verb
verb_in request.Show = verb.Show
verb_in (request.Init ttls) = verb.Init
verb_in (request.Run workers now serving) = verb.Run
verb_in (request.Serve serving now) = verb.Serve
verb_in (request.Sweep kinds now) = verb.Sweep
verb_in request.Compact = verb.Compact
verb_in request.Discards = verb.Discards
verb_in (request.Payload receipt) = verb.Payload
verb_in request.Query = verb.Query
verb_in (request.Make seed count) = verb.Make

first_word : (w v : List ℕ) (a b : List (List ℕ)) → w ∷ a ≡ v ∷ b → w ≡ v
first_word w v a b same = cc

rest_of : (w v : List ℕ) (a b : List (List ℕ)) → w ∷ a ≡ v ∷ b → a ≡ b
rest_of w v a b same = cc

-- a request's first word is that of its verb
named_by : (word : List ℕ) (arguments : List (List ℕ)) (r : Request) → ArePlain (word ∷ arguments) r → word ≡ verb_word (verb_in r)
unfolding verb_in
named_by word arguments request.Show is = first_word word (codes "show") arguments [] is
named_by word arguments (request.Init ttls) is = first_word word (codes "init") arguments is.0 is.1
named_by word arguments (request.Run workers now serving) is = first_word word (codes "run") arguments (decimal workers ∷ is.0 ∷ []) is.1
named_by word arguments (request.Serve serving now) is = first_word word (codes "serve") arguments (is.0 ∷ is.1 ∷ []) is.2
named_by word arguments (request.Sweep k now) is = first_word word (codes "sweep") arguments (joined (kind_words k) ∷ is.0 ∷ []) is.1
named_by word arguments request.Compact is = first_word word (codes "compact") arguments [] is
named_by word arguments request.Discards is = first_word word (codes "discards") arguments [] is
named_by word arguments (request.Payload receipt) is = first_word word (codes "payload") arguments (decimal receipt ∷ []) is.0
named_by word arguments request.Query is = first_word word (codes "query") arguments (is.0 ∷ []) is.1
named_by word arguments (request.Make seed count) is = first_word word (codes "make") arguments (decimal seed ∷ decimal count ∷ []) is.0

leads : (word : List ℕ) (arguments : List (List ℕ)) (r : Request) → ArePlain (word ∷ arguments) r → verb_at word ≡ Some (verb_in r)
leads word arguments r is = ap verb_at (named_by word arguments r is) ∙ verb_at-word (verb_in r)

verb_named : (v : Verb) → is_verb verbs (verb_word v) ≡ true
verb_named verb.Show = refl
verb_named verb.Init = refl
verb_named verb.Run = refl
verb_named verb.Serve = refl
verb_named verb.Sweep = refl
verb_named verb.Compact = refl
verb_named verb.Discards = refl
verb_named verb.Payload = refl
verb_named verb.Query = refl
verb_named verb.Make = refl

-- and clap knows it
pub is_named : (word : List ℕ) (arguments : List (List ℕ)) (r : Request) → ArePlain (word ∷ arguments) r → is_verb verbs word ≡ true
is_named word arguments r is = ap (is_verb verbs) (named_by word arguments r is) ∙ verb_named (verb_in r)

verb_is : (v : Verb) (arguments : List (List ℕ)) (r : Request) → ArePlain (verb_word v ∷ arguments) r → verb_in r ≡ v
verb_is v arguments r is =
    let both : Some (verb_in r) ≡ Some v = sym (leads (verb_word v) arguments r is) ∙ verb_at-word v in
    cc

-- no request has another first word
pub no_other : (word : List ℕ) (arguments : List (List ℕ)) (r : Request) → verb_at word ≡ None → ArePlain (word ∷ arguments) r → ⊥
no_other word arguments r none is =
    let both : None ≡ Some (verb_in r) = sym none ∙ leads word arguments r is in
    absurd (cc)

-- ---- what stands behind a verb

pub record GivesRun (arguments : List (List ℕ)) (r : Request) : Type 0 where
  pub workers : ℕ
  pub now : ℤ
  pub stamp : List ℕ
  pub serving : Option Serving
  pub is : r ≡ request.Run workers now serving
  pub words : arguments ≡ decimal workers ∷ stamp ∷ []
  pub least : 1 ≤ workers
  pub most : workers ≤ most_workers
  pub moment : IsStampOf stamp now

pub record GivesServe (arguments : List (List ℕ)) (r : Request) : Type 0 where
  pub serving : Serving
  pub now : ℤ
  pub port : List ℕ
  pub stamp : List ℕ
  pub is : r ≡ request.Serve serving now
  pub words : arguments ≡ port ∷ stamp ∷ []
  pub is_port : IsPort port serving.port
  pub moment : IsStampOf stamp now

pub record GivesSweep (arguments : List (List ℕ)) (r : Request) : Type 0 where
  pub kinds : Kinds
  pub now : ℤ
  pub stamp : List ℕ
  pub is : r ≡ request.Sweep kinds now
  pub words : arguments ≡ joined (kind_words kinds) ∷ stamp ∷ []
  pub some : kind_words kinds ≢ []
  pub moment : IsStampOf stamp now

pub record GivesPayload (arguments : List (List ℕ)) (r : Request) : Type 0 where
  pub receipt : ℕ
  pub is : r ≡ request.Payload receipt
  pub words : arguments ≡ decimal receipt ∷ []
  pub small : receipt < 2 ^ 64

pub record GivesMake (arguments : List (List ℕ)) (r : Request) : Type 0 where
  pub seed : ℕ
  pub count : ℕ
  pub is : r ≡ request.Make seed count
  pub words : arguments ≡ decimal seed ∷ decimal count ∷ []
  pub small : seed < 2 ^ 64
  pub most : count ≤ 1_000_000

abbrev pub Gives : Verb → List (List ℕ) → Request → Type 0
Gives verb.Show arguments r = (r ≡ request.Show) × (arguments ≡ [])
Gives verb.Init arguments r = (ttls : Ttls) × (r ≡ request.Init ttls) × AreLifetimes arguments ttls
Gives verb.Run arguments r = GivesRun arguments r
Gives verb.Serve arguments r = GivesServe arguments r
Gives verb.Sweep arguments r = GivesSweep arguments r
Gives verb.Compact arguments r = (r ≡ request.Compact) × (arguments ≡ [])
Gives verb.Discards arguments r = (r ≡ request.Discards) × (arguments ≡ [])
Gives verb.Payload arguments r = GivesPayload arguments r
Gives verb.Query arguments r = (text : List ℕ) × (r ≡ request.Query) × (arguments ≡ text ∷ [])
Gives verb.Make arguments r = GivesMake arguments r

gives : (word : List ℕ) (arguments : List (List ℕ)) (r : Request) → ArePlain (word ∷ arguments) r → Gives (verb_in r) arguments r
unfolding verb_in
gives word arguments request.Show is = (refl, rest_of word (codes "show") arguments [] is)
gives word arguments (request.Init ttls) is = (ttls, refl, subst (λ numbers. AreLifetimes numbers ttls) (sym (rest_of word (codes "init") arguments is.0 is.1)) is.2)
gives word arguments (request.Run workers now serving) is = record {
  workers = workers;
  now = now;
  serving = serving;
  stamp = is.0;
  is = refl;
  words = rest_of word (codes "run") arguments (decimal workers ∷ is.0 ∷ []) is.1;
  least = is.2;
  most = is.3;
  moment = is.4;
}
gives word arguments (request.Serve serving now) is = record {
  serving = serving;
  now = now;
  port = is.0;
  stamp = is.1;
  is = refl;
  words = rest_of word (codes "serve") arguments (is.0 ∷ is.1 ∷ []) is.2;
  is_port = is.3;
  moment = is.4;
}
gives word arguments (request.Sweep k now) is = record {
  kinds = k;
  now = now;
  stamp = is.0;
  is = refl;
  words = rest_of word (codes "sweep") arguments (joined (kind_words k) ∷ is.0 ∷ []) is.1;
  some = is.2;
  moment = is.3;
}
gives word arguments request.Compact is = (refl, rest_of word (codes "compact") arguments [] is)
gives word arguments request.Discards is = (refl, rest_of word (codes "discards") arguments [] is)
gives word arguments (request.Payload receipt) is = record {
  receipt = receipt;
  is = refl;
  words = rest_of word (codes "payload") arguments (decimal receipt ∷ []) is.0;
  small = is.1;
}
gives word arguments request.Query is = (is.0, refl, rest_of word (codes "query") arguments (is.0 ∷ []) is.1)
gives word arguments (request.Make seed count) is = record {
  seed = seed;
  count = count;
  is = refl;
  words = rest_of word (codes "make") arguments (decimal seed ∷ decimal count ∷ []) is.0;
  small = is.1;
  most = is.2;
}

pub given : (v : Verb) (arguments : List (List ℕ)) (r : Request) → ArePlain (verb_word v ∷ arguments) r → Gives v arguments r
given v arguments r is = subst (λ u. Gives u arguments r) (verb_is v arguments r is) (gives (verb_word v) arguments r is)

-- two requests of the same arguments have one verb
pub both_give : (word : List ℕ) (arguments : List (List ℕ)) (a b : Request) → ArePlain (word ∷ arguments) a → ArePlain (word ∷ arguments) b
    → (v : Verb) × Gives v arguments a × Gives v arguments b
both_give word arguments a b is also =
    let verbs_same : Some (verb_in b) ≡ Some (verb_in a) = sym (leads word arguments b also) ∙ leads word arguments a is in
    let same : verb_in b ≡ verb_in a = cc in
    (verb_in a, gives word arguments a is, subst (λ (u : Verb). Gives u arguments b) same (gives word arguments b also))

pub two_same : (a b c d : List ℕ) → a ∷ b ∷ [] ≡ c ∷ d ∷ [] → (a ≡ c) × (b ≡ d)
two_same a b c d same = ((let e = same in cc), (let e = same in cc))

-- ---- options

-- a command that takes no options has none
alone_for : (v : Verb) (split : Split) (r : Request) → verb_in r ≡ v → takes_options v ≡ false → HasOptions split.serve split.links r → split ≡ alone split.plain
unfolding verb_in
alone_for v split request.Show e none has = λ i. record { serve = has.0 i; links = has.1 i; plain = split.plain }
alone_for v split (request.Init ttls) e none has = λ i. record { serve = has.0 i; links = has.1 i; plain = split.plain }
alone_for v split (request.Run workers now serving) e none has = (let both : true ≡ false = ap takes_options e ∙ none in absurd (cc))
alone_for v split (request.Serve serving now) e none has = (let both : true ≡ false = ap takes_options e ∙ none in absurd (cc))
alone_for v split (request.Sweep k now) e none has = λ i. record { serve = has.0 i; links = has.1 i; plain = split.plain }
alone_for v split request.Compact e none has = λ i. record { serve = has.0 i; links = has.1 i; plain = split.plain }
alone_for v split request.Discards e none has = λ i. record { serve = has.0 i; links = has.1 i; plain = split.plain }
alone_for v split (request.Payload receipt) e none has = λ i. record { serve = has.0 i; links = has.1 i; plain = split.plain }
alone_for v split request.Query e none has = λ i. record { serve = has.0 i; links = has.1 i; plain = split.plain }
alone_for v split (request.Make seed count) e none has = λ i. record { serve = has.0 i; links = has.1 i; plain = split.plain }

pub asks_alone : (v : Verb) (split : Split) (r : Request) → takes_options v ≡ false → Asks (verb_word v) split r → split ≡ alone split.plain
asks_alone v split r none asks = alone_for v split r (verb_is v split.plain r asks.1) none asks.0

pub given_serving : (serve links : Option (List ℕ)) (r : Request) (workers : ℕ) (now : ℤ) (serving : Option Serving) → r ≡ request.Run workers now serving → HasOptions serve links r → IsServing serve links serving
given_serving serve links r workers now serving is has = subst (HasOptions serve links) is has

pub given_served : (serve links : Option (List ℕ)) (r : Request) (serving : Serving) (now : ℤ) → r ≡ request.Serve serving now → HasOptions serve links r → (serve ≡ None) × AreLinks links serving.links
given_served serve links r serving now is has = subst (HasOptions serve links) is has

pub is_port_at : (word named : List ℕ) (port : ℕ) → word ≡ named → IsPort named port → IsPort word port
is_port_at word named port same is = subst (λ (w : List ℕ). IsPort w port) (sym same) is

-- ---- how many plain words

counted_few : (a b c : List ℕ) (o : Option ℕ) → length (a ∷ b ∷ c ∷ count_words o) ≤ 4
counted_few a b c None = lit≤ tt
counted_few a b c (Some count) = lit≤ tt

lifetimes_few : (numbers : List (List ℕ)) (ttls : Ttls) → AreLifetimes numbers ttls → length numbers ≤ 4
lifetimes_few numbers ttls (inl none) = rw none.0 (lit≤ tt)
lifetimes_few numbers ttls (inr some) = rw some (counted_few (decimal ttls.node_days) (decimal ttls.purge_days) (decimal ttls.report_days) ttls.report_count)

plain_few : (word : List ℕ) (plain : List (List ℕ)) (r : Request) → ArePlain (word ∷ plain) r → length plain ≤ 4
plain_few word plain request.Show is = rw (rest_of word (codes "show") plain [] is) (lit≤ tt)
plain_few word plain (request.Init ttls) is = lifetimes_few plain ttls (subst (λ numbers. AreLifetimes numbers ttls) (sym (rest_of word (codes "init") plain is.0 is.1)) is.2)
plain_few word plain (request.Run workers now serving) is = rw (rest_of word (codes "run") plain (decimal workers ∷ is.0 ∷ []) is.1) (lit≤ tt)
plain_few word plain (request.Serve serving now) is = rw (rest_of word (codes "serve") plain (is.0 ∷ is.1 ∷ []) is.2) (lit≤ tt)
plain_few word plain (request.Sweep k now) is = rw (rest_of word (codes "sweep") plain (joined (kind_words k) ∷ is.0 ∷ []) is.1) (lit≤ tt)
plain_few word plain request.Compact is = rw (rest_of word (codes "compact") plain [] is) (lit≤ tt)
plain_few word plain request.Discards is = rw (rest_of word (codes "discards") plain [] is) (lit≤ tt)
plain_few word plain (request.Payload receipt) is = rw (rest_of word (codes "payload") plain (decimal receipt ∷ []) is.0) (lit≤ tt)
plain_few word plain request.Query is = rw (rest_of word (codes "query") plain (is.0 ∷ []) is.1) (lit≤ tt)
plain_few word plain (request.Make seed count) is = rw (rest_of word (codes "make") plain (decimal seed ∷ decimal count ∷ []) is.0) (lit≤ tt)

pub asks_few : (word : List ℕ) (split : Split) (r : Request) → Asks word split r → length split.plain ≤ 4
asks_few word split r asks = plain_few word split.plain r asks.1

-- ---- moments

moment_of : (word : List ℕ) (plain : List (List ℕ)) (r : Request) → ArePlain (word ∷ plain) r → HasMoment r
moment_of word plain request.Show is = tt
moment_of word plain (request.Init ttls) is = tt
moment_of word plain (request.Run workers now serving) is = (is.0, is.4)
moment_of word plain (request.Serve serving now) is = (is.1, is.4)
moment_of word plain (request.Sweep k now) is = (is.0, is.3)
moment_of word plain request.Compact is = tt
moment_of word plain request.Discards is = tt
moment_of word plain (request.Payload receipt) is = tt
moment_of word plain request.Query is = tt
moment_of word plain (request.Make seed count) is = tt

moment_in : (words : List (List ℕ)) (r : Request) → IsRequest words r → HasMoment r
moment_in [] r is = absurd is
moment_in (word ∷ words) r is = moment_of word is.0.plain r is.2.1

pub moments : (words : List (List ℕ)) (o : Option Request) → IfSome o (IsRequest words) → IfSome o HasMoment
moments words None is = tt
moments words (Some r) is = moment_in words r is
