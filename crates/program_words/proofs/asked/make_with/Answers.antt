use Rattle.std.proofs.Common.{◌≡◌, ◌∙◌, [], ◌∷◌, Some, refl, sym, ap}
use Rattle.std.specs.Prelude.{codes, decimal}
use Rattle.spool_spec.proofs.of_plain_laws.Options.{none_some, some_is}
use Rattle.program_words.specs.declared.request.Request.{Request}
use Rattle.program_words.specs.declared.request.Request.TheVariants as request
use Rattle.program_words.specs.declared.verb.Verb.TheVariants as verb
use Rattle.program_words.proofs.Requests.{given, two_same}
use Rattle.program_words.proofs.asked.make_with.Goals as goal

pub returns-in_err-seed-clause-every : goal.returns-in_err-seed-clause-every
returns-in_err-seed-clause-every c r is =
    let make = given verb.Make (c.args.number.now ∷ c.args.items.now ∷ []) r is.1 in
    let words = two_same c.args.number.now c.args.items.now (decimal make.seed) (decimal make.count) make.words in
    let told = c.whole_in.ensures.every make.seed make.small (words.0) in
    absurd (none_some make.seed (sym c.in_err-seed.was ∙ told))

pub returns-in_err-count-clause-every : goal.returns-in_err-count-clause-every
returns-in_err-count-clause-every c r is =
    let make = given verb.Make (c.args.number.now ∷ c.args.items.now ∷ []) r is.1 in
    let words = two_same c.args.number.now c.args.items.now (decimal make.seed) (decimal make.count) make.words in
    let told = c.number_up_to.ensures.every make.count make.most (words.1) in
    absurd (none_some make.count (sym c.in_err-count.was ∙ told))

pub returns-clause-some : goal.returns-clause-some
returns-clause-some c =
    let seed = c.in_ok-seed.ensures.some in
    let count = c.in_ok-count.ensures.some in
    let first : c.args.number.now ≡ decimal c.in_ok-seed.seed = seed.1 in
    let second : c.args.items.now ≡ decimal c.in_ok-count.count = count.1 in
    ((refl, refl), ((λ i. codes "make" ∷ first i ∷ second i ∷ []), seed.0, count.0))

pub returns-clause-every : goal.returns-clause-every
returns-clause-every c r is =
    let make = given verb.Make (c.args.number.now ∷ c.args.items.now ∷ []) r is.1 in
    let words = two_same c.args.number.now c.args.items.now (decimal make.seed) (decimal make.count) make.words in
    let seed_told = c.whole_in.ensures.every make.seed make.small (words.0) in
    let count_told = c.number_up_to.ensures.every make.count make.most (words.1) in
    let first : c.in_ok-seed.seed ≡ make.seed = some_is c.in_ok-seed.seed make.seed (sym c.in_ok-seed.was ∙ seed_told) in
    let second : c.in_ok-count.count ≡ make.count = some_is c.in_ok-count.count make.count (sym c.in_ok-count.was ∙ count_told) in
    (λ i. Some (request.Make (first i) (second i))) ∙ ap (λ (q : Request). Some q) (sym make.is)
