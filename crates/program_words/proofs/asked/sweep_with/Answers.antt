use Rattle.std.proofs.Common.{◌≡◌, ◌∙◌, [], ◌∷◌, Some, refl, sym, ap}
use Rattle.std.specs.Prelude.{codes}
use Rattle.spool_spec.specs.Spool.{joined, kind_words}
use Rattle.program_words.specs.Reading.{kinds_at}
use Rattle.spool_spec.proofs.of_plain_laws.Options.{none_some, some_is}
use Rattle.spool_spec.specs.text_spec.StampReader.{stamp_of}
use Rattle.text_laws.proofs.StampLaws.{stamps_are_read, stamp_is_read}
use Rattle.program_words.specs.declared.request.Request.{Request}
use Rattle.program_words.specs.declared.request.Request.TheVariants as request
use Rattle.program_words.specs.declared.verb.Verb.TheVariants as verb
use Rattle.program_words.proofs.Requests.{given, two_same, kinds_at-word}
use Rattle.program_words.proofs.asked.sweep_with.Goals as goal

pub returns-in_err-kinds-clause-every : goal.returns-in_err-kinds-clause-every
returns-in_err-kinds-clause-every c r is =
    let sweep = given verb.Sweep (c.args.kinds.now ∷ c.args.stamp.now ∷ []) r is.1 in
    let words = two_same c.args.kinds.now c.args.stamp.now (joined (kind_words sweep.kinds)) sweep.stamp sweep.words in
    let told : c.kinds_of.result ≡ Some sweep.kinds = c.kinds_of.ensures.value ∙ ap kinds_at (words.0) ∙ kinds_at-word sweep.kinds sweep.some in
    absurd (none_some sweep.kinds (sym c.in_err-kinds.was ∙ told))

pub returns-in_err-now-clause-every : goal.returns-in_err-now-clause-every
returns-in_err-now-clause-every c r is =
    let sweep = given verb.Sweep (c.args.kinds.now ∷ c.args.stamp.now ∷ []) r is.1 in
    let words = two_same c.args.kinds.now c.args.stamp.now (joined (kind_words sweep.kinds)) sweep.stamp sweep.words in
    let read : c.read_stamp.result ≡ Some sweep.now = c.read_stamp.ensures.value ∙ ap stamp_of (words.1) ∙ stamp_is_read sweep.stamp sweep.now sweep.moment in
    absurd (none_some sweep.now (sym c.in_err-now.was ∙ read))

pub returns-clause-some : goal.returns-clause-some
returns-clause-some c =
    let read : stamp_of c.args.stamp.now ≡ Some c.in_ok-now.now = sym c.read_stamp.ensures.value ∙ c.in_ok-now.was in
    let word = c.in_ok-kinds.ensures.some.0 in
    ((refl, refl), (c.args.stamp.now, (λ i. codes "sweep" ∷ word i ∷ c.args.stamp.now ∷ []), c.in_ok-kinds.ensures.some.1, (stamps_are_read c.args.stamp.now c.in_ok-now.now).0 read))

pub returns-clause-every : goal.returns-clause-every
returns-clause-every c r is =
    let sweep = given verb.Sweep (c.args.kinds.now ∷ c.args.stamp.now ∷ []) r is.1 in
    let words = two_same c.args.kinds.now c.args.stamp.now (joined (kind_words sweep.kinds)) sweep.stamp sweep.words in
    let told : c.kinds_of.result ≡ Some sweep.kinds = c.kinds_of.ensures.value ∙ ap kinds_at (words.0) ∙ kinds_at-word sweep.kinds sweep.some in
    let read : c.read_stamp.result ≡ Some sweep.now = c.read_stamp.ensures.value ∙ ap stamp_of (words.1) ∙ stamp_is_read sweep.stamp sweep.now sweep.moment in
    let first : c.in_ok-kinds.kinds ≡ sweep.kinds = some_is c.in_ok-kinds.kinds sweep.kinds (sym c.in_ok-kinds.was ∙ told) in
    let second : c.in_ok-now.now ≡ sweep.now = some_is c.in_ok-now.now sweep.now (sym c.in_ok-now.was ∙ read) in
    (λ i. Some (request.Sweep (first i) (second i))) ∙ ap (λ (q : Request). Some q) (sym sweep.is)
