use Rattle.std.proofs.Common.{◌≡◌, ◌∙◌, [], ◌∷◌, Some, sym, ap}
use Rattle.std.specs.Prelude.{codes, decimal}
use Rattle.spool_spec.proofs.of_plain_laws.Options.{none_some, some_is}
use Rattle.spool_spec.specs.text_spec.StampReader.{stamp_of}
use Rattle.text_laws.proofs.StampLaws.{stamps_are_read, stamp_is_read}
use Rattle.program_words.specs.declared.request.Request.{Request}
use Rattle.program_words.specs.declared.request.Request.TheVariants as request
use Rattle.program_words.specs.declared.verb.Verb.TheVariants as verb
use Rattle.program_words.specs.Splitting.{value_word}
use Rattle.program_words.proofs.Requests.{given, given_serving, two_same}
use Rattle.program_words.proofs.asked.run_with.Goals as goal

pub returns-in_err-workers-clause-every : goal.returns-in_err-workers-clause-every
returns-in_err-workers-clause-every c r is =
    let run = given verb.Run (c.args.number.now ∷ c.args.stamp.now ∷ []) r is.1 in
    let words = two_same c.args.number.now c.args.stamp.now (decimal run.workers) run.stamp run.words in
    let told = c.number_in.ensures.every run.workers run.least run.most (words.0) in
    absurd (none_some run.workers (sym c.in_err-workers.was ∙ told))

pub returns-in_err-now-clause-every : goal.returns-in_err-now-clause-every
returns-in_err-now-clause-every c r is =
    let run = given verb.Run (c.args.number.now ∷ c.args.stamp.now ∷ []) r is.1 in
    let words = two_same c.args.number.now c.args.stamp.now (decimal run.workers) run.stamp run.words in
    let read : c.read_stamp.result ≡ Some run.now = c.read_stamp.ensures.value ∙ ap stamp_of (words.1) ∙ stamp_is_read run.stamp run.now run.moment in
    absurd (none_some run.now (sym c.in_err-now.was ∙ read))

pub returns-in_err-serving-clause-every : goal.returns-in_err-serving-clause-every
returns-in_err-serving-clause-every c r is =
    let run = given verb.Run (c.args.number.now ∷ c.args.stamp.now ∷ []) r is.1 in
    let told = c.serving_of.ensures.every run.serving (given_serving (value_word c.args.serve) (value_word c.args.links) r run.workers run.now run.serving run.is is.0) in
    absurd (none_some run.serving (sym c.in_err-serving.was ∙ told))

pub returns-clause-some : goal.returns-clause-some
returns-clause-some c =
    let read : stamp_of c.args.stamp.now ≡ Some c.in_ok-now.now = sym c.read_stamp.ensures.value ∙ c.in_ok-now.was in
    let n = c.in_ok-workers.ensures.some in
    let word : c.args.number.now ≡ decimal c.in_ok-workers.workers = n.2 in
    (c.in_ok-serving.ensures.some, (c.args.stamp.now, (λ i. codes "run" ∷ word i ∷ c.args.stamp.now ∷ []), n.0, n.1, (stamps_are_read c.args.stamp.now c.in_ok-now.now).0 read))

pub returns-clause-every : goal.returns-clause-every
returns-clause-every c r is =
    let run = given verb.Run (c.args.number.now ∷ c.args.stamp.now ∷ []) r is.1 in
    let words = two_same c.args.number.now c.args.stamp.now (decimal run.workers) run.stamp run.words in
    let told = c.number_in.ensures.every run.workers run.least run.most (words.0) in
    let read : c.read_stamp.result ≡ Some run.now = c.read_stamp.ensures.value ∙ ap stamp_of (words.1) ∙ stamp_is_read run.stamp run.now run.moment in
    let served = c.serving_of.ensures.every run.serving (given_serving (value_word c.args.serve) (value_word c.args.links) r run.workers run.now run.serving run.is is.0) in
    let first : c.in_ok-workers.workers ≡ run.workers = some_is c.in_ok-workers.workers run.workers (sym c.in_ok-workers.was ∙ told) in
    let second : c.in_ok-now.now ≡ run.now = some_is c.in_ok-now.now run.now (sym c.in_ok-now.was ∙ read) in
    let third : c.in_ok-serving.serving ≡ run.serving = some_is c.in_ok-serving.serving run.serving (sym c.in_ok-serving.was ∙ served) in
    (λ i. Some (request.Run (first i) (second i) (third i))) ∙ ap (λ (q : Request). Some q) (sym run.is)
