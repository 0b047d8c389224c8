use Rattle.std.proofs.Common.{◌≡◌, ◌∙◌, [], ◌∷◌, Some, refl, sym, ap}
use Rattle.spool_spec.proofs.of_plain_laws.Options.{none_some, some_is}
use Rattle.spool_spec.specs.text_spec.StampReader.{stamp_of}
use Rattle.text_laws.proofs.StampLaws.{stamps_are_read, stamp_is_read}
use Rattle.program_words.specs.declared.request.Request.{Request}
use Rattle.program_words.specs.declared.request.Request.TheVariants as request
use Rattle.program_words.specs.declared.verb.Verb.TheVariants as verb
use Rattle.program_words.specs.Splitting.{value_word}
use Rattle.program_words.proofs.Requests.{given, given_served, is_port_at, two_same}
use Rattle.program_words.proofs.asked.serve_with.Goals as goal

pub returns-in_err-serving-clause-every : goal.returns-in_err-serving-clause-every
returns-in_err-serving-clause-every c r is =
    let serve = given verb.Serve (c.args.port.now ∷ c.args.stamp.now ∷ []) r is.1 in
    let words = two_same c.args.port.now c.args.stamp.now serve.port serve.stamp serve.words in
    let options = given_served (value_word c.args.serve) (value_word c.args.links) r serve.serving serve.now serve.is is.0 in
    let told = c.served_at.ensures.every serve.serving options.0 (is_port_at c.args.port.now serve.port serve.serving.port words.0 serve.is_port) options.1 in
    absurd (none_some serve.serving (sym c.in_err-serving.was ∙ told))

pub returns-in_err-now-clause-every : goal.returns-in_err-now-clause-every
returns-in_err-now-clause-every c r is =
    let serve = given verb.Serve (c.args.port.now ∷ c.args.stamp.now ∷ []) r is.1 in
    let words = two_same c.args.port.now c.args.stamp.now serve.port serve.stamp serve.words in
    let read : c.read_stamp.result ≡ Some serve.now = c.read_stamp.ensures.value ∙ ap stamp_of (words.1) ∙ stamp_is_read serve.stamp serve.now serve.moment in
    absurd (none_some serve.now (sym c.in_err-now.was ∙ read))

pub returns-clause-some : goal.returns-clause-some
returns-clause-some c =
    let read : stamp_of c.args.stamp.now ≡ Some c.in_ok-now.now = sym c.read_stamp.ensures.value ∙ c.in_ok-now.was in
    let s = c.in_ok-serving.ensures.some in
    ((s.0, s.2), (c.args.port.now, c.args.stamp.now, refl, s.1, (stamps_are_read c.args.stamp.now c.in_ok-now.now).0 read))

pub returns-clause-every : goal.returns-clause-every
returns-clause-every c r is =
    let serve = given verb.Serve (c.args.port.now ∷ c.args.stamp.now ∷ []) r is.1 in
    let words = two_same c.args.port.now c.args.stamp.now serve.port serve.stamp serve.words in
    let options = given_served (value_word c.args.serve) (value_word c.args.links) r serve.serving serve.now serve.is is.0 in
    let told = c.served_at.ensures.every serve.serving options.0 (is_port_at c.args.port.now serve.port serve.serving.port words.0 serve.is_port) options.1 in
    let read : c.read_stamp.result ≡ Some serve.now = c.read_stamp.ensures.value ∙ ap stamp_of (words.1) ∙ stamp_is_read serve.stamp serve.now serve.moment in
    let first : c.in_ok-serving.serving ≡ serve.serving = some_is c.in_ok-serving.serving serve.serving (sym c.in_ok-serving.was ∙ told) in
    let second : c.in_ok-now.now ≡ serve.now = some_is c.in_ok-now.now serve.now (sym c.in_ok-now.was ∙ read) in
    (λ i. Some (request.Serve (first i) (second i))) ∙ ap (λ (q : Request). Some q) (sym serve.is)
