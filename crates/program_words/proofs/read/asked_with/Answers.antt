use Rattle.std.proofs.Common.{◌∙◌, sym}
use Rattle.program_words.specs.Splitting.{split_of}
use Rattle.program_words.specs.declared.request.Request.TheVariants.{Query}
use Rattle.program_words.proofs.Spelled.{nothing_asked_by, asked_as, query_asked}
use Rattle.program_words.proofs.read.asked_with.Goals as goal

pub returns-in_err-verb-clause-every : goal.returns-in_err-verb-clause-every
returns-in_err-verb-clause-every c = λ request asks. absurd (nothing_asked_by c.args.command.now (split_of c.args.told) request (sym c.verb_of.ensures.value ∙ c.in_err-verb.was) asks)

pub returns-in_err-verb-clause-every_query : goal.returns-in_err-verb-clause-every_query
returns-in_err-verb-clause-every_query c = λ text query is.
    absurd (nothing_asked_by c.args.command.now (split_of c.args.told) Query (sym c.verb_of.ensures.value ∙ c.in_err-verb.was) (query_asked c.args.command.now (split_of c.args.told) text query is))

pub returns-in_err-request-clause-every : goal.returns-in_err-request-clause-every
returns-in_err-request-clause-every c = λ request asks.
    absurd (asked_as c.args.command.now c.in_ok-verb.verb (split_of c.args.told) request c.request_of.result c.in_ok-verb.ensures.some c.in_err-request.was c.request_of.ensures.every asks)

pub returns-in_err-request-clause-every_query : goal.returns-in_err-request-clause-every_query
returns-in_err-request-clause-every_query c = λ text query is.
    absurd (asked_as c.args.command.now c.in_ok-verb.verb (split_of c.args.told) Query c.request_of.result c.in_ok-verb.ensures.some c.in_err-request.was c.request_of.ensures.every
    (query_asked c.args.command.now (split_of c.args.told) text query is))

pub returns-clause-some : goal.returns-clause-some
returns-clause-some c = rw c.in_ok-verb.ensures.some c.in_ok-request.ensures.some

pub returns-clause-every : goal.returns-clause-every
returns-clause-every c = λ request asks. sym c.in_ok-request.was ∙ c.request_of.ensures.every request (rw c.in_ok-verb.ensures.some at asks)
