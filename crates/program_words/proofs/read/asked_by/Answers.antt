use Rattle.program_words.specs.Splitting.{split_of}
use Rattle.program_words.proofs.Spelled.{spelled, one_spelled, none_spelled, have_moments, text_spelled, one_text, none_texted}
use Rattle.program_words.proofs.read.asked_by.Goals as goal

pub returns-in-Some-clause-some : goal.returns-in-Some-clause-some
returns-in-Some-clause-some c =
    spelled c.args.words.now c.in-Some.command.now (split_of c.in-Some.told) c.asked_with.result (rw c.in-Some.is at c.in_ok-split.ensures.some) c.asked_with.ensures.some

pub returns-in-Some-clause-every : goal.returns-in-Some-clause-every
returns-in-Some-clause-every c =
    one_spelled c.args.words.now (c.in-Some.command, c.in-Some.told) c.asked_with.result (rw c.in-Some.is at c.in_ok-split.ensures.every) c.asked_with.ensures.every

pub returns-in-Some-clause-query : goal.returns-in-Some-clause-query
returns-in-Some-clause-query c =
    text_spelled c.args.words.now c.in-Some.command.now (split_of c.in-Some.told) c.asked_with.result (rw c.in-Some.is at c.in_ok-split.ensures.some) c.asked_with.ensures.query

pub returns-in-Some-clause-every_query : goal.returns-in-Some-clause-every_query
returns-in-Some-clause-every_query c =
    one_text c.args.words.now (c.in-Some.command, c.in-Some.told) c.asked_with.result (rw c.in-Some.is at c.in_ok-split.ensures.every) c.asked_with.ensures.every_query

pub returns-in-Some-clause-moment : goal.returns-in-Some-clause-moment
returns-in-Some-clause-moment c =
    have_moments c.args.words.now c.asked_with.result
    (spelled c.args.words.now c.in-Some.command.now (split_of c.in-Some.told) c.asked_with.result (rw c.in-Some.is at c.in_ok-split.ensures.some) c.asked_with.ensures.some)

pub returns-in-None-clause-every : goal.returns-in-None-clause-every
returns-in-None-clause-every c = λ request is. absurd (none_spelled c.args.words.now (rw c.in-None.is at c.in_ok-split.ensures.every) request is)

pub returns-in-None-clause-every_query : goal.returns-in-None-clause-every_query
returns-in-None-clause-every_query c = λ text is. absurd (none_texted c.args.words.now (rw c.in-None.is at c.in_ok-split.ensures.every) text is)
