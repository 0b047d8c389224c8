use Rattle.std.proofs.Common.{subst}
use Rattle.pql_lexer.specs.Next.{BeginsWith}
use Rattle.pql_parts.specs.States.{state_of}
use Rattle.pql_reader.proofs.AdmitLaws.{no_token, as_long}
use Rattle.pql_reader.proofs.step.behind.Goals as goal

pub returns-in-None-clause-stepped : goal.returns-in-None-clause-stepped
returns-in-None-clause-stepped c = λ n bytes h.
    no_token (state_of c.args.frames.now c.args.state) n bytes c.args.frames.now (subst (BeginsWith n bytes) c.in-None.is h)

pub returns-in-Some-clause-stepped : goal.returns-in-Some-clause-stepped
returns-in-Some-clause-stepped c = λ n bytes h.
    c.admitted.ensures.stepped n bytes (subst (BeginsWith n bytes) c.in-Some.is h)

pub returns-in-Some-clause-moves : goal.returns-in-Some-clause-moves
returns-in-Some-clause-moves c = λ n bytes h.
    as_long n bytes c.in-Some.token c.in-Some.size c.admitted.result c.admitted.ensures.length (subst (BeginsWith n bytes) c.in-Some.is h)
