use Rattle.std.proofs.Common.{refl}
use Rattle.clap.specs.Simple.{subcommand_rows_of}
use Rattle.program_words.proofs.Below.{asked_names, names_asked, none_asks, lone_asks}
use Rattle.program_words.proofs.split.split_words.Goals as goal

pub returns-then-lone_behind-clause-every : goal.returns-then-lone_behind-clause-every
returns-then-lone_behind-clause-every c = λ command split names has le. absurd (lone_asks c.args.words.now c.if-lone_behind.ensures.value command split names has)

pub returns-in-Some-clause-some : goal.returns-in-Some-clause-some
returns-in-Some-clause-some c =
    asked_names c.args.words.now (subcommand_rows_of c.in-Some.matches) c.command_of.result c.if-lone_behind.ensures.value (c.if-lone_behind.ensures.texts refl)
    (rw c.in-Some.is at c.in_ok-matches.ensures) c.command_of.ensures

pub returns-in-Some-clause-every : goal.returns-in-Some-clause-every
returns-in-Some-clause-every c =
    names_asked c.args.words.now (subcommand_rows_of c.in-Some.matches) c.command_of.result (rw c.in-Some.is at c.in_ok-matches.ensures) c.command_of.ensures

pub returns-in-None-clause-every : goal.returns-in-None-clause-every
returns-in-None-clause-every c = λ command split names has le. absurd (none_asks c.args.words.now (rw c.in-None.is at c.in_ok-matches.ensures) command split names has)
