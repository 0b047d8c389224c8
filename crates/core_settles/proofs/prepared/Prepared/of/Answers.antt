use Rattle.std.proofs.Common.{◌≡◌, IfOk, ap, sym, subst}
use Rattle.core_claims.specs.fleet_rows.declared.change.Change.{Change}
use Rattle.core_claims.specs.fleet_rows.declared.command.Command.{Command}
use Rattle.core_claims.specs.history_spec.Lawful.{HasStamp, IsChange}
use Rattle.core_settles.specs.Records.{IsSpellingOf}
use Rattle.core_settles.proofs.KeptRecords.{spelt_so}
use Rattle.core_settles.proofs.prepared.Prepared.of.Goals as goal

pub spelling_of-spelling-requires-clause-received : goal.spelling_of-spelling-requires-clause-received
spelling_of-spelling-requires-clause-received c = subst HasStamp (sym (ap (λ (d : Command). d.received) c.command.ensures)) c.requires.received

pub with_spelling-requires-clause-lawful : goal.with_spelling-requires-clause-lawful
with_spelling-requires-clause-lawful c = subst (λ (x : Change). IsChange x) (sym c.spelling_of-spelling.ensures.change) c.requires.lawful

pub with_spelling-requires-clause-spelt : goal.with_spelling-requires-clause-spelt
with_spelling-requires-clause-spelt c = subst (λ (x : Change). IsSpellingOf c.in-Ok.spelling x) (sym c.spelling_of-spelling.ensures.change) (spelt_so c.spelling_of-spelling.result.0 c.in-Ok.spelling c.args.change c.in-Ok.is c.spelling_of-spelling.ensures.spelling)

pub returns-in-Ok : goal.returns-in-Ok
returns-in-Ok c = subst (λ (x : Change). IfOk c.with_spelling.result (λ p. p ≡ x)) c.spelling_of-spelling.ensures.change c.with_spelling.ensures
