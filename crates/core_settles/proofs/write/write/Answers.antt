use Rattle.std.proofs.Common.{◌≡◌, ◌∙◌, Some, ap, sym, subst, rules}
use Rattle.std.specs.Prelude.{IsTrue}
use Rattle.core_claims.specs.fleet_rows.declared.command.Command.{Command}
use Rattle.core_claims.specs.history_spec.Lawful.{HasStamp}
use Rattle.core_claims.specs.record_spec.declared.store.StoreRecord.TheVariants as store
use Rattle.core_settles.proofs.KeptRecords.{kept_along}
use Rattle.core_settles.proofs.write.write.Goals as goal

pub returns-then-is_of-clause-kept : goal.returns-then-is_of-clause-kept
returns-then-is_of-clause-kept g c =
    let job = c.args.job.now in
    let is : IsTrue c.is_of.result = search rules in
    let for_it = c.is_of.ensures.0 is in
    let same : c.args.spelling.now.spelt ≡ store.Received job.receipt (Some job.command.received) c.args.change =
    c.requires.spelt ∙ (λ i. store.Received (for_it.0 i) (Some (for_it.1 i)) c.args.change) in
    kept_along c.args.spelling.now.spelt (store.Received job.receipt (Some job.command.received) c.args.change) same c.keep_spelt-answer.ensures.kept

pub write_anew-requires-clause-received : goal.write_anew-requires-clause-received
write_anew-requires-clause-received g c = subst HasStamp (sym (ap (λ (d : Command). d.received) c.command.ensures)) c.requires.received

pub returns-else-is_of-clause-kept : goal.returns-else-is_of-clause-kept
returns-else-is_of-clause-kept g c =
    let job = c.args.job.now in
    let received_is = ap (λ (d : Command). d.received) c.command.ensures in
    kept_along (store.Received job.receipt (Some c.command.result.now.received) c.args.change) (store.Received job.receipt (Some job.command.received) c.args.change)
    (λ i. store.Received job.receipt (Some (received_is i)) c.args.change) c.write_anew.ensures.kept
