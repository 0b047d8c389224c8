use Rattle.fleet_rows.specs.declared.submitted.Submitted.TheVariants.{QueueFault}
use Rattle.std.proofs.Common.{ap, subst, sym}
use Rattle.http_routes.specs.Inbox.{Held, IsSubmit}
use Rattle.http_tests.specs.Outside.{held_in}
use Rattle.http_tests.proofs.Counted.{faults_so}
use Rattle.http_tests.proofs.outside.OneInboxInbox.submit.Goals as goal

pub returns-in-QueueFault-clause-submits : goal.returns-in-QueueFault-clause-submits
returns-in-QueueFault-clause-submits c =
    let here = ap (λ says. held_in says c.args.self.now.taken.items) c.in-QueueFault.is in
    subst (λ (held : Held). IsSubmit c.args.command QueueFault held held) (sym here) (faults_so c.args.command c.requires.payload)
