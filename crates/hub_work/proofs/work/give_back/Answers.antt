use Rattle.std.proofs.Common.{refl}
use Rattle.hub_work.specs.Ends.{none, by_release}
use Rattle.hub_work.proofs.work.give_back.Goals as goal

pub returns-clause-ends : goal.returns-clause-ends
returns-clause-ends g c = by_release refl c.args.job c.args.pass.now none c.release.ensures.one_call
