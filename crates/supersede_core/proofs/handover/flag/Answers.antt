use Rattle.entry_tree.specs.declared.waiting.Change.TheVariants.{Candidate}
use Rattle.entry_tree.specs.Waits.{found, MayChange}
use Rattle.supersede_core.proofs.CallLaws.{always}
use Rattle.supersede_core.proofs.handover.flag.Goals as goal

pub change-requires : goal.change-requires
change-requires c = always (found c.in-Some.receipt c.args.tree.now) (MayChange (Candidate c.args.candidate)) (λ w. tt)
