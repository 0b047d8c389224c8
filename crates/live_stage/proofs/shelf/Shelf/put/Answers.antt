use Rattle.std.proofs.Common.{List, [], ◌∷◌, ◌++◌, subst}
use Rattle.core_ends.proofs.of_core_state.of_plain_laws.Members.{all_both}
use Rattle.live_stage.specs.declared.shelf.Step.{Step}
use Rattle.live_stage.specs.Shelf.{IsLawfulStep, KeepsNewest}
use Rattle.live_stage.proofs.Shelving.{newest_newest, newest_lawful}
use Rattle.live_stage.proofs.shelf.Shelf.put.Goals as goal

pub returns : goal.returns
returns c =
    let all = c.self.inside.steps.items ++ c.args.step ∷ [] in
    let kept = c.forget_oldest-self-inside.new.steps.items in
    subst (λ (l : List Step). KeepsNewest (l ++ c.args.step ∷ []) kept) c.self.view_is (newest_newest all c.push.new.steps.items kept c.push.ensures c.forget_oldest-self-inside.ensures)

pub invariant_of-self : goal.invariant_of-self
invariant_of-self c =
    let all = c.self.inside.steps.items ++ c.args.step ∷ [] in
    let kept = c.forget_oldest-self-inside.new.steps.items in
    newest_lawful all kept (newest_newest all c.push.new.steps.items kept c.push.ensures c.forget_oldest-self-inside.ensures) (all_both IsLawfulStep c.self.inside.steps.items (c.args.step ∷ []) c.self.invariant (c.requires, tt))
