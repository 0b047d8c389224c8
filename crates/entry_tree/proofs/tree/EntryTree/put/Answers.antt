use Rattle.std.proofs.Common.{◌≡◌, sym, subst, ap, [], ◌∷◌, ◌++◌}
use Rattle.entry_tree.specs.Waits.{Rises}
use Rattle.entry_tree.proofs.Rising.{rises_more}
use Rattle.entry_tree.proofs.tree.EntryTree.put.Goals as goal

pub appended-requires-clause-rises : goal.appended-requires-clause-rises
appended-requires-clause-rises c =
    let tree : c.replace-tree.result ≡ c.args.self.now = c.replace-tree.ensures.value in
    subst Rises (sym (λ i. tree i ++ c.into_fork.ensures.waiting i ∷ [])) (rises_more c.args.self.now c.args.spot c.count.ensures.rises c.requires.above)
