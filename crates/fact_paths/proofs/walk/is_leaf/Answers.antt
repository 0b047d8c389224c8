use Rattle.std.proofs.Common.{◌∙◌, ap, sym, nat_eq}
use Rattle.fleet_rows.specs.json_tree.Tree.{json_of}
use Rattle.fact_paths.specs.Leaves.{is_leaf}
use Rattle.fact_paths.proofs.WalkLaws.{leaf_of_members}
use Rattle.fact_paths.proofs.walk.is_leaf.Goals as goal

pub returns-in-Map : goal.returns-in-Map
returns-in-Map c =
    ap (λ n. nat_eq n 0) c.len.ensures ∙ leaf_of_members c.in-Map.members ∙ ap (λ j. is_leaf (json_of j)) (sym c.in-Map.is)
