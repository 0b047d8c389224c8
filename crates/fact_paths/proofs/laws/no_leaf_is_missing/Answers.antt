use Rattle.fact_paths.proofs.LeafLaws.{no_leaf_is_missing}
use Rattle.fact_paths.proofs.laws.no_leaf_is_missing.Goals as goal

pub returns : goal.returns
returns c = no_leaf_is_missing
