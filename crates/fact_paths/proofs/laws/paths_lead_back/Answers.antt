use Rattle.fact_paths.proofs.LeafLaws.{paths_lead_back}
use Rattle.fact_paths.proofs.laws.paths_lead_back.Goals as goal

pub returns : goal.returns
returns c = paths_lead_back
