use Rattle.paging_params.proofs.OnePaging.{one_paging}
use Rattle.paging_params.proofs.laws.parameters_ask_for_one_paging.Goals as goal

pub returns : goal.returns
returns c = one_paging
