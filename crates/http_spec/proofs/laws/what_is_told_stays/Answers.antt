use Rattle.http_spec.proofs.Fronts.{still_request, still_fault, cut_is_short}
use Rattle.http_spec.proofs.Links.{takes_some}
use Rattle.http_spec.proofs.laws.what_is_told_stays.Goals as goal

pub returns-clause-request : goal.returns-clause-request
returns-clause-request c = still_request

pub returns-clause-fault : goal.returns-clause-fault
returns-clause-fault c = still_fault

pub returns-clause-cut : goal.returns-clause-cut
returns-clause-cut c = cut_is_short

pub returns-clause-takes : goal.returns-clause-takes
returns-clause-takes c = takes_some
