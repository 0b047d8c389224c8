use Rattle.dump_laws.proofs.LeadsBack.{dumps_lead_back}
use Rattle.dump_laws.proofs.a_dump_leads_back.Goals as goal

pub returns : goal.returns
returns c = dumps_lead_back
