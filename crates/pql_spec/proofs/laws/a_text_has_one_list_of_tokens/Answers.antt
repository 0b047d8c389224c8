use Rattle.pql_spec.proofs.OneList.{one_list}
use Rattle.pql_spec.proofs.laws.a_text_has_one_list_of_tokens.Goals as goal

pub returns : goal.returns
returns c = one_list
