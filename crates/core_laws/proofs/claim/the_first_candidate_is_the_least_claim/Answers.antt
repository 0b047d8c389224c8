use Rattle.core_laws.proofs.Claims.{first_candidates_are_claimable, older_candidates_are_superseded, none_found_is_none, claimable_commands_are_candidates}
use Rattle.core_laws.proofs.claim.the_first_candidate_is_the_least_claim.Goals as goal

pub returns-clause-claimable : goal.returns-clause-claimable
returns-clause-claimable c = first_candidates_are_claimable

pub returns-clause-superseded : goal.returns-clause-superseded
returns-clause-superseded c = older_candidates_are_superseded

pub returns-clause-none : goal.returns-clause-none
returns-clause-none c = none_found_is_none

pub returns-clause-candidates : goal.returns-clause-candidates
returns-clause-candidates c = claimable_commands_are_candidates
