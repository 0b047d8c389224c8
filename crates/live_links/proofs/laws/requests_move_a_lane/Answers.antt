use Rattle.live_links.proofs.LaneLaws.{numbers_never_fall, calls_are_of_requests}
use Rattle.live_links.proofs.laws.requests_move_a_lane.Goals as goal

pub returns-clause-numbers : goal.returns-clause-numbers
returns-clause-numbers c = numbers_never_fall

pub returns-clause-calls : goal.returns-clause-calls
returns-clause-calls c = calls_are_of_requests
