use Rattle.http_front.proofs.Requests.{request_next, bad_next, ended_next}
use Rattle.http_front.proofs.incoming.next_request.Goals as goal

pub returns-clause-request : goal.returns-clause-request
returns-clause-request g c = request_next c.next.result _ _ c.next.ensures.next

pub returns-clause-bad : goal.returns-clause-bad
returns-clause-bad g c = bad_next c.next.result _ _ c.next.ensures.next

pub returns-clause-ended : goal.returns-clause-ended
returns-clause-ended g c = ended_next _ c.next.result _ _ c.next.ensures.next
