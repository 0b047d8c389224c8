use Rattle.http_routes.proofs.Inquiring.{some_inquiry, no_inquiry}
use Rattle.http_routes.proofs.inquiry.inquiry_on.Goals as goal

pub returns-in-Some : goal.returns-in-Some
returns-in-Some c =
    some_inquiry c.args.route c.args.request.now c.in_ok-asked.asked c.in_ok-asked.ensures c.in-Some.question c.inquiry_by.result c.in-Some.is c.inquiry_by.ensures

pub returns-in_ok-error-in-None : goal.returns-in_ok-error-in-None
returns-in_ok-error-in-None c = no_inquiry c.args.route c.args.request.now c.in_ok-asked.asked c.in_ok-asked.ensures c.in_ok-error-in-None.field-0 c.in-None.is c.in_ok-error-in-None.ensures
