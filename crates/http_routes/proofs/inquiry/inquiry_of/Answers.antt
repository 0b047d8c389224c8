use Rattle.std.proofs.Common.{sym}
use Rattle.http_routes.specs.Inquiries.{IsInquiryOn, IsInquiryFor}
use Rattle.http_routes.proofs.Answering.{no_route}
use Rattle.http_routes.proofs.Results.{if_then}
use Rattle.http_routes.proofs.inquiry.inquiry_of.Goals as goal

pub returns-in-Some : goal.returns-in-Some
returns-in-Some c =
    let r = c.args.request.now in
    if_then (IsInquiryOn c.in-Some.found r) (IsInquiryFor r) c.inquiry_on.result (λ inquiry on. (c.in-Some.found, sym c.in-Some.ensures, on)) c.inquiry_on.ensures

pub returns-in_ok-error-in-None : goal.returns-in_ok-error-in-None
returns-in_ok-error-in-None c = no_route c.args.request.now c.requires (sym c.in-None.ensures)
