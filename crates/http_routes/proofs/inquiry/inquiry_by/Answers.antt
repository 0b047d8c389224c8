use Rattle.std.proofs.Common.{refl, Some, None, Err}
use Rattle.http_routes.proofs.inquiry.inquiry_by.Goals as goal

pub returns-in-Query : goal.returns-in-Query
returns-in-Query c = (c.in-Query.ensures, refl)

pub returns-in_ok-refused-in-Refused : goal.returns-in_ok-refused-in-Refused
returns-in_ok-refused-in-Refused c = (Some (Err c.in-Refused.why), c.in-Refused.ensures, c.in_ok-refused-in-Refused.ensures)

pub returns-in_ok-error-in-Missing : goal.returns-in_ok-error-in-Missing
returns-in_ok-error-in-Missing c = (None, c.in-Missing.ensures, c.in_ok-error-in-Missing.ensures)
