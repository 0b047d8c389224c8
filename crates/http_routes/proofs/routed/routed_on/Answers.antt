use Rattle.http_routes.proofs.RoutedLaws.{post_routed, query_routed}
use Rattle.http_routes.proofs.routed.routed_on.Goals as goal

pub returns-in-Commands : goal.returns-in-Commands
returns-in-Commands c = post_routed c.args.now c.args.route c.args.request c.posted.result c.in-Commands.is c.posted.ensures

pub returns-in_default : goal.returns-in_default
returns-in_default c = query_routed c.args.now c.args.route c.args.request c.in_default.not-Commands
