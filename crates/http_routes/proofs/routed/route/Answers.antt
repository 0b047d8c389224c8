use Rattle.std.proofs.Common.{◌∙◌, sym}
use Rattle.http_routes.proofs.RoutedLaws.{routed_so, bad_method_routed, no_path_routed}
use Rattle.http_routes.proofs.routed.route.Goals as goal

pub returns-then-takes : goal.returns-then-takes
returns-then-takes c =
    routed_so c.args.now c.args.request c.requires.now c.requires.body c.in-Some.found c.routed_on.result (sym c.in-Some.ensures) (sym c.takes.ensures ∙ c.if-takes.true) c.routed_on.ensures

pub returns-else-takes : goal.returns-else-takes
returns-else-takes c =
    bad_method_routed c.args.now c.args.request c.in-Some.found (sym c.in-Some.ensures) c.refusal.result (sym c.takes.ensures ∙ c.if-takes.false) c.refusal.ensures

pub returns-in-None : goal.returns-in-None
returns-in-None c = no_path_routed c.args.now c.args.request c.refusal-in-None.result (sym c.in-None.ensures) c.refusal-in-None.ensures
