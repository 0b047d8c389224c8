use Rattle.std.proofs.Common.{◌≡◌, drop}
use Rattle.std.specs.Prelude.{option_copied}
use Rattle.std.specs.Option.{option_or}
use Rattle.paging_params.specs.Params.{last_under}
use Rattle.http_routes.proofs.parameters.last_under.Given as goal

abbrev pub invariant-loop-pair : goal.invariant-loop-pair
invariant-loop-pair l = option_or (last_under l.name (drop l.pair-index l.list)) (option_copied l.found) ≡ last_under l.name l.list
