use Rattle.std.proofs.Common.{◌≡◌, drop}
use Rattle.std.specs.Option.{option_or, option_map}
use Rattle.paging_params.specs.Params.{value_of, pairs_of, last_under}
use Rattle.paging_params.proofs.params.last.Given as goal

abbrev pub invariant-loop-pair : goal.invariant-loop-pair
invariant-loop-pair l =
    option_or (last_under l.name (pairs_of (drop l.pair-index l.list))) (option_map (λ p. value_of p.now) l.found) ≡ last_under l.name (pairs_of l.list)
