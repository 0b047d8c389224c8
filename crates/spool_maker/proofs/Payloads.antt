-- A payload in its pieces.
use Rattle.std.proofs.Common.{◌≡◌, ℕ, List, ◌++◌, codes}
use Rattle.std.specs.Prelude.{decimal}
use Rattle.made_spec.specs.Made.{facts_payload}

pub facts_pieces : (node number : ℕ) (d e stamp : List ℕ) → d ≡ decimal node → e ≡ decimal number
    → codes "{\"certname\":\"node" ++ (d ++ (codes "\",\"environment\":\"production\",\"values\":{\"k\":" ++ (e ++ (codes "},\"producer_timestamp\":\"" ++ (stamp ++ codes "\",\"producer\":\"m\"}")))))
    ≡ facts_payload (codes "node" ++ decimal node) number stamp
unfolding facts_payload
facts_pieces node number d e stamp p q =
    λ i. codes "{\"certname\":\"node" ++ (p i ++ (codes "\",\"environment\":\"production\",\"values\":{\"k\":" ++ (q i ++ (codes "},\"producer_timestamp\":\"" ++ (stamp ++ codes "\",\"producer\":\"m\"}")))))
