-- Pairs that were decoded.
use Rattle.std.proofs.Common.{◌≡◌, ℕ, List, [], ◌∷◌, refl, ap}
use Rattle.std.specs.Prelude.{map}
use Rattle.std.specs.Borrow.{Bor}
use Rattle.form_urlencoded.specs.Form.{pair_text}
use Rattle.routes_spec.specs.Parameters.{decoded_pair}

pub pairs_decoded : (pairs : List (Bor (List ℕ) × Bor (List ℕ))) → map (λ pair. decoded_pair (pair_text pair)) pairs ≡ map decoded_pair (map pair_text pairs)
pairs_decoded [] = refl
pairs_decoded (p ∷ ps) = ap (λ qs. decoded_pair (pair_text p) ∷ qs) (pairs_decoded ps)
