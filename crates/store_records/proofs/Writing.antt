-- Fields that are written one behind the other.
use Rattle.std.proofs.Common.{◌≡◌, ℕ, List, ◌++◌, append_assoc}

pub eleven_fields : (out a b c d e f g m p es rs : List ℕ)
    → (((((out ++ (a ++ (b ++ c))) ++ (d ++ (e ++ (f ++ g)))) ++ m) ++ p) ++ es) ++ rs ≡ out ++ (a ++ (b ++ (c ++ (d ++ (e ++ (f ++ (g ++ (m ++ (p ++ (es ++ rs))))))))))
eleven_fields out a b c d e f g m p es rs = simp append_assoc
