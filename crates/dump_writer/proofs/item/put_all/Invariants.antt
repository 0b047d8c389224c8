use Rattle.std.proofs.Common.{◌≡◌, ◌++◌, ℕ, List, drop, flat_map, Bor}
use Rattle.dump_writer.proofs.item.put_all.Given as goal

abbrev pub invariant-loop-piece : goal.invariant-loop-piece
invariant-loop-piece l =
    l.out.items ++ flat_map (λ (p : Bor (List ℕ)). p.now) (drop l.piece-index l.pieces) ≡ l.initial.out.items ++ flat_map (λ (p : Bor (List ℕ)). p.now) l.pieces
