use Rattle.std.proofs.Common.{◌≡◌, ◌∙◌, [], ◌∷◌, vec_len, sym, ap, subst, arith}
use Rattle.fleet_tables.specs.Groups.{joined, AreStarts}
use Rattle.fleet_tables.proofs.StartLaws.{first_starts, is_zero, no_groups}
use Rattle.fleet_tables.proofs.groups.begin.Goals as goal

pub returns-then-is_empty-clause-starts : goal.returns-then-is_empty-clause-starts
returns-then-is_empty-clause-starts c = λ starts h.
    let groups = c.args.groups.now in
    let zero : vec_len groups ≡ 0 = is_zero (vec_len groups) (sym c.is_empty.ensures ∙ c.if-is_empty.true) in
    let none = no_groups groups.items (omega (arith, zero)) in
    let first : c.args.first.items ≡ [] ∷ [] = c.requires.first (ap joined none) in
    subst (AreStarts starts) (sym first) (first_starts starts (subst (AreStarts starts) none h))
