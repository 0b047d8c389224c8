use Rattle.std.proofs.Common.{◌≡◌, ◌++◌, [], ◌∷◌, true, false, rules, sym, subst, append-nil, if◌then◌else◌}
use Rattle.std.specs.Str.{bytes_eq}
use Rattle.query_reach.specs.Demands.{IsDemand}
use Rattle.query_reach.proofs.demands.with_pin.Goals as goal

pub returns-then-eq : goal.returns-then-eq
returns-then-eq c = λ texts h.
    let e : bytes_eq c.args.column.now c.args.pin.now.column.now.text ≡ true = search rules in
    subst (λ b. IsDemand (texts ++ (if b then c.args.pin.now.text.now ∷ [] else [])) c.with_text.result) (sym e) (c.with_text.ensures texts h)

pub returns-else-eq : goal.returns-else-eq
returns-else-eq c = λ texts h.
    let e : bytes_eq c.args.column.now c.args.pin.now.column.now.text ≡ false = search rules in
    subst (λ b. IsDemand (texts ++ (if b then c.args.pin.now.text.now ∷ [] else [])) c.args.demand) (sym e) (subst (λ l. IsDemand l c.args.demand) (sym (append-nil texts)) h)
