use Rattle.std.proofs.Common.{◌≡◌, ◌∙◌, sym, arith, true, false}
use Rattle.std.specs.Str.{bytes_eq}
use Rattle.fleet_rows.specs.json_tree.Tree.{json_of}
use Rattle.fact_paths.proofs.NameLaws.{find_here, find_later}
use Rattle.fact_paths.proofs.names.member.Goals as goal

pub returns-then-eq : goal.returns-then-eq
returns-then-eq c =
    let same : bytes_eq c.args.name.now c.pair.result.0.now ≡ true = grind (arith, c.if-eq.true, c.eq.ensures, c.as_str.ensures) in
    sym (find_here c.args.name.now c.args.members.now c.loop-at.at (c.pair.result.0.now, json_of c.pair.result.1.now) c.pair.ensures.pair same) ∙ c.loop-at.invariant

pub loop-at-preserved : goal.loop-at-preserved
loop-at-preserved c =
    let other : bytes_eq c.args.name.now c.pair.result.0.now ≡ false = grind (arith, c.if-eq.false, c.eq.ensures, c.as_str.ensures) in
    sym (find_later c.args.name.now c.args.members.now c.loop-at.at (c.pair.result.0.now, json_of c.pair.result.1.now) c.pair.ensures.pair other) ∙ c.loop-at.invariant
