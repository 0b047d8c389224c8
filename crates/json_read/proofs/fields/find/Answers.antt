use Rattle.std.proofs.Common.{◌≡◌, ◌∙◌, sym, arith, true, false}
use Rattle.std.specs.Str.{bytes_eq}
use Rattle.json_tree.specs.Tree.{json_of}
use Rattle.json_read.proofs.Members.{find_here, find_later}
use Rattle.json_read.proofs.fields.find.Goals as goal

pub returns-then-eq-clause-value : goal.returns-then-eq-clause-value
returns-then-eq-clause-value c =
    let same : bytes_eq c.args.name.now c.pair.result.0.now ≡ true = grind (arith, c.if-eq.true, c.eq.ensures, c.as_str.ensures) in
    sym (find_here c.args.name.now c.args.json.now c.members.at (c.pair.result.0.now, json_of c.pair.result.1.now) c.pair.ensures.pair same) ∙ c.members.invariant.same

pub members-preserved : goal.members-preserved
members-preserved c =
    let other : bytes_eq c.args.name.now c.pair.result.0.now ≡ false = grind (arith, c.if-eq.false, c.eq.ensures, c.as_str.ensures) in
    record {
      within = omega (arith, c.members-test.true, c.len.ensures);
      same = sym (find_later c.args.name.now c.args.json.now c.members.at (c.pair.result.0.now, json_of c.pair.result.1.now) c.pair.ensures.pair other) ∙ c.members.invariant.same;
    }
