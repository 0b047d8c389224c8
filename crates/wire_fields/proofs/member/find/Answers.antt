use Rattle.std.proofs.Common.{◌≡◌, ◌∙◌, sym, arith, true, false}
use Rattle.std.specs.Str.{bytes_eq}
use Rattle.wire_spec.specs.json_tree.Tree.{json_of}
use Rattle.wire_fields.proofs.MemberLaws.{find_here, find_later}
use Rattle.wire_fields.proofs.member.find.Goals as goal

pub returns-then-eq : goal.returns-then-eq
returns-then-eq c =
    let same : bytes_eq c.args.key.now c.pair.result.0.now ≡ true = grind (arith, c.if-eq.true, c.eq.ensures, c.as_str.ensures) in
    sym (find_here c.args.key.now c.args.json.now c.members.at (c.pair.result.0.now, json_of c.pair.result.1.now) c.pair.ensures.pair same) ∙ c.members.invariant.same

pub members-preserved : goal.members-preserved
members-preserved c =
    let other : bytes_eq c.args.key.now c.pair.result.0.now ≡ false = grind (arith, c.if-eq.false, c.eq.ensures, c.as_str.ensures) in
    record {
      within = omega (arith, c.members-test.true, c.len.ensures);
      same = sym (find_later c.args.key.now c.args.json.now c.members.at (c.pair.result.0.now, json_of c.pair.result.1.now) c.pair.ensures.pair other) ∙ c.members.invariant.same;
    }
