use Rattle.std.proofs.Common.{◌≡◌, ◌∙◌, sym, arith, true, get_or}
use Rattle.json_tree.specs.Plain.{is_plain}
use Rattle.json_tree.proofs.EscapeLaws.{run-more}
use Rattle.json_tree.proofs.write.plain_end.Goals as goal

pub loop-at-preserved : goal.loop-at-preserved
loop-at-preserved c =
    let plain : is_plain (get_or c.args.bytes.now c.loop-at.at 0) ≡ true = sym c.is_plain.ensures ∙ c.if-is_plain.true in
    record {
      from = omega (arith, c.loop-at.invariant.from);
      within = omega (arith, c.loop-at-test.true);
      plain = run-more c.args.bytes.now c.args.start c.loop-at.at c.loop-at.invariant.from c.loop-at-test.true plain c.loop-at.invariant.plain;
    }
