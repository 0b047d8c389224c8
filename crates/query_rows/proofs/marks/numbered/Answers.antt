use Rattle.std.proofs.Common.{◌∙◌, sym, ap}
use Rattle.query_plan.specs.means_spec.Groups.{key_of}
use Rattle.query_rows.specs.Marked.{number_of}
use Rattle.query_rows.proofs.MarkLaws.{numbers-kept, numbers_on}
use Rattle.query_rows.proofs.marks.numbered.Goals as goal

pub returns-in_ok-push-clause-firsts : goal.returns-in_ok-push-clause-firsts
returns-in_ok-push-clause-firsts c =
    numbers_on (key_of c.args.entity c.args.columns.now) c.args.texts.now c.number_of.new.texts c.args.firsts.now.items c.push.new.self.items _ c.in_ok-push.ensures.items c.in_ok-mark.ensures.kept
    (ap (number_of c.number_of.new.texts) (sym c.in_ok-text.ensures) ∙ c.in_ok-mark.ensures.number) c.requires.firsts

pub returns-else-mark-len-clause-firsts : goal.returns-else-mark-len-clause-firsts
returns-else-mark-len-clause-firsts c =
    numbers-kept (key_of c.args.entity c.args.columns.now) c.args.texts.now c.number_of.new.texts c.in_ok-mark.ensures.kept c.args.firsts.now.items c.requires.firsts
