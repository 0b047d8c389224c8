use Rattle.std.proofs.Common.{◌∙◌, sym, arith}
use Rattle.http_front.proofs.FieldValues.{option_there, last_there, still_none}
use Rattle.http_front.proofs.fields.first_option.Goals as goal

pub returns-then-is_between-clause-split : goal.returns-then-is_between-clause-split
returns-then-is_between-clause-split c =
    option_there c.args.value.now c.loop-at.at (omega arith) (sym c.is_between.ensures ∙ c.if-is_between.true) c.loop-at.invariant

pub returns-clause-split : goal.returns-clause-split
returns-clause-split c = last_there c.args.value.now c.loop-at.at (omega arith) c.loop-at.invariant

pub loop-at-preserved : goal.loop-at-preserved
loop-at-preserved c = still_none c.args.value.now c.loop-at.at (omega arith) (sym c.is_between.ensures ∙ c.if-is_between.false) c.loop-at.invariant
