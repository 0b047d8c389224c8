use Rattle.std.proofs.Common.{◌∙◌, sym, refl, false}
use Rattle.pql_parts.proofs.TakenNames.{names_told, same_taken}
use Rattle.pql_parts.proofs.shown.marked.Goals as goal

pub returns-then-is_function : goal.returns-then-is_function
returns-then-is_function c =
    λ cs t. names_told false cs _ c.args.functions c.with.result c.args.item.now c.args.named (sym c.is_function.ensures ∙ c.if-is_function.true) refl c.requires c.with.ensures t

pub returns-else-is_function : goal.returns-else-is_function
returns-else-is_function c = λ cs t. same_taken cs c.args.functions c.args.item.now (sym c.is_function.ensures ∙ c.if-is_function.false) t
