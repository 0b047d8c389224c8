use Rattle.std.proofs.Common.{◌∙◌, sym, ap}
use Rattle.query_spec.specs.Words.{function_named}
use Rattle.pql_parts.proofs.TakenNames.{no_column, column_of_function}
use Rattle.pql_parts.proofs.shown.Shown.takes_column.Goals as goal

pub returns-in-None : goal.returns-in-None
returns-in-None c =
    sym (no_column c.args.name.now c.args.self.now.list (sym (c.in-None.ensures ∙ ap function_named c.as_str.ensures)))

pub returns-in-Some : goal.returns-in-Some
returns-in-Some c =
    c.has.ensures
    ∙ c.args.self.now.functions_are c.in-Some.function
    ∙ column_of_function c.args.name.now c.in-Some.function c.args.self.now.list (sym (c.in-Some.ensures ∙ ap function_named c.as_str.ensures))
