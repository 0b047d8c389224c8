use Rattle.std.proofs.Common.{◌∙◌, refl, sym, ap, subst, true, false}
use Rattle.query_spec.specs.Words.{function_named}
use Rattle.pql_parts.specs.Shown.{AreTaken}
use Rattle.pql_parts.proofs.TakenNames.{names_told}
use Rattle.pql_parts.proofs.shown.Shown.with.Goals as goal

pub invariant_of-result-clause-functions_are : goal.invariant_of-result-clause-functions_are
invariant_of-result-clause-functions_are c =
    subst (λ l. AreTaken false l c.marked-functions.result) (sym c.in_ok-push.ensures.ok) (c.marked-functions.ensures c.args.self.list c.args.self.functions_are)

pub invariant_of-result-clause-names_are : goal.invariant_of-result-clause-names_are
invariant_of-result-clause-names_are c =
    names_told true c.args.self.list c.push.new.self c.args.self.names c.with-names.result c.args.item c.function_named-named.result refl c.in_ok-push.ensures.ok (c.function_named-named.ensures ∙ ap function_named c.output_name.ensures) c.with-names.ensures c.args.self.names_are
