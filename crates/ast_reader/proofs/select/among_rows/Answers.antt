use Rattle.std.proofs.Common.{◌≡◌, ℕ, List, sym, ap, subst, Ok}
use Rattle.query_spec.specs.declared.parts.Field.{Field}
use Rattle.query_spec.specs.Ast.{Read}
use Rattle.query_spec.specs.Query.{Level}
use Rattle.ast_tree.specs.Tree.{filter_of}
use Rattle.ast_reader.specs.Among.{rows_among}
use Rattle.ast_parts.specs.declared.fault.FormFault.{FormFault}
use Rattle.ast_parts.specs.declared.fault.FormFault.TheVariants.{NoForm, Memory}
use Rattle.ast_parts.specs.Gives.{Fails, Gives}
use Rattle.ast_reader.proofs.select.among_rows.Goals as goal

fails_on : (fs : List Field) (p : List ℕ) (e : FormFault) (r : Read Level) → Fails e r → Fails e (rows_among fs p r)
fails_on fs p (NoForm at) r h = ap (rows_among fs p) h
fails_on fs p Memory r h = tt

pub returns-in-Ok : goal.returns-in-Ok
returns-in-Ok c = λ r h.
    subst (λ x. Gives filter_of c.in_level.result (rows_among c.args.fields c.args.place.now x))
    (sym (subst (λ l. Gives (λ q. q) l r) c.in-Ok.is h))
    c.in_level.ensures

pub returns-in-Err : goal.returns-in-Err
returns-in-Err c = λ r h.
    fails_on c.args.fields c.args.place.now c.in-Err.fault r (subst (λ l. Gives (λ q. q) l r) c.in-Err.is h)
