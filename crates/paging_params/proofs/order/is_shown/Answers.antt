use Rattle.std.proofs.Common.{◌∙◌, sym, ap}
use Rattle.ast_tree.specs.query_spec.Check.{has_output}
use Rattle.means_spec.specs.Shown.{output_names}
use Rattle.paging_params.specs.Paging.{is_among}
use Rattle.paging_params.proofs.Outputs.{is_output_name}
use Rattle.paging_params.proofs.order.is_shown.Goals as goal

pub returns-in-Some : goal.returns-in-Some
returns-in-Some c =
    c.has_output.ensures
    ∙ ap (λ ss. has_output ss c.args.name.now) c.as_slice.ensures
    ∙ is_output_name c.in-Some.selection c.args.name.now
    ∙ ap (λ s. is_among (output_names c.args.entity s) c.args.name.now) (sym c.in-Some.is)
