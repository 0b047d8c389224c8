use Rattle.std.proofs.Common.{◌∙◌, sym, subst}
use Rattle.json_read.specs.text_spec.JsonText.{Spells}
use Rattle.json_read.specs.json_tree.Tree.{json_of}
use Rattle.means_spec.specs.OutRows.{names_of}
use Rattle.paging_params.proofs.OrderReads.{not_spelt}
use Rattle.paging_params.proofs.Pagings.{spelt}
use Rattle.paging_params.proofs.order.orders_in.Goals as goal

pub returns-in-Ok : goal.returns-in-Ok
returns-in-Ok c =
    spelt (names_of c.args.level.now) c.args.text.now (json_of c.in-Ok.json) c.orders_of.result
    (subst (λ b. Spells b (json_of c.in-Ok.json)) c.as_bytes.ensures.value c.in-Ok.ensures.found) c.orders_of.ensures

pub returns-then-spells_nothing : goal.returns-then-spells_nothing
returns-then-spells_nothing c =
    not_spelt (names_of c.args.level.now) c.args.text.now c.as_bytes.result.now c.read.result c.in-Err.fault c.in-Err.is
    (sym c.spells_nothing.ensures ∙ c.if-spells_nothing.true) c.as_bytes.ensures.value c.read.ensures.only
