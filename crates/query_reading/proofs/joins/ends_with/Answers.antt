use Rattle.std.proofs.Common.{◌∙◌, ◌-◌, length, sym, arith}
use Rattle.fleet_tables.proofs.of_checkpoint_spec.of_text_laws.SameLaws.{text_turn}
use Rattle.query_reading.proofs.UnionLaws.{among_last}
use Rattle.query_reading.proofs.joins.ends_with.Goals as goal

pub returns-in-len1-up : goal.returns-in-len1-up
returns-in-len1-up c = λ h.
    among_last c.args.nodes.now (length c.args.nodes.now - 1) c.args.node.now _ (omega (arith, c.in-len1-up.len_at_least)) (text_turn _ c.args.node.now (sym c.eq.ensures ∙ h))
