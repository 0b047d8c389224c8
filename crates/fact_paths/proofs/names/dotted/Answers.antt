use Rattle.std.proofs.Common.{◌∙◌, sym}
use Rattle.fact_paths.proofs.NameLaws.{first_name}
use Rattle.fact_paths.proofs.names.dotted.Goals as goal

pub returns-in-len1-up : goal.returns-in-len1-up
returns-in-len1-up c = c.member_along.ensures ∙ sym (first_name c.args.facts.now c.args.path.now _ c.in-len1-up.len_at_least)
