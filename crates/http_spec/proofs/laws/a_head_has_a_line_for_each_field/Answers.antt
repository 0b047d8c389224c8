use Rattle.std.specs.Prelude.{map}
use Rattle.http_spec.proofs.GrammarHeads.{field_line, printed_is_text, as_many_lines, a_line_a_field}
use Rattle.http_spec.proofs.laws.a_head_has_a_line_for_each_field.Goals as goal

pub returns-clause-text : goal.returns-clause-text
returns-clause-text c h k = (map field_line h.fields, printed_is_text h k, as_many_lines h.fields)

pub returns-clause-all : goal.returns-clause-all
returns-clause-all c = a_line_a_field
