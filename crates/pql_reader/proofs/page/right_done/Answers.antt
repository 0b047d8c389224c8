use Rattle.pql_spec.specs.Grammar.{among_rows, level_with}
use Rattle.std.proofs.Common.{Some}
use Rattle.pql_parts.specs.States.{tail_of}
use Rattle.pql_reader.proofs.page.right_done.Goals as goal

pub returns : goal.returns
returns c = λ fs.
    c.finish_of.ensures fs (among_rows c.args.right.left.items c.args.right.entity (level_with c.args.right.entity (Some c.args.right.shown) c.args.closed.clause (tail_of c.args.tail))) c.among_rows.ensures
