use Rattle.std.proofs.Common.{◌∙◌, ℕ, subst, sym, ap}
use Rattle.std.specs.Prelude.{option_map}
use Rattle.pql_spec.specs.Grammar.{with_offset}
use Rattle.pql_machine.specs.Machine as machine
use Rattle.pql_parts.specs.States.{head_of, owner_of, tail_of, Took}
use Rattle.pql_reader.proofs.page.offset_read.Goals as goal

pub returns-in-Some : goal.returns-in-Some
returns-in-Some c = λ fs.
    let p = c.args.paged in
    let f : ℕ → machine.State = λ n. machine.paged (head_of p.head) (owner_of fs p.owner) p.closed.clause (with_offset (tail_of p.tail) n) machine.behind_offset in
    c.count_in.ensures f ∙ ap (option_map f) c.in-Some.is ∙ c.offset_by.ensures fs

pub returns-in-None : goal.returns-in-None
returns-in-None c = λ fs.
    let p = c.args.paged in
    let f : ℕ → machine.State = λ n. machine.paged (head_of p.head) (owner_of fs p.owner) p.closed.clause (with_offset (tail_of p.tail) n) machine.behind_offset in
    c.count_in.ensures f ∙ ap (option_map f) c.in-None.is
