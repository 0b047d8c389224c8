use Rattle.std.proofs.Common.{◌≡◌, ◌∙◌, sym, ap, true, false, unwrap_or, rules}
use Rattle.std.specs.Str.{bytes_eq}
use Rattle.same_text.specs.text_spec.Json.{null, find_member}
use Rattle.same_text.specs.json_tree.Tree.{json_of}
use Rattle.fleet_tables.specs.fleet_rows.Cell.{plain}
use Rattle.query_rows.proofs.Gets.{member_here, member_on}
use Rattle.query_rows.proofs.seen.member.Goals as goal

pub returns-then-eq : goal.returns-then-eq
returns-then-eq c =
    let e : bytes_eq c.args.name.now c.pair.result.0.now ≡ true = search rules in
    ap (λ o. plain (unwrap_or o null)) (sym (member_here c.args.name.now c.args.members.now c.loop-i.i c.pair.result.0.now (json_of c.pair.result.1.now) c.pair.ensures.pair e) ∙ c.loop-i.invariant)

pub loop-i-preserved : goal.loop-i-preserved
loop-i-preserved c =
    let e : bytes_eq c.args.name.now c.pair.result.0.now ≡ false = search rules in
    member_on c.args.name.now c.args.members.now c.loop-i.i c.pair.result.0.now (json_of c.pair.result.1.now) c.pair.ensures.pair (find_member c.args.name.now c.args.members.now) e c.loop-i.invariant
