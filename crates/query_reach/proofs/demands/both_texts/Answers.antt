use Rattle.std.proofs.Common.{◌≡◌, true, false, rules}
use Rattle.std.specs.Str.{bytes_eq}
use Rattle.query_reach.proofs.DemandLaws.{same_text_again, other_text}
use Rattle.query_reach.proofs.demands.both_texts.Goals as goal

pub returns-then-eq : goal.returns-then-eq
returns-then-eq c = λ texts only.
    let e : bytes_eq c.args.other.now c.args.text.now ≡ true = search rules in
    same_text_again texts c.args.other.now c.args.text.now only e

pub returns-else-eq : goal.returns-else-eq
returns-else-eq c = λ texts only.
    let e : bytes_eq c.args.other.now c.args.text.now ≡ false = search rules in
    other_text texts c.args.other.now c.args.text.now only e
