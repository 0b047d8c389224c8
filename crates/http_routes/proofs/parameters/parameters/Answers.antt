use Rattle.std.proofs.Common.{◌∙◌, ap, map}
use Rattle.std.proofs.lemmas.Iterator.Consumers.{YieldsList-from_first, YieldsList-end}
use Rattle.form_urlencoded.specs.Form.{pair_text, raw_pairs}
use Rattle.form_urlencoded.specs.Parse.{raw_pairs_left}
use Rattle.routes_spec.specs.Parameters.{decoded_pair}
use Rattle.http_routes.proofs.ParameterLists.{pairs_decoded}
use Rattle.http_routes.proofs.parameters.parameters.Goals as goal

pub returns : goal.returns
returns c =
    let all = YieldsList-from_first pair_text raw_pairs_left {s = c.into_iter-name-iterator.result} (raw_pairs c.args.query.now) (cc) in
    let end = YieldsList-end all c.loop-name.yielded c.loop-name.name-iterator c.loop-name.yielded_by c.next.result c.next.new.self c.in-None.is c.next.ensures.steps in
    c.loop-name.invariant ∙ pairs_decoded c.loop-name.yielded ∙ ap (map decoded_pair) end.0
