use Rattle.std.proofs.Common.{◌∙◌, ◌++◌, ap, map}
use Rattle.std.proofs.lemmas.Result.{on_ok_weaker}
use Rattle.kept_nodes.specs.Seen.{report_seen}
use Rattle.kept_nodes.proofs.snapshot.push_ranked.Goals as goal

pub returns : goal.returns
returns c =
    on_ok_weaker c.push_reports.result
    (λ e. e ∙ ap (λ l. c.args.commands.now ++ l) (ap (map (λ r. report_seen r.now)) c.as_slice.ensures.value ∙ c.in_ok-ranked.ensures)) c.push_reports.ensures
