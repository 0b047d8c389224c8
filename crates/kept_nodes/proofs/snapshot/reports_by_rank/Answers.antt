use Rattle.std.proofs.Common.{◌∙◌, ap, rules}
use Rattle.std.specs.Ordering.{is_lt}
use Rattle.std.proofs.lemmas.List.Sorted.{ranks_by, answers_always}
use Rattle.row_cells.proofs.SortedLaws.{mapped_items}
use Rattle.checkpoint_spec.specs.table_spec.Sorted.{sorted_by}
use Rattle.checkpoint_spec.specs.Lists.{by_rank}
use Rattle.kept_nodes.specs.Seen.{report_seen}
use Rattle.kept_nodes.proofs.SnapshotLaws.{by_rank_total, sorted_references}
use Rattle.kept_nodes.proofs.snapshot.reports_by_rank.Goals as goal

pub returns : goal.returns
returns c =
    let weak = ranks_by by_rank_total (λ r. report_seen r.now) in
    let by = answers_always _ _ _ (λ f a r g h. search rules) in
    let sorted = c.in_ok-sort_by.ensures.sorted (λ x y. is_lt (by_rank (report_seen x.now) (report_seen y.now))) weak by in
    let stable = c.in_ok-sort_by.ensures.stable (λ x y. is_lt (by_rank (report_seen x.now) (report_seen y.now))) weak by in
    sorted_references (λ r. report_seen r.now) by_rank by_rank_total c.in_ok-ranked.ranked.items c.sort_by.new.self.items sorted stable
    ∙ ap (sorted_by by_rank) (mapped_items (λ r. r.now) report_seen c.in_ok-ranked.ranked.items c.args.reports.now c.in_ok-ranked.ensures)
