-- What a checkpoint lists of one node is of that node, and each is of its kind.
use Rattle.std.proofs.Common.{◌≡◌, ◌∙◌, inl, inr, ℕ, List, sym, ap, Option, Some, None}
use Rattle.std.specs.declared.cmp.Ordering.{Ordering}
use Rattle.checkpoint_spec.proofs.of_plain_laws.Members.{Among}
use Rattle.checkpoint_spec.specs.fleet_rows.Change.{change_certname, change_kind}
use Rattle.checkpoint_spec.specs.fleet_rows.declared.applied.Applied.{Applied}
use Rattle.checkpoint_spec.specs.fleet_rows.declared.command.Kind.{Kind}
use Rattle.checkpoint_spec.specs.fleet_rows.declared.command.Kind.TheVariants as kind
use Rattle.checkpoint_spec.specs.fleet_rows.declared.settings.Ttls.{Ttls}
use Rattle.checkpoint_spec.specs.history_spec.Life.{life, kept_reports, greatest_retention}
use Rattle.checkpoint_spec.specs.history_spec.Node.{newest}
use Rattle.checkpoint_spec.specs.history_spec.Trace.{Trace}
use Rattle.checkpoint_spec.specs.table_spec.Sorted.{sorted_by}
use Rattle.checkpoint_spec.proofs.of_history_laws.Lives.{comes_from}
use Rattle.checkpoint_spec.proofs.of_history_laws.NewestIsGreatest.{newest_is_greatest}
use Rattle.checkpoint_spec.proofs.of_history_laws.Ranks.{kind_from_is_kind}
use Rattle.checkpoint_spec.proofs.of_table_machine.KeptReports.{retained_are_reports}
use Rattle.checkpoint_spec.proofs.of_table_machine.TableLaws.{kept_among_life, kept_among_stay}
use Rattle.checkpoint_spec.proofs.of_table_laws.SortedLists.{among-from_sorted_by}
use Rattle.checkpoint_spec.specs.Lists.{if_kept}

abbrev pub IsOf : List ℕ → Kind → List Applied → Type 0
IsOf certname k xs = (x : Applied) → Among x xs → (change_certname x.change ≡ certname) × (change_kind x.change ≡ k)

module _ (ttls : Ttls) (history : Trace) (certname : List ℕ) where
  of_life : (x : Applied) → Among x (life ttls certname history) → change_certname x.change ≡ certname
  of_life x a = sym (comes_from ttls certname history x a).certname

  pub newest_is : (k : Kind) (o : Option Applied) → newest k (life ttls certname history) ≡ o → IsOf certname k (if_kept o)
  newest_is k None e x a = absurd a
  newest_is k (Some y) e x (inl same) =
      let it = newest_is_greatest k (life ttls certname history) y e in
      (ap (λ (z : Applied). change_certname z.change) same ∙ of_life y it.among, ap (λ (z : Applied). change_kind z.change) same ∙ kind_from_is_kind k y it.kind)
  newest_is k (Some y) e x (inr a) = absurd a

-- in whatever order the reports stand
pub reports_are : (c : Applied → Applied → Ordering) (ttls : Ttls) (history : Trace) (certname : List ℕ) → IsOf certname kind.Report (sorted_by c (kept_reports ttls certname history))
reports_are c ttls history certname x a =
    let kept = among-from_sorted_by c x (kept_reports ttls certname history) a in (
      of_life ttls history certname x (kept_among_life ttls history certname x kept),
      kind_from_is_kind kind.Report x (retained_are_reports ttls (greatest_retention history) (life ttls certname history) x (kept_among_stay ttls history certname x kept)),
    )
