-- The history of a dump is a trace: its changes meet their rules, and its receipts count from 1.
use Rattle.std.proofs.Common.{◌≡◌, ◌≢◌, inl, inr, ℕ, suc, ◌<◌, ◌≤◌, ◌^◌, ℤ, List, [], ◌∷◌, map, arith, refl, sym, subst, Bool, true, false, Option, Some, None, if◌then◌else◌}
use Rattle.std.specs.List.{AllByRecursion, flat_map}
use Rattle.std.specs.Prelude.{int_lt}
use Rattle.dump_spec.specs.fleet_rows.Change.{change_certname, change_stamp}
use Rattle.dump_spec.specs.fleet_rows.declared.applied.Applied.{Applied}
use Rattle.dump_spec.specs.fleet_rows.declared.change.Change.{Change}
use Rattle.dump_spec.specs.fleet_rows.declared.change.Change.TheVariants.{Facts, Catalog, Report, Deactivate, Expiration}
use Rattle.dump_spec.specs.fleet_rows.declared.command.Kind.{Kind}
use Rattle.dump_spec.specs.fleet_rows.declared.command.Kind.TheVariants as kind
use Rattle.dump_spec.specs.fleet_rows.declared.settings.Kinds.{Kinds}
use Rattle.dump_spec.specs.fleet_rows.declared.settings.Ttls.{Ttls}
use Rattle.dump_spec.specs.history_laws.GreatestLaws as great
use Rattle.dump_spec.specs.history_spec.Lawful.{HasStamp, IfMoment, IsCertname, IsList, IsChange}
use Rattle.dump_spec.specs.history_spec.Life.{life, nodes, kept_reports, greatest_expiry, greatest_retention}
use Rattle.dump_spec.specs.history_spec.Node.{later, newest, greatest_activity}
use Rattle.dump_spec.specs.history_spec.Trace.{Trace, IsTrace, applied, swept, applied_as, receipts}
use Rattle.dump_spec.specs.table_spec.Rows.{change_of}
use Rattle.dump_spec.specs.table_spec.Sorted.{report_cmp, sorted_by}
use Rattle.dump_spec.specs.table_machine.Table.{Node, node_of, table_of}
use Rattle.dump_spec.specs.checkpoint_spec.Histories.{with_events}
use Rattle.dump_spec.specs.checkpoint_spec.Lists.{by_rank}
use Rattle.dump_spec.specs.list_again.Told.{if_there, change_in, swept_if}
use Rattle.dump_spec.specs.list_again.Whole.{greatest_there, empty_report, is_moment, lacking}
use Rattle.dump_spec.specs.Dumps.{node_changes}
use Rattle.dump_spec.proofs.of_plain_laws.Booleans.{either}
use Rattle.dump_spec.proofs.of_plain_laws.Members.{Among, All-from_Among, all_as, all_both, Among-from_map, Among-from_Contains, Contains-from_Among}
use Rattle.dump_spec.proofs.of_history_laws.GreatestMoments.{activity_is_the_greatest}
use Rattle.dump_spec.proofs.of_history_laws.Lives.{comes_from}
use Rattle.dump_spec.proofs.of_history_laws.NewestIsGreatest.{newest_is_greatest}
use Rattle.dump_spec.proofs.of_history_laws.TraceLemmas.{nodes_have_a_life}
use Rattle.dump_spec.proofs.of_table_laws.RowNodes.{life_is_lawful}
use Rattle.dump_spec.proofs.of_table_laws.SortedLists.{among-from_sorted_by}
use Rattle.dump_spec.proofs.of_table_machine.ReportOrder.{report_cmp_total}
use Rattle.dump_spec.proofs.of_table_machine.Risen.{among-from_sorted}
use Rattle.dump_spec.proofs.of_table_machine.TableLaws.{kept_among_life}
use Rattle.dump_laws.specs.Again.{numbered}
use Rattle.dump_laws.specs.RowLaws.{DumpsAreTraces}

-- ---- commands behind a trace

numbers_differ : (receipt : ℕ) (rs : List ℕ) → AllByRecursion (λ r. r < receipt) rs → AllByRecursion (λ r. r ≢ receipt) rs
numbers_differ receipt rs h = all_as (λ r. r < receipt) (λ r. r ≢ receipt) rs (λ r less e. omega (arith, less, e)) h

with_trace : (received : ℤ) → HasStamp received → (receipt : ℕ) (cs : List Change) (history : Trace) → 1 ≤ receipt → AllByRecursion (λ r. r < receipt) (receipts history)
    → AllByRecursion IsChange cs → IsTrace history → IsTrace (with_events (numbered received receipt cs) history)
with_trace received stamp receipt [] history from less all is = is
with_trace received stamp receipt (c ∷ cs) history from less all is =
    with_trace received stamp (suc receipt) cs (applied (applied_as receipt (Some received) c) ∷ history) (omega (arith, from))
    (omega arith, all_as (λ r. r < receipt) (λ r. r < suc receipt) (receipts history) (λ r h. omega (arith, h)) less)
    all.1 (all.0, stamp, from, numbers_differ receipt (receipts history) less, is)

swept_trace : (kinds : Kinds) (o : Option ℤ) (history : Trace) → IfMoment o → IsTrace history → IsTrace (swept_if kinds o history)
swept_trace kinds None history h is = is
swept_trace kinds (Some m) history h is = (h, is)

-- ---- sweeps of a trace have stamps

sweep_step : (b : Bool) (m : ℤ) (o : Option ℤ) → HasStamp m → IfMoment o → IfMoment (if b then later m o else o)
sweep_step true m None h k = h
sweep_step true m (Some n) h k = either HasStamp (int_lt m n) n m k h
sweep_step false m o h k = k

pub expiry_has_stamp : (history : Trace) → IsTrace history → IfMoment (greatest_expiry history)
expiry_has_stamp [] is = tt
expiry_has_stamp (applied x ∷ earlier) is = expiry_has_stamp earlier is.4
expiry_has_stamp (swept kinds m ∷ earlier) is = sweep_step kinds.expire m (greatest_expiry earlier) is.0 (expiry_has_stamp earlier is.1)

pub retention_has_stamp : (history : Trace) → IsTrace history → IfMoment (greatest_retention history)
retention_has_stamp [] is = tt
retention_has_stamp (applied x ∷ earlier) is = retention_has_stamp earlier is.4
retention_has_stamp (swept kinds m ∷ earlier) is = sweep_step kinds.reports m (greatest_retention earlier) is.0 (retention_has_stamp earlier is.1)

-- ---- changes

name_and_stamp : (c : Change) → IsChange c → IsCertname (change_certname c) × HasStamp (change_stamp c)
name_and_stamp (Facts c) h = (h.certname, h.stamp)
name_and_stamp (Catalog c) h = (h.certname, h.stamp)
name_and_stamp (Report c) h = (h.certname, h.stamp)
name_and_stamp (Deactivate c) h = (h.certname, h.stamp)
name_and_stamp (Expiration c) h = (h.certname, h.stamp)

none_listed : IsList []
none_listed = record { elements = tt; counted = (let few : 0 < 2 ^ 32 = omega arith in few) }

pub empty_is_lawful : (certname : List ℕ) (m : ℤ) → IsCertname certname → HasStamp m → IsChange (empty_report certname m)
empty_is_lawful certname m name stamp = record {
  certname = name;
  environment = tt;
  puppet_version = tt;
  report_format = tt;
  configuration_version = tt;
  start_time = tt;
  end_time = tt;
  stamp = stamp;
  producer = tt;
  status = tt;
  transaction_uuid = tt;
  resources = none_listed;
  logs = none_listed;
  metrics = none_listed;
  are_resources = refl;
  are_logs = refl;
  are_metrics = refl;
}

module _ (ttls : Ttls) (history : Trace) (is : IsTrace history) (n : List ℕ) where
  abbrev xs : List Applied
  xs = life ttls n history

  abbrev node : Node
  node = node_of ttls history n

  lawful : (x : Applied) → Among x xs → IsChange x.change
  lawful x a = life_is_lawful ttls n history is x a

  of_newest : (k : Kind) (o : Option Applied) → newest k xs ≡ o → AllByRecursion IsChange (if_there (change_of o))
  of_newest k None e = tt
  of_newest k (Some z) e = (lawful z (newest_is_greatest k xs z e).among, tt)

  spare_step : (b : Bool) (m : ℤ) → IsCertname n → HasStamp m → AllByRecursion IsChange (if_there (if b then None else Some (empty_report n m)))
  spare_step true m name stamp = tt
  spare_step false m name stamp = (empty_is_lawful n m name stamp, tt)

  of_spare : (there active : Option ℤ) → IsCertname n → great.IsGreatestOf (great.HasStamped great.IsActivity xs) active → AllByRecursion IsChange (if_there (lacking n active there))
  of_spare there None name g = tt
  of_spare there (Some m) name g =
      let x = g.0 in
      spare_step (is_moment m there) m name (subst HasStamp x.3 (name_and_stamp x.0.change (lawful x.0 (Among-from_Contains xs x.0 x.1))).1)

  of_reports : AllByRecursion IsChange (map change_in (sorted_by by_rank node.reports))
  of_reports =
      All-from_Among IsChange (map change_in (sorted_by by_rank node.reports)) (λ c a.
      let x = Among-from_map change_in (sorted_by by_rank node.reports) c a in
      subst IsChange (sym x.2)
      (lawful x.0 (kept_among_life ttls history n x.0 (among-from_sorted report_cmp report_cmp_total x.0 (kept_reports ttls n history) (among-from_sorted_by by_rank x.0 node.reports x.1)))))

  some_of : (zs : List Applied) → zs ≢ [] → (x : Applied) × Among x zs
  some_of [] h = absurd (h refl)
  some_of (x ∷ zs) h = (x, inl refl)

  name_is : Among n (nodes ttls history) → IsCertname n
  name_is a =
      let some = some_of xs ((nodes_have_a_life ttls history n).0 (Contains-from_Among (nodes ttls history) n a)) in
      subst IsCertname (sym (comes_from ttls n history some.0 some.1).certname) (name_and_stamp some.0.change (lawful some.0 some.1)).0

  pub changes_are_lawful : Among n (nodes ttls history) → AllByRecursion IsChange (node_changes node)
  changes_are_lawful a =
      all_both IsChange (if_there (change_of node.facts)) _ (of_newest kind.Facts (newest kind.Facts xs) refl)
      (all_both IsChange (if_there (change_of node.catalog)) _ (of_newest kind.Catalog (newest kind.Catalog xs) refl)
      (all_both IsChange (if_there (change_of node.expiration)) _ (of_newest kind.Expiration (newest kind.Expiration xs) refl)
      (all_both IsChange (if_there (change_of node.deactivate)) _ (of_newest kind.Deactivate (newest kind.Deactivate xs) refl)
      (all_both IsChange (if_there (lacking n node.active (greatest_there node))) _ (of_spare (greatest_there node) (greatest_activity xs) (name_is a) (activity_is_the_greatest xs))
      of_reports))))

pub all_are_lawful : (ttls : Ttls) (history : Trace) → IsTrace history → AllByRecursion IsChange (flat_map node_changes (table_of ttls history).nodes)
all_are_lawful ttls history is = of_nodes (nodes ttls history) (λ n a. a)
  where
    of_nodes : (ns : List (List ℕ)) → ((n : List ℕ) → Among n ns → Among n (nodes ttls history)) → AllByRecursion IsChange (flat_map node_changes (map (node_of ttls history) ns))
    of_nodes [] h = tt
    of_nodes (n ∷ ns) h =
        all_both IsChange (node_changes (node_of ttls history n)) (flat_map node_changes (map (node_of ttls history) ns)) (changes_are_lawful ttls history is n (h n (inl refl)))
        (of_nodes ns (λ m a. h m (inr a)))

pub dumps_are_traces : DumpsAreTraces
dumps_are_traces ttls history received is stamp =
    swept_trace _ (greatest_retention history) _ (retention_has_stamp history is)
    (swept_trace _ (greatest_expiry history) _ (expiry_has_stamp history is)
    (with_trace received stamp 1 (flat_map node_changes (table_of ttls history).nodes) [] (omega arith) tt (all_are_lawful ttls history is) tt))
