-- The checkpoint of a history is a list that tables can be made of: its moments are such as stamps name, and its changes meet
-- their rules.
use Rattle.std.proofs.Common.{◌≡◌, ℕ, ℤ, List, [], ◌∷◌, map, Bool, true, false, if◌then◌else◌, Option, Some, None, IfSome, inl, inr, refl, sym, subst}
use Rattle.std.specs.List.{AllByRecursion, flat_map}
use Rattle.checkpoint_spec.proofs.of_history_laws.Members.{Among, All-from_Among}
use Rattle.checkpoint_spec.proofs.of_plain_laws.Members.{all_both}
use Rattle.checkpoint_spec.proofs.of_history_laws.NewestIsGreatest.{newest_is_greatest}
use Rattle.checkpoint_spec.proofs.of_stamp_time.RangeLaws.{stamp_in_range}
use Rattle.checkpoint_spec.proofs.of_table_machine.TableLaws.{kept_among_life}
use Rattle.checkpoint_spec.specs.stamp_time.Range.{IsStampMoment}
use Rattle.checkpoint_spec.specs.fleet_rows.Change.{change_stamp}
use Rattle.checkpoint_spec.specs.fleet_rows.declared.applied.Applied.{Applied}
use Rattle.checkpoint_spec.specs.fleet_rows.declared.command.Kind.{Kind}
use Rattle.checkpoint_spec.specs.fleet_rows.declared.command.Kind.TheVariants as kind
use Rattle.checkpoint_spec.specs.fleet_rows.declared.settings.Ttls.{Ttls}
use Rattle.checkpoint_spec.specs.fleet_rows.declared.store.StoreList.{StoreList}
use Rattle.checkpoint_spec.specs.history_spec.Lawful.{HasStamp, IsChange}
use Rattle.checkpoint_spec.specs.history_spec.Life.{life, nodes, kept_reports, greatest_expiry, greatest_retention}
use Rattle.checkpoint_spec.specs.history_spec.Node.{later, newest, is_activity, greatest_activity}
use Rattle.checkpoint_spec.specs.history_spec.Trace.{Trace, IsTrace, applied, swept}
use Rattle.checkpoint_spec.specs.table_spec.Sorted.{sorted_by}
use Rattle.checkpoint_spec.specs.table_machine.Table.{Table}
use Rattle.checkpoint_spec.specs.Histories.{mark_in, commands_in, checkpoint}
use Rattle.checkpoint_spec.specs.Lists.{by_rank, if_kept}
use Rattle.checkpoint_spec.proofs.of_table_laws.RowNodes.{life_is_lawful}
use Rattle.checkpoint_spec.proofs.of_table_laws.SortedLists.{among-from_sorted_by}
use Rattle.fleet_tables.specs.Listed.{HasMoment, HasLawfulChange, IsLawfulList}
use Rattle.fleet_tables.specs.Stands.{Stands}
use Rattle.checkpoint_spec.proofs.of_history_laws.Moments.{has_stamp_moment, later_is_stamp}

-- ---- the greatest of moments

either_stamp : (b : Bool) (o p : Option ℤ) → IfSome o IsStampMoment → IfSome p IsStampMoment → IfSome (if b then o else p) IsStampMoment
either_stamp true o p h k = h
either_stamp false o p h k = k

-- a moment more, where it counts
one_more : (b : Bool) (m : ℤ) (o : Option ℤ) → IsStampMoment m → IfSome o IsStampMoment → IfSome (if b then later m o else o) IsStampMoment
one_more b m o h k = either_stamp b (later m o) o (later_is_stamp m o h k) k

activity_has_stamp : (xs : List Applied) → ((x : Applied) → Among x xs → IsChange x.change) → IfSome (greatest_activity xs) IsStampMoment
activity_has_stamp [] h = tt
activity_has_stamp (x ∷ xs) h =
    one_more (is_activity x) (change_stamp x.change) (greatest_activity xs) (has_stamp_moment x.change (h x (inl refl))) (activity_has_stamp xs (λ y a. h y (inr a)))

stamped : (m : ℤ) → HasStamp m → IsStampMoment m
stamped m h = stamp_in_range h.0 m h.1

expiry_has_stamp : (history : Trace) → IsTrace history → IfSome (greatest_expiry history) IsStampMoment
expiry_has_stamp [] h = tt
expiry_has_stamp (applied x ∷ earlier) h = expiry_has_stamp earlier h.4
expiry_has_stamp (swept kinds m ∷ earlier) h = one_more kinds.expire m (greatest_expiry earlier) (stamped m h.0) (expiry_has_stamp earlier h.1)

retention_has_stamp : (history : Trace) → IsTrace history → IfSome (greatest_retention history) IsStampMoment
retention_has_stamp [] h = tt
retention_has_stamp (applied x ∷ earlier) h = retention_has_stamp earlier h.4
retention_has_stamp (swept kinds m ∷ earlier) h = one_more kinds.reports m (greatest_retention earlier) (stamped m h.0) (retention_has_stamp earlier h.1)

-- ---- all commands

module _ (ttls : Ttls) (history : Trace) (is : IsTrace history) where
  module _ (n : List ℕ) where
    abbrev xs : List Applied
    xs = life ttls n history

    lawful : (x : Applied) → Among x xs → HasLawfulChange x
    lawful x a = life_is_lawful ttls n history is x a

    newest_is_lawful : (k : Kind) (o : Option Applied) → newest k xs ≡ o → AllByRecursion HasLawfulChange (if_kept o)
    newest_is_lawful k None h = tt
    newest_is_lawful k (Some y) h = (lawful y (newest_is_greatest k xs y h).among, tt)

    commands_are_lawful : AllByRecursion HasLawfulChange (commands_in ttls history n)
    commands_are_lawful =
        let kept = kept_reports ttls n history in
        all_both HasLawfulChange (if_kept (newest kind.Facts xs)) _ (newest_is_lawful kind.Facts (newest kind.Facts xs) refl)
        (all_both HasLawfulChange (if_kept (newest kind.Catalog xs)) _ (newest_is_lawful kind.Catalog (newest kind.Catalog xs) refl)
        (all_both HasLawfulChange (if_kept (newest kind.Deactivate xs)) _ (newest_is_lawful kind.Deactivate (newest kind.Deactivate xs) refl)
        (all_both HasLawfulChange (if_kept (newest kind.Expiration xs)) (sorted_by by_rank kept) (newest_is_lawful kind.Expiration (newest kind.Expiration xs) refl)
        (All-from_Among HasLawfulChange (sorted_by by_rank kept) (λ x a. lawful x (kept_among_life ttls history n x (among-from_sorted_by by_rank x kept a)))))))

  marks_are_lawful : (ns : List (List ℕ)) → AllByRecursion HasMoment (map (mark_in ttls history) ns)
  marks_are_lawful [] = tt
  marks_are_lawful (n ∷ ns) = (activity_has_stamp (life ttls n history) (lawful n), marks_are_lawful ns)

  all_are_lawful : (ns : List (List ℕ)) → AllByRecursion HasLawfulChange (flat_map (commands_in ttls history) ns)
  all_are_lawful [] = tt
  all_are_lawful (n ∷ ns) = all_both HasLawfulChange (commands_in ttls history n) (flat_map (commands_in ttls history) ns) (commands_are_lawful n) (all_are_lawful ns)

  pub checkpoint_is_lawful : IsLawfulList (checkpoint ttls history)
  checkpoint_is_lawful = record {
    expire = expiry_has_stamp history is;
    retain = retention_has_stamp history is;
    marks = marks_are_lawful (nodes ttls history);
    changes = all_are_lawful (nodes ttls history);
  }

pub lists_lawfully : (list : StoreList) (table : Table) (history : Trace) → Stands table history → list ≡ checkpoint table.ttls history → IsLawfulList list
lists_lawfully list table history s e = subst IsLawfulList (sym e) (checkpoint_is_lawful table.ttls history s.0)
