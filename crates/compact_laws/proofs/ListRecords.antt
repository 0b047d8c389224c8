-- The records of a history's checkpoint, as a list, are those of the store's checkpoint.
use Rattle.std.proofs.Common.{◌≡◌, ◌∙◌, inl, inr, ℕ, List, [], ◌∷◌, ◌++◌, map, refl, sym, ap, Bool, true, false, if◌then◌else◌, Option, Some, None}
use Rattle.std.specs.List.{flat_map}
use Rattle.std.specs.List.Sorted.{IsStrictlySortedBy}
use Rattle.std.specs.Str.{bytes_eq}
use Rattle.std.specs.declared.cmp.Ordering.TheVariants.{Less, Equal}
use Rattle.std.proofs.lemmas.Cmp.{tied_itself}
use Rattle.std.proofs.lemmas.Slice.Eq.{bytes_eq-Decides}
use Rattle.core_laws.proofs.of_checkpoint_spec.of_plain_laws.Members.{Among, Among-from_flat_map}
use Rattle.core_laws.proofs.of_checkpoint_spec.of_plain_laws.StrictlySorted.{sorted-below, sorted-rest}
use Rattle.core_laws.specs.checkpoint_spec.text_spec.Compact.{text_cmp}
use Rattle.core_laws.specs.checkpoint_spec.fleet_rows.Change.{change_certname}
use Rattle.core_laws.specs.checkpoint_spec.fleet_rows.declared.applied.Applied.{Applied}
use Rattle.core_laws.specs.checkpoint_spec.fleet_rows.declared.command.Kind.TheVariants as kind
use Rattle.core_laws.specs.checkpoint_spec.fleet_rows.declared.settings.Ttls.{Ttls}
use Rattle.core_laws.specs.checkpoint_spec.history_spec.Life.{life, nodes, kept_reports, greatest_expiry, greatest_retention}
use Rattle.core_laws.specs.checkpoint_spec.history_spec.Node.{newest}
use Rattle.core_laws.specs.checkpoint_spec.history_spec.Trace.{Trace, IsTrace}
use Rattle.core_laws.specs.checkpoint_spec.table_spec.Sorted.{sorted_by}
use Rattle.core_laws.proofs.of_checkpoint_spec.of_history_laws.SortedTexts.{text_cmp_total}
use Rattle.core_laws.proofs.of_checkpoint_spec.of_history_laws.TraceLemmas.{nodes_are_strictly_sorted}
use Rattle.core_laws.specs.checkpoint_spec.Histories.{mark_in, commands_in}
use Rattle.core_laws.specs.checkpoint_spec.Lists as lists
use Rattle.core_laws.proofs.of_checkpoint_spec.NodesAgain.{of_kept}
use Rattle.core_laws.specs.core_machine.record_spec.declared.store.StoreRecord.{StoreRecord}
use Rattle.core_laws.specs.core_machine.record_spec.declared.store.StoreRecord.TheVariants as store
use Rattle.core_laws.specs.core_machine.core_spec.Checkpoints.{settings, received, if_kept, node_records}
use Rattle.compact_laws.specs.Laws.{ListsAreWrittenAsTheCheckpoint}
use Rattle.compact_laws.specs.Records.{own, others, each_node}

-- ---- the commands of one node, in front of others

module _ (n : List ℕ) where
  abbrev IsOwn : Applied → Type 0
  IsOwn x = n ≡ change_certname x.change

  is_own : (x : Applied) → IsOwn x → bytes_eq n (change_certname x.change) ≡ true
  is_own x e = (bytes_eq-Decides n (change_certname x.change)).1 e

  is_other : (b : Bool) (x : Applied) → bytes_eq n (change_certname x.change) ≡ b → (IsOwn x → ⊥) → b ≡ false
  is_other true x e apart = absurd (apart ((bytes_eq-Decides n (change_certname x.change)).0 e))
  is_other false x e apart = refl

  none_own : (xs : List Applied) → ((x : Applied) → Among x xs → IsOwn x → ⊥) → own n xs ≡ []
  none_own [] h = refl
  none_own (x ∷ xs) h = ap (λ b. if b then x ∷ own n xs else []) (is_other (bytes_eq n (change_certname x.change)) x refl (h x (inl refl)))

  all_others : (xs : List Applied) → ((x : Applied) → Among x xs → IsOwn x → ⊥) → others n xs ≡ xs
  all_others [] h = refl
  all_others (x ∷ xs) h = ap (λ b. if b then others n xs else x ∷ xs) (is_other (bytes_eq n (change_certname x.change)) x refl (h x (inl refl)))

  own_front : (xs rest : List Applied) → ((x : Applied) → Among x xs → IsOwn x) → ((x : Applied) → Among x rest → IsOwn x → ⊥) → own n (xs ++ rest) ≡ xs
  own_front [] rest h g = none_own rest g
  own_front (x ∷ xs) rest h g =
      ap (λ b. if b then x ∷ own n (xs ++ rest) else []) (is_own x (h x (inl refl))) ∙ ap (λ l. x ∷ l) (own_front xs rest (λ y a. h y (inr a)) g)

  others_behind : (xs rest : List Applied) → ((x : Applied) → Among x xs → IsOwn x) → ((x : Applied) → Among x rest → IsOwn x → ⊥) → others n (xs ++ rest) ≡ rest
  others_behind [] rest h g = all_others rest g
  others_behind (x ∷ xs) rest h g =
      ap (λ b. if b then others n (xs ++ rest) else x ∷ (xs ++ rest)) (is_own x (h x (inl refl))) ∙ others_behind xs rest (λ y a. h y (inr a)) g

-- ---- the records of one node

if_kept_is : (o : Option Applied) → if_kept o ≡ map received (lists.if_kept o)
if_kept_is None = refl
if_kept_is (Some x) = refl

map_both : (ys zs : List Applied) → map received (ys ++ zs) ≡ map received ys ++ map received zs
map_both [] zs = refl
map_both (y ∷ ys) zs = ap (λ rs. received y ∷ rs) (map_both ys zs)

part_is : (o : Option Applied) (zs : List Applied) (rest : List StoreRecord) → rest ≡ map received zs → if_kept o ++ rest ≡ map received (lists.if_kept o ++ zs)
part_is o zs rest e = (λ i. if_kept_is o i ++ e i) ∙ sym (map_both (lists.if_kept o) zs)

module _ (ttls : Ttls) (trace : Trace) where
  records_are : (n : List ℕ) → node_records ttls trace n ≡ store.Marks (mark_in ttls trace n) ∷ map received (commands_in ttls trace n)
  records_are n =
      let xs = life ttls n trace in
      let reports = sorted_by lists.by_rank (kept_reports ttls n trace) in
      let d = newest kind.Deactivate xs in
      let e = newest kind.Expiration xs in
      ap (λ rs. store.Marks (mark_in ttls trace n) ∷ rs)
      (part_is (newest kind.Facts xs) (lists.if_kept (newest kind.Catalog xs) ++ (lists.if_kept d ++ (lists.if_kept e ++ reports))) _
      (part_is (newest kind.Catalog xs) (lists.if_kept d ++ (lists.if_kept e ++ reports)) _
      (part_is d (lists.if_kept e ++ reports) _
      (part_is e reports _ refl))))

  module _ (is : IsTrace trace) where
    -- a command of a later node is no command of this one
    apart : (n : List ℕ) (ns : List (List ℕ)) → IsStrictlySortedBy text_cmp (n ∷ ns) → (x : Applied) → Among x (flat_map (commands_in ttls trace) ns) → n ≡ change_certname x.change → ⊥
    apart n ns s x a own_too =
        let from = Among-from_flat_map (commands_in ttls trace) ns x a in
        let m = from.0 in
        let same : m ≡ n = of_kept ttls trace is m x from.2 ∙ sym own_too in
        let below : text_cmp n m ≡ Less = sorted-below text_cmp n ns s m from.1 in
        let tied : text_cmp n m ≡ Equal = ap (text_cmp n) same ∙ tied_itself text_cmp_total n in
        let clash : Less ≡ Equal = sym below ∙ tied in
        cc

    each_are : (ns : List (List ℕ)) → IsStrictlySortedBy text_cmp ns → each_node (map (mark_in ttls trace) ns) (flat_map (commands_in ttls trace) ns) ≡ flat_map (node_records ttls trace) ns
    each_are [] s = refl
    each_are (n ∷ ns) s =
        let xs = commands_in ttls trace n in
        let rest = flat_map (commands_in ttls trace) ns in
        let front = own_front n xs rest (of_kept ttls trace is n) (apart n ns s) in
        let behind = others_behind n xs rest (of_kept ttls trace is n) (apart n ns s) in
        let first : store.Marks (mark_in ttls trace n) ∷ map received (own n (xs ++ rest)) ≡ node_records ttls trace n =
        ap (λ l. store.Marks (mark_in ttls trace n) ∷ map received l) front ∙ sym (records_are n) in
        let later : each_node (map (mark_in ttls trace) ns) (others n (xs ++ rest)) ≡ flat_map (node_records ttls trace) ns =
        ap (each_node (map (mark_in ttls trace) ns)) behind ∙ each_are ns (sorted-rest text_cmp n ns s) in
        λ i. first i ++ later i

pub lists_are_written_as_the_checkpoint : ListsAreWrittenAsTheCheckpoint
lists_are_written_as_the_checkpoint ttls taken trace is =
    let each = each_are ttls trace is (nodes ttls trace) (nodes_are_strictly_sorted ttls trace) in
    ap (λ rs. settings ttls ∷ store.Base (greatest_expiry trace) (greatest_retention trace) taken ∷ rs) each
