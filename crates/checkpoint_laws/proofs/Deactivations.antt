-- The deactivation that a mark tells is among the commands of its node.
use Rattle.std.proofs.Common.{◌≡◌, ◌∙◌, inl, inr, ℕ, List, [], ◌∷◌, ◌++◌, refl, sym, ap, Bool, true, false, Option, Some, None, append-nil}
use Rattle.std.proofs.lemmas.List.Elements.{filter-append}
use Rattle.std.specs.List.{filter, flat_map}
use Rattle.std.specs.List.Sorted.{IsStrictlySortedBy}
use Rattle.std.specs.Str.{bytes_eq}
use Rattle.checkpoint_spec.proofs.of_plain_laws.Lists.{bytes_eq-itself, one_text}
use Rattle.checkpoint_spec.proofs.of_plain_laws.Members.{Among, All-from_Among, Among-append_cases, Among-from_map, Among-from_flat_map}
use Rattle.checkpoint_spec.proofs.of_plain_laws.StrictlySorted.{sorted-below, sorted-rest}
use Rattle.checkpoint_spec.specs.text_spec.Compact.{text_cmp}
use Rattle.checkpoint_spec.specs.fleet_rows.Change.{change_certname, change_kind}
use Rattle.checkpoint_spec.specs.fleet_rows.declared.applied.Applied.{Applied}
use Rattle.checkpoint_spec.specs.fleet_rows.declared.command.Kind.{Kind}
use Rattle.checkpoint_spec.specs.fleet_rows.declared.command.Kind.TheVariants as kind
use Rattle.checkpoint_spec.specs.fleet_rows.declared.settings.Ttls.{Ttls}
use Rattle.checkpoint_spec.specs.fleet_rows.declared.store.Mark.{Mark}
use Rattle.checkpoint_spec.specs.history_spec.Life.{life, nodes, kept_reports}
use Rattle.checkpoint_spec.specs.history_spec.Node.{newest, greatest_deactivation}
use Rattle.checkpoint_spec.specs.history_spec.Trace.{is_kind, Trace}
use Rattle.checkpoint_spec.specs.table_spec.Sorted.{sorted_by}
use Rattle.checkpoint_spec.proofs.of_history_laws.Filters.{filter-among, filter-all}
use Rattle.checkpoint_spec.proofs.of_history_laws.SortedTexts.{apart_texts}
use Rattle.checkpoint_spec.proofs.of_history_laws.TraceLemmas.{nodes_are_strictly_sorted}
use Rattle.checkpoint_spec.proofs.of_table_machine.NodeLaws.{stamp_of_newest_deactivation}
use Rattle.checkpoint_spec.specs.table_machine.Node.{stamp_of_newest}
use Rattle.checkpoint_spec.specs.Histories.{mark_in, commands_in, checkpoint}
use Rattle.checkpoint_spec.specs.Lists.{by_rank, if_kept}
use Rattle.checkpoint_laws.specs.Laws as laws
use Rattle.checkpoint_laws.specs.Order.{commands_with}
use Rattle.checkpoint_laws.proofs.NodeCommands.{newest_is, reports_are}

-- ---- of one node

none_is : (xs : List Applied) → ((x : Applied) → Among x xs → is_kind kind.Deactivate x ≡ false) → greatest_deactivation xs ≡ None
none_is [] h = refl
none_is (x ∷ xs) h = rw (h x (inl refl)) (none_is xs (λ y a. h y (inr a)))

-- a command of another kind says nothing
passed_over : (o : Option Applied) (zs : List Applied) → ((x : Applied) → Among x (if_kept o) → is_kind kind.Deactivate x ≡ false) → greatest_deactivation (if_kept o ++ zs) ≡ greatest_deactivation zs
passed_over None zs h = refl
passed_over (Some x) zs h = rw (h x (inl refl)) refl

-- and where nothing behind it is one, it is the deactivation's stamp
is_its_stamp : (o : Option Applied) (zs : List Applied) → ((x : Applied) → Among x (if_kept o) → is_kind kind.Deactivate x ≡ true) → greatest_deactivation zs ≡ None → greatest_deactivation (if_kept o ++ zs) ≡ stamp_of_newest o
is_its_stamp None zs h e = e
is_its_stamp (Some x) zs h e = rw (h x (inl refl), e) refl

module _ (ttls : Ttls) (history : Trace) (certname : List ℕ) where
  abbrev xs : List Applied
  xs = life ttls certname history

  other : (k : Kind) → ((x : Applied) → change_kind x.change ≡ k → is_kind kind.Deactivate x ≡ false) → (x : Applied) → Among x (if_kept (newest k xs)) → is_kind kind.Deactivate x ≡ false
  other k apart x a = apart x (newest_is ttls history certname k (newest k xs) refl x a).1

  of_listed : greatest_deactivation (commands_in ttls history certname) ≡ greatest_deactivation xs
  of_listed =
      passed_over (newest kind.Facts xs) _ (other kind.Facts (λ x k. rw k refl))
      ∙ passed_over (newest kind.Catalog xs) _ (other kind.Catalog (λ x k. rw k refl))
      ∙ is_its_stamp (newest kind.Deactivate xs) _ (λ x a. rw (newest_is ttls history certname kind.Deactivate (newest kind.Deactivate xs) refl x a).1 refl)
      (passed_over (newest kind.Expiration xs) _ (other kind.Expiration (λ x k. rw k refl))
      ∙ none_is (sorted_by by_rank (kept_reports ttls certname history)) (λ x a. rw (reports_are by_rank ttls history certname x a).1 refl))
      ∙ stamp_of_newest_deactivation xs

  pub named : (x : Applied) → Among x (commands_in ttls history certname) → change_certname x.change ≡ certname
  named =
      both (if_kept (newest kind.Facts xs)) _ (of_newest kind.Facts)
      (both (if_kept (newest kind.Catalog xs)) _ (of_newest kind.Catalog)
      (both (if_kept (newest kind.Deactivate xs)) _ (of_newest kind.Deactivate)
      (both (if_kept (newest kind.Expiration xs)) (sorted_by by_rank (kept_reports ttls certname history)) (of_newest kind.Expiration)
      (λ x a. (reports_are by_rank ttls history certname x a).0))))
    where
      both : (ys zs : List Applied) → ((x : Applied) → Among x ys → change_certname x.change ≡ certname) → ((x : Applied) → Among x zs → change_certname x.change ≡ certname) → (x : Applied) → Among x (ys ++ zs) → change_certname x.change ≡ certname
      both ys zs h g x a = elim (Among-append_cases ys zs x a) [ inl b ↦ h x b | inr b ↦ g x b ]

      of_newest : (k : Kind) (x : Applied) → Among x (if_kept (newest k xs)) → change_certname x.change ≡ certname
      of_newest k x a = (newest_is ttls history certname k (newest k xs) refl x a).0

-- ---- of many nodes

module _ (n : List ℕ) where
  abbrev is_of : Applied → Bool
  is_of x = bytes_eq n (change_certname x.change)

  none_left : (xs : List Applied) → filter (λ x. false) xs ≡ []
  none_left [] = refl
  none_left (x ∷ xs) = none_left xs

  no_other : (m : List ℕ) (b : Bool) → bytes_eq n m ≡ b → (n ≡ m → ⊥) → b ≡ false
  no_other m true e apart = absurd (apart (one_text n m e))
  no_other m false e apart = refl

  all_of : (xs : List Applied) → ((x : Applied) → Among x xs → change_certname x.change ≡ n) → filter is_of xs ≡ xs
  all_of xs h = filter-among is_of (λ x. true) xs (λ x a. ap (bytes_eq n) (h x a) ∙ bytes_eq-itself n) ∙ filter-all xs

  none_of : (xs : List Applied) → ((x : Applied) → Among x xs → n ≡ change_certname x.change → ⊥) → filter is_of xs ≡ []
  none_of xs h = filter-among is_of (λ x. false) xs (λ x a. no_other (change_certname x.change) (is_of x) refl (h x a)) ∙ none_left xs

-- of two texts one below the other they are two
module _ (f : List ℕ → List Applied) (of : (m : List ℕ) (x : Applied) → Among x (f m) → change_certname x.change ≡ m) (n : List ℕ) where
  no_block : (ms : List (List ℕ)) → ((m : List ℕ) → Among m ms → n ≡ m → ⊥) → filter (is_of n) (flat_map f ms) ≡ []
  no_block ms apart = none_of n (flat_map f ms) (λ x a same. let block = Among-from_flat_map f ms x a in apart block.0 block.1 (same ∙ of block.0 x block.2))

  one_block : (ms : List (List ℕ)) → IsStrictlySortedBy text_cmp ms → Among n ms → filter (is_of n) (flat_map f ms) ≡ f n
  one_block [] s a = absurd a
  one_block (m ∷ ms) s (inl same) =
      filter-append (is_of n) (f m) (flat_map f ms)
      ∙ (λ i. all_of n (f m) (λ x a. of m x a ∙ sym same) i ++ no_block ms (λ k a e. apart_texts m k (sorted-below text_cmp m ms s k a) (sym same ∙ e)) i)
      ∙ append-nil (f m) ∙ ap f (sym same)
  one_block (m ∷ ms) s (inr a) =
      filter-append (is_of n) (f m) (flat_map f ms)
      ∙ (λ i. none_of n (f m) (λ x b e. apart_texts m n (sorted-below text_cmp m ms s n a) (sym (e ∙ of m x b))) i ++ one_block ms (sorted-rest text_cmp m ms s) a i)

pub marks_tell_deactivations : laws.MarksTellDeactivations
marks_tell_deactivations ttls history =
    let ns = nodes ttls history in
    All-from_Among (λ (mark : Mark). mark.deactivated ≡ greatest_deactivation (commands_with mark.certname (checkpoint ttls history).applied)) (checkpoint ttls history).marks
    (λ mark a.
    let node = Among-from_map (mark_in ttls history) ns mark a in
    let own = one_block (commands_in ttls history) (named ttls history) node.0 ns (nodes_are_strictly_sorted ttls history) node.1 in
    rw (node.2, own) (sym (of_listed ttls history node.0)))
