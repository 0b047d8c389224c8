-- Commands that take receipts one after the other.
use Rattle.std.proofs.Common.{◌≡◌, ◌∙◌, inl, inr, ℕ, suc, ◌+◌, ◌<◌, ◌≤◌, ℤ, List, [], ◌∷◌, ◌++◌, length, map, arith, refl, sym, ap, Option, Some, None}
use Rattle.std.specs.List.Sorted.{IsStrictlySortedBy}
use Rattle.std.specs.Option.{option_map}
use Rattle.std.specs.declared.cmp.Ordering.{Ordering}
use Rattle.std.specs.List.{flat_map}
use Rattle.dump_spec.specs.fleet_rows.declared.applied.Applied.{Applied}
use Rattle.dump_spec.specs.fleet_rows.declared.change.Change.{Change}
use Rattle.dump_spec.specs.history_laws.NewestLaws.{IsBelow}
use Rattle.dump_spec.specs.history_spec.Trace.{applied_as, rank_of}
use Rattle.dump_spec.specs.checkpoint_spec.Lists.{by_rank}
use Rattle.dump_spec.specs.list_again.Told.{Told, if_there, all_told, change_in, changes_told, told_cmp}
use Rattle.dump_spec.specs.text_spec.Compact.{text_cmp}
use Rattle.dump_spec.proofs.of_plain_laws.Members.{Among}
use Rattle.dump_spec.proofs.of_plain_laws.StrictlySorted.{sorted-nil, sorted-cons, sorted-below, sorted-rest}
use Rattle.dump_spec.proofs.of_history_laws.RankWords.{below_in_words, below_from_words}
use Rattle.dump_laws.specs.Again.{numbered}

module _ (received : ℤ) where
  pub numbered_both : (receipt : ℕ) (cs ds : List Change) → numbered received receipt (cs ++ ds) ≡ numbered received receipt cs ++ numbered received (receipt + length cs) ds
  numbered_both receipt [] ds = ap (λ r. numbered received r ds) (plus_none receipt)
    where
      plus_none : (r : ℕ) → r ≡ r + 0
      plus_none r = omega arith
  numbered_both receipt (c ∷ cs) ds =
      ap (λ l. applied_as receipt (Some received) c ∷ l) (numbered_both (suc receipt) cs ds ∙ ap (λ r. numbered received (suc receipt) cs ++ numbered received r ds) (plus_one receipt (length cs)))
    where
      plus_one : (r n : ℕ) → suc r + n ≡ r + suc n
      plus_one r n = omega arith

  pub numbered_changes : (receipt : ℕ) (cs : List Change) → map change_in (numbered received receipt cs) ≡ cs
  numbered_changes receipt [] = refl
  numbered_changes receipt (c ∷ cs) = ap (λ l. c ∷ l) (numbered_changes (suc receipt) cs)

  -- ---- what is told of a node

  abbrev pub counted : Option Change → ℕ
  counted o = length (if_there o)

  abbrev pub one_numbered : ℕ → Option Change → Option Applied
  one_numbered receipt o = option_map (applied_as receipt (Some received)) o

  one_is : (receipt : ℕ) (o : Option Change) → if_there (one_numbered receipt o) ≡ numbered received receipt (if_there o)
  one_is receipt None = refl
  one_is receipt (Some c) = refl

  one_changes : (receipt : ℕ) (o : Option Change) → option_map change_in (one_numbered receipt o) ≡ o
  one_changes receipt None = refl
  one_changes receipt (Some c) = refl

  module _ (receipt : ℕ) (told : Told Change) where
    abbrev at_catalog : ℕ
    at_catalog = receipt + counted told.facts

    abbrev at_expiration : ℕ
    at_expiration = at_catalog + counted told.catalog

    abbrev at_deactivate : ℕ
    at_deactivate = at_expiration + counted told.expiration

    abbrev at_spare : ℕ
    at_spare = at_deactivate + counted told.deactivate

    abbrev pub at_reports : ℕ
    at_reports = at_spare + counted told.spare

    abbrev pub told_numbered : Told Applied
    told_numbered = record {
      certname = told.certname;
      facts = one_numbered receipt told.facts;
      catalog = one_numbered at_catalog told.catalog;
      expiration = one_numbered at_expiration told.expiration;
      deactivate = one_numbered at_deactivate told.deactivate;
      spare = one_numbered at_spare told.spare;
      reports = numbered received at_reports told.reports;
    }

    pub told_is_numbered : all_told told_numbered ≡ numbered received receipt (all_told told)
    told_is_numbered =
        (λ i. one_is receipt told.facts i ++ (one_is at_catalog told.catalog i ++ (one_is at_expiration told.expiration i ++ (one_is at_deactivate told.deactivate i ++ (one_is at_spare told.spare i ++ numbered received at_reports told.reports)))))
        ∙ sym (numbered_both receipt (if_there told.facts) _
        ∙ ap (λ l. numbered received receipt (if_there told.facts) ++ l) (numbered_both at_catalog (if_there told.catalog) _
        ∙ ap (λ l. numbered received at_catalog (if_there told.catalog) ++ l) (numbered_both at_expiration (if_there told.expiration) _
        ∙ ap (λ l. numbered received at_expiration (if_there told.expiration) ++ l) (numbered_both at_deactivate (if_there told.deactivate) _
        ∙ ap (λ l. numbered received at_deactivate (if_there told.deactivate) ++ l) (numbered_both at_spare (if_there told.spare) told.reports)))))

    pub told_has_changes : changes_told told_numbered ≡ told
    told_has_changes = λ i. record {
      certname = told.certname;
      facts = one_changes receipt told.facts i;
      catalog = one_changes at_catalog told.catalog i;
      expiration = one_changes at_expiration told.expiration i;
      deactivate = one_changes at_deactivate told.deactivate i;
      spare = one_changes at_spare told.spare i;
      reports = numbered_changes at_reports told.reports i;
    }

  -- ---- what is told of many nodes

  abbrev pub all_numbered : ℕ → List (Told Change) → List (Told Applied)
  all_numbered receipt [] = []
  all_numbered receipt (t ∷ ts) = told_numbered receipt t ∷ all_numbered (receipt + length (all_told t)) ts

  pub all_are_numbered : (receipt : ℕ) (ts : List (Told Change)) → flat_map all_told (all_numbered receipt ts) ≡ numbered received receipt (flat_map all_told ts)
  all_are_numbered receipt [] = refl
  all_are_numbered receipt (t ∷ ts) =
      (λ i. told_is_numbered receipt t i ++ all_are_numbered (receipt + length (all_told t)) ts i)
      ∙ sym (numbered_both receipt (all_told t) (flat_map all_told ts))

  pub among_numbered : (receipt : ℕ) (ts : List (Told Change)) (told : Told Applied) → Among told (all_numbered receipt ts) → (t : Told Change) × Among t ts × (changes_told told ≡ t)
  among_numbered receipt [] told a = absurd a
  among_numbered receipt (t ∷ ts) told (inl e) = (t, inl refl, ap changes_told e ∙ told_has_changes receipt t)
  among_numbered receipt (t ∷ ts) told (inr a) = let rest = among_numbered (receipt + length (all_told t)) ts told a in (rest.0, inr rest.1, rest.2)

  abbrev pub change_told_cmp : Told Change → Told Change → Ordering
  change_told_cmp a b = text_cmp a.certname b.certname

  pub numbered_rise : (receipt : ℕ) (ts : List (Told Change)) → IsStrictlySortedBy change_told_cmp ts → IsStrictlySortedBy told_cmp (all_numbered receipt ts)
  numbered_rise receipt [] s = sorted-nil told_cmp
  numbered_rise receipt (t ∷ ts) s =
      sorted-cons told_cmp (told_numbered receipt t) (all_numbered (receipt + length (all_told t)) ts)
      (λ told a.
      let of = among_numbered (receipt + length (all_told t)) ts told a in
      ap (λ (u : Told Change). text_cmp t.certname u.certname) of.2 ∙ sorted-below change_told_cmp t ts s of.0 of.1)
      (numbered_rise (receipt + length (all_told t)) ts (sorted-rest change_told_cmp t ts s))

  -- ---- reports by rank

  record ComesFrom (receipt : ℕ) (xs : List Applied) (w : Applied) : Type 0 where
    from : Applied
    among : Among from xs
    number : ℕ
    least : receipt ≤ number
    is : w ≡ applied_as number (Some received) from.change

  comes_from : (receipt : ℕ) (xs : List Applied) (w : Applied) → Among w (numbered received receipt (map change_in xs)) → ComesFrom receipt xs w
  comes_from receipt [] w a = absurd a
  comes_from receipt (x ∷ xs) w (inl e) = record { from = x; among = inl refl; number = receipt; least = omega arith; is = e }
  comes_from receipt (x ∷ xs) w (inr a) =
      let rest = comes_from (suc receipt) xs w a in
      record { from = rest.from; among = inr rest.among; number = rest.number; least = (let more = rest.least in omega (arith, more)); is = rest.is }

  still_below : (x y : Applied) (m n : ℕ) → m < n → IsBelow (rank_of x) (rank_of y) → IsBelow (rank_of (applied_as m (Some received) x.change)) (rank_of (applied_as n (Some received) y.change))
  still_below x y m n less (inl h) = inl h
  still_below x y m n less (inr h) = inr (h.0, less)

  -- changes that stand by rank stand by rank under new receipts
  pub ranks_rise : (receipt : ℕ) (xs : List Applied) → IsStrictlySortedBy by_rank xs → IsStrictlySortedBy by_rank (numbered received receipt (map change_in xs))
  ranks_rise receipt [] s = sorted-nil by_rank
  ranks_rise receipt (x ∷ xs) s =
      sorted-cons by_rank (applied_as receipt (Some received) x.change) (numbered received (suc receipt) (map change_in xs))
      (λ w a.
      let of = comes_from (suc receipt) xs w a in
      let below = below_in_words (rank_of x) (rank_of of.from) (sorted-below by_rank x xs s of.from of.among) in
      let least = of.least in
      ap (by_rank (applied_as receipt (Some received) x.change)) of.is
      ∙ below_from_words (rank_of (applied_as receipt (Some received) x.change)) (rank_of (applied_as of.number (Some received) of.from.change)) (still_below x of.from receipt of.number (omega (arith, least)) below))
      (ranks_rise (suc receipt) xs (sorted-rest by_rank x xs s))
