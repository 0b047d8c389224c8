-- The newest command of a kind is one of the greatest rank.
use Rattle.std.proofs.Common.{◌≡◌, ◌≢◌, List, [], ◌∷◌, refl, ap, subst, Bool, true, false, Option, Some, None, if◌then◌else◌, inl, inr}
use Rattle.std.specs.Ordering.{is_lt}
use Rattle.spool_spec.specs.fleet_rows.Rank.{rank_cmp}
use Rattle.spool_spec.specs.fleet_rows.declared.command.Kind.{Kind}
use Rattle.spool_spec.specs.fleet_rows.Change.{change_kind}
use Rattle.spool_spec.specs.fleet_rows.declared.applied.Applied.{Applied}
use Rattle.spool_spec.specs.history_spec.Trace.{is_kind, rank_of}
use Rattle.spool_spec.specs.history_spec.Node.{newest, greater}
use Rattle.history_laws.specs.NewestLaws.{TheNewestIsNotOutranked, NoneIsNewestWhereNoneIsOfTheKind}
use Rattle.history_laws.proofs.Members.{Among, Among-from_Contains, Contains-from_Among}
use Rattle.history_laws.proofs.RankWords.{not_lt_in_words}
use Rattle.history_laws.proofs.Ranks.{kind_from_is_kind, is_kind_from_kind, not_below_itself, not_below_back, not_below_further}

some_kind : (k : Kind) (x : Applied) (xs : List Applied) (b : Bool) (o : Option Applied) → is_kind k x ≡ b → (if b then greater x o else o) ≡ None → (b ≡ false) × (o ≡ None)
some_kind k x xs true None e h = absurd (let none : ◌≡◌ {A = Option Applied} (Some x) None = h in cc)
some_kind k x xs true (Some y) e h = absurd (let none : ◌≡◌ {A = Option Applied} (Some _) None = h in cc)
some_kind k x xs false o e h = (refl, h)

-- where none is the newest, none is of the kind
pub none_of_kind : (k : Kind) (xs : List Applied) → newest k xs ≡ None → (y : Applied) → Among y xs → is_kind k y ≡ false
none_of_kind k [] h y a = absurd a
none_of_kind k (x ∷ xs) h y (inl e) = rw e (some_kind k x xs (is_kind k x) (newest k xs) refl h).0
none_of_kind k (x ∷ xs) h y (inr a) = none_of_kind k xs (some_kind k x xs (is_kind k x) (newest k xs) refl h).1 y a

pub newest_none : (k : Kind) (xs : List Applied) → ((y : Applied) → Among y xs → is_kind k y ≡ false) → newest k xs ≡ None
newest_none k [] h = refl
newest_none k (x ∷ xs) h = rw (h x (inl refl)) (newest_none k xs (λ y a. h y (inr a)))

pub record IsGreatest (k : Kind) (xs : List Applied) (x : Applied) : Type 0 where
  pub among : Among x xs
  pub kind : is_kind k x ≡ true
  pub greatest : (y : Applied) → Among y xs → is_kind k y ≡ true → is_lt (rank_cmp (rank_of x) (rank_of y)) ≡ false

different : (k : Kind) (y z : Applied) {A : Type 0} → y ≡ z → is_kind k z ≡ false → is_kind k y ≡ true → A
different k y z e f g = absurd (let same : is_kind k y ≡ is_kind k z = ap (is_kind k) e in cc)

module _ (k : Kind) (z : Applied) (zs : List Applied) where
  passed_by : (x : Applied) → is_kind k z ≡ false → IsGreatest k zs x → IsGreatest k (z ∷ zs) x
  passed_by x e h = record {
    among = inr h.among;
    kind = h.kind;
    greatest = λ y a of_kind. elim a [ inl same ↦ different k y z same e of_kind | inr b ↦ h.greatest y b of_kind ];
  }

  first_of_kind : is_kind k z ≡ true → newest k zs ≡ None → IsGreatest k (z ∷ zs) z
  first_of_kind e none = record {
    among = inl refl;
    kind = e;
    greatest = λ y a of_kind. elim a [ inl same ↦ rw same (not_below_itself (rank_of z)) | inr b ↦ different k y y refl (none_of_kind k zs none y b) of_kind ];
  }

  stays : (w : Applied) → is_lt (rank_cmp (rank_of z) (rank_of w)) ≡ true → IsGreatest k zs w → IsGreatest k (z ∷ zs) w
  stays w below h = record {
    among = inr h.among;
    kind = h.kind;
    greatest = λ y a of_kind. elim a [ inl same ↦ rw same (not_below_back (rank_of z) (rank_of w) below) | inr b ↦ h.greatest y b of_kind ];
  }

  takes_over : (w : Applied) → is_kind k z ≡ true → is_lt (rank_cmp (rank_of z) (rank_of w)) ≡ false → IsGreatest k zs w → IsGreatest k (z ∷ zs) z
  takes_over w e above h = record {
    among = inl refl;
    kind = e;
    greatest = λ y a of_kind. elim a [
      | inl same ↦ rw same (not_below_itself (rank_of z))
      | inr b ↦ not_below_further (rank_of z) (rank_of w) (rank_of y) above (h.greatest y b of_kind)
    ];
  }

  one_more : (b c : Bool) (w x : Applied) → is_kind k z ≡ true → is_lt (rank_cmp (rank_of z) (rank_of w)) ≡ c → IsGreatest k zs w → Some (if c then w else z) ≡ Some x → IsGreatest k (z ∷ zs) x
  one_more b true w x e f h g = let same : w ≡ x = cc in subst (IsGreatest k (z ∷ zs)) same (stays w f h)
  one_more b false w x e f h g = let same : z ≡ x = cc in subst (IsGreatest k (z ∷ zs)) same (takes_over w e f h)

  step : (b : Bool) (o : Option Applied) (x : Applied) → is_kind k z ≡ b → newest k zs ≡ o → ((w : Applied) → o ≡ Some w → IsGreatest k zs w) → (if b then greater z o else o) ≡ Some x → IsGreatest k (z ∷ zs) x
  step false o x e f h g = passed_by x e (h x g)
  step true None x e f h g = let same : z ≡ x = cc in subst (IsGreatest k (z ∷ zs)) same (first_of_kind e f)
  step true (Some w) x e f h g = one_more true (is_lt (rank_cmp (rank_of z) (rank_of w))) w x e refl (h w refl) g

pub newest_is_greatest : (k : Kind) (xs : List Applied) (x : Applied) → newest k xs ≡ Some x → IsGreatest k xs x
newest_is_greatest k [] x h = absurd (let none : ◌≡◌ {A = Option Applied} None (Some x) = h in cc)
newest_is_greatest k (z ∷ zs) x h = step k z zs (is_kind k z) (newest k zs) x refl refl (newest_is_greatest k zs) h

pub the_newest_is_not_outranked : TheNewestIsNotOutranked
the_newest_is_not_outranked k xs x h =
    let g = newest_is_greatest k xs x h in
    record {
      member = Contains-from_Among xs x g.among;
      kind = kind_from_is_kind k x g.kind;
      not_outranked = λ y a of_kind. not_lt_in_words (rank_of x) (rank_of y) (g.greatest y (Among-from_Contains xs y a) (is_kind_from_kind k y of_kind));
    }

other_kind : (k : Kind) (x : Applied) (b : Bool) → is_kind k x ≡ b → change_kind x.change ≢ k → b ≡ false
other_kind k x true e h = absurd (h (kind_from_is_kind k x e))
other_kind k x false e h = refl

pub none_is_newest_where_none_is_of_the_kind : NoneIsNewestWhereNoneIsOfTheKind
none_is_newest_where_none_is_of_the_kind k xs = (
  λ none x a of_kind. different k x x {A = ⊥} refl (none_of_kind k xs none x (Among-from_Contains xs x a)) (is_kind_from_kind k x of_kind),
  λ none. newest_none k xs (λ x a. other_kind k x (is_kind k x) refl (none x (Contains-from_Among xs x a))),
)
