-- How the logic encodes a query. No meaning depends on this file.
use Rattle.std.specs.Prelude.{◌≡◌, ℕ, List, [], Bool, Option, None, refl}
use Rattle.std.specs.Coded.{Coded, code_by}
use Rattle.std.proofs.Common.{ap}
use base.Stored.{Gv, gnil, gcons}
use Rattle.query_spec.specs.Query.{Filter, compare, matches, is_null, in_list, in_level, subquery, negation, all_of, any_of, Filters, no_filters, filter, Clause, no_clause, clause, Level, level}
use Rattle.query_spec.specs.declared.parts.Field.{Field}
use Rattle.query_spec.specs.declared.parts.Literal.{Literal}
use Rattle.query_spec.specs.declared.parts.Name.{Name}
use Rattle.query_spec.specs.declared.parts.Op.{Op}
use Rattle.query_spec.specs.declared.parts.Paging.{Paging}
use Rattle.query_spec.specs.declared.parts.Pattern.{Pattern}
use Rattle.query_spec.specs.declared.parts.Selected.{Selected}
use Rattle.query_spec.specs.Parts.{name, unpaged}

-- a filter's own content, without its inner filters
pub data Label : Type 0 where
  compares : Op → Field → Literal → Label
  matching : Field → Pattern → Label
  null_test : Field → Bool → Label
  list : List Field → List ℕ → List Literal → Label
  inner : List Field → List ℕ → Name → Option (List Selected) → List Name → Paging → Label
  selects : Name → Label
  negates : Label
  all : Label
  any : Label

mutual
  pub data Rose : Type 0 where
    rose : Label → Roses → Rose

  pub data Roses : Type 0 where
    none : Roses
    some : Rose → Roses → Roses

module _ (c : Coded Label) where
  abbrev mutual
    pub rose_code : Rose → Gv
    rose_code (rose l rs) = gcons (c.code l) (roses_code rs)

    pub roses_code : Roses → Gv
    roses_code none = gnil
    roses_code (some r rs) = gcons (rose_code r) (roses_code rs)

  abbrev head : Gv → Gv
  head (gcons a b) = a
  head _ = gnil

  abbrev tail : Gv → Gv
  tail (gcons a b) = b
  tail _ = gnil

  mutual
    pub rose_inj : (r s : Rose) → rose_code r ≡ rose_code s → r ≡ s
    rose_inj (rose l rs) (rose m ss) p = λ i. rose (c.inj l m (ap head p) i) (roses_inj rs ss (ap tail p) i)

    pub roses_inj : (rs ss : Roses) → roses_code rs ≡ roses_code ss → rs ≡ ss
    roses_inj none none p = refl
    roses_inj (some r rs) (some s ss) p = λ i. some (rose_inj r s (ap head p) i) (roses_inj rs ss (ap tail p) i)
    roses_inj none (some s ss) p = absurd (apart (rose_code s) (roses_code ss) p)
      where
        apart : (a b : Gv) → gnil ≡ gcons a b → ⊥
        apart a b h = cc
    roses_inj (some r rs) none p = absurd (apart (rose_code r) (roses_code rs) p)
      where
        apart : (a b : Gv) → gcons a b ≡ gnil → ⊥
        apart a b h = cc

  abbrev pub coded_rose : Coded Rose
  coded_rose = record { code = rose_code; inj = rose_inj }

-- ---- a filter encoded as a tree of labels, and back

abbrev mutual
  pub to : Filter → Rose
  to (compare op n l) = rose (compares op n l) none
  to (matches n l) = rose (matching n l) none
  to (is_null n b) = rose (null_test n b) none
  to (in_list cs p ls) = rose (list cs p ls) none
  to (in_level cs p q) = level_to cs p q
  to (subquery e k) = rose (selects e) (clause_to k)
  to (negation f) = rose negates (some (to f) none)
  to (all_of fs) = rose all (all_to fs)
  to (any_of fs) = rose any (all_to fs)

  pub all_to : Filters → Roses
  all_to no_filters = none
  all_to (filter f fs) = some (to f) (all_to fs)

  pub clause_to : Clause → Roses
  clause_to no_clause = none
  clause_to (clause f) = some (to f) none

  pub level_to : List Field → List ℕ → Level → Rose
  level_to cs p (level e s k g o) = rose (inner cs p e s g o) (clause_to k)

abbrev mutual
  pub from : Rose → Filter
  from (rose (compares op n l) rs) = compare op n l
  from (rose (matching n l) rs) = matches n l
  from (rose (null_test n b) rs) = is_null n b
  from (rose (list cs p ls) rs) = in_list cs p ls
  from (rose (inner cs p e s g o) rs) = in_level cs p (level e s (clause_from rs) g o)
  from (rose (selects e) rs) = subquery e (clause_from rs)
  from (rose negates rs) = negation (one_from rs)
  from (rose all rs) = all_of (all_from rs)
  from (rose any rs) = any_of (all_from rs)

  pub all_from : Roses → Filters
  all_from none = no_filters
  all_from (some r rs) = filter (from r) (all_from rs)

  pub clause_from : Roses → Clause
  clause_from none = no_clause
  clause_from (some r rs) = clause (from r)

  pub one_from : Roses → Filter
  one_from none = all_of no_filters
  one_from (some r rs) = from r

mutual
  pub back : (f : Filter) → from (to f) ≡ f
  back (compare op n l) = refl
  back (matches n l) = refl
  back (is_null n b) = refl
  back (in_list cs p ls) = refl
  back (in_level cs p q) = level_back cs p q
  back (subquery e k) = ap (subquery e) (clause_back k)
  back (negation f) = ap negation (back f)
  back (all_of fs) = ap all_of (all_back fs)
  back (any_of fs) = ap any_of (all_back fs)

  pub all_back : (fs : Filters) → all_from (all_to fs) ≡ fs
  all_back no_filters = refl
  all_back (filter f fs) = λ i. filter (back f i) (all_back fs i)

  pub clause_back : (k : Clause) → clause_from (clause_to k) ≡ k
  clause_back no_clause = refl
  clause_back (clause f) = ap clause (back f)

  pub level_back : (cs : List Field) (p : List ℕ) (q : Level) → from (level_to cs p q) ≡ in_level cs p q
  level_back cs p (level e s k g o) = ap (λ x. in_level cs p (level e s x g o)) (clause_back k)

abbrev pub coded_filter : Coded Label → Coded Filter
coded_filter c = code_by Rose (coded_rose c) to from back

abbrev filter_clause : Filter → Clause
filter_clause (subquery e k) = k
filter_clause _ = no_clause

abbrev pub coded_clause : Coded Label → Coded Clause
coded_clause c = code_by Filter (coded_filter c) (subquery (name [] [])) filter_clause (λ k. refl)

abbrev filter_level : Filter → Level
filter_level (in_level cs p q) = q
filter_level _ = level (name [] []) None no_clause [] unpaged

abbrev pub coded_level : Coded Label → Coded Level
coded_level c = code_by Filter (coded_filter c) (in_level [] []) filter_level (λ q. refl)
