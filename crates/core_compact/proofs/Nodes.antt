-- The commands of a node taken from the front, one after the other.
use Rattle.std.proofs.Common.{◌≡◌, ◌∙◌, ℕ, ◌+◌, ◌<◌, List, [], ◌∷◌, ◌++◌, length, map, drop, refl, sym, ap, subst, append_assoc, arith, Bool, true, false, if◌then◌else◌, Some, None}
use Rattle.std.specs.Prelude.{slice_index_or}
use Rattle.std.specs.List.{AllByRecursion}
use Rattle.std.specs.Str.{bytes_eq}
use Rattle.core_state.specs.fleet_rows.Change.{change_certname}
use Rattle.core_state.specs.fleet_rows.declared.applied.Applied.{Applied}
use Rattle.core_state.specs.fleet_rows.declared.store.Mark.{Mark}
use Rattle.core_state.specs.record_spec.declared.store.StoreRecord.{StoreRecord}
use Rattle.core_state.specs.record_spec.declared.store.StoreRecord.TheVariants as store
use Rattle.core_state.specs.record_spec.Store.{IsStoreRecord}
use Rattle.core_state.specs.core_spec.Checkpoints.{received}
use Rattle.core_state.specs.compact_laws.Lawful.{IsLawfulCommand}
use Rattle.core_state.specs.compact_laws.Records.{own, others, each_node}
use Rattle.core_compact.specs.Taken.{is_own_next, IsTaken}

-- ---- one is taken, or none

none_own : (n : List ℕ) (xs : List Applied) → is_own_next n xs ≡ false → (own n xs ≡ []) × (others n xs ≡ xs)
none_own n [] other = (refl, refl)
none_own n (x ∷ xs) other = (ap (λ b. if b then x ∷ own n xs else []) other, ap (λ b. if b then others n xs else x ∷ xs) other)

pub none_taken : (n : List ℕ) (old new : List Applied) (b : Bool) → b ≡ is_own_next n old → b ≡ false → new ≡ old → IsTaken n old new None
none_taken n old new b is other same = let none = none_own n old (sym is ∙ other) in (same, none.0, none.1)

first_taken : (n : List ℕ) (old new : List Applied) (x : Applied) → is_own_next n old ≡ true → x ≡ slice_index_or old 0 x → new ≡ drop 1 old → IsTaken n old new (Some x)
first_taken n [] new x own_is is rest = absurd (let apart : false ≡ true = own_is in cc)
first_taken n (y ∷ ys) new x own_is is rest =
    let same : x ≡ y = is in
    (ap (λ (z : Applied). bytes_eq n (change_certname z.change)) same ∙ own_is, λ i. sym same i ∷ sym rest i)

pub one_taken : (n : List ℕ) (old new : List Applied) (b : Bool) (x : Applied) → b ≡ is_own_next n old → b ≡ true → x ≡ slice_index_or old 0 x → new ≡ drop 1 old → IsTaken n old new (Some x)
one_taken n old new b x is own_is at rest = first_taken n old new x (sym is ∙ own_is) at rest

-- where a command of the node stands there, one is found
pub some_there : (n : List ℕ) (old : List Applied) (b : Bool) → b ≡ is_own_next n old → b ≡ true → 0 < length old
some_there n [] b is own_is = absurd (let apart : false ≡ true = sym is ∙ own_is in cc)
some_there n (x ∷ xs) b is own_is = omega arith

-- ---- records so far, and those of the rest

-- what holds of the records so far and the commands that are left
pub record IsUnder (n : List ℕ) (from : List StoreRecord) (all : List Applied) (so_far : List StoreRecord) (left : List Applied) : Type 0 where
  pub records : so_far ++ map received (own n left) ≡ from ++ map received (own n all)
  pub others_are : others n left ≡ others n all
  pub lawful : AllByRecursion IsLawfulCommand left
  pub fits : AllByRecursion IsStoreRecord so_far

pub under_none : (n : List ℕ) (from : List StoreRecord) (all : List Applied) → AllByRecursion IsLawfulCommand all → AllByRecursion IsStoreRecord from → IsUnder n from all from all
under_none n from all lawful fits = record { records = refl; others_are = refl; lawful = lawful; fits = fits }

pub one_fits : (xs : List StoreRecord) (x : StoreRecord) → AllByRecursion IsStoreRecord xs → IsStoreRecord x → AllByRecursion IsStoreRecord (xs ++ x ∷ [])
one_fits [] x h k = (k, tt)
one_fits (y ∷ xs) x h k = (h.0, one_fits xs x h.1 k)

pub under_more : (n : List ℕ) (from : List StoreRecord) (all : List Applied) (so_far : List StoreRecord) (old new : List Applied) (x : Applied) (rec : StoreRecord) → IsUnder n from all so_far old → IsTaken n old new (Some x)
    → rec ≡ received x → IsStoreRecord rec → IsUnder n from all (so_far ++ rec ∷ []) new
under_more n from all so_far old new x rec under taken is fits =
    let own_is : own n old ≡ x ∷ own n new = ap (own n) taken.1 ∙ ap (λ b. if b then x ∷ own n new else []) taken.0 in
    let others_is : others n old ≡ others n new = ap (others n) taken.1 ∙ ap (λ b. if b then others n new else x ∷ new) taken.0 in
    let lawful : AllByRecursion IsLawfulCommand (x ∷ new) = subst (AllByRecursion IsLawfulCommand) taken.1 under.lawful in
    record {
      records = append_assoc so_far (rec ∷ []) (map received (own n new)) ∙ (λ i. so_far ++ (is i ∷ map received (own n new))) ∙ ap (λ (l : List Applied). so_far ++ map received l) (sym own_is) ∙ under.records;
      others_are = sym others_is ∙ under.others_are;
      lawful = lawful.1;
      fits = one_fits so_far rec under.fits fits;
    }

-- the command that was taken is lawful
pub taken_lawful : (n : List ℕ) (old new : List Applied) (x : Applied) → AllByRecursion IsLawfulCommand old → IsTaken n old new (Some x) → IsLawfulCommand x
taken_lawful n old new x lawful taken = (subst (AllByRecursion IsLawfulCommand) taken.1 lawful).0

pub fewer_left : (n : List ℕ) (old new : List Applied) (x : Applied) → IsTaken n old new (Some x) → length new < length old
fewer_left n old new x taken = let longer = ap length taken.1 in omega (arith, longer)

-- none is left of the node
pub record IsPast (n : List ℕ) (from : List StoreRecord) (all : List Applied) (so_far : List StoreRecord) (left : List Applied) : Type 0 where
  pub records : so_far ≡ from ++ map received (own n all)
  pub others_are : left ≡ others n all
  pub lawful : AllByRecursion IsLawfulCommand left
  pub fits : AllByRecursion IsStoreRecord so_far

pub under_all : (n : List ℕ) (from : List StoreRecord) (all : List Applied) (so_far : List StoreRecord) (old new : List Applied) → IsUnder n from all so_far old → IsTaken n old new None → IsPast n from all so_far new
under_all n from all so_far old new under taken = record {
  records = sym (at_nil so_far) ∙ ap (λ (l : List Applied). so_far ++ map received l) (sym taken.1) ∙ under.records;
  others_are = taken.0 ∙ sym taken.2 ∙ under.others_are;
  lawful = subst (AllByRecursion IsLawfulCommand) (sym taken.0) under.lawful;
  fits = under.fits;
}
  where
    at_nil : (xs : List StoreRecord) → xs ++ [] ≡ xs
    at_nil [] = refl
    at_nil (x ∷ xs) = ap (λ l. x ∷ l) (at_nil xs)

-- ---- one node more

pub node_more : (marks : List Mark) (mark : Mark) (rest : List Mark) (so_far records : List StoreRecord) (old new : List Applied) (whole : List StoreRecord) → marks ≡ mark ∷ rest → so_far ++ each_node marks old ≡ whole
    → records ≡ (so_far ++ store.Marks mark ∷ []) ++ map received (own mark.certname old) → new ≡ others mark.certname old → records ++ each_node rest new ≡ whole
node_more marks mark rest so_far records old new whole is before grown left =
    let mine = map received (own mark.certname old) in
    let later = each_node rest (others mark.certname old) in
    (λ i. grown i ++ each_node rest (left i))
    ∙ append_assoc (so_far ++ store.Marks mark ∷ []) mine later
    ∙ append_assoc so_far (store.Marks mark ∷ []) (mine ++ later)
    ∙ ap (λ (l : List Mark). so_far ++ each_node l old) (sym is)
    ∙ before
