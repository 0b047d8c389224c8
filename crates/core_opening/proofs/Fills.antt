-- The records that fill the tables.
use Rattle.std.proofs.Common.{◌≡◌, ◌∙◌, ℤ, List, [], ◌∷◌, ◌++◌, drop, reverse, arith, refl, sym, ap, subst, append_assoc, Option, Some, None}
use Rattle.std.specs.Prelude.{slice_index_or, IfSome}
use Rattle.std.proofs.lemmas.List.{append-nil, reverse-append}
use Rattle.ttl_sweeps.specs.history_spec.Lawful.{IfMoment}
use Rattle.ttl_sweeps.specs.table_machine.stamp_time.Range.{IsStampMoment}
use Rattle.ttl_sweeps.proofs.of_stamp_time.RangeLaws.{stamp_in_range}
use Rattle.core_state.specs.record_spec.declared.store.StoreRecord.{StoreRecord}
use Rattle.core_state.specs.record_spec.declared.store.StoreRecord.TheVariants as store
use Rattle.core_state.specs.core_spec.Damage.{MayKeep, AreKept, IsStoreLog}
use Rattle.core_opening.specs.Filled.{IsHead}

-- a moment that a stamp names is in its range
pub moment_named : (m : Option ℤ) → IfMoment m → IfSome m IsStampMoment
moment_named None named = tt
moment_named (Some m) named = stamp_in_range named.0 m named.1

-- ---- a log begins with lifetimes

abbrev onto : List StoreRecord → List StoreRecord → List StoreRecord
onto [] earlier = earlier
onto (x ∷ xs) earlier = onto xs (x ∷ earlier)

onto_is : (xs earlier : List StoreRecord) → reverse xs ++ earlier ≡ onto xs earlier
onto_is [] earlier = refl
onto_is (x ∷ xs) earlier = ap (λ (l : List StoreRecord). l ++ earlier) (reverse-append (x ∷ []) xs) ∙ append_assoc (reverse xs) (x ∷ []) earlier ∙ onto_is xs (x ∷ earlier)

kept_onto : (xs : List StoreRecord) → AreKept (reverse xs) → AreKept (onto xs [])
kept_onto xs kept = subst AreKept (sym (append-nil (reverse xs)) ∙ onto_is xs []) kept

back : (xs earlier : List StoreRecord) → AreKept (onto xs earlier) → AreKept earlier
back [] earlier kept = kept
back (x ∷ xs) earlier kept = (back xs (x ∷ earlier) kept).1

head_of : (x : StoreRecord) → MayKeep x [] → IsHead x
head_of (store.Settings n p r) may = tt
head_of (store.Limits n p r k) may = tt
head_of (store.Base expire retain taken) may = absurd (omega (arith, may))
head_of (store.Marks m) may = absurd (omega (arith, may))
head_of (store.Applied r change) may = absurd (omega (arith, may))
head_of (store.Swept kinds m) may = absurd (omega (arith, may))
head_of (store.Received r t change) may = absurd (omega (arith, may))

pub head_first : (records rs : List StoreRecord) (x : StoreRecord) → IsStoreLog records → rs ≡ records → x ≡ slice_index_or rs 0 x → IsHead x
head_first [] rs x log same is = absurd (omega (arith, log.0))
head_first (r ∷ rest) rs x log same is = subst IsHead (sym (is ∙ ap (λ (l : List StoreRecord). slice_index_or l 0 x) same)) (head_of r (back rest (r ∷ []) (kept_onto (r ∷ rest) log.1)).0)

pub begins_with : (records rs : List StoreRecord) (x y : StoreRecord) → IsStoreLog records → rs ≡ records → x ≡ slice_index_or rs 0 x → y ≡ x → records ≡ y ∷ drop 1 records
begins_with [] rs x y log same is own = absurd (omega (arith, log.0))
begins_with (r ∷ rest) rs x y log same is own = ap (λ (z : StoreRecord). z ∷ rest) (sym (own ∙ is ∙ ap (λ (l : List StoreRecord). slice_index_or l 0 x) same))
