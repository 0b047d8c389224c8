use Rattle.std.proofs.Common.{◌≡◌, ℕ, ◌+◌, ◌≤◌, List, [], ◌∷◌, ◌++◌, length, reverse, Option, Some, None, Result, Ok, Err, OnOk, false, sym, ap, subst, ◌∙◌, arith, append_assoc, append-nil, length-append}
use Rattle.std.specs.Prelude.{MatchOption}
use Rattle.std.specs.Result.{is_err}
use Rattle.std.specs.Vec.Iter.{into_iter_items}
use Rattle.std.proofs.lemmas.List.{length-reverse}
use Rattle.port_memory.proofs.of_plain_laws.Options.{none_some, some_is}
use Rattle.core_spec.specs.Damage.{MayKeep}
use Rattle.core_spec.specs.record_spec.declared.store.StoreRecord.{StoreRecord}
use Rattle.core_spec.specs.record_spec.Store.{store_text, IsStoreRecord}
use Rattle.store_records.specs.Reading.{store_at}
use Rattle.fleet_keeper.specs.declared.frames.Unread.TheVariants as unread
use Rattle.fleet_keeper.specs.Opened.{MatchRead}
use Rattle.fleet_keeper.specs.Spelt.{AreRecords}
use Rattle.fleet_keeper.proofs.Readings.{HasRead, damaged_here, read_on, read_whole, all_spelt, placed, none_left}
use Rattle.fleet_keeper.proofs.frames.read_frames.Goals as goal

done : {T E : Type 0} {P : Type 0} (r : Result T E) → is_err r ≡ false → OnOk r P → P
done (Ok t) is p = p
done (Err e) is p = absurd cc

pub returns-in-Ok-None-clause-told : goal.returns-in-Ok-None-clause-told
returns-in-Ok-None-clause-told c =
    let at = c.reading in
    let all = into_iter_items c.into_iter-frame-iterator.result in
    let x = c.in-Some.frame in
    let here = placed all at.yielded (into_iter_items at.frame-iterator) (into_iter_items c.next.new.self) x at.invariant.0 c.in-Some.ensures.steps.0 in
    let text : c.as_slice-in-reading.result.now ≡ x = c.as_slice-in-reading.ensures in
    let none : store_at x ≡ None = sym (ap store_at text) ∙ sym c.in-Ok-None.ensures.exact ∙ c.in-Ok-None.field-0-is in
    subst (λ (fs : List (List ℕ)). MatchRead (Err (unread.Damaged at.at)) fs) c.into_iter-frame-iterator.ensures.into_iter_gives.0
    (length at.yielded, damaged_here all (length at.yielded) at.records at.at at.invariant.1 x here.0 here.1 (λ r read may. none_some r (sym none ∙ read)), at.invariant.1.place)

pub returns-then-not-stands-clause-told : goal.returns-then-not-stands-clause-told
returns-then-not-stands-clause-told c =
    let at = c.reading in
    let all = into_iter_items c.into_iter-frame-iterator.result in
    let x = c.in-Some.frame in
    let here = placed all at.yielded (into_iter_items at.frame-iterator) (into_iter_items c.next.new.self) x at.invariant.0 c.in-Some.ensures.steps.0 in
    let records = at.records in
    let rec = c.in-Ok-Some.rec in
    let text : c.as_slice-in-reading.result.now ≡ x = c.as_slice-in-reading.ensures in
    let read : store_at x ≡ Some rec = sym (ap store_at text) ∙ sym c.in-Ok-Some.ensures.exact ∙ c.in-Ok-Some.field-0-is in
    let count : length (reverse records) ≡ length c.as_slice-in-Ok-Some.result.now = length-reverse records ∙ sym (ap length c.as_slice-in-Ok-Some.ensures.value) in
    let not = c.may_stand-stands.ensures.may_not (reverse records) count c.if-not-stands.true in
    subst (λ (fs : List (List ℕ)). MatchRead (Err (unread.Damaged at.at)) fs) c.into_iter-frame-iterator.ensures.into_iter_gives.0
    (length at.yielded, damaged_here all (length at.yielded) records at.at at.invariant.1 x here.0 here.1 (λ r this may. not (subst (λ (q : StoreRecord). MayKeep q (reverse records)) (some_is r rec (sym this ∙ read)) may)), at.invariant.1.place)

pub reading-preserved : goal.reading-preserved
reading-preserved c =
    let at = c.reading in
    let all = into_iter_items c.into_iter-frame-iterator.result in
    let x = c.in-Some.frame in
    let rest = into_iter_items c.next.new.self in
    let steps : into_iter_items at.frame-iterator ≡ x ∷ rest = c.in-Some.ensures.steps.0 in
    let here = placed all at.yielded (into_iter_items at.frame-iterator) rest x at.invariant.0 steps in
    let records = at.records in
    let rec = c.in-Ok-Some.rec in
    let text : c.as_slice-in-reading.result.now ≡ x = c.as_slice-in-reading.ensures in
    let read : store_at x ≡ Some rec = sym (ap store_at text) ∙ sym c.in-Ok-Some.ensures.exact ∙ c.in-Ok-Some.field-0-is in
    let count : length (reverse records) ≡ length c.as_slice-in-Ok-Some.result.now = length-reverse records ∙ sym (ap length c.as_slice-in-Ok-Some.ensures.value) in
    let may = c.may_stand-stands.ensures.may (reverse records) count c.if-not-stands.false in
    let pushed : c.push.new.self ≡ records ++ rec ∷ [] = done c.push.result (sym c.is_err.ensures.value ∙ c.if-is_err.false) c.push.ensures.ok in
    let later = c.saturating_add-at.result in
    let found = subst (λ (o : Option StoreRecord). MatchOption o ((r : StoreRecord) → IsStoreRecord r → c.as_slice-in-reading.result.now ≡ store_text r → ⊥) (λ r. IsStoreRecord r × (c.as_slice-in-reading.result.now ≡ store_text r))) c.in-Ok-Some.field-0-is c.in-Ok-Some.ensures.found in
    let fits : IsStoreRecord rec × (x ≡ store_text rec) = (found.0, sym text ∙ found.1) in
    let size : c.as_slice.result.now ≡ x = c.as_slice.ensures in
    let one = read_on all (length at.yielded) records at.at at.invariant.1 x here.0 here.1 rec later read fits may (omega (arith, c.saturating_add-at.ensures, ap length size)) in
    let number : length (at.yielded ++ x ∷ []) ≡ length at.yielded + 1 = length-append at.yielded (x ∷ []) in (
      append_assoc at.yielded (x ∷ []) rest ∙ sym (ap (λ (r : List (List ℕ)). at.yielded ++ r) steps) ∙ at.invariant.0,
      subst (λ (rs : List StoreRecord). HasRead all (length (at.yielded ++ x ∷ [])) rs later) (sym pushed)
          (subst (λ (n : ℕ). HasRead all n (records ++ rec ∷ []) later) (sym number) one),
      let was = at.invariant.2 in
          let gone = c.in-Some.ensures.steps.1 in
          let short = ap length steps in
          omega arith,
    )

pub returns-clause-told : goal.returns-clause-told
returns-clause-told c =
    let at = c.reading in
    let frames = into_iter_items c.into_iter-frame-iterator.result in
    let empty : into_iter_items at.frame-iterator ≡ [] = none_left (into_iter_items at.frame-iterator) (sym at.invariant.2 ∙ c.in-None.ensures.steps.0) in
    let whole : at.yielded ≡ frames = sym (append-nil at.yielded) ∙ sym (ap (λ (r : List (List ℕ)). at.yielded ++ r) empty) ∙ at.invariant.0 in
    let enough : 2 ≤ length at.records = omega (arith, c.if-as_slice-lt2.false, ap length c.as_slice-2.ensures.value) in
    subst (λ (fs : List (List ℕ)). MatchRead (Ok at.records) fs) c.into_iter-frame-iterator.ensures.into_iter_gives.0
    (read_whole frames (length at.yielded) at.records at.at at.invariant.1 (ap length whole) enough)

pub returns-clause-spelt : goal.returns-clause-spelt
returns-clause-spelt c =
    let at = c.reading in
    let frames = into_iter_items c.into_iter-frame-iterator.result in
    let empty : into_iter_items at.frame-iterator ≡ [] = none_left (into_iter_items at.frame-iterator) (sym at.invariant.2 ∙ c.in-None.ensures.steps.0) in
    let whole : at.yielded ≡ frames = sym (append-nil at.yielded) ∙ sym (ap (λ (r : List (List ℕ)). at.yielded ++ r) empty) ∙ at.invariant.0 in
    subst (λ (fs : List (List ℕ)). AreRecords store_text IsStoreRecord fs at.records) c.into_iter-frame-iterator.ensures.into_iter_gives.0
    (all_spelt frames (length at.yielded) at.records at.at at.invariant.1 (ap length whole))
