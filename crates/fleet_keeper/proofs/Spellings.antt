-- Frames that are read as records spell them.
use Rattle.std.proofs.Common.{◌≡◌, ℕ, List, [], ◌∷◌, map, take, drop, zero, suc, Option, Some, None, refl, sym, ap, subst, ◌∙◌}
use Rattle.std.proofs.lemmas.List.{take-map, drop-map}
use Rattle.std.specs.List.{AllByRecursion}
use Rattle.port_memory.proofs.of_plain_laws.Members.{all_drop, all_take}
use Rattle.core_spec.specs.Damage.{EachIs, EndsThere, IsDamagedFrame}
use Rattle.fleet_keeper.specs.Records.{join, read_all}
use Rattle.fleet_keeper.specs.Spelt.{AreRecords, IsByteList}
use Rattle.fleet_keeper.specs.Opened.{IsRead}

record IsJoined {A : Type 0} (one : Option A) (rest : Option (List A)) (rs : List A) : Type 0 where
  pub first : A
  pub others : List A
  pub first_is : one ≡ Some first
  pub others_are : rest ≡ Some others
  pub both : rs ≡ first ∷ others

joined : {A : Type 0} (one : Option A) (rest : Option (List A)) (rs : List A) → join one rest ≡ Some rs → IsJoined one rest rs
joined None rest rs e = absurd cc
joined (Some x) None rs e = absurd cc
joined (Some x) (Some xs) rs e = record { first = x; others = xs; first_is = refl; others_are = refl; both = cc }

module _ {A : Type 0} (read : List ℕ → Option A) (text : A → List ℕ) (IsRecord : A → Type 0) (again : (r : A) → IsRecord r → read (text r) ≡ Some r) where
  -- what is spelt is read
  pub read_spelt : (rs : List A) → AllByRecursion IsRecord rs → read_all read (map text rs) ≡ Some rs
  read_spelt [] fit = refl
  read_spelt (r ∷ rs) fit = ap (λ (o : Option A). join o (read_all read (map text rs))) (again r fit.0) ∙ ap (λ (o : Option (List A)). join (Some r) o) (read_spelt rs fit.1)

  abbrev IsFrame : List ℕ → A → Type 0
  IsFrame f x = IsRecord x × (f ≡ text x)

  read_frame : (f : List ℕ) (x : A) → IsFrame f x → read f ≡ Some x
  read_frame f x is = ap read is.1 ∙ again x is.0

  module _ (takes : (f : List ℕ) (r : A) → IsByteList f → read f ≡ Some r → IsRecord r × (f ≡ text r)) where
    -- and what is read was spelt so
    pub spelt : (frames : List (List ℕ)) (rs : List A) → AllByRecursion IsByteList frames → read_all read frames ≡ Some rs → AreRecords text IsRecord frames rs
    spelt [] [] bytes e = record { lawful = tt; spelt = refl }
    spelt [] (r ∷ rs) bytes e = absurd cc
    spelt (f ∷ fs) rs bytes e =
        let j = joined (read f) (read_all read fs) rs e in
        let here = takes f j.first bytes.0 j.first_is in
        let later = spelt fs j.others bytes.1 j.others_are in
        subst (λ (l : List A). AreRecords text IsRecord (f ∷ fs) l) (sym j.both) (record { lawful = (here.0, later.lawful); spelt = λ i. here.1 i ∷ later.spelt i })

    pub are_records : (frames : List (List ℕ)) (rs : List A) → AllByRecursion IsByteList frames → (read_all read frames ≡ Some rs → AreRecords text IsRecord frames rs) × (AreRecords text IsRecord frames rs → read_all read frames ≡ Some rs)
    are_records frames rs bytes = (spelt frames rs bytes, λ are. ap (read_all read) are.spelt ∙ read_spelt rs are.lawful)

    each_spelt : (frames : List (List ℕ)) (rs : List A) → AllByRecursion IsByteList frames → EachIs IsRead (map read frames) rs → EachIs IsFrame frames rs
    each_spelt [] [] bytes each = tt
    each_spelt [] (r ∷ rs) bytes each = absurd each
    each_spelt (f ∷ fs) [] bytes each = absurd each
    each_spelt (f ∷ fs) (r ∷ rs) bytes each = (takes f r bytes.0 each.0, each_spelt fs rs bytes.1 each.1)

    each_read : (frames : List (List ℕ)) (rs : List A) → EachIs IsFrame frames rs → EachIs IsRead (map read frames) rs
    each_read [] [] each = tt
    each_read [] (r ∷ rs) each = absurd each
    each_read (f ∷ fs) [] each = absurd each
    each_read (f ∷ fs) (r ∷ rs) each = (read_frame f r each.0, each_read fs rs each.1)

    module _ (Are : List A → Type 0) (least : ℕ) where
      ends_spelt : (before : List A) (rest : List (List ℕ)) → EndsThere IsRead Are least before (map read rest) → EndsThere IsFrame Are least before rest
      ends_spelt before [] ends = ends
      ends_spelt before (f ∷ fs) ends = λ x is are. ends x (read_frame f x is) are

      ends_read : (before : List A) (rest : List (List ℕ)) → AllByRecursion IsByteList rest → EndsThere IsFrame Are least before rest → EndsThere IsRead Are least before (map read rest)
      ends_read before [] bytes ends = ends
      ends_read before (f ∷ fs) bytes ends = λ x is are. ends x (takes f x bytes.0 is) are

      -- what is damage by reading is damage by spelling
      pub damage_spelt : (frames : List (List ℕ)) (at : ℕ) → AllByRecursion IsByteList frames → IsDamagedFrame IsRead Are least (map read frames) at → IsDamagedFrame IsFrame Are least frames at
      damage_spelt frames at bytes d = record {
        before = d.before;
        place = d.place;
        reads = each_spelt (take at frames) d.before (all_take IsByteList at frames bytes) (subst (λ (os : List (Option A)). EachIs IsRead os d.before) (take-map read at frames) d.reads);
        stand = d.stand;
        ends = ends_spelt d.before (drop at frames) (subst (EndsThere IsRead Are least d.before) (drop-map read at frames) d.ends);
      }

      pub damage_read : (frames : List (List ℕ)) (at : ℕ) → AllByRecursion IsByteList frames → IsDamagedFrame IsFrame Are least frames at → IsDamagedFrame IsRead Are least (map read frames) at
      damage_read frames at bytes d = record {
        before = d.before;
        place = d.place;
        reads = subst (λ (os : List (Option A)). EachIs IsRead os d.before) (sym (take-map read at frames)) (each_read (take at frames) d.before d.reads);
        stand = d.stand;
        ends = subst (EndsThere IsRead Are least d.before) (sym (drop-map read at frames)) (ends_read d.before (drop at frames) (all_drop IsByteList at frames bytes) d.ends);
      }
