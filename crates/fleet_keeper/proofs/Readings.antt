-- Frames that are read one after the other.
use Rattle.std.proofs.Common.{◌≡◌, ℕ, zero, suc, ◌+◌, ◌-◌, ◌^◌, ◌<◌, ◌≤◌, min, List, [], ◌∷◌, ◌++◌, length, map, take, drop, get_or, reverse, Option, Some, None, refl, sym, ap, subst, ◌∙◌, arith, length-append}
use Rattle.std.proofs.lemmas.List.{map-append, take-map, drop-map, map_more, drop_more, take_more, reverse-append}
use Rattle.std.proofs.Math.Seq.{take-length, drop-length}
use Rattle.std.specs.Int.{w32, to_le_bytes}
use Rattle.port_memory.proofs.of_plain_laws.Members.{all_more}
use Rattle.log_pair.specs.log_spec.ImageOf.{block_text, frame_texts}
use Rattle.core_spec.specs.Damage.{MayKeep, AreKept, IsStoreLog, EachIs, EndsThere}
use Rattle.core_spec.specs.record_spec.declared.store.StoreRecord.{StoreRecord}
use Rattle.core_spec.specs.record_spec.Store.{store_text, IsStoreRecord}
use Rattle.store_records.specs.Reading.{store_at}
use Rattle.fleet_keeper.specs.Records.{join, read_all, with_one}
use Rattle.fleet_keeper.specs.Spelt.{AreRecords}
use Rattle.fleet_keeper.specs.Opened.{IsRead, IsDamaged, gate_at}

joined_more : {A : Type 0} (one : Option A) (rest : Option (List A)) (r : A) → join one (with_one rest r) ≡ with_one (join one rest) r
joined_more None rest r = refl
joined_more (Some x) None r = refl
joined_more (Some x) (Some rs) r = refl

-- one frame more is one record more
pub reads_more : {A : Type 0} (read : List ℕ → Option A) (frames : List (List ℕ)) (frame : List ℕ) (r : A) → read frame ≡ Some r
    → read_all read (frames ++ frame ∷ []) ≡ with_one (read_all read frames) r
reads_more read [] frame r is = rw is refl
reads_more read (f ∷ fs) frame r is = ap (join (read f)) (reads_more read fs frame r is) ∙ joined_more (read f) (read_all read fs) r

-- what was read off each frame are the records
pub all_read : {A : Type 0} (read : List ℕ → Option A) (frames : List (List ℕ)) (rs : List A) → EachIs IsRead (map read frames) rs → read_all read frames ≡ Some rs
all_read read [] [] each = refl
all_read read [] (r ∷ rs) each = absurd each
all_read read (f ∷ fs) [] each = absurd each
all_read {A = A} read (f ∷ fs) (r ∷ rs) each = ap (λ (o : Option A). join o (read_all read fs)) each.0 ∙ ap (λ (o : Option (List A)). join (Some r) o) (all_read read fs rs each.1)

pub each_more : {F A : Type 0} (Is : F → A → Type 0) (fs : List F) (xs : List A) (f : F) (x : A) → EachIs Is fs xs → Is f x → EachIs Is (fs ++ f ∷ []) (xs ++ x ∷ [])
each_more Is [] [] f x each is = (is, tt)
each_more Is [] (y ∷ ys) f x each is = absurd each
each_more Is (g ∷ gs) [] f x each is = absurd each
each_more Is (g ∷ gs) (y ∷ ys) f x each is = (each.0, each_more Is gs ys f x each.1 is)

-- ---- the bytes of frames with their gates and lengths

pub texts_length : (f : List ℕ) (fs : List (List ℕ)) → length (frame_texts (f ∷ fs)) ≡ 5 + length f + length (frame_texts fs)
texts_length f fs = omega (arith, length-append (block_text f) (frame_texts fs), length-append (to_le_bytes w32 (length f)) f)

pub texts_more : (fs : List (List ℕ)) (f : List ℕ) → length (frame_texts (fs ++ f ∷ [])) ≡ length (frame_texts fs) + 5 + length f
texts_more [] f = omega (arith, texts_length f [])
texts_more (g ∷ gs) f = omega (arith, texts_length g (gs ++ f ∷ []), texts_more gs f, texts_length g gs)

pub texts_take : (i : ℕ) (fs : List (List ℕ)) → length (frame_texts (take i fs)) ≤ length (frame_texts fs)
texts_take zero fs = omega arith
texts_take (suc i) [] = omega arith
texts_take (suc i) (f ∷ fs) = omega (arith, texts_length f (take i fs), texts_length f fs, texts_take i fs)

-- ---- a reading

-- so many frames are these records, each where it may stand, and the next gate is at this place
pub record HasRead (frames : List (List ℕ)) (i : ℕ) (records : List StoreRecord) (at : ℕ) : Type 0 where
  pub reads : EachIs IsRead (map store_at (take i frames)) records
  pub stand : AreKept (reverse records)
  pub count : length records ≡ i
  pub place : at ≡ min (gate_at frames i) (2 ^ 64 - 1)
  pub spelt : AreRecords store_text IsStoreRecord (take i frames) records

-- the first of what is left stands behind what was read
pub stands_behind : (done : List (List ℕ)) (x : List ℕ) (rest : List (List ℕ)) → (length done < length (done ++ x ∷ rest)) × (x ≡ get_or (done ++ x ∷ rest) (length done) x)
stands_behind [] x rest = (omega arith, refl)
stands_behind (d ∷ ds) x rest = (omega (arith, (stands_behind ds x rest).0), (stands_behind ds x rest).1)

pub placed : (all done left rest : List (List ℕ)) (x : List ℕ) → done ++ left ≡ all → left ≡ x ∷ rest → (length done < length all) × (x ≡ get_or all (length done) x)
placed all done left rest x whole steps =
    subst (λ (fs : List (List ℕ)). (length done < length fs) × (x ≡ get_or fs (length done) x)) (sym (ap (λ (r : List (List ℕ)). done ++ r) steps) ∙ whole) (stands_behind done x rest)

-- what is left of a list of no length
pub none_left : {A : Type 0} (xs : List A) → length xs ≡ 0 → xs ≡ []
none_left [] is = refl
none_left (x ∷ xs) is = absurd (omega arith)

pub begun : (frames : List (List ℕ)) → HasRead frames 0 [] 16
begun frames = record { reads = tt; stand = tt; count = refl; place = omega arith; spelt = record { lawful = tt; spelt = refl } }

module _ (frames : List (List ℕ)) (i : ℕ) (records : List StoreRecord) (at : ℕ) (so_far : HasRead frames i records at) where
  module _ (frame : List ℕ) (lt : i < length frames) (is : frame ≡ get_or frames i frame) where
    taken : take (i + 1) frames ≡ take i frames ++ frame ∷ []
    taken = take_more frames i frame lt ∙ ap (λ (f : List ℕ). take i frames ++ f ∷ []) (sym is)

    next : drop i (map store_at frames) ≡ store_at frame ∷ map store_at (drop (i + 1) frames)
    next = drop-map store_at i frames ∙ ap (map store_at) (drop_more frames i frame lt ∙ ap (λ (f : List ℕ). f ∷ drop (i + 1) frames) (sym is))

    -- a record more
    pub read_on : (r : StoreRecord) (later : ℕ) → store_at frame ≡ Some r → IsStoreRecord r × (frame ≡ store_text r) → MayKeep r (reverse records) → later ≡ min (at + (5 + length frame)) (2 ^ 64 - 1) → HasRead frames (i + 1) (records ++ r ∷ []) later
    read_on r later read fits may place = record {
      reads = subst (λ (os : List (Option StoreRecord)). EachIs IsRead os (records ++ r ∷ [])) (sym (map_more store_at frames i frame lt ∙ ap (λ (f : List ℕ). map store_at (take i frames) ++ store_at f ∷ []) (sym is)))
          (each_more IsRead (map store_at (take i frames)) records (store_at frame) r so_far.reads read);
      stand = subst AreKept (sym (reverse-append records (r ∷ []))) (may, so_far.stand);
      count = omega (arith, so_far.count, length-append records (r ∷ []));
      place = omega (arith, place, so_far.place, ap (λ (fs : List (List ℕ)). length (frame_texts fs)) taken, texts_more (take i frames) frame);
      spelt = record {
        lawful = all_more IsStoreRecord records r so_far.spelt.lawful fits.0;
        spelt = taken ∙ (λ j. so_far.spelt.spelt j ++ fits.1 j ∷ []) ∙ sym (map-append store_text records (r ∷ []));
      };
    }

    -- no record, or one that may not stand there
    pub damaged_here : ((x : StoreRecord) → store_at frame ≡ Some x → MayKeep x (reverse records) → ⊥) → IsDamaged frames i
    damaged_here not = record {
      before = records;
      place = sym so_far.count;
      reads = subst (λ (os : List (Option StoreRecord)). EachIs IsRead os records) (sym (take-map store_at i frames)) so_far.reads;
      stand = so_far.stand;
      ends = subst (EndsThere IsRead AreKept 2 records) (sym next) (λ x read kept. not x read kept.0);
    }

  module _ (all : i ≡ length frames) where
    whole : map store_at (take i frames) ≡ map store_at frames
    whole = ap (map store_at) (ap (λ (n : ℕ). take n frames) all ∙ take-length frames)

    pub all_spelt : AreRecords store_text IsStoreRecord frames records
    all_spelt = subst (λ (fs : List (List ℕ)). AreRecords store_text IsStoreRecord fs records) (ap (λ (n : ℕ). take n frames) all ∙ take-length frames) so_far.spelt

    pub read_whole : 2 ≤ length records → (read_all store_at frames ≡ Some records) × IsStoreLog records
    read_whole enough = (all_read store_at frames records (subst (λ (os : List (Option StoreRecord)). EachIs IsRead os records) whole so_far.reads), (enough, so_far.stand))

    -- the first records lack
    pub damaged_behind : length records < 2 → IsDamaged frames i
    damaged_behind few = record {
      before = records;
      place = sym so_far.count;
      reads = subst (λ (os : List (Option StoreRecord)). EachIs IsRead os records) (sym (take-map store_at i frames)) so_far.reads;
      stand = so_far.stand;
      ends = subst (EndsThere IsRead AreKept 2 records) (sym (drop-map store_at i frames ∙ ap (map store_at) (ap (λ (n : ℕ). drop n frames) all ∙ drop-length frames))) few;
    }
