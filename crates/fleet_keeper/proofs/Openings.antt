-- The place of a damaged frame in the files that were read.
use Rattle.std.proofs.Common.{◌≡◌, ℕ, ◌+◌, ◌-◌, ◌^◌, ◌<◌, min, List, [], ◌∷◌, length, map, Option, Some, None, refl, sym, ap, subst, ◌∙◌, arith}
use Rattle.log_pair.specs.log_spec.Image.{FramesTo}
use Rattle.log_pair.specs.log_spec.ImageOf.{image_of, frame_texts}
use Rattle.log_pair.specs.log_spec.PairImage.{PairImage, broken, counts, pair_image, IsPairImage}
use Rattle.log_pair.specs.log_spec.declared.side.Side.{Side}
use Rattle.log_pair.specs.log_spec.declared.side.Side.TheVariants.{A, B}
use Rattle.log_pair.proofs.of_log_spec.Pairs.{is_pair_image}
use Rattle.core_spec.specs.Damage.{AreKept, IsStoreLog, EachIs}
use Rattle.core_spec.specs.record_spec.declared.store.StoreRecord.{StoreRecord}
use Rattle.store_records.specs.Reading.{store_at}
use Rattle.fleet_keeper.specs.Records.{join, read_all, records_in}
use Rattle.fleet_keeper.specs.Opened.{IsRead, IsDamaged, IsDamageOf, gate_at}
use Rattle.fleet_keeper.proofs.Readings.{texts_length, texts_take}
use Rattle.fleet_keeper.proofs.Damages.{one_damage, no_damage}

frames_to : (file : List ℕ) (p : ℕ) (fs : List (List ℕ)) (q : ℕ) → FramesTo file p fs q → q ≡ p + length (frame_texts fs)
frames_to file p [] q to = omega (arith, to)
frames_to file p (f ∷ fs) q to = omega (arith, frames_to file (p + 5 + length f) fs q to.1, texts_length f fs)

module _ (a b : List ℕ) (g : ℕ) (fs : List (List ℕ)) (q : ℕ) where
  by_side : (side : Side) → IsPairImage a b (counts side g fs q) → q ≡ 16 + length (frame_texts fs)
  by_side A is = frames_to a 16 fs q is.0.run
  by_side B is = frames_to b 16 fs q is.0.run

  -- a frame's gate isn't behind the first closed one, so its place is within 64 bits
  pub place_is : (side : Side) (at index : ℕ) → q + 1 < 2 ^ 64 → pair_image (image_of a) (image_of b) ≡ counts side g fs q → at ≡ min (gate_at fs index) (2 ^ 64 - 1) → at ≡ gate_at fs index
  place_is side at index small is place =
      let gate = by_side side (subst (λ (i : PairImage). IsPairImage a b i) is (is_pair_image a b)) in
      omega (arith, place, small, gate, texts_take index fs)

  pub damage_is : (side : Side) (at index : ℕ) → q + 1 < 2 ^ 64 → pair_image (image_of a) (image_of b) ≡ counts side g fs q → IsDamaged fs index → at ≡ min (gate_at fs index) (2 ^ 64 - 1)
      → IsDamageOf (pair_image (image_of a) (image_of b)) side at
  damage_is side at index small is damaged place =
      subst (λ (i : PairImage). IsDamageOf i side at) (sym is) (refl, (index, damaged, place_is side at index small is place))

-- ---- the law of damage

read_one : (o : Option StoreRecord) (x y : StoreRecord) → IsRead o x → IsRead o y → x ≡ y
read_one o x y a b = let e : Some x ≡ Some y = sym a ∙ b in cc

split : (one : Option StoreRecord) (rest : Option (List StoreRecord)) (r : StoreRecord) (rs : List StoreRecord) → join one rest ≡ Some (r ∷ rs) → (one ≡ Some r) × (rest ≡ Some rs)
split None rest r rs e = absurd cc
split (Some x) None r rs e = absurd cc
split (Some x) (Some xs) r rs e = (cc, cc)

unsplit : (one : Option StoreRecord) (rest : Option (List StoreRecord)) → join one rest ≡ Some [] → ⊥
unsplit None rest e = absurd cc
unsplit (Some x) None e = absurd cc
unsplit (Some x) (Some xs) e = absurd cc

each_of : (frames : List (List ℕ)) (rs : List StoreRecord) → read_all store_at frames ≡ Some rs → EachIs IsRead (map store_at frames) rs
each_of [] [] e = tt
each_of [] (r ∷ rs) e = absurd cc
each_of (f ∷ fs) [] e = absurd (unsplit (store_at f) (read_all store_at fs) e)
each_of (f ∷ fs) (r ∷ rs) e =
    let both = split (store_at f) (read_all store_at fs) r rs e in
    (both.0, each_of fs rs both.1)

pub one_place : (image : PairImage) (file side : Side) (at place : ℕ) → IsDamageOf image file at → IsDamageOf image side place → (file ≡ side) × (at ≡ place)
one_place (broken s p) file side at place a b = (a.0 ∙ sym b.0, a.1 ∙ sym b.1)
one_place (counts s g fs q) file side at place a b =
    let same : a.1.0 ≡ b.1.0 = one_damage IsRead read_one AreKept (λ x xs kept. kept.1) 2 (map store_at fs) a.1.0 b.1.0 a.1.1 b.1.1 in
    (a.0 ∙ sym b.0, a.1.2 ∙ ap (gate_at fs) same ∙ sym b.1.2)

pub not_opened : (image : PairImage) (file : Side) (at : ℕ) (rs : List StoreRecord) → IsDamageOf image file at → records_in store_at image ≡ Some rs → IsStoreLog rs → ⊥
not_opened (broken s p) file at rs d e log = absurd cc
not_opened (counts s g fs q) file at rs d e log = no_damage IsRead read_one AreKept (λ x xs kept. kept.1) 2 (map store_at fs) d.1.0 rs d.1.1 (each_of fs rs e) log.1 log.0
