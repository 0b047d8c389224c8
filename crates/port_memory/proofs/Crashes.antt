-- What a crash leaves by its choice is an image.
use Rattle.std.proofs.Common.{◌≡◌, inr, ℕ, ◌+◌, ◌-◌, ◌/◌, ◌%◌, ◌≤◌, ◌==◌, ◌||◌, Bool, true, false, if◌then◌else◌, nat_lt, List, [], ◌∷◌, ◌++◌, length, take, drop, reverse, replicate, refl, sym, ◌∙◌, ap, subst, arith, length-append}
use Rattle.std.proofs.lemmas.Bool.Decides.{nat_tests}
use Rattle.std.proofs.lemmas.List.{length-take, length-take-le, length-replicate, take-take, take_at, drop-drop}
use Rattle.fleet_ports.specs.Disks.{overlaid, Torn, Cut}
use Rattle.port_memory.specs.declared.step.Step.{Step}
use Rattle.port_memory.specs.declared.step.Step.TheVariants.{Wrote, Opened, Shortened, Synced}
use Rattle.port_memory.specs.History.{seen_after, Takes, Images}
use Rattle.port_memory.specs.Laws.{seen_left}
use Rattle.port_memory.specs.Ways.{put_by, torn_by, past_by, shortened_by, left_by, ways_after, left_after}
use Rattle.port_memory.specs.Disks.{bytes_of, crash_left, images_of}
use Rattle.port_memory.specs.declared.disk.MemoryDisk.{MemoryDisk}
use Rattle.port_memory.proofs.Steps.{torn_overlaid, torn_same, cut_same, cut_taken}

-- a write that was cut short
torn_part : (at n : ℕ) (file part : List ℕ) → at ≤ length file → length part ≤ n → Torn at n file (overlaid file at part)
torn_part at n file part le small =
    let all = torn_overlaid at file part le in
    let k = n - length part in
    let sum : at + length part + k ≡ at + n = omega (arith, small) in
    record {
      before = all.before;
      after =
          ap (λ (j : ℕ). drop j (overlaid file at part)) (sym sum)
          ∙ sym (drop-drop k (at + length part) (overlaid file at part))
          ∙ ap (λ (l : List ℕ). drop k l) all.after
          ∙ drop-drop k (at + length part) file
          ∙ ap (λ (j : ℕ). drop j file) sum;
      no_shorter = all.no_shorter;
      no_longer = omega (arith, all.no_longer, small);
    }

put_fits : (way : ℕ) (bytes : List ℕ) → length (put_by way bytes) ≤ length bytes
put_fits way bytes = by_way (way == 1) (way == 2)
  where
    by_way : (one two : Bool) → length (if one then bytes else (if two then take (length bytes / 2) bytes else replicate (length bytes) 1)) ≤ length bytes
    by_way true two = omega arith
    by_way false true = omega (arith, length-take (length bytes / 2) bytes)
    by_way false false = omega (arith, length-replicate {A = ℕ} (length bytes) 1)

torn_left : (way at : ℕ) (bytes image : List ℕ) → Torn at (length bytes) image (torn_by way at bytes image)
torn_left way at bytes image = by_test (way == 0 || nat_lt (length image) at) refl
  where
    inside : (none : Bool) → (none || nat_lt (length image) at) ≡ false → at ≤ length image
    inside true is = cc
    inside false is = grind (arith, nat_tests)

    by_test : (t : Bool) → (way == 0 || nat_lt (length image) at) ≡ t → Torn at (length bytes) image (if t then image else overlaid image at (put_by way bytes))
    by_test true is = torn_same at (length bytes) image
    by_test false is = torn_part at (length bytes) image (put_by way bytes) (inside (way == 0) is) (put_fits way bytes)

past_left : (way len : ℕ) (image : List ℕ) → len ≤ length image → Cut len image (past_by way len image)
past_left way len image le = by_way (way == 1) (way == 2)
  where
    past : ℕ
    past = length image - len

    long : length (take len image) ≡ len
    long = length-take-le len image le

    by_way : (one two : Bool) → Cut len image (if one then take len image else (if two then take (len + past / 2) image else take len image ++ replicate past 1))
    by_way true two = cut_taken len image le
    by_way false true = record {
      front = take-take len (len + past / 2) image (omega arith);
      no_shorter = omega (arith, length-take (len + past / 2) image);
      no_longer = omega (arith, length-take (len + past / 2) image);
    }
    by_way false false = record {
      front = take_at (take len image) (replicate past 1) len long;
      no_shorter = omega (arith, long, length-append (take len image) (replicate past 1));
      no_longer = omega (arith, le, long, length-append (take len image) (replicate past 1), length-replicate {A = ℕ} past 1);
    }

cut_left : (way len : ℕ) (image : List ℕ) → Cut len image (shortened_by way len image)
cut_left way len image = by_test (way == 0 || nat_lt (length image) len) refl
  where
    inside : (none : Bool) → (none || nat_lt (length image) len) ≡ false → len ≤ length image
    inside true is = cc
    inside false is = grind (arith, nat_tests)

    by_test : (t : Bool) → (way == 0 || nat_lt (length image) len) ≡ t → Cut len image (if t then image else past_by way len image)
    by_test true is = cut_same len image
    by_test false is = past_left way len image (inside (way == 0) is)

takes_left : (way : ℕ) (step : Step) (seen image : List ℕ) → Takes step seen image (left_by way step seen image)
takes_left way (Wrote at bytes done) seen image = torn_left way at bytes image
takes_left way (Opened at n) seen image =
    let ones : List ℕ = replicate n 1 in
    subst (λ (m : ℕ). Torn at m image (torn_by way at ones image)) (length-replicate {A = ℕ} n 1) (torn_left way at ones image)
takes_left way (Shortened len done) seen image = cut_left way len image
takes_left way Synced seen image = refl

pub left_is_image : (start : List ℕ) (pattern : ℕ) (steps : List Step) → Images start steps (left_after start pattern steps)
left_is_image start pattern [] = refl
left_is_image start pattern (step ∷ earlier) =
    inr (left_after start pattern earlier, left_is_image start pattern earlier, takes_left (ways_after pattern earlier % 4) step (seen_after start earlier) (left_after start pattern earlier))

pub crash_image : (d : MemoryDisk) (choice : ℕ) → images_of d (crash_left d choice)
crash_image d choice = by_test (choice == 0)
  where
    by_test : (t : Bool) → images_of d (if t then bytes_of d else left_after d.start (choice - 1) (reverse d.steps.items))
    by_test true = seen_left d.start (reverse d.steps.items) (bytes_of d) d.replayed
    by_test false = left_is_image d.start (choice - 1) (reverse d.steps.items)
