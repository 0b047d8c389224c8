-- The laws of the images: those of now are among those since an earlier moment, and no image is too long.
use Rattle.std.proofs.Common.{◌≡◌, inl, inr, ℕ, ◌+◌, ◌≤◌, max, Bool, true, false, if◌then◌else◌, List, [], ◌∷◌, ◌++◌, length, take, drop, ap, arith, length-append, length-drop}
use Rattle.std.proofs.lemmas.List.{length-take}
use Rattle.fleet_ports.specs.Disks.{overlaid}
use Rattle.port_memory.specs.declared.step.Step.{Step}
use Rattle.port_memory.specs.declared.step.Step.TheVariants.{Wrote, Opened, Shortened, Synced}
use Rattle.port_memory.specs.History.{seen_after, next_longest, longest_after, Takes, Images, Since}

pub seen_left : (start : List ℕ) (steps : List Step) (c : List ℕ) → c ≡ seen_after start steps → Images start steps c
seen_left start [] c is = is
seen_left start (step ∷ earlier) c is = inl is

pub since_now : (start : List ℕ) (t : ℕ) (steps : List Step) (c : List ℕ) → Images start steps c → Since start t steps c
since_now start t [] c now = now
since_now start t (step ∷ earlier) c now = inl now

pub now_only : (start : List ℕ) (steps : List Step) (c : List ℕ) → Since start (length steps) steps c → Images start steps c
now_only start [] c now = now
now_only start (step ∷ earlier) c (inl now) = now
now_only start (step ∷ earlier) c (inr was) = absurd (omega (arith, was.0))

wrote_fits : (done : Bool) (at : ℕ) (bytes s : List ℕ) → length (if done then overlaid s at bytes else s) ≤ max (length s) (at + length bytes)
wrote_fits true at bytes s = omega (arith, length-append (take at s ++ bytes) (drop (at + length bytes) s), length-append (take at s) bytes, length-take at s, length-drop (at + length bytes) s)
wrote_fits false at bytes s = omega arith

cut_short : (done : Bool) (n : ℕ) (s : List ℕ) → length (if done then take n s else s) ≤ length s
cut_short true n s = omega (arith, length-take n s)
cut_short false n s = omega arith

pub seen_fits : (start : List ℕ) (steps : List Step) → length (seen_after start steps) ≤ longest_after start steps
seen_fits start [] = omega arith
seen_fits start (Wrote at bytes done ∷ earlier) = omega (arith, wrote_fits done at bytes (seen_after start earlier), seen_fits start earlier)
seen_fits start (Opened at n ∷ earlier) = omega (arith, seen_fits start earlier)
seen_fits start (Shortened n done ∷ earlier) = omega (arith, cut_short done n (seen_after start earlier), seen_fits start earlier)
seen_fits start (Synced ∷ earlier) = omega arith

takes_fits : (step : Step) (seen d c : List ℕ) (longest : ℕ) → length d ≤ longest → Takes step seen d c → length c ≤ next_longest step seen longest
takes_fits (Wrote at bytes done) seen d c longest fits left = omega (arith, fits, left.no_longer)
takes_fits (Opened at n) seen d c longest fits left = omega (arith, fits, left.no_longer)
takes_fits (Shortened n done) seen d c longest fits left = omega (arith, fits, left.no_longer)
takes_fits Synced seen d c longest fits left = omega (arith, ap length left)

pub images_fit : (start : List ℕ) (steps : List Step) (c : List ℕ) → Images start steps c → length c ≤ longest_after start steps
images_fit start [] c is = omega (arith, ap length is)
images_fit start (step ∷ earlier) c (inl now) = omega (arith, ap length now, seen_fits start (step ∷ earlier))
images_fit start (step ∷ earlier) c (inr left) =
    takes_fits step (seen_after start earlier) left.0 c (longest_after start earlier) (images_fit start earlier left.0 left.1) left.2
