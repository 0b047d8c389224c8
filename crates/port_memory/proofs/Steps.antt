-- One step more.
use Rattle.std.proofs.Common.{◌≡◌, inl, inr, ⊎_elim, ℕ, ◌+◌, ◌≤◌, max, Bool, true, false, if◌then◌else◌, List, ◌∷◌, ◌++◌, length, take, drop, refl, sym, ◌∙◌, ap, subst, arith, length-append, length-drop}
use Rattle.std.proofs.lemmas.List.{take_at, drop_at, length-take-le, take-take, append_assoc}
use Rattle.fleet_ports.specs.Disks.{overlaid, Torn, Cut, Follows, NoMore, Only}
use Rattle.fleet_ports.specs.Moments.{Elapses}
use Rattle.port_memory.specs.declared.step.Step.{Step}
use Rattle.port_memory.specs.declared.step.Step.TheVariants.{Wrote, Shortened, Synced}
use Rattle.port_memory.specs.History.{next_seen, seen_after, next_longest, longest_after, Takes, Images, Since, Noted}
use Rattle.port_memory.specs.Laws.{seen_left}

pub stays : (start : List ℕ) (steps : List Step) → Elapses (length steps) (length steps) (λ t. Since start t steps) (λ t. Since start t steps) (Images start steps)
stays start steps = record { later = omega arith; nothing_else = λ t c le left. inl left; keeps = λ t c le left. left }

pub one_more : (start : List ℕ) (steps : List Step) (step : Step) → Elapses (length steps) (length (step ∷ steps)) (λ t. Since start t steps) (λ t. Since start t (step ∷ steps)) (Images start (step ∷ steps))
one_more start steps step = record {
  later = omega arith;
  nothing_else = λ t c le left. ⊎_elim (λ now. inr now) (λ was. inl was.1) left;
  keeps = λ t c le left. inr (le, left);
}

pub torn_same : (at n : ℕ) (c : List ℕ) → Torn at n c c
torn_same at n c = record { before = refl; after = refl; no_shorter = omega arith; no_longer = omega arith }

pub cut_same : (n : ℕ) (c : List ℕ) → Cut n c c
cut_same n c = record { front = refl; no_shorter = omega arith; no_longer = omega arith }

pub torn_overlaid : (at : ℕ) (file bytes : List ℕ) → at ≤ length file → Torn at (length bytes) file (overlaid file at bytes)
torn_overlaid at file bytes le =
    let front = take at file in
    let back = drop (at + length bytes) file in
    let long : length front ≡ at = length-take-le at file le in
    record {
      before = ap (λ (l : List ℕ). take at l) (append_assoc front bytes back) ∙ take_at front (bytes ++ back) at long;
      after = drop_at (front ++ bytes) back (at + length bytes) (omega (arith, long, length-append front bytes));
      no_shorter = omega (arith, long, length-append (front ++ bytes) back, length-append front bytes, length-drop (at + length bytes) file);
      no_longer = omega (arith, long, length-append (front ++ bytes) back, length-append front bytes, length-drop (at + length bytes) file);
    }

pub cut_taken : (n : ℕ) (file : List ℕ) → n ≤ length file → Cut n file (take n file)
cut_taken n file le = record {
  front = take-take n n file (omega arith);
  no_shorter = omega (arith, length-take-le n file le);
  no_longer = omega (arith, length-take-le n file le);
}

torn_either : (done : Bool) (at : ℕ) (file bytes : List ℕ) → at ≤ length file → Torn at (length bytes) file (if done then overlaid file at bytes else file)
torn_either true at file bytes le = torn_overlaid at file bytes le
torn_either false at file bytes le = torn_same at (length bytes) file

cut_either : (done : Bool) (n : ℕ) (file : List ℕ) → n ≤ length file → Cut n file (if done then take n file else file)
cut_either true n file le = cut_taken n file le
cut_either false n file le = cut_same n file

module _ (start : List ℕ) (steps : List Step) where
  pub wrote_follows : (at : ℕ) (v : List ℕ) (done : Bool) → at ≤ length (seen_after start steps) → Follows (Torn at (length v)) (Images start steps) (Images start (Wrote at v done ∷ steps))
  wrote_follows at v done le c (inl now) = (seen_after start steps, seen_left start steps (seen_after start steps) refl, subst (λ f. Torn at (length v) (seen_after start steps) f) (sym now) (torn_either done at (seen_after start steps) v le))
  wrote_follows at v done le c (inr left) = left

  pub cut_follows : (n : ℕ) (done : Bool) → n ≤ length (seen_after start steps) → Follows (Cut n) (Images start steps) (Images start (Shortened n done ∷ steps))
  cut_follows n done le c (inl now) = (seen_after start steps, seen_left start steps (seen_after start steps) refl, subst (λ f. Cut n (seen_after start steps) f) (sym now) (cut_either done n (seen_after start steps) le))
  cut_follows n done le c (inr left) = left

  pub sync_only : Only (seen_after start steps) (Images start (Synced ∷ steps))
  sync_only c (inl now) = now
  sync_only c (inr left) = left.2

  pub sync_no_more : NoMore (Images start steps) (Images start (Synced ∷ steps))
  sync_no_more c (inl now) = seen_left start steps c now
  sync_no_more c (inr left) = seen_left start steps c left.2

-- A failed call, which was noted or not: a step that changes nothing as read, and may leave an image as it is.
module _ (start : List ℕ) (old new : List Step) (step : Step) (before now : ℕ) (noted : Noted step old new before now)
    (quiet : next_seen step (seen_after start old) ≡ seen_after start old) (idle : (c : List ℕ) → Takes step (seen_after start old) c c) where
  abbrev pub Change : List ℕ → List ℕ → Type 0
  Change d c = Takes step (seen_after start old) d c

  pub failed_longest : longest_after start new ≤ max (longest_after start old) (next_longest step (seen_after start old) (longest_after start old))
  failed_longest = ⊎_elim
      (λ is. omega (arith, ap (λ (h : List Step). longest_after start h) is.0))
      (λ is. omega (arith, ap (λ (h : List Step). longest_after start h) is.0))
      noted

  added : Follows Change (Images start old) (Images start (step ∷ old))
  added c (inl is) = (seen_after start old, seen_left start old (seen_after start old) refl, subst (λ (s : List ℕ). Change (seen_after start old) s) (sym (is ∙ quiet)) (idle (seen_after start old)))
  added c (inr left) = left

  pub failed_follows : Follows Change (Images start old) (Images start new)
  failed_follows = ⊎_elim
      (λ is. subst (λ (h : List Step). Follows Change (Images start old) (Images start h)) (sym is.0) added)
      (λ is. subst (λ (h : List Step). Follows Change (Images start old) (Images start h)) (sym is.0) (λ c left. (c, left, idle c)))
      noted

  pub failed_time : Elapses (length old) (length new) (λ t. Since start t old) (λ t. Since start t new) (Images start new)
  failed_time = ⊎_elim
      (λ is. subst (λ (h : List Step). Elapses (length old) (length h) (λ t. Since start t old) (λ t. Since start t h) (Images start h)) (sym is.0) (one_more start old step))
      (λ is. subst (λ (h : List Step). Elapses (length old) (length h) (λ t. Since start t old) (λ t. Since start t h) (Images start h)) (sym is.0) (stays start old))
      noted
