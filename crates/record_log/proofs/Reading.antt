-- What is read behind the head of a file, frame by frame.
use Rattle.std.proofs.Common.{◌≡◌, ℕ, ◌≤◌, List, [], ◌∷◌, ◌++◌, length, drop, ◌∙◌, ap, Err}
use Rattle.std.proofs.lemmas.List.{append-nil, drop_all}
use Rattle.log_spec.specs.ImageOf.{ends, behind, walk, found, opened, image_of}
use Rattle.log_spec.specs.Image.{damaged, standing}
use Rattle.record_log.specs.declared.open.OpenFault.{OpenFault}
use Rattle.record_log.specs.declared.open.OpenFault.TheVariants.{Closed, Damaged, DiskFault, Memory}
use Rattle.record_log.specs.Open.{MatchOpened, MatchFrame}
use Rattle.log_spec.proofs.Walks.{prepends}
use Rattle.log_spec.proofs.Opens.{prepends-ends}
use Rattle.log_spec.proofs.Heads.{prepends-breaks, prepends-behind}

module _ (file : List ℕ) (g at : ℕ) (vs : List (List ℕ)) (so_far : image_of file ≡ opened g (prepends vs (found at (drop at file)))) where
  pub read_end : length file ≤ at → image_of file ≡ damaged at
  unfolding walk
  read_end past =
      so_far ∙ ap (λ (l : List ℕ). opened g (prepends vs (found at l))) (drop_all at file past) ∙ ap (λ w. opened g w) (prepends-breaks vs at)

  pub read_shut : found at (drop at file) ≡ ends [] at → image_of file ≡ standing g vs at
  read_shut is = so_far ∙ ap (λ w. opened g (prepends vs w)) is ∙ ap (λ w. opened g w) (prepends-ends vs [] at) ∙ ap (λ (l : List (List ℕ)). standing g l at) (append-nil vs)

  pub read_more : (v : List ℕ) (next : ℕ) → found at (drop at file) ≡ behind v (found next (drop next file)) → image_of file ≡ opened g (prepends (vs ++ v ∷ []) (found next (drop next file)))
  read_more v next is =
      so_far ∙ ap (λ w. opened g (prepends vs w)) is ∙ ap (λ w. opened g w) (prepends-behind vs v (found next (drop next file)))

  pub read_fault : (e : OpenFault) → MatchFrame (Err e) at file → MatchOpened (Err e) (image_of file)
  read_fault Closed is = absurd is
  read_fault (Damaged place) is = so_far ∙ ap (λ w. opened g (prepends vs w)) is ∙ ap (λ w. opened g w) (prepends-breaks vs place)
  read_fault DiskFault is = tt
  read_fault Memory is = tt
