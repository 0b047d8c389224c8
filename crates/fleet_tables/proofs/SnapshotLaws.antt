-- Lists that are made group by group: what is listed so far, and the rest, are the whole.
use Rattle.std.proofs.Common.{◌≡◌, ◌∙◌, ℕ, ◌+◌, List, ◌++◌, map, drop, slice_get, Some, sym, ap, add-one}
use Rattle.std.specs.List.{flat_map}
use Rattle.std.proofs.lemmas.Grind.{flat_map-append}
use Rattle.std.proofs.lemmas.List.{map-append}
use Rattle.checkpoint_spec.specs.table_machine.Table.{Node}
use Rattle.kept_nodes.proofs.SnapshotLaws.{goes_on}
use Rattle.fleet_tables.specs.Groups.{joined}
use Rattle.fleet_tables.proofs.JoinedNodes.{Groups, dropped}

module _ {X : Type 0} (so_far new whole : List X) where
  module _ (groups : Groups) (k : ℕ) (g : List Node) (there : slice_get groups k ≡ Some g) where
    parts : joined (drop k groups) ≡ g ++ joined (drop (k + 1) groups)
    parts = dropped groups k g there ∙ ap (λ j. g ++ joined (drop j groups)) (sym (add-one k))

    pub group_mapped : (f : Node → X) → new ≡ so_far ++ map f g → so_far ++ map f (joined (drop k groups)) ≡ whole → new ++ map f (joined (drop (k + 1) groups)) ≡ whole
    group_mapped f is h =
        goes_on so_far new whole (map f g) (map f (joined (drop (k + 1) groups))) (map f (joined (drop k groups))) is (ap (map f) parts ∙ map-append f g (joined (drop (k + 1) groups))) h

    pub group_flat : (f : Node → List X) → new ≡ so_far ++ flat_map f g → so_far ++ flat_map f (joined (drop k groups)) ≡ whole → new ++ flat_map f (joined (drop (k + 1) groups)) ≡ whole
    group_flat f is h =
        goes_on so_far new whole (flat_map f g) (flat_map f (joined (drop (k + 1) groups))) (flat_map f (joined (drop k groups))) is (ap (flat_map f) parts ∙ flat_map-append f g (joined (drop (k + 1) groups))) h
