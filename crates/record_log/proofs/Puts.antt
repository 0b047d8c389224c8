-- The three steps of putting a frame: its block, its gate, the mend.
use Rattle.std.proofs.Common.{◌≡◌, inl, ℕ, ◌+◌, ◌^◌, ◌<◌, List, [], ◌∷◌, ◌++◌, length, ◌∙◌, ap, subst}
use Rattle.fleet_ports.specs.Disks.{overlaid, Torn, Follows, Only}
use Rattle.fleet_ports.specs.Moments.{LeavesOnly}
use Rattle.fleet_ports.proofs.Runs.{joins, weakens}
use Rattle.log_spec.specs.Image.{standing}
use Rattle.log_spec.specs.ImageOf.{image_of, block_text}
use Rattle.record_log.specs.Log.{AllStand, TornFrom, IsOldOrNew}
use Rattle.record_log.proofs.Crash.{torn_behind, torn_open, torn_again, written_open, written_shut}

module _ {D : Type 0} (seen : D → List ℕ) (may_leave : D → List ℕ → Type 0) (moment : D → ℕ) (left_since : D → ℕ → List ℕ → Type 0) (Told : Type 0) (stays : (d : D) → Told → may_leave d (seen d)) (told : (d : D) (c : List ℕ) → may_leave d c → Told)
    (g : ℕ) (fs : List (List ℕ)) (q : ℕ) (frame block : List ℕ) (block_is : block ≡ block_text frame ++ 0 ∷ []) (small : length frame < 2 ^ 32)
    (old staged : D) (stand : AllStand (may_leave old) (standing g fs q))
    (images : Follows (Torn (q + 1) (length block)) (may_leave old) (may_leave staged)) (moments : LeavesOnly moment left_since old staged (TornFrom (may_leave old) (q + 1) (length block))) where
  abbrev P : List ℕ → Type 0
  P = IsOldOrNew g fs q frame

  behind_is : (c : List ℕ) → TornFrom (may_leave old) (q + 1) (length block) c → image_of c ≡ standing g fs q
  behind_is c torn = torn_behind torn.0 g fs q (stand torn.0 torn.1) (length block) c torn.2

  pub staged_moments : LeavesOnly moment left_since old staged P
  staged_moments = weakens moment left_since old staged (TornFrom (may_leave old) (q + 1) (length block)) P (λ c torn. inl (behind_is c torn)) moments

  pub staged_images : AllStand (may_leave staged) (standing g fs q)
  staged_images c left = behind_is c (images c left)

  -- the block is on the disk
  module _ (durable : Only (seen staged) (may_leave staged)) (written : Told → seen staged ≡ overlaid (seen old) (q + 1) block) (opened : D)
      (images2 : Follows (Torn q 1) (may_leave staged) (may_leave opened)) (moments2 : LeavesOnly moment left_since staged opened (TornFrom (may_leave staged) q 1)) where
    old_is : Told → image_of (seen old) ≡ standing g fs q
    old_is t = stand (seen old) (stays old t)

    staged_is : Told → seen staged ≡ overlaid (seen old) (q + 1) (block_text frame ++ 0 ∷ [])
    staged_is t = written t ∙ ap (λ (l : List ℕ). overlaid (seen old) (q + 1) l) block_is

    from_staged : (d c : List ℕ) → may_leave staged d → Torn q 1 d c → Torn q 1 (seen staged) c
    from_staged d c left torn = subst (λ f. Torn q 1 f c) (durable d left) torn

    gate_is : (c : List ℕ) → TornFrom (may_leave staged) q 1 c → P c
    gate_is c torn =
        let t = told staged torn.0 torn.1 in
        torn_open (seen old) g fs q (old_is t) frame small (seen staged) (staged_is t) c (from_staged torn.0 c torn.1 torn.2)

    pub opened_moments : LeavesOnly moment left_since old opened P
    opened_moments = joins moment left_since old staged opened P staged_moments (weakens moment left_since staged opened (TornFrom (may_leave staged) q 1) P gate_is moments2)

    pub opened_images : Only (seen opened) (may_leave opened) → (Told → seen opened ≡ overlaid (seen staged) q (1 ∷ [])) → AllStand (may_leave opened) (standing g (fs ++ frame ∷ []) (q + 5 + length frame))
    opened_images durable2 written2 c left =
        let t = told opened c left in
        ap image_of (durable2 c left ∙ written2 t) ∙ written_open (seen old) g fs q (old_is t) frame small (seen staged) (staged_is t)

    -- the gate's write or its sync failed
    module _ (mended : D) (images3 : Follows (Torn q 1) (may_leave opened) (may_leave mended)) (moments3 : LeavesOnly moment left_since opened mended (TornFrom (may_leave opened) q 1)) where
      twice : (c : List ℕ) → TornFrom (may_leave opened) q 1 c → P c
      twice c torn =
          let from = images2 torn.0 torn.1 in
          let t = told opened torn.0 torn.1 in
          torn_again (seen old) g fs q (old_is t) frame small (seen staged) (staged_is t) torn.0 c (from_staged from.0 torn.0 from.1 from.2) torn.2

      pub mended_moments : LeavesOnly moment left_since old mended P
      mended_moments = joins moment left_since old opened mended P opened_moments (weakens moment left_since opened mended (TornFrom (may_leave opened) q 1) P twice moments3)

      pub mended_images : (c : List ℕ) → may_leave mended c → P c
      mended_images c left = twice c (images3 c left)

      pub shut_images : Only (seen mended) (may_leave mended) → (Told → seen mended ≡ overlaid (seen opened) q (0 ∷ [])) → AllStand (may_leave mended) (standing g fs q)
      shut_images durable3 written3 c left =
          let t = told mended c left in
          let from = images2 (seen opened) (stays opened t) in
          ap image_of (durable3 c left ∙ written3 t)
          ∙ written_shut (seen old) g fs q (old_is t) frame small (seen staged) (staged_is t) (seen opened) (from_staged from.0 (seen opened) from.1 from.2)
