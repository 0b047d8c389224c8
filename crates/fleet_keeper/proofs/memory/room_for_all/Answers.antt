use Rattle.std.proofs.Common.{◌≡◌, ℕ, ◌-◌, ◌^◌, List, map, inl, inr, ap, subst, ◌∙◌, arith}
use Rattle.log_pair.specs.record_log.Lay.{Fits, IsTooLong, laid_size}
use Rattle.log_pair.proofs.of_record_log.Lays.{fits_not_long}
use Rattle.core_spec.specs.record_spec.Store.{store_text}
use Rattle.fleet_keeper.specs.Limits.{ArePast}
use Rattle.fleet_keeper.proofs.memory.room_for_all.Goals as goal

none_past : (generation : ℕ) (texts : List (List ℕ)) → (generation ≡ 2 ^ 64 - 1 → ⊥) → (IsTooLong texts → ⊥) → ArePast generation texts → ⊥
none_past generation texts not fits (inl last) = not last
none_past generation texts not fits (inr long) = fits long

pub returns : goal.returns
returns c =
    let texts = map store_text c.args.recs.now in
    let are : c.in-Ok.frames ≡ texts = c.in-Ok.ensures.spelt ∙ ap (map store_text) c.as_slice.ensures.value in
    let fits = subst (λ (fs : List (List ℕ)). Fits fs) are (c.fit.ensures.fits c.if-not-fit.false) in
    record {
      found = (
        are,
        c.size_with-size.ensures.size ∙ ap laid_size (c.as_slice-2.ensures.value ∙ are),
        none_past c.args.generation texts (λ last. omega (arith, last, c.if-generation-eq18446744073709551615.false)) (fits_not_long texts fits),
      );
    }
