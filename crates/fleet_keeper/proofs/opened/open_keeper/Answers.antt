use Rattle.std.proofs.Common.{◌≡◌, ℕ, List, Err, sym, ap, subst, ◌∙◌}
use Rattle.log_pair.specs.log_spec.ImageOf.{image_of}
use Rattle.log_pair.specs.log_spec.PairImage.{counts, pair_image}
use Rattle.log_pair.specs.log_spec.declared.side.Side.{Side}
use Rattle.log_pair.specs.record_log.Log.{gate_of}
use Rattle.log_pair.specs.Pair.{side_of, log_of, generation_of_pair}
use Rattle.fleet_keeper.specs.declared.frames.Unread.{Unread}
use Rattle.fleet_keeper.specs.declared.frames.Unread.TheVariants as unread
use Rattle.fleet_keeper.specs.Opened.{MatchRead, IsDamageOf}
use Rattle.fleet_keeper.proofs.Openings.{damage_is}
use Rattle.fleet_keeper.proofs.opened.open_keeper.Goals as goal

pub returns-in-Err-Damaged-clause-told : goal.returns-in-Err-Damaged-clause-told
returns-in-Err-Damaged-clause-told g c told =
    let d = g.D.Disk in
    let pair = c.in-Ok.opened.0 in
    let at = c.in-Err-Damaged.at in
    let a = d.seen c.args.a in
    let b = d.seen c.args.b in
    let frames = c.into_vec.result.items in
    let is : pair_image (image_of a) (image_of b) ≡ counts (side_of pair) (generation_of_pair pair) frames (gate_of (log_of pair)) =
    c.in-Ok.ensures.told told ∙ ap (λ (fs : List (List ℕ)). counts (side_of pair) (generation_of_pair pair) fs (gate_of (log_of pair))) (sym c.into_vec.ensures.value) in
    let damage : MatchRead (Err (unread.Damaged at)) frames = subst (λ (u : Unread). MatchRead (Err u) frames) c.in-Err-Damaged.field-0-is c.in-Err-Damaged.ensures.told in
    subst (λ (s : Side). IsDamageOf (pair_image (image_of a) (image_of b)) s at) (sym c.side-file.ensures.value)
    (damage_is a b (generation_of_pair pair) frames (gate_of (log_of pair)) (side_of pair) at damage.0 pair.log.gate.small is damage.1 damage.2)

pub returns-in-Err-Damaged-clause-damaged : goal.returns-in-Err-Damaged-clause-damaged
returns-in-Err-Damaged-clause-damaged g c file place same a b is_a is_b =
    let d = g.D.Disk in
    let pair = c.in-Ok.opened.0 in
    let at = c.in-Err-Damaged.at in
    let frames = c.into_vec.result.items in
    let there_a = subst (λ (disk : g.row.D.Denot). d.may_leave disk a) c.into_disks-a.ensures.first is_a in
    let there_b = subst (λ (disk : g.row.D.Denot). d.may_leave disk b) c.into_disks-a.ensures.second is_b in
    let is : pair_image (image_of a) (image_of b) ≡ counts (side_of pair) (generation_of_pair pair) frames (gate_of (log_of pair)) =
    c.in-Ok.ensures.stands a b there_a there_b ∙ ap (λ (fs : List (List ℕ)). counts (side_of pair) (generation_of_pair pair) fs (gate_of (log_of pair))) (sym c.into_vec.ensures.value) in
    let damage : MatchRead (Err (unread.Damaged at)) frames = subst (λ (u : Unread). MatchRead (Err u) frames) c.in-Err-Damaged.field-0-is c.in-Err-Damaged.ensures.told in
    let side_is : side_of pair ≡ file = (let told : c.side-file.result ≡ file = cc in sym c.side-file.ensures.value ∙ told) in
    let at_is : at ≡ place = cc in
    subst (λ (s : Side). IsDamageOf (pair_image (image_of a) (image_of b)) s place) side_is
    (subst (λ (n : ℕ). IsDamageOf (pair_image (image_of a) (image_of b)) (side_of pair) n) at_is
    (damage_is a b (generation_of_pair pair) frames (gate_of (log_of pair)) (side_of pair) at damage.0 pair.log.gate.small is damage.1 damage.2))
