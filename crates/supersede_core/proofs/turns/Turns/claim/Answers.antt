use Rattle.std.proofs.Common.{◌<◌, ◌-◌, ◌^◌, sym, subst, rules, Some}
use Rattle.std.proofs.lemmas.Map.Text.{btree_map_updates_text}
use Rattle.supersede_core.specs.Turns.{claims}
use Rattle.supersede_core.proofs.GroupLaws.{claims_in}
use Rattle.supersede_core.proofs.turns.Turns.claim.Goals as goal

pub claim-requires : goal.claim-requires
claim-requires c = subst (λ o. claims o < 2 ^ 32 - 1) (sym c.in-Some.ensures.value) c.requires.few

pub returns : goal.returns
returns c =
    claims_in c.args.self.now (record { groups = c.get_mut.follows.lender c.claim.new.self }) c.args.key.now c.in-Some.members.now c.claim.new.self c.claim.result c.in-Some.ensures.value
    (btree_map_updates_text c.args.key.now c.args.self.now.groups (c.get_mut.follows.lender c.claim.new.self) (Some c.claim.new.self) ((c.get_mut.follows.holds c.claim.new.self).3 (search rules)))
    c.claim.ensures.ranks c.claim.ensures.claims c.claim.ensures.turn
