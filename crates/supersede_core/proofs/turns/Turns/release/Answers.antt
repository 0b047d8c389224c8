use Rattle.std.proofs.Common.{◌≤◌, sym, subst, rules, Some}
use Rattle.std.proofs.lemmas.Map.Text.{btree_map_updates_text}
use Rattle.supersede_core.specs.Turns.{claims}
use Rattle.supersede_core.proofs.GroupLaws.{releases_in}
use Rattle.supersede_core.proofs.turns.Turns.release.Goals as goal

pub release-requires : goal.release-requires
release-requires c = subst (λ o. 1 ≤ claims o) (sym c.in-Some.ensures.value) c.requires

pub returns : goal.returns
returns c =
    releases_in c.args.self.now (record { groups = c.get_mut.follows.lender c.release.new.self }) c.args.key.now c.in-Some.members.now c.release.new.self c.release.result c.in-Some.ensures.value
    (btree_map_updates_text c.args.key.now c.args.self.now.groups (c.get_mut.follows.lender c.release.new.self) (Some c.release.new.self) ((c.get_mut.follows.holds c.release.new.self).3 (search rules)))
    c.release.ensures.ranks c.release.ensures.claims c.release.ensures.turn
