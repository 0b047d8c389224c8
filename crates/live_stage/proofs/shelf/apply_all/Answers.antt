use Rattle.std.proofs.Common.{◌<◌, ◌∙◌, refl, rules}
use Rattle.live_stage.proofs.Stepping.{goes_not, goes_join, goes_first, rest_lawful}
use Rattle.live_stage.proofs.shelf.apply_all.Goals as goal

pub applying-init : goal.applying-init
applying-init c = (c.requires.lawful, goes_not c.args.tables.now c.args.steps.now.items, refl)

pub applying-preserved : goal.applying-preserved
applying-preserved c =
    let all = c.applying.steps.items in
    let rest = c.pop_front.new.self.items in
    let is = c.pop_front.ensures.items in
    let left : 0 < c.applying.steps.len = search rules in
    let one = goes_first c.pop_front.result c.applying.tables c.apply_first.new.tables all rest (c.pop_front.ensures.variant.1 left) is c.in_ok-apply_first.ensures.ok in (
      rest_lawful c.pop_front.result all rest is c.applying.invariant.0,
      goes_join c.args.tables.now c.applying.tables c.apply_first.new.tables c.args.steps.now.items all rest c.applying.invariant.1 one,
      c.apply_first.ensures.lifetimes ∙ c.applying.invariant.2,
    )
