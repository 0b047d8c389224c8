use Rattle.std.proofs.Common.{◌≡◌, ◌∙◌, [], ◌∷◌, ◌++◌, length, refl, sym, ap, subst}
use Rattle.live_front.specs.declared.entry.Passing.TheVariants.{Back}
use Rattle.live_front.specs.Entries.{entries_of, links_out, ends}
use Rattle.live_front.specs.Courses.{FrontCourse, sight_of}
use Rattle.live_front.proofs.EntryLaws.{noted_more, counted_more, outs_same, ends_same}
use Rattle.live_front.proofs.CourseSteps.{takes_back}
use Rattle.live_front.proofs.shared.SharedFront.give_back.Goals as goal

pub invariant_of-self : goal.invariant_of-self
invariant_of-self g c =
    let w = sight_of g.F.Front g.F.Incoming.Source g.F.Outgoing.Sink in
    let inv = c.self.invariant in
    let old = entries_of c.self.inside.passed.items in
    let now = entries_of c.noted_back-link.new.passed.items in
    let link = c.args.link in
    let is : now ≡ old ++ Back link ∷ [] = noted_more c.self.inside.passed.items c.noted_back-link.new.passed.items (Back link) 0 c.noted_back-link.ensures.noted in
    let e = c.give_back.ensures in (
      counted_more c.self.inside.entries old now (Back link) is inv.0,
      inv.1 ∙ sym (ap (λ es. length (links_out es)) is ∙ ap (λ l. length l) (outs_same old (Back link) refl)),
      inv.2,
      ap (λ es. ends es) is ∙ (ends_same old (Back link) refl ∙ inv.3),
      subst (λ es. FrontCourse w c.self.inside.start.value es c.give_back.new.self) (sym is)
          (takes_back w c.self.inside.start.value c.self.inside.front c.give_back.new.self old inv.4 e.listens e.left e.handed_out link
          (e.given_back ∙ ap (λ l. w.given_back c.self.inside.front ++ w.link l ∷ []) c.noted_back-link.ensures.same) e.calm),
    )
