use Rattle.std.proofs.Common.{◌≡◌, ◌∙◌, ◌+◌, ◌≤◌, [], ◌∷◌, ◌++◌, length, refl, sym, ap, subst, arith}
use Rattle.live_front.specs.declared.entry.Passing.TheVariants.{Out, Ended, Failed}
use Rattle.live_front.specs.Entries.{entries_of, links_out, ends}
use Rattle.live_front.specs.Courses.{FrontCourse, sight_of}
use Rattle.live_front.proofs.EntryLaws.{noted_more, counted_more, outs_more, outs_same, ends_same, ends_first, one_longer, none_told}
use Rattle.live_front.proofs.CourseSteps.{hands_out, tells_end, tells_failure}
use Rattle.live_front.proofs.shared.SharedFront.take.Goals as goal

pub invariant_of-self : goal.invariant_of-self
invariant_of-self g c =
    let w = sight_of g.F.Front g.F.Incoming.Source g.F.Outgoing.Sink in
    let inv = c.self.invariant in
    let old = entries_of c.self.inside.passed.items in
    let now = entries_of c.noted_out.new.passed.items in
    let link = c.in-Link.link in
    let is : now ≡ old ++ Out link ∷ [] = noted_more c.self.inside.passed.items c.noted_out.new.passed.items (Out link) 0 c.noted_out.ensures.noted in
    let none_yet : ends old ≡ [] = inv.3 ∙ none_told c.self.inside.end (sym c.is_some.ensures ∙ c.if-is_some.false) in
    let outs : links_out now ≡ links_out old ++ link ∷ [] = ap (λ es. links_out es) is ∙ outs_more old (Out link) in
    let room : c.self.inside.out + 1 ≤ c.self.inside.limit = grind (arith, c.if-self.false) in
    let e = c.in-Link.ensures in (
      counted_more c.self.inside.entries old now (Out link) is inv.0,
      (let long = one_longer (links_out old) (links_out now) link outs in let was = inv.1 in omega arith),
      room,
      ap (λ es. ends es) is ∙ (ends_same old (Out link) refl ∙ inv.3),
      subst (λ es. FrontCourse w c.self.inside.start.value es c.next.new.self) (sym is)
          (hands_out w c.self.inside.start.value c.self.inside.front c.next.new.self old inv.4 e.listens link none_yet e.link e.calm e.counted e.given_back (e.cause.calm (λ fault. fault))),
    )

pub invariant_of-self-in-Ended : goal.invariant_of-self-in-Ended
invariant_of-self-in-Ended g c =
    let w = sight_of g.F.Front g.F.Incoming.Source g.F.Outgoing.Sink in
    let inv = c.self.invariant in
    let old = entries_of c.self.inside.passed.items in
    let now = entries_of c.note.new.passed.items in
    let is : now ≡ old ++ Ended ∷ [] = noted_more c.self.inside.passed.items c.note.new.passed.items Ended 0 c.note.ensures in
    let none_yet : ends old ≡ [] = inv.3 ∙ none_told c.self.inside.end (sym c.is_some.ensures ∙ c.if-is_some.false) in
    let e = c.in-Ended.ensures in (
      counted_more c.self.inside.entries old now Ended is inv.0,
      inv.1 ∙ sym (ap (λ es. length (links_out es)) is ∙ ap (λ l. length l) (outs_same old Ended refl)),
      inv.2,
      ap (λ es. ends es) is ∙ ends_first old Ended none_yet,
      subst (λ es. FrontCourse w c.self.inside.start.value es c.next.new.self) (sym is)
          (tells_end w c.self.inside.start.value c.self.inside.front c.next.new.self old inv.4 e.listens e.stays.0 e.stays.1 none_yet e.given_back (e.ended refl) (e.cause.calm (λ fault. fault))),
    )

pub invariant_of-self-in-Failed : goal.invariant_of-self-in-Failed
invariant_of-self-in-Failed g c =
    let w = sight_of g.F.Front g.F.Incoming.Source g.F.Outgoing.Sink in
    let inv = c.self.invariant in
    let old = entries_of c.self.inside.passed.items in
    let now = entries_of c.note-in-Failed.new.passed.items in
    let is : now ≡ old ++ Failed ∷ [] = noted_more c.self.inside.passed.items c.note-in-Failed.new.passed.items Failed 0 c.note-in-Failed.ensures in
    let none_yet : ends old ≡ [] = inv.3 ∙ none_told c.self.inside.end (sym c.is_some.ensures ∙ c.if-is_some.false) in
    let e = c.in-Failed.ensures in (
      counted_more c.self.inside.entries old now Failed is inv.0,
      inv.1 ∙ sym (ap (λ es. length (links_out es)) is ∙ ap (λ l. length l) (outs_same old Failed refl)),
      inv.2,
      ap (λ es. ends es) is ∙ ends_first old Failed none_yet,
      subst (λ es. FrontCourse w c.self.inside.start.value es c.next.new.self) (sym is)
          (tells_failure w c.self.inside.start.value c.self.inside.front c.next.new.self old inv.4 e.listens e.stays.0 e.stays.1 none_yet e.given_back (e.cause.cause tt) e.cause.later),
    )
