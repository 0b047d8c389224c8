use Rattle.std.proofs.Common.{◌∙◌, subst, ap, refl, None}
use Rattle.live_stage.specs.core_ends.history_spec.text_spec.StampReader.{stamp_of}
use Rattle.live_links.specs.Sweeps.{IsMoment}
use Rattle.live_links.proofs.SweepTexts.{moment_of}
use Rattle.live_links.proofs.sweeps.moment_in.Goals as goal

pub returns-in-Some : goal.returns-in-Some
returns-in-Some c = subst (λ o. IsMoment o c.read_stamp.result) c.in-Some.ensures (moment_of c.in-Some.text.now c.read_stamp.result (c.read_stamp.ensures.value ∙ ap stamp_of c.as_str.ensures))

pub returns-in-None : goal.returns-in-None
returns-in-None c = subst (λ o. IsMoment o None) c.in-None.ensures refl
