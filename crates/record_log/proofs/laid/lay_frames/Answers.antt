use Rattle.std.proofs.Common.{◌⊎◌, ◌∷◌, [], ℕ, List, inl, inr, ◌∙◌, ap, subst}
use Rattle.fleet_ports.specs.Disks.{Torn, overlaid}
use Rattle.fleet_ports.proofs.Runs.{joins, weakens}
use Rattle.log_spec.specs.ImageOf.{image_of}
use Rattle.record_log.specs.Log.{TornFrom}
use Rattle.record_log.specs.Lay.{IsOldOrClosed, IsLaying}
use Rattle.record_log.proofs.Lays.{torn_first, torn_laid, fits_not_long}
use Rattle.log_spec.proofs.Laid.{laid_is}
use Rattle.record_log.proofs.laid.lay_frames.Goals as goal

closed_or_laid : {A B C : Type 0} → A ⊎ B → (C ⊎ A) ⊎ B
closed_or_laid (inl a) = inl (inr a)
closed_or_laid (inr b) = inr b

pub returns-in-Err-clause-any_moment : goal.returns-in-Err-clause-any_moment
returns-in-Err-clause-any_moment g c =
    let d = g.D.Disk in
    let old = c.args.disk.now in
    let frames = c.args.frames.now in
    weakens d.moment d.left_since old c.prepare.new.disk (IsOldOrClosed (d.may_leave old)) (IsLaying (d.may_leave old) c.args.generation frames) (λ f was. inl was) c.prepare.ensures.any_moment

pub returns-in-Ok-write_synced-clause-ok : goal.returns-in-Ok-write_synced-clause-ok
returns-in-Ok-write_synced-clause-ok g c f now =
    let told = g.met.D.Disk.told c.write_synced.new.disk f now in
    let laid = c.in-Ok.ensures.written told in
    let frames = c.args.frames.now in
    ap image_of (c.in-Ok-write_synced.ensures.durable f now ∙ c.in-Ok-write_synced.ensures.written told ∙ ap (λ (l : List ℕ). overlaid l 0 (1 ∷ [])) laid.2)
    ∙ laid_is c.args.generation frames c.ranges.generation.fits (c.fits.ensures.fits c.if-not-fits.false).short

pub returns-in-Ok-write_synced-clause-bytes : goal.returns-in-Ok-write_synced-clause-bytes
returns-in-Ok-write_synced-clause-bytes g c f now =
    let told = g.met.D.Disk.told c.write_synced.new.disk f now in
    c.in-Ok-write_synced.ensures.durable f now ∙ c.in-Ok-write_synced.ensures.written told ∙ ap (λ (l : List ℕ). overlaid l 0 (1 ∷ [])) (c.in-Ok.ensures.written told).2

pub returns-in-Ok-write_synced-clause-any_moment : goal.returns-in-Ok-write_synced-clause-any_moment
returns-in-Ok-write_synced-clause-any_moment g c =
    let d = g.D.Disk in
    let old = c.args.disk.now in
    let mid = c.prepare.new.disk in
    let frames = c.args.frames.now in
    let P = IsLaying (d.may_leave old) c.args.generation frames in
    let first = weakens d.moment d.left_since old mid (IsOldOrClosed (d.may_leave old)) P (λ f was. inl was) c.prepare.ensures.any_moment in
    let torn : (f : List ℕ) → TornFrom (d.may_leave mid) 0 1 f → P f = λ f t.
    let laid = c.in-Ok.ensures.written (g.met.D.Disk.told mid t.0 t.1) in
    closed_or_laid (torn_first c.args.generation frames laid.0 f c.ranges.generation.fits (c.fits.ensures.fits c.if-not-fits.false).short (subst (λ (l : List ℕ). Torn 0 1 l f) (c.in-Ok.ensures.durable t.0 t.1 ∙ laid.2) t.2)) in
    joins d.moment d.left_since old mid c.write_synced.new.disk P first (weakens d.moment d.left_since mid c.write_synced.new.disk (TornFrom (d.may_leave mid) 0 1) P torn c.write_synced.ensures.any_moment)

pub returns-in-Err-write_synced-clause-any_moment : goal.returns-in-Err-write_synced-clause-any_moment
returns-in-Err-write_synced-clause-any_moment g c =
    let d = g.D.Disk in
    let old = c.args.disk.now in
    let mid = c.prepare.new.disk in
    let frames = c.args.frames.now in
    let P = IsLaying (d.may_leave old) c.args.generation frames in
    let first = weakens d.moment d.left_since old mid (IsOldOrClosed (d.may_leave old)) P (λ f was. inl was) c.prepare.ensures.any_moment in
    let torn : (f : List ℕ) → TornFrom (d.may_leave mid) 0 1 f → P f = λ f t.
    let laid = c.in-Ok.ensures.written (g.met.D.Disk.told mid t.0 t.1) in
    closed_or_laid (torn_first c.args.generation frames laid.0 f c.ranges.generation.fits (c.fits.ensures.fits c.if-not-fits.false).short (subst (λ (l : List ℕ). Torn 0 1 l f) (c.in-Ok.ensures.durable t.0 t.1 ∙ laid.2) t.2)) in
    joins d.moment d.left_since old mid c.write_synced.new.disk P first (weakens d.moment d.left_since mid c.write_synced.new.disk (TornFrom (d.may_leave mid) 0 1) P torn c.write_synced.ensures.any_moment)

pub returns-in-Err-write_synced-clause-opened : goal.returns-in-Err-write_synced-clause-opened
returns-in-Err-write_synced-clause-opened g c failed f now =
    let t = c.write_synced.ensures.images f now in
    let laid = c.in-Ok.ensures.written (g.met.D.Disk.told c.prepare.new.disk t.0 t.1) in
    torn_laid c.args.generation c.args.frames.now t.0 f (laid.0, c.in-Ok.ensures.durable t.0 t.1 ∙ laid.2) t.2

pub returns-in-Err-clause-too_long : goal.returns-in-Err-clause-too_long
returns-in-Err-clause-too_long g c = (λ e. cc, λ long. absurd (fits_not_long c.args.frames.now (c.fits.ensures.fits c.if-not-fits.false) long))

pub returns-in-Ok-write_synced-clause-too_long : goal.returns-in-Ok-write_synced-clause-too_long
returns-in-Ok-write_synced-clause-too_long g c = (λ e. cc, λ long. absurd (fits_not_long c.args.frames.now (c.fits.ensures.fits c.if-not-fits.false) long))

pub returns-in-Err-write_synced-clause-too_long : goal.returns-in-Err-write_synced-clause-too_long
returns-in-Err-write_synced-clause-too_long g c = (λ e. cc, λ long. absurd (fits_not_long c.args.frames.now (c.fits.ensures.fits c.if-not-fits.false) long))
