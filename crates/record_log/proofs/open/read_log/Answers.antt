use Rattle.std.proofs.Common.{rules, Ok, Err, Some, None, subst, bytes_eq, ◌≡◌, ◌+◌, ℕ, List, length, take, drop, get_or, sym, ◌∙◌, ap, arith}
use Rattle.std.proofs.lemmas.List.{get_or-take}
use Rattle.std.specs.Int.{w64, from_le_bytes}
use Rattle.log_spec.specs.ImageOf.{opened, found, behind}
use Rattle.log_spec.specs.Image.{magic}
use Rattle.record_log.specs.Open.{MatchFrame}
use Rattle.log_spec.proofs.Walks.{prepends}
use Rattle.log_spec.proofs.Heads.{image_short, image_shut, image_other, image_read}
use Rattle.record_log.proofs.Reading.{read_end, read_shut, read_more, read_fault}
use Rattle.record_log.proofs.open.read_log.Goals as goal

pub returns-then-len-lt17-clause-told : goal.returns-then-len-lt17-clause-told
returns-then-len-lt17-clause-told g c told =
    let file = g.D.Disk.seen c.args.disk.now in
    let len = c.in-Ok-measure.ensures.length told ∙ ap length c.flush.ensures.untouched.same in
    image_short file (omega (arith, len, c.if-len-lt17.true))

pub returns-then-head-ne1-clause-told : goal.returns-then-head-ne1-clause-told
returns-then-head-ne1-clause-told g c told =
    let file = g.D.Disk.seen c.args.disk.now in
    let same = c.open_window.ensures.untouched.same ∙ c.measure.ensures.untouched.same ∙ c.flush.ensures.untouched.same in
    let head = c.in-Ok-read_head.ensures.bytes told ∙ ap (λ (l : List ℕ). take 16 l) same in
    image_shut file (λ e. c.if-head-ne1.true (ap (λ (l : List ℕ). get_or l 0 0) head ∙ get_or-take 16 file 0 0 (omega arith) ∙ e))

pub returns-then-not-is_magic-clause-told : goal.returns-then-not-is_magic-clause-told
returns-then-not-is_magic-clause-told g c told =
    let file = g.D.Disk.seen c.args.disk.now in
    let same = c.open_window.ensures.untouched.same ∙ c.measure.ensures.untouched.same ∙ c.flush.ensures.untouched.same in
    let head = c.in-Ok-read_head.ensures.bytes told ∙ ap (λ (l : List ℕ). take 16 l) same in
    let len = c.in-Ok-measure.ensures.length told ∙ ap length c.flush.ensures.untouched.same in
    let first = sym (get_or-take 16 file 0 0 (omega arith)) ∙ ap (λ (l : List ℕ). get_or l 0 0) (sym head) ∙ c.if-head-ne1.false in
    let tested = sym c.is_magic.ensures ∙ c.if-not-is_magic.true in
    image_other file (omega (arith, len, c.if-len-lt17.false)) first (ap (λ (l : List ℕ). bytes_eq (take 7 (drop 1 l)) magic) (sym head) ∙ tested)

pub reading-init : goal.reading-init
reading-init g c =
    let file = g.D.Disk.seen c.args.disk.now in
    let same = c.open_window.ensures.untouched.same ∙ c.measure.ensures.untouched.same ∙ c.flush.ensures.untouched.same in
    record {
      untouched = search rules;
      later = grind arith;
      durable = λ f now. c.in-Ok.ensures.durable f (c.measure.ensures.untouched.images f (c.open_window.ensures.untouched.images f (c.read_head.ensures.untouched.images f now)));
      shows = λ told. c.in-Ok-read_head.ensures.shows told;
      length = λ told. c.in-Ok-measure.ensures.length told ∙ ap length c.flush.ensures.untouched.same;
      read = λ told.
          let head = c.in-Ok-read_head.ensures.bytes told ∙ ap (λ (l : List ℕ). take 16 l) same in
          let len = c.in-Ok-measure.ensures.length told ∙ ap length c.flush.ensures.untouched.same in
          let first = sym (get_or-take 16 file 0 0 (omega arith)) ∙ ap (λ (l : List ℕ). get_or l 0 0) (sym head) ∙ c.if-head-ne1.false in
          let is_magic = ap (λ (l : List ℕ). bytes_eq (take 7 (drop 1 l)) magic) (sym head) ∙ sym c.is_magic.ensures ∙ c.if-not-is_magic.false in
          let says = ap (λ (l : List ℕ). from_le_bytes w64 (take 8 (drop 8 l))) (sym head) ∙ sym c.generation_of-generation.ensures in
          image_read file (omega (arith, len, c.if-len-lt17.false)) first is_magic
          ∙ ap (λ (n : ℕ). opened n (found 16 (drop 16 file))) says
          ∙ ap (λ (vs : List (List ℕ)). opened c.generation_of-generation.result (prepends vs (found 16 (drop 16 file)))) (sym c.new-frames.ensures.empty);
    }

pub returns-in-Err-clause-told : goal.returns-in-Err-clause-told
returns-in-Err-clause-told g c told =
    let file = g.D.Disk.seen c.args.disk.now in
    let i = c.reading.invariant in
    let is = subst (λ f. MatchFrame (Err c.in-Err.fault) c.reading.at f) i.untouched.same (c.in-Err.ensures.told told) in
    read_fault file _ c.reading.at c.reading.frames (i.read told) c.in-Err.fault is

pub returns-in-Ok-None-clause-told : goal.returns-in-Ok-None-clause-told
returns-in-Ok-None-clause-told g c told =
    let file = g.D.Disk.seen c.args.disk.now in
    let i = c.reading.invariant in
    let was = subst (λ o. MatchFrame (Ok o) c.reading.at (g.D.Disk.seen c.reading.disk)) c.in-Ok-None.field-0-is (c.in-Ok-None.ensures.told told) in
    let is = subst (λ f. MatchFrame (Ok None) c.reading.at f) i.untouched.same was in
    read_shut file _ c.reading.at c.reading.frames (i.read told) is

pub reading-preserved : goal.reading-preserved
reading-preserved g c =
    let file = g.D.Disk.seen c.args.disk.now in
    let i = c.reading.invariant in
    let at = c.reading.at in
    let frame = c.in-Ok-Some.frame in
    record {
      untouched = search rules;
      later = grind arith;
      durable = λ f now. i.durable f (c.read_frame.ensures.untouched.images f now);
      shows = λ told. c.in-Ok-Some.ensures.shows told;
      length = i.length;
      read = λ told.
          let was = subst (λ o. MatchFrame (Ok o) at (g.D.Disk.seen c.reading.disk)) c.in-Ok-Some.field-0-is (c.in-Ok-Some.ensures.told told) in
          let is = subst (λ f. MatchFrame (Ok (Some frame)) at f) i.untouched.same was in
          let size : length c.as_slice.result.now ≡ length frame = ap length c.as_slice.ensures in
          let next = subst (λ (n : ℕ). found at (drop at file) ≡ behind frame (found (at + 5 + n) (drop (at + 5 + n) file))) (sym size) is in
          read_more file _ at c.reading.frames (i.read told) frame (at + 5 + length c.as_slice.result.now) next
          ∙ ap (λ (vs : List (List ℕ)). opened c.generation_of-generation.result (prepends vs (found (at + 5 + length c.as_slice.result.now) (drop (at + 5 + length c.as_slice.result.now) file)))) (sym c.in_ok-push-in-Ok-Some.ensures.ok);
    }

pub returns-clause-told : goal.returns-clause-told
returns-clause-told g c told =
    let file = g.D.Disk.seen c.args.disk.now in
    let i = c.reading.invariant in
    read_end file _ c.reading.at c.reading.frames (i.read told) (omega (arith, i.length told, c.reading-test.false))
