use Rattle.std.proofs.Common.{◌∙◌, ◌++◌, pos, neg_ℤ, ◌<ℤ◌, ◌≤ℤ◌, ap, refl, arith}
use Rattle.std.proofs.lemmas.Result.{on_ok_weaker}
use Rattle.jiff_core.proofs.SignedLemmas.{signed_arith}
use Rattle.dump_laws.specs.dump_spec.stamp_time.Range.{IsStampMoment}
use Rattle.dump_laws.proofs.of_dump_spec.of_history_laws.PrintedTexts.{printed_is_full_text}
use Rattle.dump_laws.proofs.of_dump_spec.of_stamp_time.RangeLaws.{stamp_in_range}
use Rattle.dump_writer.proofs.Clocks.{early_text, late_text, utc_text}
use Rattle.dump_writer.proofs.stamp.put_stamp.Goals as goal

pub later-requires-clause-stamp : goal.later-requires-clause-stamp
later-requires-clause-stamp c = stamp_in_range c.requires.0 c.args.moment c.requires.1

pub write_full-requires : goal.write_full-requires
write_full-requires c =
    let h : IsStampMoment c.args.moment = stamp_in_range c.requires.0 c.args.moment c.requires.1 in
    (omega (arith, signed_arith, h, c.later.ensures), omega (arith, signed_arith, h, c.later.ensures))

pub later-requires-then-nanos-ge-AFTER_LAST_YEAR-clause-stamp : goal.later-requires-then-nanos-ge-AFTER_LAST_YEAR-clause-stamp
later-requires-then-nanos-ge-AFTER_LAST_YEAR-clause-stamp c = stamp_in_range c.requires.0 c.args.moment c.requires.1

pub write_full-requires-then-nanos-ge-AFTER_LAST_YEAR : goal.write_full-requires-then-nanos-ge-AFTER_LAST_YEAR
write_full-requires-then-nanos-ge-AFTER_LAST_YEAR c =
    let h : IsStampMoment c.args.moment = stamp_in_range c.requires.0 c.args.moment c.requires.1 in
    let late : pos 250_278_163_200_000_000_000 ≤ℤ c.args.moment = omega (arith, signed_arith, c.as_nanosecond-nanos.ensures, c.if-nanos-ge-AFTER_LAST_YEAR.true) in
    let later = c.later-then-nanos-ge-AFTER_LAST_YEAR.ensures in
    (omega (arith, signed_arith, h, late, later), omega (arith, signed_arith, h, later))

pub returns-then-nanos-lt-FIRST_YEAR : goal.returns-then-nanos-lt-FIRST_YEAR
returns-then-nanos-lt-FIRST_YEAR c =
    let m = c.args.moment in
    let h : IsStampMoment m = stamp_in_range c.requires.0 m c.requires.1 in
    let early : m <ℤ neg_ℤ (pos 62_135_596_800_000_000_000) = omega (arith, signed_arith, c.as_nanosecond-nanos.ensures, c.if-nanos-lt-FIRST_YEAR.true) in
    let x = c.later.result in
    let shown = c.write_full.result in
    on_ok_weaker c.put_shown.result
    (λ e. e ∙ ap (λ t. c.args.out.now.items ++ t) (early_text m x shown _ h early c.later.ensures (printed_is_full_text shown x c.write_full.ensures) refl)) c.put_shown.ensures

pub returns-then-nanos-ge-AFTER_LAST_YEAR : goal.returns-then-nanos-ge-AFTER_LAST_YEAR
returns-then-nanos-ge-AFTER_LAST_YEAR c =
    let m = c.args.moment in
    let h : IsStampMoment m = stamp_in_range c.requires.0 m c.requires.1 in
    let late : pos 250_278_163_200_000_000_000 ≤ℤ m = omega (arith, signed_arith, c.as_nanosecond-nanos.ensures, c.if-nanos-ge-AFTER_LAST_YEAR.true) in
    let x = c.later-then-nanos-ge-AFTER_LAST_YEAR.result in
    let shown = c.write_full-then-nanos-ge-AFTER_LAST_YEAR.result in
    on_ok_weaker c.put_shown-then-nanos-ge-AFTER_LAST_YEAR.result
    (λ e. e ∙ ap (λ t. c.args.out.now.items ++ t)
    (late_text m x shown _ h late c.later-then-nanos-ge-AFTER_LAST_YEAR.ensures (printed_is_full_text shown x c.write_full-then-nanos-ge-AFTER_LAST_YEAR.ensures) refl))
    c.put_shown-then-nanos-ge-AFTER_LAST_YEAR.ensures

pub returns-else-nanos-ge-AFTER_LAST_YEAR : goal.returns-else-nanos-ge-AFTER_LAST_YEAR
returns-else-nanos-ge-AFTER_LAST_YEAR c =
    let m = c.args.moment in
    let h : IsStampMoment m = stamp_in_range c.requires.0 m c.requires.1 in
    let from : neg_ℤ (pos 62_135_596_800_000_000_000) ≤ℤ m = omega (arith, signed_arith, c.as_nanosecond-nanos.ensures, c.if-nanos-lt-FIRST_YEAR.false) in
    let to : m <ℤ pos 250_278_163_200_000_000_000 = omega (arith, signed_arith, c.as_nanosecond-nanos.ensures, c.if-nanos-ge-AFTER_LAST_YEAR.false) in
    let shown = c.write_full-else-nanos-ge-AFTER_LAST_YEAR.result in
    on_ok_weaker c.put_shown-else-nanos-ge-AFTER_LAST_YEAR.result
    (λ e. e ∙ ap (λ t. c.args.out.now.items ++ t) (utc_text m shown _ h from to (printed_is_full_text shown m c.write_full-else-nanos-ge-AFTER_LAST_YEAR.ensures) refl))
    c.put_shown-else-nanos-ge-AFTER_LAST_YEAR.ensures
