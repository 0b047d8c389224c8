use Rattle.std.proofs.Common.{Err, ap, ◌∙◌}
use Rattle.log_pair.proofs.of_record_log.Lays.{fits_not_long}
use Rattle.core_layout.proofs.pairs.lay_fitting.Goals as goal

pub unreachable-requires : goal.unreachable-requires
unreachable-requires g c = fits_not_long c.args.frames.now c.requires.fits (c.lay_pair.ensures.too_long.0 (c.in-Err-TooLong.is ∙ ap Err c.in-Err-TooLong.field-0-is))
