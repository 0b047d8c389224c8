use Rattle.std.proofs.Common.{refl, arith}
use Rattle.log_spec.specs.Example.{store_frames}
use Rattle.log_spec.proofs.Images.{laid_image_is}
use Rattle.log_spec.proofs.laws.a_laid_store_has_these_bytes.Goals as goal

pub returns-clause-bytes : goal.returns-clause-bytes
returns-clause-bytes c = refl

pub returns-clause-image : goal.returns-clause-image
returns-clause-image c = laid_image_is 1 store_frames (omega arith) (omega arith, (omega arith, tt))
