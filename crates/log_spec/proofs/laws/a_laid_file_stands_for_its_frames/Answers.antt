use Rattle.log_spec.proofs.Images.{laid_image_is}
use Rattle.log_spec.proofs.laws.a_laid_file_stands_for_its_frames.Goals as goal

pub returns : goal.returns
returns c = laid_image_is
