use Rattle.log_spec.proofs.Images.{is_image, one_image, image_is}
use Rattle.std.proofs.Common.{subst}
use Rattle.log_spec.specs.Image.{Image, IsImage}
use Rattle.log_spec.proofs.laws.each_file_has_one_image.Goals as goal

pub returns-clause-some : goal.returns-clause-some
returns-clause-some c file = is_image file

pub returns-clause-one : goal.returns-clause-one
returns-clause-one c file = one_image file

pub returns-clause-same : goal.returns-clause-same
returns-clause-same c file image = (λ is. subst (λ (i : Image). IsImage file i) is (is_image file), image_is file image)
