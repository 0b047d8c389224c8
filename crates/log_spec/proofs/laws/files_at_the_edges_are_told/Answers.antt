use Rattle.std.proofs.Common.{◌≡◌, [], ℕ, List, take, set, refl, subst}
use Rattle.log_spec.specs.Example.{store_file, bare_file, first_frame}
use Rattle.log_spec.specs.Image.{Image, IsImage, closed, damaged, standing}
use Rattle.log_spec.specs.ImageOf.{image_of, walk}
use Rattle.log_spec.proofs.Images.{is_image}
use Rattle.log_spec.proofs.laws.files_at_the_edges_are_told.Goals as goal

told : (file : List ℕ) (image : Image) → image_of file ≡ image → IsImage file image
told file image is = subst (λ (i : Image). IsImage file i) is (is_image file)

pub returns-clause-sixteen_bytes : goal.returns-clause-sixteen_bytes
unfolding image_of walk
returns-clause-sixteen_bytes c = told (take 16 bare_file) closed refl

pub returns-clause-seventeen_bytes : goal.returns-clause-seventeen_bytes
unfolding image_of walk
returns-clause-seventeen_bytes c = told bare_file (standing 7 [] 16) refl

pub returns-clause-another_gate : goal.returns-clause-another_gate
unfolding image_of walk
returns-clause-another_gate c = told (set store_file 0 2) closed refl

pub returns-clause-another_letter : goal.returns-clause-another_letter
unfolding image_of walk
returns-clause-another_letter c = told (set store_file 7 50) (damaged 1) refl

pub returns-clause-no_frame : goal.returns-clause-no_frame
unfolding image_of walk
returns-clause-no_frame c = told (set bare_file 16 1) (damaged 16) refl

pub returns-clause-no_gate : goal.returns-clause-no_gate
unfolding image_of walk
returns-clause-no_gate c = told (take 43 store_file) (damaged 34) refl

pub returns-clause-past_the_end : goal.returns-clause-past_the_end
unfolding image_of walk
returns-clause-past_the_end c = told (set store_file 35 5) (damaged 34) refl

pub returns-clause-second_gate : goal.returns-clause-second_gate
unfolding image_of walk
returns-clause-second_gate c = told (set store_file 34 0) (standing 1 first_frame 34) refl
