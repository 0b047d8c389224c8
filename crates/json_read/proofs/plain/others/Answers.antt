use Rattle.std.proofs.Common.{arith}
use Rattle.std.proofs.lemmas.Simd.{zip2_splat, zip2_splat_left}
use Rattle.json_read.specs.Strings.{is_other}
use Rattle.json_read.proofs.Lanes.{hit, below, at_most, either, masked}
use Rattle.json_read.proofs.plain.others.Goals as goal

pub returns : goal.returns
returns c =
    let v = c.args.v in
    let long = c.fits-v.0 in
    masked _ is_other v _ (omega arith) c.fits-v.1
    (either _ _ v (either _ _ v (either _ _ v (zip2_splat hit v 16 34 long) (zip2_splat hit v 16 92 long)) (zip2_splat below v 16 32 long)) (zip2_splat_left at_most 128 16 v long)) tt
