use Rattle.std.proofs.Common.{refl}
use Rattle.routes_spec.specs.Commands.{kind_named}
use Rattle.routes_spec.proofs.laws.posts_are_checked_so.Goals as goal

pub returns : goal.returns
unfolding kind_named
returns c = record {
  command = λ now body. refl;
  version = λ now body. refl;
  certname = λ now body. refl;
  bad_version = λ now body. refl;
  bad_command = λ now body. refl;
  good = λ now body. refl;
}
