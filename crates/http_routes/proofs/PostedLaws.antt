-- What is told of what is posted.
use Rattle.std.proofs.Common.{ℕ, ℤ, List, sym, Option}
use Rattle.std.specs.Prelude.{codes}
use Rattle.paging_params.specs.Params.{last_under}
use Rattle.routes_spec.specs.Commands.{IsVersion, IsPosted, checked_command}
use Rattle.routes_spec.specs.Parameters.{Parameters}
use Rattle.http_routes.specs.declared.command.Posted.{Posted}
use Rattle.http_routes.specs.declared.command.Posted.TheVariants as told
use Rattle.http_routes.specs.Posted.{Tells, IsTold}

pub posted_so : (now : ℤ) (params : Parameters) (body : List ℕ) (version : Option ℕ) (posted : Posted) → IsVersion (last_under (codes "version") params) version
    → Tells posted (checked_command now params body version) → IsTold posted (IsPosted now params body)
posted_so now params body version (told.Command c) is tells = (version, is, sym tells)
posted_so now params body version (told.Bad text) is tells = (version, is, sym tells)
posted_so now params body version told.Memory is tells = tt
