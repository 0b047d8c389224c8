-- The requests that submit a command, described by their contents.
use Rattle.std.specs.Prelude.{◌≡◌, ℕ, ◌<◌, ◌^◌, ℤ, List, length, true, codes, decimal, Some}
use Rattle.query_answer.specs.fleet_rows.declared.command.Command.{Command}
use Rattle.http_spec.specs.declared.request.Request.{Request}
use Rattle.query_answer.specs.spool_spec.Spool.{kind_word}
use Rattle.paging_params.specs.Params.{last_under}
use Rattle.routes_spec.specs.Commands.{has_checksum}
use Rattle.routes_spec.specs.Parameters.{Parameters, parameters_of}
use Rattle.routes_spec.specs.Routes.{path_of, query_of}

-- the parameters and the body are those of this command, which is received at this moment
pub record IsCommandOf (now : ℤ) (params : Parameters) (body : List ℕ) (c : Command) : Type 0 where
  pub kind : last_under (codes "command") params ≡ Some (kind_word c.kind)
  pub version : last_under (codes "version") params ≡ Some (decimal c.version)
  pub fits : c.version < 2 ^ 32
  pub certname : (name : List ℕ) × (last_under (codes "certname") params ≡ Some name) × (0 < length name)
  pub checksum : has_checksum (last_under (codes "checksum") params) body ≡ true
  pub received : c.received ≡ now
  pub payload : c.payload ≡ body

-- the request posts this command to the command endpoint
pub record Posts (now : ℤ) (r : Request) (c : Command) : Type 0 where
  pub path : path_of r.target ≡ codes "/pdb/cmd/v1"
  pub method : r.method ≡ codes "POST"
  pub is_command : IsCommandOf now (parameters_of (query_of r.target)) r.body c
