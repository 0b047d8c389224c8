use Rattle.std.proofs.Common.{◌≡◌, IfOk, subst}
use Rattle.table_spec.specs.Cells.{hash, resource_object}
use Rattle.row_cells.proofs.hash.resource_hash_by.Goals as goal

pub returns : goal.returns
returns c =
    subst (λ tags. IfOk c.object_hash_by.result (λ digest. digest ≡ hash (resource_object (record c.args.resource.now { tags = tags }))))
    c.as_slice.ensures c.object_hash_by.ensures
