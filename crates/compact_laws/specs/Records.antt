-- The store's records that a checkpoint list is written as.
use Rattle.std.specs.Prelude.{ℕ, List, [], ◌∷◌, ◌++◌, map, if◌then◌else◌, Option}
use Rattle.std.specs.Str.{bytes_eq}
use Rattle.core_laws.specs.checkpoint_spec.fleet_rows.Change.{change_certname}
use Rattle.core_laws.specs.checkpoint_spec.fleet_rows.declared.applied.Applied.{Applied}
use Rattle.core_laws.specs.checkpoint_spec.fleet_rows.declared.store.Mark.{Mark}
use Rattle.core_laws.specs.checkpoint_spec.fleet_rows.declared.store.StoreList.{StoreList}
use Rattle.core_laws.specs.core_machine.record_spec.declared.store.StoreRecord.{StoreRecord}
use Rattle.core_laws.specs.core_machine.record_spec.declared.store.StoreRecord.TheVariants as store
use Rattle.core_laws.specs.core_machine.core_spec.Checkpoints.{settings, received}

-- the commands of this node at the start of the list
abbrev pub own : List ℕ → List Applied → List Applied
own certname [] = []
own certname (x ∷ xs) = if bytes_eq certname (change_certname x.change) then x ∷ own certname xs else []

-- the commands behind those
abbrev pub others : List ℕ → List Applied → List Applied
others certname [] = []
others certname (x ∷ xs) = if bytes_eq certname (change_certname x.change) then others certname xs else x ∷ xs

-- each node's marks, followed by its commands
abbrev pub each_node : List Mark → List Applied → List StoreRecord
each_node [] xs = []
each_node (mark ∷ marks) xs = (store.Marks mark ∷ map received (own mark.certname xs)) ++ each_node marks (others mark.certname xs)

-- the lifetimes, the base (sweeps and the receipt applied last), and the records of each node
abbrev pub records_of : Option ℕ → StoreList → List StoreRecord
records_of taken list = settings list.ttls ∷ store.Base list.expire list.retain taken ∷ each_node list.marks list.applied
