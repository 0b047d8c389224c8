use Rattle.std.proofs.Common.{ℕ, List}
use Rattle.core_spec.specs.record_spec.Store.{store_text, IsStoreRecord}
use Rattle.core_spec.specs.Damage.{AreKept}
use Rattle.store_records.specs.Reading.{store_at}
use Rattle.fleet_keeper.proofs.Spellings.{are_records, damage_spelt, damage_read}
use Rattle.store_records.proofs.Records.{store_again}
use Rattle.fleet_keeper.proofs.Texts.{takes}
use Rattle.fleet_keeper.proofs.laws.frames_are_read_as_they_are_spelt.Goals as goal

pub returns-clause-records : goal.returns-clause-records
returns-clause-records c frames records bytes = are_records store_at store_text IsStoreRecord store_again takes frames records bytes

pub returns-clause-damage : goal.returns-clause-damage
returns-clause-damage c frames index bytes =
    (damage_spelt store_at store_text IsStoreRecord store_again takes AreKept 2 frames index bytes, damage_read store_at store_text IsStoreRecord store_again takes AreKept 2 frames index bytes)
