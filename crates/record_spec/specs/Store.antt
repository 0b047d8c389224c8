-- The records of the store's log, and the only encoding of each.
use Rattle.std.specs.Prelude.{ℕ, List, ◌∷◌, ◌++◌, Option, Some, None}
use Rattle.history_spec.specs.fleet_rows.Lifetime.{IsLifetime, IsReportCount}
use Rattle.history_spec.specs.Lawful.{HasStamp, IfMoment, IsCertname, IsChange}
use Rattle.record_spec.specs.declared.store.StoreRecord.{StoreRecord}
use Rattle.record_spec.specs.declared.store.StoreRecord.TheVariants as store
use Rattle.record_spec.specs.Parts.{bytes_text, optional, short_text, long_text, moment_text, kinds_number}
use Rattle.record_spec.specs.Changes.{change_text}
use Rattle.record_spec.specs.Queue.{IsReceipt}

abbrev pub days_text : ℕ → ℕ → ℕ → List ℕ
days_text node purge report = short_text node ++ (short_text purge ++ short_text report)

abbrev pub store_text : StoreRecord → List ℕ
store_text (store.Settings node purge report) = 0 ∷ days_text node purge report
store_text (store.Base expire retain taken) = 1 ∷ optional moment_text expire ++ (optional moment_text retain ++ optional long_text taken)
store_text (store.Marks m) = 2 ∷ bytes_text m.certname ++ (optional moment_text m.active ++ optional moment_text m.deactivated)
store_text (store.Applied receipt c) = 3 ∷ long_text receipt ++ change_text c
store_text (store.Swept kinds m) = 4 ∷ kinds_number kinds ∷ moment_text m
store_text (store.Received receipt received c) = 5 ∷ long_text receipt ++ (optional moment_text received ++ change_text c)
store_text (store.Limits node purge report count) = 6 ∷ days_text node purge report ++ short_text count

-- ---- the records that can be encoded

abbrev pub IfReceipt : Option ℕ → Type 0
IfReceipt None = Unit {0}
IfReceipt (Some r) = IsReceipt r

abbrev pub AreLifetimes : ℕ → ℕ → ℕ → Type 0
AreLifetimes node purge report = IsLifetime node × IsLifetime purge × IsLifetime report

-- its lifetimes are within their bounds, its moments have stamps, and its change meets the rules of its fields
abbrev pub IsStoreRecord : StoreRecord → Type 0
IsStoreRecord (store.Settings node purge report) = AreLifetimes node purge report
IsStoreRecord (store.Base expire retain taken) = IfMoment expire × IfMoment retain × IfReceipt taken
IsStoreRecord (store.Marks m) = IsCertname m.certname × IfMoment m.active × IfMoment m.deactivated
IsStoreRecord (store.Applied receipt c) = IsReceipt receipt × IsChange c
IsStoreRecord (store.Swept kinds m) = HasStamp m
IsStoreRecord (store.Received receipt received c) = IsReceipt receipt × IfMoment received × IsChange c
IsStoreRecord (store.Limits node purge report count) = AreLifetimes node purge report × IsReportCount count
