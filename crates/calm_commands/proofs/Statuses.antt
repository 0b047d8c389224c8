-- The status of a fault, and the fault of a status.
use Rattle.std.proofs.Common.{◌≡◌, ◌↔◌, ℕ, refl, Err}
use Rattle.query_answer.specs.fleet_ports.declared.disk.Disks.{Disks}
use Rattle.command_core.specs.log_pair.Open.{PairCounts}
use Rattle.command_core.specs.log_spec.PairImage.{PairImage}
use Rattle.command_core.specs.core_opening.declared.faults.FileName.{FileName}
use Rattle.command_core.specs.core_opening.declared.faults.OpenCoreFault.{OpenCoreFault}
use Rattle.command_core.specs.core_opening.declared.faults.OpenCoreFault.TheVariants as fault
use Rattle.command_core.specs.core_opening.Opened.{MatchOpening, IsCoreDamage, LacksRoom, IsQueueFault, IsStoreFault}
use Rattle.calm_commands.specs.declared.status.Status.TheVariants as status
use Rattle.calm_commands.specs.Openings.{opening_status, IsOpeningEnd, IsDamagedEnd, IsSpentEnd}
use Rattle.calm_commands.proofs.Leaving.{whole_where_room_lacks}

pub ends_of : (f : OpenCoreFault) → IsOpeningEnd (opening_status f)
ends_of fault.QueueFault = tt
ends_of fault.StoreFault = tt
ends_of (fault.Damaged file at) = tt
ends_of fault.Memory = tt
ends_of fault.Spent = tt

pub damage_is : (f : OpenCoreFault) (file : FileName) (at : ℕ) → opening_status f ≡ status.Damaged file at → f ≡ fault.Damaged file at
damage_is fault.QueueFault file at is = absurd (cc)
damage_is fault.StoreFault file at is = absurd (cc)
damage_is (fault.Damaged other place) file at is = cc
damage_is fault.Memory file at is = absurd (cc)
damage_is fault.Spent file at is = absurd (cc)

module _ {D : Type 0} (disks : Disks D) where
  module _ (queue store : PairImage) where
    pub spent_told : (f : OpenCoreFault) → MatchOpening {D = D} (Err (f, disks)) queue store → opening_status f ≡ status.Spent → LacksRoom queue store
    spent_told fault.QueueFault match is = absurd (cc)
    spent_told fault.StoreFault match is = absurd (cc)
    spent_told (fault.Damaged file at) match is = absurd (cc)
    spent_told fault.Memory match is = absurd (cc)
    spent_told fault.Spent match is = match

    pub damage_told : (f : OpenCoreFault) → MatchOpening {D = D} (Err (f, disks)) queue store → (file : FileName) (at : ℕ) → IsCoreDamage queue store file at → IsDamagedEnd (opening_status f)
    damage_told fault.QueueFault match file at damage = tt
    damage_told fault.StoreFault match file at damage = tt
    damage_told (fault.Damaged other place) match file at damage = tt
    damage_told fault.Memory match file at damage = tt
    damage_told fault.Spent match file at damage = whole_where_room_lacks queue store file at match damage

    pub lack_told : (f : OpenCoreFault) → MatchOpening {D = D} (Err (f, disks)) queue store → LacksRoom queue store → IsSpentEnd (opening_status f)
    lack_told fault.QueueFault match lacks = tt
    lack_told fault.StoreFault match lacks = tt
    lack_told (fault.Damaged file at) match lacks = whole_where_room_lacks queue store file at lacks match
    lack_told fault.Memory match lacks = tt
    lack_told fault.Spent match lacks = tt

  queue_fault : (f : OpenCoreFault) → IsQueueFault {D = D} (Err (f, disks)) ↔ (opening_status f ≡ status.QueueFault)
  queue_fault fault.QueueFault = (λ is. refl, λ is. tt)
  queue_fault fault.StoreFault = (λ is. absurd is, λ is. absurd (cc))
  queue_fault (fault.Damaged file at) = (λ is. absurd is, λ is. absurd (cc))
  queue_fault fault.Memory = (λ is. absurd is, λ is. absurd (cc))
  queue_fault fault.Spent = (λ is. absurd is, λ is. absurd (cc))

  store_fault : (f : OpenCoreFault) → IsStoreFault {D = D} (Err (f, disks)) ↔ (opening_status f ≡ status.StoreFault)
  store_fault fault.QueueFault = (λ is. absurd is, λ is. absurd (cc))
  store_fault fault.StoreFault = (λ is. refl, λ is. tt)
  store_fault (fault.Damaged file at) = (λ is. absurd is, λ is. absurd (cc))
  store_fault fault.Memory = (λ is. absurd is, λ is. absurd (cc))
  store_fault fault.Spent = (λ is. absurd is, λ is. absurd (cc))

  counts_so : (a a1 b b1 : ℕ) (F G : Type 0) → F ↔ G → PairCounts a a1 b b1 F → PairCounts a a1 b b1 G
  counts_so a a1 b b1 F G same counts = record { later_a = counts.later_a; later_b = counts.later_b; cause = λ g. counts.cause (same.1 g); calm = λ none. counts.calm (λ f. none (same.0 f)) }

  pub queue_counted : (f : OpenCoreFault) (a a1 b b1 : ℕ) → PairCounts a a1 b b1 (IsQueueFault {D = D} (Err (f, disks))) → PairCounts a a1 b b1 (opening_status f ≡ status.QueueFault)
  queue_counted f a a1 b b1 counts = counts_so a a1 b b1 (IsQueueFault {D = D} (Err (f, disks))) (opening_status f ≡ status.QueueFault) (queue_fault f) counts

  pub store_counted : (f : OpenCoreFault) (a a1 b b1 : ℕ) → PairCounts a a1 b b1 (IsStoreFault {D = D} (Err (f, disks))) → PairCounts a a1 b b1 (opening_status f ≡ status.StoreFault)
  store_counted f a a1 b b1 counts = counts_so a a1 b b1 (IsStoreFault {D = D} (Err (f, disks))) (opening_status f ≡ status.StoreFault) (store_fault f) counts
