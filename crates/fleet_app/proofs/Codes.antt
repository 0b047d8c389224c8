-- Which status has a code.
use Rattle.std.proofs.Common.{◌≡◌, refl}
use Rattle.busy_commands.specs.calm_commands.StatusText.{status_code}
use Rattle.busy_commands.specs.calm_commands.declared.status.Status.{Status}
use Rattle.busy_commands.specs.calm_commands.declared.status.Status.TheVariants.{Done, Usage, SpoolBad, ReadFault, WriteFault, QueueFault, StoreDown, Damaged, ListenFault, QueryRefused, Memory, Spent, AlreadyLaid, StoreFault, NoSuch}

pub usage_told : (s : Status) → status_code s ≡ 2 → s ≡ Usage
usage_told Done is = absurd (cc)
usage_told Usage is = refl
usage_told (SpoolBad at) is = absurd (cc)
usage_told ReadFault is = absurd (cc)
usage_told WriteFault is = absurd (cc)
usage_told QueueFault is = absurd (cc)
usage_told StoreDown is = absurd (cc)
usage_told (Damaged file at) is = absurd (cc)
usage_told ListenFault is = absurd (cc)
usage_told (QueryRefused why) is = absurd (cc)
usage_told Memory is = absurd (cc)
usage_told Spent is = absurd (cc)
usage_told AlreadyLaid is = absurd (cc)
usage_told StoreFault is = absurd (cc)
usage_told (NoSuch receipt) is = absurd (cc)

pub done_told : (s : Status) → status_code s ≡ 0 → s ≡ Done
done_told Done is = refl
done_told Usage is = absurd (cc)
done_told (SpoolBad at) is = absurd (cc)
done_told ReadFault is = absurd (cc)
done_told WriteFault is = absurd (cc)
done_told QueueFault is = absurd (cc)
done_told StoreDown is = absurd (cc)
done_told (Damaged file at) is = absurd (cc)
done_told ListenFault is = absurd (cc)
done_told (QueryRefused why) is = absurd (cc)
done_told Memory is = absurd (cc)
done_told Spent is = absurd (cc)
done_told AlreadyLaid is = absurd (cc)
done_told StoreFault is = absurd (cc)
done_told (NoSuch receipt) is = absurd (cc)
