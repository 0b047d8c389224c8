-- How a link ends, by its counts.
use Rattle.std.proofs.Common.{◌≡◌, ◌∙◌, ℕ, ◌<◌, arith, refl, subst}
use Rattle.http_routes.specs.fleet_ports.Counts.{Counts, RoseBy}
use Rattle.http_routes.specs.declared.link.LinkEnd.{LinkEnd}
use Rattle.http_routes.specs.declared.link.LinkEnd.TheVariants.{Closed, ReadFault, WriteFault}
use Rattle.front_port.specs.Links.{Given}
use Rattle.link_serving.specs.Serving.{EndsBy}

-- a count that was nothing and rose is something
some_faults : (before now : ℕ) → before ≡ 0 → RoseBy 1 before now → 0 < now
some_faults before now none rose = let risen : RoseBy 1 0 now = subst (λ n. RoseBy 1 n now) none rose in omega (arith, risen)

module _ (link : Given) (read_before write_before : ℕ) (no_read : read_before ≡ 0) (no_write : write_before ≡ 0) where
  pub ends_by : (end : LinkEnd) → Counts read_before link.read_faults (end ≡ ReadFault) → Counts write_before link.write_faults (end ≡ WriteFault) → EndsBy end link
  ends_by Closed reads writes = (reads.calm (λ h. cc) ∙ no_read, writes.calm (λ h. cc) ∙ no_write)
  ends_by ReadFault reads writes = (some_faults read_before link.read_faults no_read (reads.cause refl), writes.calm (λ h. cc) ∙ no_write)
  ends_by WriteFault reads writes = (reads.calm (λ h. cc) ∙ no_read, some_faults write_before link.write_faults no_write (writes.cause refl))
