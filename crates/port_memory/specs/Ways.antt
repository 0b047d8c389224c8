-- What a crash leaves of a disk in memory if each step since the last sync ends in one of four ways.
use Rattle.std.specs.Prelude.{ℕ, ◌+◌, ◌-◌, ◌/◌, ◌%◌, ◌==◌, ◌||◌, nat_lt, if◌then◌else◌, List, [], ◌∷◌, ◌++◌, length, take, replicate}
use Rattle.fleet_ports.specs.Disks.{overlaid}
use Rattle.port_memory.specs.declared.step.Step.{Step}
use Rattle.port_memory.specs.declared.step.Step.TheVariants.{Wrote, Opened, Shortened, Synced}
use Rattle.port_memory.specs.History.{seen_after}

-- the bytes that a write leaves, except in way 0: all of them, half of them, or as many bytes 1
abbrev pub put_by : ℕ → List ℕ → List ℕ
put_by way bytes = if way == 1 then bytes else (if way == 2 then take (length bytes / 2) bytes else replicate (length bytes) 1)

-- what a write at an offset leaves of an image: in way 0 the image itself, otherwise the image overwritten
abbrev pub torn_by : ℕ → ℕ → List ℕ → List ℕ → List ℕ
torn_by way at bytes image = if way == 0 || nat_lt (length image) at then image else overlaid image at (put_by way bytes)

-- what a cut leaves, except in way 0: nothing past its length, half of what was past it, or bytes 1 there
abbrev pub past_by : ℕ → ℕ → List ℕ → List ℕ
past_by way len image =
    let past = length image - len in
    if way == 1 then take len image else (if way == 2 then take (len + past / 2) image else take len image ++ replicate past 1)

-- what a cut to a length leaves of an image
abbrev pub shortened_by : ℕ → ℕ → List ℕ → List ℕ
shortened_by way len image = if way == 0 || nat_lt (length image) len then image else past_by way len image

-- what a step leaves of an image, if a read gave `seen` before it
abbrev pub left_by : ℕ → Step → List ℕ → List ℕ → List ℕ
left_by way (Wrote at bytes done) seen image = torn_by way at bytes image
left_by way (Opened at len) seen image = torn_by way at (replicate len 1) image
left_by way (Shortened len done) seen image = shortened_by way len image
left_by way Synced seen image = seen

-- The ways of the steps still to come, as digits in base 4, lowest first. The pattern starts over at a sync and at its end.
abbrev pub next_ways : ℕ → ℕ → Step → ℕ
next_ways ways pattern (Wrote at bytes done) = if nat_lt ways 4 then pattern else ways / 4
next_ways ways pattern (Opened at len) = if nat_lt ways 4 then pattern else ways / 4
next_ways ways pattern (Shortened len done) = if nat_lt ways 4 then pattern else ways / 4
next_ways ways pattern Synced = pattern

abbrev pub ways_after : ℕ → List Step → ℕ
ways_after pattern [] = pattern
ways_after pattern (step ∷ earlier) = next_ways (ways_after pattern earlier) pattern step

-- what is left of a disk that held `start` after these steps, newest first
abbrev pub left_after : List ℕ → ℕ → List Step → List ℕ
left_after start pattern [] = start
left_after start pattern (step ∷ earlier) = left_by (ways_after pattern earlier % 4) step (seen_after start earlier) (left_after start pattern earlier)
