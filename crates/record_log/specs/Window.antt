-- A piece of a file in memory.
use Rattle.std.specs.Prelude.{◌≡◌, ℕ, List, length, take, drop}
use Rattle.record_log.specs.declared.window.Window.{Window}

-- the window holds the bytes of the file from its offset on
abbrev pub Shows : Window → List ℕ → Type 0
Shows window file = window.bytes.items ≡ take (length window.bytes.items) (drop window.place file)
