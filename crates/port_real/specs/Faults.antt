-- The fault counters of the real objects. Contracts know nothing else of these objects.
use Rattle.std.specs.Prelude.{ℕ}
use Rattle.port_real.specs.declared.file.FileDisk.{FileDisk}
use Rattle.port_real.specs.declared.stdin.StdSource.{StdSource}
use Rattle.port_real.specs.declared.stdout.StdSink.{StdSink}

abbrev pub disk_faults : FileDisk → ℕ
disk_faults disk = disk.faults

abbrev pub source_faults : StdSource → ℕ
source_faults source = source.faults

abbrev pub sink_faults : StdSink → ℕ
sink_faults sink = sink.faults
