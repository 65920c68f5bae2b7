-- What contracts see of a standard stream.
use Rattle.std.specs.Prelude.{ℕ}
use Rattle.voy_disk.specs.declared.host.sink.HostSink.{HostSink}

-- how many of its calls failed
abbrev pub host_sink_faults : HostSink → ℕ
host_sink_faults sink = sink.faults
