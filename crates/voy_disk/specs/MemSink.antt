-- What contracts see of a sink in memory.
use Rattle.std.specs.Prelude.{ℕ, List, Bool, ◌&&◌, nat_lt, nat_le}
use Rattle.voy_disk.specs.declared.memory.sink.MemSink.{MemSink}
use Rattle.voy_disk.specs.Faults.{count_after}

-- all bytes that were written to it
abbrev pub mem_sink_bytes : MemSink → List ℕ
mem_sink_bytes sink = sink.bytes.items

-- the number of the call from which on all calls fail; 0 where there is none
abbrev pub mem_sink_fail_from : MemSink → ℕ
mem_sink_fail_from sink = sink.fail_from

-- how many calls it had
abbrev pub mem_sink_calls : MemSink → ℕ
mem_sink_calls sink = sink.calls

-- how many of its calls failed
abbrev pub mem_sink_faults : MemSink → ℕ
mem_sink_faults sink = sink.faults

-- the next call is one of those that fail
abbrev pub write_fails : MemSink → Bool
write_fails sink = nat_lt 0 sink.fail_from && nat_le sink.fail_from (count_after sink.calls)
