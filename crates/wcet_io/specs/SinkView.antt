-- A sink's fields as contracts see them, and what they keep.
use Rattle.std.specs.Prelude.{◌<◌, ◌≤◌, vec_len, vec_capacity}
use Rattle.wcet_io.specs.Sunk.{Sunk}
use Rattle.wcet_io.specs.declared.memory_sink.MemSink.TheInside.{Inside}

-- All fields.
abbrev pub sink_of : Inside → Sunk
sink_of s = record {
  step = s.step;
  room = s.room;
  failing = s.failing.items;
  bytes = s.bytes.items;
  calls = s.calls;
  faults = s.faults;
}

-- A put takes a byte at least, and no more than the room are taken in all. The vector has the room from the start on,
-- so that a put takes no memory.
pub record KeepsRoom (s : Inside) : Type 0 where
  pub positive : 0 < s.step
  pub within : vec_len s.bytes ≤ s.room
  pub reserved : s.room ≤ vec_capacity s.bytes
