-- A shelf's fields as contracts see them.
use Rattle.std.specs.Prelude.{map}
use Rattle.wcet_io.specs.Shelved.{Shelved}
use Rattle.wcet_io.specs.Stored.{named}
use Rattle.wcet_io.specs.declared.memory_shelf.MemShelf.TheInside.{Inside}

-- All fields but the allocator.
abbrev pub shelf_of : Inside → Shelved
shelf_of s = record {
  step = s.step;
  failing = s.failing.items;
  files = map named s.files.items;
  calls = s.calls;
  faults = s.faults;
  placed = s.placed;
}
