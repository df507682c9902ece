-- No file before the index has the name.
use Rattle.std.proofs.Common.{◌≡◌, drop, map}
use Rattle.wcet_io.specs.Files.{file_at}
use Rattle.wcet_io.specs.Stored.{named}
use Rattle.wcet_io.proofs.memory_shelf.bytes_of.Given as goal

abbrev pub invariant-loop-file : goal.invariant-loop-file
invariant-loop-file l =
    file_at (map named (drop l.file-index l.files)) l.name ≡ file_at (map named l.files) l.name
