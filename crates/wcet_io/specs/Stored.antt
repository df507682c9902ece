-- A stored file as contracts see it.
use Rattle.std.specs.String.{string_bytes}
use Rattle.wcet_io.specs.Files.{Named}
use Rattle.wcet_io.specs.declared.memory_shelf.StoredFile.{StoredFile}

-- A stored file as its name's bytes and its contents.
abbrev pub named : StoredFile → Named
named file = record { name = string_bytes file.name; bytes = file.bytes.items }
