-- The image of a file, field by field.
use Rattle.std.specs.Prelude.{◌≡◌, ℕ, List}
use Rattle.elf_mips.specs.Fields.{e_entry, e_phnum}
use Rattle.elf_mips.specs.Headers.{segments_to}
use Rattle.elf_mips.specs.Symbols.{symbols_of}
use Rattle.elf_mips.specs.Records.{marks_of}
use Rattle.elf_mips.specs.declared.image.Image.{Image}

-- The image of a file: its entry, the segments of its loaded program headers, the symbols of its first
-- symbol table, and the records of its sections named `.wcet`, all in their order.
pub record IsImage (file : List ℕ) (image : Image) : Type 0 where
  pub entry : image.entry ≡ e_entry file
  pub segments : image.segments ≡ segments_to file (e_phnum file)
  pub symbols : image.symbols ≡ symbols_of file
  pub marks : image.marks ≡ marks_of file
