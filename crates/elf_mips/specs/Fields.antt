-- The fields of an ELF file for 32 bits, named as in the System V ABI (chapter 4, "Object Files").
use Rattle.std.specs.Prelude.{ℕ, ◌+◌, List, drop}
use Rattle.byteorder.specs.Endian.{big_number}

-- The number in the n bytes of a file at an offset, the highest byte first (ELFDATA2MSB).
abbrev pub number_at : ℕ → ℕ → List ℕ → ℕ
number_at n at file = big_number n (drop at file)

-- The ELF header. e_ident begins with the four bytes of the magic number, the class, the data
-- encoding and the version.
abbrev pub magic : List ℕ → ℕ
magic file = number_at 4 0x00 file

abbrev pub class : List ℕ → ℕ
class file = number_at 1 0x04 file

abbrev pub encoding : List ℕ → ℕ
encoding file = number_at 1 0x05 file

abbrev pub ident_version : List ℕ → ℕ
ident_version file = number_at 1 0x06 file

abbrev pub e_type : List ℕ → ℕ
e_type file = number_at 2 0x10 file

abbrev pub e_machine : List ℕ → ℕ
e_machine file = number_at 2 0x12 file

abbrev pub e_version : List ℕ → ℕ
e_version file = number_at 4 0x14 file

abbrev pub e_entry : List ℕ → ℕ
e_entry file = number_at 4 0x18 file

abbrev pub e_phoff : List ℕ → ℕ
e_phoff file = number_at 4 0x1C file

abbrev pub e_shoff : List ℕ → ℕ
e_shoff file = number_at 4 0x20 file

abbrev pub e_phentsize : List ℕ → ℕ
e_phentsize file = number_at 2 0x2A file

abbrev pub e_phnum : List ℕ → ℕ
e_phnum file = number_at 2 0x2C file

abbrev pub e_shentsize : List ℕ → ℕ
e_shentsize file = number_at 2 0x2E file

abbrev pub e_shnum : List ℕ → ℕ
e_shnum file = number_at 2 0x30 file

abbrev pub e_shstrndx : List ℕ → ℕ
e_shstrndx file = number_at 2 0x32 file

-- The program header at an offset.
abbrev pub p_type : ℕ → List ℕ → ℕ
p_type at file = number_at 4 (at + 0) file

abbrev pub p_offset : ℕ → List ℕ → ℕ
p_offset at file = number_at 4 (at + 4) file

abbrev pub p_vaddr : ℕ → List ℕ → ℕ
p_vaddr at file = number_at 4 (at + 8) file

abbrev pub p_filesz : ℕ → List ℕ → ℕ
p_filesz at file = number_at 4 (at + 16) file

abbrev pub p_memsz : ℕ → List ℕ → ℕ
p_memsz at file = number_at 4 (at + 20) file

abbrev pub p_flags : ℕ → List ℕ → ℕ
p_flags at file = number_at 4 (at + 24) file

-- The section header at an offset.
abbrev pub sh_name : ℕ → List ℕ → ℕ
sh_name at file = number_at 4 (at + 0) file

abbrev pub sh_type : ℕ → List ℕ → ℕ
sh_type at file = number_at 4 (at + 4) file

abbrev pub sh_flags : ℕ → List ℕ → ℕ
sh_flags at file = number_at 4 (at + 8) file

abbrev pub sh_offset : ℕ → List ℕ → ℕ
sh_offset at file = number_at 4 (at + 16) file

abbrev pub sh_size : ℕ → List ℕ → ℕ
sh_size at file = number_at 4 (at + 20) file

abbrev pub sh_link : ℕ → List ℕ → ℕ
sh_link at file = number_at 4 (at + 24) file

-- The symbol at an offset.
abbrev pub st_name : ℕ → List ℕ → ℕ
st_name at file = number_at 4 (at + 0) file

abbrev pub st_value : ℕ → List ℕ → ℕ
st_value at file = number_at 4 (at + 4) file

abbrev pub st_shndx : ℕ → List ℕ → ℕ
st_shndx at file = number_at 2 (at + 14) file
