-- The contents of the files that words name.
use Rattle.std.specs.Prelude.{◌≡◌, ℕ, ◌<◌, ◌≤◌, ◌⊎◌, nat_lt, List, length, Option, Some, None, option_map, if◌then◌else◌}
use Rattle.std.specs.declared.alloc.Global.{Global}
use Rattle.std.specs.declared.vec.Vec.{Vec}
use Rattle.wcet_engine.specs.declared.contents.Contents.{Contents}
use Rattle.wcet_engine.specs.declared.words.Form.{Form as CodeForm}
use Rattle.wcet_engine.specs.Words.{Form}

-- The most bytes of a file.
abbrev pub file_limit : ℕ
file_limit = 16777216

-- The bytes of the ELF file, and those of the profile's text where one is named.
pub record Given : Type 0 where
  pub elf : List ℕ
  pub config : Option (List ℕ)

abbrev pub given : List ℕ → Option (List ℕ) → Given
given elf config = record { elf = elf; config = config }

-- What is read where the contents of files are told by their names: the files in the order of the words. Behind an ELF
-- file that is longer than the limit no further file is read. Where one that is to be read isn't told, nothing is said.
abbrev pub with_config : (List ℕ → Option (List ℕ)) → List ℕ → Option (List ℕ) → Option Given
with_config told elf None = Some (given elf None)
with_config told elf (Some name) = option_map (λ text. given elf (Some text)) (told name)

abbrev pub with_elf : (List ℕ → Option (List ℕ)) → Option (List ℕ) → Option (List ℕ) → Option Given
with_elf told config None = None
with_elf told config (Some elf) = if nat_lt file_limit (length elf) then Some (given elf None) else with_config told elf config

abbrev pub read_by : (List ℕ → Option (List ℕ)) → Form → Option Given
read_by told form = with_elf told form.config (told form.elf)

-- The files are within the limit.
abbrev pub FitsText : Option (List ℕ) → Type 0
FitsText None = Unit {0}
FitsText (Some text) = length text ≤ file_limit

pub record Fits (given : Given) : Type 0 where
  pub elf : length given.elf ≤ file_limit
  pub config : FitsText given.config

-- A file's contents were found, or are longer than the limit.
abbrev pub IsFound : Option (Vec ℕ Global) → List ℕ → Type 0
IsFound None file = file_limit < length file
IsFound (Some bytes) file = bytes.items ≡ file

-- The form that the code holds, and what it read.
abbrev pub given_form : CodeForm → Form
given_form form = record {
  command = form.command;
  elf = form.elf.now;
  config = option_map (λ name. name.now) form.config;
}

abbrev pub given_of : Contents → Given
given_of contents = given contents.elf.items (option_map (λ (bytes : Vec ℕ Global). bytes.items) contents.config)

-- One of the files is longer than the limit.
abbrev pub IsLongText : Option (List ℕ) → Type 0
IsLongText None = ⊥
IsLongText (Some text) = file_limit < length text

abbrev pub IsLong : Given → Type 0
IsLong files = (file_limit < length files.elf) ⊎ IsLongText files.config

-- The files were read, or one of them is longer than the limit.
abbrev pub AreRead : Option Contents → Given → Type 0
AreRead None files = IsLong files
AreRead (Some contents) files = given_of contents ≡ files
