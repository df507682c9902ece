-- The forms of the command words.
use Rattle.std.specs.Prelude.{ℕ, List, [], ◌∷◌, Option, Some, None, option_and_then, if◌then◌else◌}
use Rattle.std.specs.Prelude.{String, codes, map}
use Rattle.std.specs.declared.alloc.Global.{Global}
use Rattle.std.specs.String.{string_bytes}
use Rattle.std.specs.Str.{bytes_eq}
use Rattle.wcet_engine.specs.declared.words.Command.{Command}
use Rattle.wcet_engine.specs.declared.words.Command.TheVariants.{Analyse, Bound}

-- A command with the names of its files.
pub record Form : Type 0 where
  pub command : Command
  pub elf : List ℕ
  pub config : Option (List ℕ)

-- The first word is compared byte for byte.
abbrev pub command_of : List ℕ → Option Command
command_of word =
    if bytes_eq word (codes "analyse") then Some Analyse else if bytes_eq word (codes "bound") then Some Bound else None

-- `ELF` or `ELF CONFIG`; a file name is any text.
abbrev pub form_with : List (List ℕ) → Command → Option Form
form_with [] command = None
form_with (elf ∷ []) command = Some (record { command = command; elf = elf; config = None })
form_with (elf ∷ (config ∷ [])) command = Some (record { command = command; elf = elf; config = Some config })
form_with (elf ∷ (config ∷ (more ∷ words))) command = None

-- `analyse ELF`, `analyse ELF CONFIG`, `bound ELF` and `bound ELF CONFIG`.
abbrev pub form_of : List (List ℕ) → Option Form
form_of [] = None
form_of (word ∷ names) = option_and_then (form_with names) (command_of word)

-- The words as texts.
abbrev pub words_of : List (String Global) → List (List ℕ)
words_of words = map (λ (word : String Global). string_bytes word) words
