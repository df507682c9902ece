-- What the records say of the transfers, and which units the code of a program has by them.
use Rattle.std.specs.Prelude.{ℕ, ◌==◌, ◌&&◌, Bool, true, false, not, List, [], ◌∷◌, map, filter, if◌then◌else◌}
use Rattle.elf_mips.specs.declared.image.Image.{Image}
use Rattle.elf_mips.specs.declared.mark.Mark.{Mark}
use Rattle.mips_decode.specs.Records.{needs_target}
use Rattle.mips_decode.specs.declared.instr.Instr.{Instr}
use Rattle.mips_decode.specs.declared.instr.Instr.TheVariants.{JumpLink}
use Rattle.net_model.specs.declared.unit.CodeKind.TheVariants.{UnknownTarget, LinkRegister}
use Rattle.net_model.specs.declared.unit.CodeUnit.{CodeUnit}
use Rattle.net_model.specs.declared.unit.Content.{Content}
use Rattle.net_model.specs.declared.unit.Content.TheVariants.{Unit as Stands, Fault}
use Rattle.net_model.specs.Units.{content_at}

-- A record of kind 2 says that the JR or JALR at its address may go to x.
abbrev pub names_target : ℕ → Mark → Bool
names_target address mark = mark.kind == 2 && mark.address == address

-- The targets recorded for the transfer at an address.
abbrev pub targets_at : Image → ℕ → List ℕ
targets_at image address = map (λ (mark : Mark). mark.x) (filter (names_target address) image.marks)

abbrev pub is_none : List ℕ → Bool
is_none [] = true
is_none (target ∷ targets) = false

-- JALR that links to another register than 31.
abbrev pub links_elsewhere : Instr → Bool
links_elsewhere (JumpLink rd rs) = not (rd == 31)
links_elsewhere instr = false

-- A JALR, or a JR of another register than 31, needs a recorded target; a JALR links to register 31.
abbrev pub linked : Image → ℕ → CodeUnit → Content
linked image address unit =
    if needs_target unit.instr && is_none (targets_at image address) then Fault UnknownTarget address
    else if links_elsewhere unit.instr then Fault LinkRegister address
    else Stands unit

abbrev pub linked_content : Image → ℕ → Content → Content
linked_content image address (Fault kind place) = Fault kind place
linked_content image address (Stands unit) = linked image address unit

-- The unit at an address of a program, or the first fault that keeps one from standing there.
abbrev pub unit_at : Image → ℕ → Content
unit_at image address = linked_content image address (content_at image address)
