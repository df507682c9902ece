-- The start states of a program over plain values.
use Rattle.std.specs.Prelude.{◌≡◌, ℕ, ◌<◌, ◌^◌, List, [], ◌∷◌, length, All, Option, IfSome, slice_index, false}
use Rattle.mips_decode.specs.declared.step.Regs.{Regs}
use Rattle.mips_decode.specs.State.{Region, State, is_writable, return_address}

-- What a start sets beside the memory: the entry, the stack's top, and the global pointer where there is one.
pub record Setting : Type 0 where
  pub entry : ℕ
  pub stack_top : ℕ
  pub global_pointer : Option ℕ

-- A region at the start: bytes of a writable region are free, those of the others are the given ones.
pub record IsRegionAtStart (given region : Region) : Type 0 where
  pub start : region.start ≡ given.start
  pub flags : region.flags ≡ given.flags
  pub size : length region.bytes ≡ length given.bytes
  pub bytes : All (λ byte. byte < 256) region.bytes
  pub kept : is_writable given ≡ false → region.bytes ≡ given.bytes

abbrev pub AreRegionsAtStart : List Region → List Region → Type 0
AreRegionsAtStart [] [] = Unit {0}
AreRegionsAtStart [] (region ∷ regions) = ⊥
AreRegionsAtStart (given ∷ more) [] = ⊥
AreRegionsAtStart (given ∷ more) (region ∷ regions) =
    IsRegionAtStart given region × AreRegionsAtStart more regions

-- The registers at the start: 0 is zero, 29 is the stack's top, 31 the place of return, and 28
-- the global pointer where there is one. All others, HI and LO among them, are free.
pub record AreRegistersAtStart (setting : Setting) (regs : Regs) : Type 0 where
  pub count : length regs.general ≡ 32
  pub small : All (λ number. number < 2 ^ 32) regs.general
  pub hi : regs.hi < 2 ^ 32
  pub lo : regs.lo < 2 ^ 32
  pub zero : slice_index regs.general 0 ≡ 0
  pub stack : slice_index regs.general 29 ≡ setting.stack_top
  pub link : slice_index regs.general 31 ≡ return_address
  pub pointer : IfSome setting.global_pointer (λ gp. slice_index regs.general 28 ≡ gp)

-- A start state never asks that regions are apart.
pub record IsStart (setting : Setting) (given : List Region) (s : State) : Type 0 where
  pub pc : s.pc ≡ setting.entry
  pub registers : AreRegistersAtStart setting s.regs
  pub memory : AreRegionsAtStart given s.regions
