-- The functions of a program, the units that each of them reaches, and how the units follow one another.
use Rattle.std.specs.Prelude.{◌≡◌, ℕ, ◌+◌, List, [], ◌∷◌, Contains, true}
use Rattle.elf_mips.specs.declared.image.Image.{Image}
use Rattle.net_model.specs.declared.unit.CodeUnit.{CodeUnit}
use Rattle.net_model.specs.declared.unit.Content.TheVariants.{Unit as Stands}
use Rattle.net_model.specs.Flow.{called, ways_on}
use Rattle.net_model.specs.Onward.{returns}
use Rattle.net_model.specs.Targets.{unit_at}

mutual
  -- The addresses that a function reaches: its entry, and each onward unit of a unit that it reaches.
  pub data IsReached (image : Image) : (function address : ℕ) → Type 0 where
    first : (function : ℕ) → IsReached image function function
    next : (function address later : ℕ) → IsReached image function address → GoesOn image address later →
        IsReached image function later

  -- The onward units of the unit at an address: its ways, and the address behind its slot where some function
  -- that it calls can return. A fault has none.
  pub data GoesOn (image : Image) : (address later : ℕ) → Type 0 where
    onward : (address later : ℕ) (unit : CodeUnit) → unit_at image address ≡ Stands unit →
        Contains (ways_on image unit address) later → GoesOn image address later
    back : (address callee : ℕ) (unit : CodeUnit) → unit_at image address ≡ Stands unit →
        Contains (called image unit address) callee → CanReturn image callee → GoesOn image address (address + 8)

  -- A function can return where it reaches a return unit.
  pub data CanReturn (image : Image) : (function : ℕ) → Type 0 where
    returned : (function address : ℕ) (unit : CodeUnit) → IsReached image function address →
        unit_at image address ≡ Stands unit → returns unit ≡ true → CanReturn image function

-- A way from one address over others to the last one of the list: each goes on to the next.
abbrev pub IsWay : Image → ℕ → List ℕ → ℕ → Type 0
IsWay image from [] to = from ≡ to
IsWay image from (later ∷ more) to = GoesOn image from later × IsWay image later more to

-- The unit at an address calls a function.
pub record CallsAt (image : Image) (address callee : ℕ) : Type 0 where
  pub unit : CodeUnit
  pub stands : unit_at image address ≡ Stands unit
  pub called : Contains (called image unit address) callee

-- Some unit that a function reaches calls another one.
pub record Calls (image : Image) (function callee : ℕ) : Type 0 where
  pub address : ℕ
  pub reached : IsReached image function address
  pub calls : CallsAt image address callee

-- The functions of a program: its entry, and what functions call.
pub data IsFunction (image : Image) (entry : ℕ) : ℕ → Type 0 where
  main : IsFunction image entry entry
  further : (function callee : ℕ) → IsFunction image entry function → Calls image function callee →
      IsFunction image entry callee

-- Calls that lead from one function over others to the last one of the list.
abbrev pub IsCallWay : Image → ℕ → List ℕ → ℕ → Type 0
IsCallWay image from [] to = from ≡ to
IsCallWay image from (callee ∷ more) to = Calls image from callee × IsCallWay image callee more to

-- A function of the program calls itself, directly or through others.
pub record IsRecursive (image : Image) (entry function : ℕ) : Type 0 where
  pub reached : IsFunction image entry function
  pub callee : ℕ
  pub more : List ℕ
  pub begins : Calls image function callee
  pub back : IsCallWay image callee more function
