-- Why a net has no program.
use Rattle.std.specs.Prelude.{◌≡◌, ℕ, ◌-◌, ◌^◌, ◌<◌, min}
use Rattle.flow_net.specs.declared.net.Net.{Net}
use Rattle.ipet_program.specs.Programs.{crude_limit, crude_of}
use Rattle.ipet_program.specs.declared.fault.BuildFault.{BuildFault}
use Rattle.ipet_program.specs.declared.fault.BuildFault.TheVariants.{TooLarge, Memory}

-- The crude bound is above the limit. Where it has more than 128 bits, 2^128 - 1 is told.
pub record IsTooLarge (net : Net) (price : ℕ → ℕ) (crude : ℕ) : Type 0 where
  pub above : crude_limit < crude_of net price
  pub told : crude ≡ min (crude_of net price) (2 ^ 128 - 1)

-- Want of memory says nothing.
abbrev pub TellsTooLarge : Net → (ℕ → ℕ) → BuildFault → Type 0
TellsTooLarge net price (TooLarge crude) = IsTooLarge net price crude
TellsTooLarge net price Memory = Unit {0}
