-- How a search for addresses stands: which were seen, and which of them still wait to be looked at.
use Rattle.std.specs.Prelude.{◌≡◌, ℕ, ◌+◌, ◌<◌, ◌≤◌, ◌^◌, ◌⊎◌, List, length, AllPairs, Contains}
use Rattle.std.specs.List.Sorted.{IsStrictlySortedBy}
use Rattle.std.specs.Ordering.{nat_cmp}

-- The addresses to which a start leads: itself, and all to which one of them leads.
pub data IsLed (leads : ℕ → ℕ → Type 0) (start : ℕ) : ℕ → Type 0 where
  begins : IsLed leads start start
  goes : (x y : ℕ) → IsLed leads start x → leads x y → IsLed leads start y

-- Each number of one list is in the other.
abbrev pub IsWithin : (some all : List ℕ) → Type 0
IsWithin some all = (x : ℕ) → Contains some x → Contains all x

-- These addresses are seen, and they wait where they weren't seen before.
pub record Sees (these : ℕ → Type 0) (seen waiting later_seen later_waiting : List ℕ) : Type 0 where
  pub kept : IsWithin seen later_seen
  pub there : (x : ℕ) → these x → Contains later_seen x
  pub only : (x : ℕ) → Contains later_seen x → Contains seen x ⊎ these x
  pub still : IsWithin waiting later_waiting
  pub new : (x : ℕ) → Contains later_seen x → Contains seen x ⊎ Contains later_waiting x
  pub known : (x : ℕ) → Contains later_waiting x → Contains waiting x ⊎ these x
  pub low : (x : ℕ) → these x → x < 2 ^ 32
  pub rising : IsStrictlySortedBy nat_cmp seen → IsStrictlySortedBy nat_cmp later_seen
  pub counted : length later_seen + length waiting ≡ length seen + length later_waiting
  pub more : length seen ≤ length later_seen

-- A set gains these addresses, and has no other new one.
pub record Gains (these : ℕ → Type 0) (keys later : List ℕ) : Type 0 where
  pub kept : IsWithin keys later
  pub there : (x : ℕ) → these x → Contains later x
  pub only : (x : ℕ) → Contains later x → Contains keys x ⊎ these x
  pub rising : IsStrictlySortedBy nat_cmp keys → IsStrictlySortedBy nat_cmp later

-- All to which the address leads are seen.
abbrev pub IsDone : (leads : ℕ → ℕ → Type 0) (seen : List ℕ) → ℕ → Type 0
IsDone leads seen x = (y : ℕ) → leads x y → Contains seen y

-- The start is seen; it leads to each address that is seen; each waiting one is seen; and each seen one
-- waits, or all to which it leads are seen.
pub record IsSearch (leads : ℕ → ℕ → Type 0) (start : ℕ) (seen waiting : List ℕ) : Type 0 where
  pub begun : Contains seen start
  pub sound : (x : ℕ) → Contains seen x → IsLed leads start x
  pub known : IsWithin waiting seen
  pub done : (x : ℕ) → Contains seen x → Contains waiting x ⊎ IsDone leads seen x
  pub low : (x : ℕ) → Contains seen x → x < 2 ^ 32
  pub rising : IsStrictlySortedBy nat_cmp seen

-- All addresses to which a start leads, rising, and no other one.
pub record AreLed (leads : ℕ → ℕ → Type 0) (start : ℕ) (addresses : List ℕ) : Type 0 where
  pub rising : AllPairs (λ (a b : ℕ). a < b) addresses
  pub low : (x : ℕ) → Contains addresses x → x < 2 ^ 32
  pub sound : (x : ℕ) → Contains addresses x → IsLed leads start x
  pub whole : (x : ℕ) → IsLed leads start x → Contains addresses x
