-- The contexts of a program: the ways by calls to its functions. They are counted from 0.
use Rattle.std.specs.Prelude.{◌≡◌, ℕ, ◌<◌, ◌⊎◌, List, [], ◌∷◌, drop, AllPairs, Some, slice_get}
use Rattle.elf_mips.specs.declared.image.Image.{Image}
use Rattle.flow_net.specs.declared.net.Context.{Context}
use Rattle.mips_decode.specs.Transfer.{Call}
use Rattle.net_model.specs.Functions.{CallsAt, IsReached}

-- Context 0 is the entry function, which nothing calls.
abbrev pub root : ℕ → Context
root entry = record { parent = 0; site = 0; target = entry }

-- A call in a context makes a context of the function that it calls.
abbrev pub made_by : (parent site callee : ℕ) → Context
made_by parent site callee = record { parent = parent; site = site; target = callee }

-- The function of a context reaches the address.
pub record Reaches (image : Image) (contexts : List Context) (number address : ℕ) : Type 0 where
  pub context : Context
  pub there : slice_get contexts number ≡ Some context
  pub reached : IsReached image context.target address

-- The order of contexts: by their parents, then by the sites of their calls, then by the called functions.
abbrev pub IsCallBefore : Context → Context → Type 0
IsCallBefore context other =
    (context.site < other.site) ⊎ ((context.site ≡ other.site) × (context.target < other.target))

abbrev pub IsContextBefore : Context → Context → Type 0
IsContextBefore context other =
    (context.parent < other.parent) ⊎ ((context.parent ≡ other.parent) × IsCallBefore context other)

-- A context is made by a call in an earlier one: a unit at its site calls its function.
pub record IsMade (image : Image) (contexts : List Context) (number : ℕ) (context : Context) : Type 0 where
  pub earlier : context.parent < number
  pub there : Reaches image contexts context.parent context.site
  pub calls : CallsAt image context.site context.target

-- The contexts of a program in the order in which they are first seen: each context in the order of the numbers
-- makes, by rising site and by rising function, a context for each call of its function.
pub record AreContexts (image : Image) (entry : ℕ) (contexts : List Context) : Type 0 where
  pub first : slice_get contexts 0 ≡ Some (root entry)
  pub made : (number : ℕ) (context : Context) → slice_get contexts number ≡ Some context → 0 < number →
      IsMade image contexts number context
  pub whole : (parent site callee : ℕ) → Reaches image contexts parent site → CallsAt image site callee →
      (number : ℕ) × (0 < number) × (slice_get contexts number ≡ Some (made_by parent site callee))
  pub order : AllPairs IsContextBefore (drop 1 contexts)

-- The context of the calls that are open, the innermost first: context 0 where none is open, else one that the
-- innermost call made in the context of the others.
abbrev pub IsContextOf : List Context → List Call → ℕ → Type 0
IsContextOf contexts [] number = number ≡ 0
IsContextOf contexts (call ∷ calls) number =
    (0 < number) × ((parent : ℕ)
    × (slice_get contexts number ≡ Some (made_by parent call.site call.target))
    × IsContextOf contexts calls parent)
