-- A header lies on every way to its body.
use Rattle.std.proofs.Common.{◌≡◌, ℕ, ◌==◌, ◌⊎◌, inl, inr, Bool, true, false, refl}
use Rattle.std.proofs.lemmas.Bool.{eqb-true, eqb-false}
use Rattle.elf_mips.specs.declared.image.Image.{Image}
use Rattle.net_model.specs.Functions.{IsReached, next}
use Rattle.net_model.specs.Functions.{GoesOn}
use Rattle.net_model.specs.Loops.{IsHeader, IsInBody, IsReachedWithout, begins, goes, head, source, before}

-- Two addresses are one, or they aren't.
pub same_or_other : (a b : ℕ) → (a ≡ b) ⊎ (a ≡ b → ⊥)
same_or_other a b = by_test (a == b) refl where
  by_test : (test : Bool) → (a == b) ≡ test → (a ≡ b) ⊎ (a ≡ b → ⊥)
  by_test true same = inl (eqb-true a b same)
  by_test false other = inr (eqb-false a b other)

-- What a reached unit goes on to is reached.
pub goes-reached : (image : Image) (entry address later : ℕ) → IsReached image entry address → GoesOn image address later →
    IsReached image entry later
goes-reached image entry address later reached on = next entry address later reached on

-- The header of a back arc is reached.
pub header-reached : (image : Image) (entry header : ℕ) → IsHeader image entry header → IsReached image entry header
header-reached image entry header headed = goes-reached image entry headed.from header headed.arc.reached headed.arc.goes

-- Each unit of a body is reached.
pub body-reached : (image : Image) (entry header address : ℕ) → IsInBody image entry header address → IsReached image entry address
body-reached image entry header _ (head headed) = header-reached image entry header headed
body-reached image entry header _ (source from arc) = arc.reached
body-reached image entry header _ (before address later reached on apart body) = reached

-- What has a body is a header.
pub body-header : (image : Image) (entry header address : ℕ) → IsInBody image entry header address → IsHeader image entry header
body-header image entry header _ (head headed) = headed
body-header image entry header _ (source from arc) = record { from = from; arc = arc }
body-header image entry header _ (before address later reached on apart body) = body-header image entry header later body

-- Once a header is removed, it isn't reached.
pub without-apart : (image : Image) (entry header address : ℕ) → IsReachedWithout image entry header address → address ≡ header → ⊥
without-apart image entry header _ (begins apart) = apart
without-apart image entry header _ (goes address later rest on apart) = apart

-- Once a header is removed, no unit of its body is reached.
pub body-behind : (image : Image) (entry header address : ℕ) → IsInBody image entry header address →
    IsReachedWithout image entry header address → ⊥
body-behind image entry header _ (head headed) without = without-apart image entry header header without refl
body-behind image entry header _ (source from arc) without = arc.behind without
body-behind image entry header _ (before address later reached on apart body) without =
    body-behind image entry header later body (goes address later without on apart)

-- A loop is entered at its header alone: what goes on to another unit of the body lies in the body.
pub entered-at-header : (image : Image) (entry header address later : ℕ) → IsReached image entry address → GoesOn image address later →
    IsInBody image entry header later → (later ≡ header → ⊥) → IsInBody image entry header address
entered-at-header image entry header address later reached on body apart = before address later reached on apart body

-- An entry that lies in a body is its header.
pub entry-header : (image : Image) (entry header : ℕ) → IsInBody image entry header entry → entry ≡ header
entry-header image entry header body = by_case (same_or_other entry header) where
  by_case : ((entry ≡ header) ⊎ (entry ≡ header → ⊥)) → entry ≡ header
  by_case (inl same) = same
  by_case (inr apart) = absurd (body-behind image entry header entry body (begins apart))
