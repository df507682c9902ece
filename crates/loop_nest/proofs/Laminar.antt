-- Two loops lie apart, or one lies in the other.
use Rattle.std.proofs.Common.{◌≡◌, ℕ, ◌⊎◌, inl, inr, refl, sym, subst, ◌∙◌}
use Rattle.elf_mips.specs.declared.image.Image.{Image}
use Rattle.net_model.specs.Functions.{IsReached, first, next}
use Rattle.net_model.specs.Functions.{GoesOn}
use Rattle.net_model.specs.Loops.{IsBackArc, IsInBody, IsReachedWithout, begins, goes, head, source, before}
use Rattle.loop_nest.proofs.Dominance.{same_or_other, body-reached, body-behind, entry-header, without-apart}

-- One loop for both headers, or one header in the body of the other.
abbrev AreNested : Image → (entry header other : ℕ) → Type 0
AreNested image entry header other =
    (header ≡ other) ⊎ ((IsInBody image entry other header) ⊎ (IsInBody image entry header other))

-- Back along the way from the entry, until one of the headers comes.
nested-back : (image : Image) (entry header other address : ℕ) → IsReached image entry address →
    IsInBody image entry header address → IsInBody image entry other address → AreNested image entry header other
nested-back image entry header other _ (first _) body second =
    inl (sym (entry-header image entry header body) ∙ entry-header image entry other second)
nested-back image entry header other _ (next _ address later reached on) body second =
    elim (same_or_other later header) [
      | inl same ↦ inr (inl (subst (IsInBody image entry other) same second))
      | inr away ↦ elim (same_or_other later other) [
        | inl same ↦ inr (inr (subst (IsInBody image entry header) same body))
        | inr far ↦ nested-back image entry header other address reached
            (before address later reached on away body)
            (before address later reached on far second)
      ]
    ]

-- Of two loops that share a unit one holds the header of the other.
pub laminar : (image : Image) (entry header other address : ℕ) → IsInBody image entry header address → IsInBody image entry other address →
    (header ≡ other) ⊎ ((IsInBody image entry other header) ⊎ (IsInBody image entry header other))
laminar image entry header other address body second =
    nested-back image entry header other address (body-reached image entry header address body) body second

-- The first of two headers on the way to a unit, if one comes before it: the other is reached without it.
abbrev IsFirstOf : Image → (entry header other address : ℕ) → Type 0
IsFirstOf image entry header other address =
    (IsReachedWithout image entry other header) ⊎ ((IsReachedWithout image entry header other)
    ⊎ ((IsReachedWithout image entry header address) × (IsReachedWithout image entry other address)))

-- One step on, where neither header has come.
first_of-step : (image : Image) (entry header other address later : ℕ) → (header ≡ other → ⊥) →
    IsReachedWithout image entry header address → IsReachedWithout image entry other address → GoesOn image address later →
    IsFirstOf image entry header other later
first_of-step image entry header other address later differ without away on = by_header (same_or_other later header) where
  by_header : ((later ≡ header) ⊎ (later ≡ header → ⊥)) → IsFirstOf image entry header other later
  by_header (inl same) = inl (subst (IsReachedWithout image entry other) same
      (goes address later away on (λ e. differ (sym same ∙ e))))
  by_header (inr near) = by_other (same_or_other later other) where
    by_other : ((later ≡ other) ⊎ (later ≡ other → ⊥)) → IsFirstOf image entry header other later
    by_other (inl same) = inr (inl (subst (IsReachedWithout image entry header) same (goes address later without on near)))
    by_other (inr far) = inr (inr (goes address later without on near, goes address later away on far))

first_of-entry : (image : Image) (entry header other : ℕ) → (header ≡ other → ⊥) → IsFirstOf image entry header other entry
first_of-entry image entry header other differ = by_header (same_or_other entry header) where
  by_header : ((entry ≡ header) ⊎ (entry ≡ header → ⊥)) → IsFirstOf image entry header other entry
  by_header (inl same) = inl (subst (IsReachedWithout image entry other) same (begins (λ e. differ (sym same ∙ e))))
  by_header (inr near) = by_other (same_or_other entry other) where
    by_other : ((entry ≡ other) ⊎ (entry ≡ other → ⊥)) → IsFirstOf image entry header other entry
    by_other (inl same) = inr (inl (subst (IsReachedWithout image entry header) same (begins near)))
    by_other (inr far) = inr (inr (begins near, begins far))

first_of : (image : Image) (entry header other address : ℕ) → (header ≡ other → ⊥) → IsReached image entry address →
    IsFirstOf image entry header other address
first_of image entry header other _ differ (first _) = first_of-entry image entry header other differ
first_of image entry header other _ differ (next _ address later reached on) =
    elim (first_of image entry header other address differ reached) [
      | inl one ↦ inl one
      | inr rest ↦ elim rest [
        | inl two ↦ inr (inl two)
        | inr both ↦ first_of-step image entry header other address later differ both.0 both.1 on
      ]
    ]

-- Two headers that lie in each other's bodies are one.
pub apart : (image : Image) (entry header other : ℕ) → IsInBody image entry other header → IsInBody image entry header other →
    header ≡ other
apart image entry header other within around = by_case (same_or_other header other) where
  by_first : IsFirstOf image entry header other header → ⊥
  by_first (inl one) = body-behind image entry other header within one
  by_first (inr (inl two)) = body-behind image entry header other around two
  by_first (inr (inr both)) = without-apart image entry header header both.0 refl

  by_case : ((header ≡ other) ⊎ (header ≡ other → ⊥)) → header ≡ other
  by_case (inl same) = same
  by_case (inr differ) =
      absurd (by_first (first_of image entry header other header differ (body-reached image entry other header within)))

-- The arc before the header of an inner loop.
inside-source : (image : Image) (entry header other from : ℕ) → IsInBody image entry other header →
    IsBackArc image entry from header → ((header ≡ other) ⊎ (header ≡ other → ⊥)) → IsInBody image entry other from
inside-source image entry header other from within arc (inl same) =
    source from (subst (IsBackArc image entry from) same arc)
inside-source image entry header other from within arc (inr differ) = before from header arc.reached arc.goes differ within

-- A loop whose header lies in another loop lies in it whole.
pub inside : (image : Image) (entry header other : ℕ) → IsInBody image entry other header →
    (address : ℕ) → IsInBody image entry header address → IsInBody image entry other address
inside image entry header other within _ (head headed) = within
inside image entry header other within _ (source from arc) =
    inside-source image entry header other from within arc (same_or_other header other)
inside image entry header other within _ (before address later reached on away body) =
    elim (same_or_other later other) [
      | inl same ↦ absurd (away (same ∙ sym (apart image entry header other within (subst (IsInBody image entry header) same body))))
      | inr far ↦ before address later reached on far (inside image entry header other within later body)
    ]
