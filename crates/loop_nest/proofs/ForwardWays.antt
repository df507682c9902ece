-- Each unit is reached by a way without back arcs.
use Rattle.std.proofs.Common.{◌≡◌, ℕ, ◌⊎◌, inl, inr, List, [], ◌∷◌, ◌++◌, refl, sym, subst}
use Rattle.elf_mips.specs.declared.image.Image.{Image}
use Rattle.net_model.specs.Functions.{IsReached, first, next}
use Rattle.net_model.specs.Functions.{GoesOn}
use Rattle.net_model.specs.Loops.{GoesForward, IsBackArc, IsForwardWay, IsInBody, IsReachedWithout, begins, goes}
use Rattle.loop_nest.proofs.Dominance.{same_or_other, body-behind}

-- Of each arc it can be told whether it is a back arc.
abbrev pub AreToldApart : Image → (entry : ℕ) → Type 0
AreToldApart image entry = (from later : ℕ) → IsReached image entry from → GoesOn image from later →
    (IsBackArc image entry from later) ⊎ (IsBackArc image entry from later → ⊥)

-- A forward way that passes a header: the part before it, and the part behind it.
pub record Passes (image : Image) (entry from header to : ℕ) : Type 0 where
  pub front : List ℕ
  pub arrives : IsForwardWay image entry from front header
  pub rest : List ℕ
  pub leads : IsForwardWay image entry header rest to

-- A forward way with one arc more.
pub forward-push : (image : Image) (entry : ℕ) (way : List ℕ) (from last later : ℕ) → IsForwardWay image entry from way last →
    GoesForward image entry last later → IsForwardWay image entry from (way ++ later ∷ []) later
forward-push image entry [] from last later same on =
    (subst (λ (at : ℕ). GoesForward image entry at later) (sym same) on, refl)
forward-push image entry (mid ∷ more) from last later forward on =
    (forward.0, forward-push image entry more mid last later forward.1 on)

-- A forward way from a unit that is reached without the header passes the header, or its end is reached without it too.
pub passes-onward : (image : Image) (entry header : ℕ) (way : List ℕ) (from to : ℕ) → IsReachedWithout image entry header from →
    IsForwardWay image entry from way to → (Passes image entry from header to) ⊎ (IsReachedWithout image entry header to)
passes-onward image entry header [] from to without same = inr (subst (IsReachedWithout image entry header) same without)
passes-onward image entry header (later ∷ more) from to without forward =
    elim (same_or_other later header) [
      | inl same ↦ inl (record {
        front = later ∷ [];
        arrives = (forward.0, same);
        rest = more;
        leads = subst (λ (at : ℕ). IsForwardWay image entry at more to) same forward.1;
      })
      | inr apart ↦ elim (passes-onward image entry header more later to (goes from later without forward.0.goes apart) forward.1) [
        | inl passes ↦ inl (record {
          front = later ∷ passes.front;
          arrives = (forward.0, passes.arrives);
          rest = passes.rest;
          leads = passes.leads;
        })
        | inr end ↦ inr end
      ]
    ]

-- A forward way from the entry to what isn't reached without a header passes the header.
pub passes-header : (image : Image) (entry header address : ℕ) (way : List ℕ) → IsForwardWay image entry entry way address →
    (IsReachedWithout image entry header address → ⊥) → Passes image entry entry header address
passes-header image entry header address way forward behind = by_case (same_or_other entry header) where
  by_end : ((Passes image entry entry header address) ⊎ (IsReachedWithout image entry header address)) → Passes image entry entry header address
  by_end (inl passes) = passes
  by_end (inr without) = absurd (behind without)

  by_case : ((entry ≡ header) ⊎ (entry ≡ header → ⊥)) → Passes image entry entry header address
  by_case (inl same) = record {
    front = [];
    arrives = same;
    rest = way;
    leads = subst (λ (at : ℕ). IsForwardWay image entry at way address) same forward;
  }
  by_case (inr apart) = by_end (passes-onward image entry header way entry address (begins apart) forward)

-- One arc more: a back arc goes to what the way has passed already.
forward-step : (image : Image) (entry address later : ℕ) (way : List ℕ) → IsForwardWay image entry entry way address →
    GoesOn image address later → ((IsBackArc image entry address later) ⊎ (IsBackArc image entry address later → ⊥)) →
    (way : List ℕ) × IsForwardWay image entry entry way later
forward-step image entry address later way forward on (inl back) =
    let passes = passes-header image entry later address way forward back.behind in
    (passes.front, passes.arrives)
forward-step image entry address later way forward on (inr ahead) =
    (way ++ later ∷ [], forward-push image entry way entry address later forward (record { goes = on; forward = ahead }))

-- Each reached unit is reached by a forward way.
pub forward-reached : (image : Image) (entry : ℕ) → AreToldApart image entry → (address : ℕ) → IsReached image entry address →
    (way : List ℕ) × IsForwardWay image entry entry way address
forward-reached image entry told _ (first _) = ([], refl)
forward-reached image entry told _ (next _ address later reached on) =
    let way = forward-reached image entry told address reached in
    forward-step image entry address later way.0 way.1 on (told address later reached on)

-- A forward way leads from a header to each unit of its body.
pub forward-body : (image : Image) (entry : ℕ) → AreToldApart image entry → (header address : ℕ) → IsReached image entry address →
    IsInBody image entry header address → (way : List ℕ) × IsForwardWay image entry header way address
forward-body image entry told header address reached body =
    let way = forward-reached image entry told address reached in
    let passes = passes-header image entry header address way.0 way.1 (body-behind image entry header address body) in
    (passes.rest, passes.leads)
