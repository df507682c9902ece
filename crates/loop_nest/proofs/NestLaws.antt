-- What the loops of a function tell: of each arc whether it is a back arc.
use Rattle.std.proofs.Common.{◌≡◌, ℕ, ◌⊎◌, inl, inr, List, [], ◌∷◌, map, Contains, sym, subst}
use Rattle.std.proofs.lemmas.List.Elements.{All-contains}
use Rattle.elf_mips.specs.declared.image.Image.{Image}
use Rattle.loop_nest.specs.declared.nest.Loop.{Loop}
use Rattle.loop_nest.specs.Nests.{IsLoop, IsNest}
use Rattle.net_model.specs.Functions.{GoesOn, IsReached}
use Rattle.net_model.specs.Loops.{IsBackArc, IsHeader, IsInBody, IsNamedBy, IsUnbounded, source}
use Rattle.loop_nest.proofs.Dominance.{body-behind, same_or_other}
use Rattle.loop_nest.proofs.ForwardWays.{AreToldApart}
use Rattle.loop_nest.proofs.Ranked.{IsRanked}
use Rattle.loop_nest.proofs.Ordered.{cases-in, first-in, later-in, nothing-in}

-- A number stands in a list, or it doesn't.
pub among : (numbers : List ℕ) (number : ℕ) → Contains numbers number ⊎ (Contains numbers number → ⊥)
among [] number = inr (nothing-in number)
among (one ∷ more) number = elim (same_or_other one number) [
  | inl same ↦ inl (subst (Contains (one ∷ more)) same (first-in one more))
  | inr differ ↦ elim (among more number) [
    | inl there ↦ inl (later-in one more number there)
    | inr none ↦ inr (λ c. elim (cases-in one more number c) [
      | inl same ↦ differ same
      | inr there ↦ none there
    ])
  ]
]

-- The loop of a header.
pub record LoopOf (loops : List Loop) (header : ℕ) : Type 0 where
  pub one : Loop
  pub listed : Contains loops one
  pub same : one.header ≡ header

further : (one : Loop) (more : List Loop) (header : ℕ) → LoopOf more header → LoopOf (one ∷ more) header
further one more header of = record { one = of.one; listed = later-in one more of.one of.listed; same = of.same }

pub loop-with : (loops : List Loop) (header : ℕ) → Contains (map (λ (l : Loop). l.header) loops) header → LoopOf loops header
loop-with [] header there = absurd (nothing-in header there)
loop-with (one ∷ more) header there = elim (cases-in one.header (map (λ (l : Loop). l.header) more) header there) [
  | inl same ↦ record { one = one; listed = first-in one more; same = same }
  | inr behind ↦ further one more header (loop-with more header behind)
]

-- The loop of a header in a nest.
pub record NestLoop (image : Image) (entry header : ℕ) : Type 0 where
  pub one : Loop
  pub same : one.header ≡ header
  pub is : IsLoop image entry one

pub nest-loop : (image : Image) (entry : ℕ) (loops : List Loop) → IsNest image entry loops → (header : ℕ) → IsHeader image entry header →
    NestLoop image entry header
nest-loop image entry loops nest header headed =
    let of = loop-with loops header (nest.whole header headed) in
    record { one = of.one; same = of.same; is = All-contains (IsLoop image entry) loops of.one nest.each of.listed }

by-body : (image : Image) (entry from header : ℕ) → IsReached image entry from → GoesOn image from header → (of : NestLoop image entry header) →
    Contains of.one.body from ⊎ (Contains of.one.body from → ⊥) →
    (IsBackArc image entry from header) ⊎ (IsBackArc image entry from header → ⊥)
by-body image entry from header reached goes of (inl inside) =
    let body : IsInBody image entry header from =
    subst (λ (h : ℕ). IsInBody image entry h from) of.same (All-contains (IsInBody image entry of.one.header) of.one.body from of.is.sound inside) in
    inl (record { reached = reached; goes = goes; behind = body-behind image entry header from body })
by-body image entry from header reached goes of (inr outside) =
    inr (λ back. outside (of.is.whole from (subst (λ (h : ℕ). IsInBody image entry h from) (sym of.same) (source from back))))

by-header : (image : Image) (entry : ℕ) (loops : List Loop) → IsNest image entry loops → (from header : ℕ) → IsReached image entry from →
    GoesOn image from header →
    Contains (map (λ (l : Loop). l.header) loops) header ⊎ (Contains (map (λ (l : Loop). l.header) loops) header → ⊥) →
    (IsBackArc image entry from header) ⊎ (IsBackArc image entry from header → ⊥)
by-header image entry loops nest from header reached goes (inl there) =
    let found = loop-with loops header there in
    let of : NestLoop image entry header =
    record { one = found.one; same = found.same; is = All-contains (IsLoop image entry) loops found.one nest.each found.listed } in
    by-body image entry from header reached goes of (among of.one.body from)
by-header image entry loops nest from header reached goes (inr none) =
    inr (λ back. none (nest.whole header (record { from = from; arc = back })))

pub nest-told : (image : Image) (entry : ℕ) (loops : List Loop) → IsNest image entry loops → AreToldApart image entry
nest-told image entry loops nest from header reached goes =
    by-header image entry loops nest from header reached goes (among (map (λ (l : Loop). l.header) loops) header)

pub nest-ranked : (image : Image) (entry : ℕ) (loops : List Loop) → IsNest image entry loops → IsRanked image entry
nest-ranked image entry loops nest = record { ranks = nest.ranks; told = nest-told image entry loops nest }

-- Each loop of a nest is bounded.
pub nest-bounded : (image : Image) (entry : ℕ) (loops : List Loop) → IsNest image entry loops → (header : ℕ) → IsUnbounded image entry header → ⊥
nest-bounded image entry loops nest header unbounded =
    let of = nest-loop image entry loops nest header unbounded.loops in
    let bound = of.is.bounded in
    unbounded.unnamed bound.mark bound.listed (subst (IsNamedBy image entry bound.mark) of.same bound.named)
