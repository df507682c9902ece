-- Raised by the loops of one depth more, the worths take that depth's back arcs too.
use Rattle.std.proofs.Common.{◌≡◌, ◌⊎◌, ℕ, suc, ◌+◌, ◌-◌, ◌<◌, ◌≤◌, true, false, refl, sym, ap, ◌∙◌, subst, inl, inr, arith, true≢false}
use Rattle.std.proofs.lemmas.Bool.{cases_Bool, cases_lt}
use Rattle.nest_solver.specs.Shape.{Shape, IsNest, IsUpTo, target, is_back}
use Rattle.nest_solver.specs.Ways.{IsRound, IsSwept}
use Rattle.nest_solver.specs.Solved.{IsDual, lifted}
use Rattle.nest_solver.proofs.Arcs.{IsBackOf, back-of, closes-back, goes_on-in}
use Rattle.nest_solver.proofs.Solving.{reach-closes, reach-goes}
use Rattle.nest_solver.proofs.Worths.{lifted-more, lifted-in, lifted-cases, lift-header, raise}

-- A place outside is worth what it was, and one inside what its loop makes it worth.
pub record IsRaised (s : Shape) (depth : ℕ) (round best turns worth : ℕ → ℕ) (p : ℕ) : Type 0 where
  pub up : IsUpTo s.loops (round p)
  pub deep : s.depth (round p) ≡ depth
  pub held : s.holds (round p) p ≡ true
  pub known : 0 < best p
  pub is : lifted s round best turns worth p ≡ raise s round best turns worth p

raised-cases : (s : Shape) (depth : ℕ) (round best turns worth : ℕ → ℕ) → IsRound s depth round → (p : ℕ) →
    (lifted s round best turns worth p ≡ worth p) ⊎ IsRaised s depth round best turns worth p
raised-cases s depth round best turns worth rounds p =
    elim (lifted-cases s round best turns worth p)
    as (λ _. (lifted s round best turns worth p ≡ worth p) ⊎ IsRaised s depth round best turns worth p) [
      | inl same ↦ inl same
      | inr up ↦ let here = rounds.here p up.0 in
          inr (record { up = here.0; deep = here.1; held = here.2; known = up.1; is = up.2 })
    ]

-- The end of a back arc of that depth or of a smaller one keeps its worth.
back_same : (s : Shape) (depth : ℕ) (round best turns worth : ℕ → ℕ) → IsNest s → IsRound s depth round →
    ((l : ℕ) → IsUpTo s.loops l → s.depth l ≡ depth → turns l ≡ best (s.header l) - 1) →
    (i l : ℕ) → IsBackOf s i l → s.depth l ≤ depth →
    lifted s round best turns worth (s.to i) ≡ worth (s.to i)
back_same s depth round best turns worth nest rounds turned i l back low =
    elim (raised-cases s depth round best turns worth rounds (s.to i))
    as (λ _. lifted s round best turns worth (s.to i) ≡ worth (s.to i)) [
      | inl same ↦ same
      | inr up ↦ by up
    ]
  where
    at : lifted s round best turns worth (s.header l) ≡ worth (s.header l) →
        lifted s round best turns worth (s.to i) ≡ worth (s.to i)
    at e = subst (λ (p : ℕ). lifted s round best turns worth p ≡ worth p) (sym back.header) e

    by : IsRaised s depth round best turns worth (s.to i) →
        lifted s round best turns worth (s.to i) ≡ worth (s.to i)
    by up =
        let own = nest.own l (round (s.to i)) back.up up.up
        (subst (λ (p : ℕ). s.holds (round (s.to i)) p ≡ true) back.header up.held) in
        elim own as (λ _. lifted s round best turns worth (s.to i) ≡ worth (s.to i)) [
          | inl same ↦ at (lift-header s depth round best turns worth nest rounds turned l back.up
              (ap s.depth (sym same) ∙ up.deep))
          | inr less ↦ absurd (omega (arith, less, up.deep, low))
        ]

-- An arc that is no back arc comes into a loop at its header, or lies inside.
forward_by : (s : Shape) (weight turns worth : ℕ → ℕ) (depth : ℕ) (round best choice : ℕ → ℕ) → IsNest s →
    IsDual s weight turns depth worth → IsRound s (suc depth) round →
    IsSwept s (suc depth) round weight best choice →
    ((l : ℕ) → IsUpTo s.loops l → s.depth l ≡ suc depth → turns l ≡ best (s.header l) - 1) →
    (i : ℕ) → IsUpTo s.arcs i → 0 < s.from i → is_back s i ≡ false →
    IsRaised s (suc depth) round best turns worth (s.to i) →
    weight i + lifted s round best turns worth (s.to i) ≤ lifted s round best turns worth (s.from i)
forward_by s weight turns worth depth round best choice nest dual rounds swept turned i u low forward up =
    elim (cases_Bool (s.holds (round (s.to i)) (s.from i)))
    as (λ _. weight i + lifted s round best turns worth (s.to i) ≤ lifted s round best turns worth (s.from i)) [
      | inl held ↦ inside held
      | inr out ↦ let header = nest.entering i (round (s.to i)) u up.up out up.held in
          omega (
            arith,
            subst (λ (p : ℕ). lifted s round best turns worth p ≡ worth p) (sym header)
                (lift-header s (suc depth) round best turns worth nest rounds turned (round (s.to i)) up.up up.deep),
            dual.forward i u low forward,
            lifted-more s round best turns worth (s.from i),
          )
    ]
  where
    to_low : 0 < s.to i
    to_low = elim (cases_lt 0 (s.to i)) as (λ _. 0 < s.to i) [
      | inl less ↦ less
      | inr none ↦ absurd (true≢false
          (sym (subst (λ (p : ℕ). s.holds (round (s.to i)) p ≡ true) (omega (arith, none)) up.held)
          ∙ nest.outside (round (s.to i))))
    ]

    inside : s.holds (round (s.to i)) (s.from i) ≡ true →
        weight i + lifted s round best turns worth (s.to i) ≤ lifted s round best turns worth (s.from i)
    inside held =
        let same : round (s.from i) ≡ round (s.to i) = rounds.all (round (s.to i)) (s.from i) up.up up.deep held in
        let on = goes_on-in s (suc depth) round i low to_low forward (inr (omega (arith, same, up.up), same)) in
        let is = reach-goes s (suc depth) round best i on in
        let more = swept.closed i u (omega (arith, is, up.known)) in
        omega (
          arith,
          is,
          more,
          up.known,
          up.is,
          dual.forward i u low forward,
          lifted-more s round best turns worth (s.from i),
          lifted-more s round best turns worth (s.to i),
          lifted-in s round best turns worth (s.from i) (omega (arith, same, up.up)) (omega (arith, is, more, up.known)),
          ap turns same,
          ap (λ l. worth (s.header l)) same,
        )

back_by : (s : Shape) (weight turns worth : ℕ → ℕ) (depth : ℕ) (round best choice : ℕ → ℕ) → IsNest s →
    IsDual s weight turns depth worth → IsRound s (suc depth) round →
    IsSwept s (suc depth) round weight best choice →
    (i l : ℕ) → IsUpTo s.arcs i → is_back s i ≡ true → target s i ≡ l → IsBackOf s i l → s.depth l ≤ suc depth →
    lifted s round best turns worth (s.to i) ≡ worth (s.to i) →
    weight i + lifted s round best turns worth (s.to i) ≤ lifted s round best turns worth (s.from i) + turns l
back_by s weight turns worth depth round best choice nest dual rounds swept i l u e t back low same =
    elim (cases_lt (s.depth l) (suc depth))
    as (λ _. weight i + lifted s round best turns worth (s.to i) ≤ lifted s round best turns worth (s.from i) + turns l) [
      | inl less ↦ omega (
        arith,
        same,
        lifted-more s round best turns worth (s.from i),
        dual.back i u e (omega (arith, ap s.depth t, less)),
        ap turns t,
      )
      | inr high ↦
          let is : round (s.from i) ≡ l = rounds.all l (s.from i) back.up (omega (arith, low, high)) back.source in
          let ends = closes-back s (suc depth) i (omega (arith, back.header, nest.headers l back.up)) e
          (ap s.depth t ∙ omega (arith, low, high)) in
          let one = reach-closes s (suc depth) round best i ends in
          let more = swept.closed i u (omega (arith, one)) in
          omega (
            arith,
            same,
            one,
            more,
            lifted-in s round best turns worth (s.from i) (omega (arith, is, back.up)) (omega (arith, one, more)),
            ap turns is,
            ap (λ k. worth (s.header k)) is,
            ap worth back.header,
          )
    ]

pub lift-dual : (s : Shape) (weight turns worth : ℕ → ℕ) (depth : ℕ) (round best choice : ℕ → ℕ) → IsNest s →
    IsDual s weight turns depth worth → IsRound s (suc depth) round →
    IsSwept s (suc depth) round weight best choice →
    ((l : ℕ) → IsUpTo s.loops l → s.depth l ≡ suc depth → turns l ≡ best (s.header l) - 1) →
    IsDual s weight turns (suc depth) (lifted s round best turns worth)
lift-dual s weight turns worth depth round best choice nest dual rounds swept turned =
    record {
      forward = λ i u low forward. elim (raised-cases s (suc depth) round best turns worth rounds (s.to i))
          as (λ _. weight i + lifted s round best turns worth (s.to i) ≤ lifted s round best turns worth (s.from i)) [
            | inl same ↦ omega (
              arith,
              same,
              dual.forward i u low forward,
              lifted-more s round best turns worth (s.from i),
            )
            | inr up ↦ forward_by s weight turns worth depth round best choice nest dual rounds swept turned i u low
                forward up
          ];
      back = λ i u e low. let back = back-of s nest i e in
          back_by s weight turns worth depth round best choice nest dual rounds swept i (target s i) u e refl back low
          (back_same s (suc depth) round best turns worth nest rounds turned i (target s i) back low);
    }
