-- What an access spends: the latency of its first stage, and of each further one that it goes on to.
use Rattle.std.proofs.Common.{◌≡◌, ℕ, zero, suc, ◌+◌, ◌-◌, ◌<◌, ◌≤◌, ◌==◌, ◌&&◌, not, Bool, true, false, cond, List, [], ◌∷◌, ◌++◌, length, map, take, get_or, Option, Some, None, refl, sym, ap, ◌∙◌, subst, inl, inr, arith, true≢false}
use Rattle.std.specs.Prelude.{filter, nat_le}
use Rattle.std.proofs.lemmas.Bool.{cases_Bool, cases_eq}
use Rattle.std.proofs.lemmas.Bool.Decides.{nat_tests}
use Rattle.std.proofs.lemmas.List.Sums.{sum_by-cons}
use Rattle.age_model.specs.Moves.{visit_latency}
use Rattle.cache_config.specs.Instructions.{Costs, stages_through}
use Rattle.flow_net.specs.declared.letter.Level2.{Level2}
use Rattle.age_model.specs.Classes.{chain_length}
use Rattle.lru_concrete.specs.Chains.{Held, Went, chain, finds_in, goes, latencies, levels_of, onward, serves, touch_in}
use Rattle.lru_concrete.specs.declared.level.Level.{Level}
use Rattle.lru_concrete.specs.declared.level.Side.{Side}
use Rattle.net_model.specs.Claims.{hits, misses}

-- A visit of a chain of so many caches: it goes through all of them where none holds its block, else to one of them.
pub record IsVisit (long caches : ℕ) (hit : Bool) : Type 0 where
  pub few : caches ≤ long
  pub whole : hit ≡ false → caches ≡ long
  pub some : hit ≡ true → 1 ≤ caches

-- ---- What caches make an access visit is one.
onward-visit : (served found : Bool) (cache changed : Held) (more : List Held) (rest : Went) (long : ℕ) →
    IsVisit long rest.visit.caches rest.visit.hit →
    IsVisit (cond served (suc long) long) (onward served found cache changed more rest).visit.caches
    (onward served found cache changed more rest).visit.hit
onward-visit false found cache changed more rest long is = is
onward-visit true true cache changed more rest long is =
    record { few = omega arith; whole = λ e. absurd (true≢false e); some = λ e. omega arith }
onward-visit true false cache changed more rest long is =
    let few = is.few in
    record {
      few = omega (arith, few);
      whole = λ e. ap (λ (n : ℕ). suc n) (is.whole e);
      some = λ e. omega arith;
    }

chosen-length : (b : Bool) (level : Level) (more : List Level) → length (cond b (level ∷ more) more) ≡ cond b (suc (length more)) (length more)
chosen-length true level more = refl
chosen-length false level more = refl

pub goes-visit : (side : Side) (address : ℕ) (caches : List Held) →
    IsVisit (length (chain side (levels_of caches))) (goes side address caches).visit.caches (goes side address caches).visit.hit
goes-visit side address [] = record { few = omega arith; whole = λ e. refl; some = λ e. absurd (true≢false (sym e)) }
goes-visit side address (cache ∷ more) =
    let went : Went = goes side address (cache ∷ more) in
    subst (λ (n : ℕ). IsVisit n went.visit.caches went.visit.hit)
    (sym (chosen-length (serves cache.level.serves side) cache.level (chain side (levels_of more))))
    (onward-visit (serves cache.level.serves side) (finds_in cache address) cache (touch_in cache address) more
    (goes side address more) (length (chain side (levels_of more))) (goes-visit side address more))

-- ---- The latencies of the stages that a visit goes on to.
module _ (caches : ℕ) (hit : Bool) (at : ℕ → ℕ) where
  -- From a cache of the chain on, where each entry stands for one.
  abbrev pub spent : (level : ℕ) → List Level2 → ℕ
  spent level [] = 0
  spent level (entry ∷ more) = cond (misses level caches hit) (at level) 0 + spent (suc level) more

  spent-none : (level : ℕ) (entries : List Level2) → caches < level → spent level entries ≡ 0
  spent-none level [] past = refl
  spent-none level (entry ∷ more) past =
      let rest = spent-none (suc level) more (omega (arith, past)) in
      let away : nat_le level caches ≡ false = grind (arith, nat_tests, past) in
      let none : ◌≡◌ {A = ℕ} (cond (misses level caches hit) (at level) 0) 0 =
      ap (λ (b : Bool). cond (b && not (hits level caches hit)) (at level) 0) away in
      omega (arith, rest, none)

  missed-below : (level : ℕ) → level < caches → misses level caches hit ≡ true
  missed-below level below =
      let here : nat_le level caches ≡ true = grind (arith, nat_tests, below) in
      let past : (level == caches) ≡ false = grind (arith, nat_tests, below) in
      ap (λ (b : Bool). b && not (hits level caches hit)) here ∙ ap (λ (b : Bool). not (b && hit)) past

  missed-here : (level : ℕ) → caches ≡ level → misses level caches hit ≡ not hit
  missed-here level same =
      let here : nat_le level caches ≡ true = grind (arith, nat_tests, same) in
      let equal : (level == caches) ≡ true = grind (arith, nat_tests, same) in
      ap (λ (b : Bool). b && not (hits level caches hit)) here ∙ ap (λ (b : Bool). not (b && hit)) equal

  -- The stages behind these caches, and memory.
  abbrev behind : List Level → (memory : ℕ) → List ℕ
  behind levels memory = map (λ (level : Level). level.latency) levels ++ memory ∷ []

  latencies-take : (n : ℕ) (first : Level) (more : List Level) → latencies (take (suc n) (first ∷ more)) ≡ first.latency + latencies (take n more)
  latencies-take n first more = sum_by-cons (λ (level : Level). level.latency) first (take n more)

  spent-at : (levels : List Level) (memory level : ℕ) (entries : List Level2) → length entries ≡ length levels + 1 →
      ((i : ℕ) → at (level + i) ≡ get_or (behind levels memory) i 0) → level ≤ caches → caches ≤ level + length levels →
      (hit ≡ false → caches ≡ level + length levels) →
      spent level entries ≡ latencies (take (caches - level) levels) + cond hit 0 memory
  spent-at levels memory level [] long reads low high whole = absurd (omega (arith, long))
  spent-at [] memory level (entry ∷ more) long reads low high whole =
      let same : caches ≡ level = omega (arith, low, high) in
      let rest = spent-none (suc level) more (omega (arith, same)) in
      let latency : at level ≡ memory = (let e : at level ≡ at (level + 0) = ap at (omega arith) in e ∙ reads 0) in
      let first : cond (misses level caches hit) (at level) 0 ≡ cond hit 0 memory =
      ap (λ (b : Bool). cond b (at level) 0) (missed-here level same) ∙ turned hit (at level) memory latency in
      let nothing : caches - level ≡ 0 = omega (arith, same) in
      let none : latencies (take (caches - level) []) ≡ 0 = ap (λ (n : ℕ). latencies (take n [])) nothing in
      omega (arith, rest, first, none)
    where
      turned : (b : Bool) (x y : ℕ) → x ≡ y → cond (not b) x 0 ≡ cond b 0 y
      turned true x y e = refl
      turned false x y e = e
  spent-at (next ∷ levels) memory level (entry ∷ more) long reads low high whole =
      elim (cases_eq caches level) as (λ _. spent level (entry ∷ more) ≡ latencies (take (caches - level) (next ∷ levels)) + cond hit 0 memory) [
        | inl same ↦
            let found : hit ≡ true =
            elim (cases_Bool hit) as (λ _. hit ≡ true) [
              | inl e ↦ e
              | inr e ↦ (let all = whole e in absurd (omega (arith, all, same)))
            ] in
            let rest = spent-none (suc level) more (omega (arith, same)) in
            let first : ◌≡◌ {A = ℕ} (cond (misses level caches hit) (at level) 0) 0 =
            ap (λ (b : Bool). cond b (at level) 0) (missed-here level same ∙ ap not found) in
            let nothing : caches - level ≡ 0 = omega (arith, same) in
            let none : latencies (take (caches - level) (next ∷ levels)) ≡ 0 =
            ap (λ (n : ℕ). latencies (take n (next ∷ levels))) nothing in
            let served : ◌≡◌ {A = ℕ} (cond hit 0 memory) 0 = ap (λ (b : Bool). cond b 0 memory) found in
            omega (arith, rest, first, none, served)
        | inr differ ↦
            let below : level < caches = omega (arith, low, differ) in
            let rest = spent-at levels memory (suc level) more (omega (arith, long))
            (λ i. let e : at (suc level + i) ≡ at (level + suc i) = ap at (omega arith) in e ∙ reads (suc i))
            (omega (arith, below)) (omega (arith, high)) (λ e. let all = whole e in omega (arith, all)) in
            let latency : at level ≡ next.latency = (let e : at level ≡ at (level + 0) = ap at (omega arith) in e ∙ reads 0) in
            let first : cond (misses level caches hit) (at level) 0 ≡ at level =
            ap (λ (b : Bool). cond b (at level) 0) (missed-below level below) in
            let taken : latencies (take (caches - level) (next ∷ levels)) ≡ next.latency + latencies (take (caches - suc level) levels) =
            (let e : caches - level ≡ suc (caches - suc level) = omega (arith, below) in
            ap (λ (n : ℕ). latencies (take n (next ∷ levels))) e ∙ latencies-take (caches - suc level) next levels) in
            omega (arith, rest, latency, first, taken)
      ]

  -- With the first stage it is what the visit costs.
  visit-spent : (levels : List Level) (memory : ℕ) (entries : List Level2) → length entries ≡ length levels →
      ((i : ℕ) → at i ≡ get_or (behind levels memory) i 0) → IsVisit (length levels) caches hit →
      at 0 + spent 1 entries ≡ latencies (take caches levels) + cond hit 0 memory
  visit-spent [] memory (entry ∷ more) long reads is = absurd (omega (arith, long))
  visit-spent [] memory [] long reads is =
      let few = is.few in
      let past : hit ≡ false =
      elim (cases_Bool hit) as (λ _. hit ≡ false) [
        | inl e ↦ (let one = is.some e in absurd (omega (arith, one, few)))
        | inr e ↦ e
      ] in
      let none : latencies (take caches []) ≡ 0 = (let e : caches ≡ 0 = omega (arith, few) in ap (λ (n : ℕ). latencies (take n [])) e) in
      let missed : cond hit 0 memory ≡ memory = ap (λ (b : Bool). cond b 0 memory) past in
      let first = reads 0 in
      omega (arith, none, missed, first)
  visit-spent (level ∷ levels) memory entries long reads is =
      let few = is.few in
      let one : 1 ≤ caches =
      elim (cases_Bool hit) as (λ _. 1 ≤ caches) [
        | inl e ↦ is.some e
        | inr e ↦ (let all = is.whole e in omega (arith, all))
      ] in
      let rest = spent-at levels memory 1 entries (omega (arith, long))
      (λ i. let e : at (1 + i) ≡ at (suc i) = ap at (omega arith) in e ∙ reads (suc i))
      one (omega (arith, few)) (λ e. let all = is.whole e in omega (arith, all)) in
      let first : at 0 ≡ level.latency = reads 0 in
      let taken : latencies (take caches (level ∷ levels)) ≡ level.latency + latencies (take (caches - 1) levels) =
      (let e : caches ≡ suc (caches - 1) = omega (arith, one) in
      ap (λ (n : ℕ). latencies (take n (level ∷ levels))) e ∙ latencies-take (caches - 1) level levels) in
      omega (arith, rest, first, taken)

-- The latency of a stage of a side, from 0; 0 where it has no such stage.
abbrev pub stage_of : Costs → Option Side → (before : ℕ) → ℕ
stage_of costs side before = get_or (stages_through costs side) before 0

pub side-spent : (costs : Costs) (side : Option Side) (caches : ℕ) (hit : Bool) (entries : List Level2) →
    length entries ≡ chain_length costs.levels side → IsVisit (chain_length costs.levels side) caches hit →
    stage_of costs side 0 + spent caches hit (stage_of costs side) 1 entries ≡ visit_latency side costs.levels costs.memory caches hit
side-spent costs None caches hit [] long is = refl
side-spent costs None caches hit (entry ∷ more) long is = absurd (omega (arith, long))
side-spent costs (Some side) caches hit entries long is =
    visit-spent caches hit (stage_of costs (Some side)) (chain side costs.levels) costs.memory entries long (λ i. refl) is
