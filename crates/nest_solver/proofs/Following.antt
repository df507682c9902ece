-- The arcs chosen from a place on are a longest way from there.
use Rattle.std.proofs.Common.{◌≡◌, ◌⊎◌, ℕ, ◌+◌, ◌*◌, ◌^◌, ◌<◌, ◌≤◌, ◌==◌, true, false, List, [], ◌∷◌, ◌++◌, sum_by, refl, sym, ap, ◌∙◌, subst, inl, inr, arith, true≢false, append_assoc, mul-le-mul_left, length, set}
use Rattle.std.proofs.lemmas.Bool.{cases_Bool, cases_eq}
use Rattle.std.proofs.lemmas.List.Sums.{sum_by-cons}
use Rattle.nest_solver.specs.Shape.{Shape, IsNest, IsUpTo, is_back}
use Rattle.nest_solver.specs.Ways.{IsSwept, IsWay, closes, goes_on, reach}
use Rattle.nest_solver.specs.Counted.{bit, times}
use Rattle.nest_solver.specs.Walks.{Follows, IsWalkable, IsWalked}
use Rattle.nest_solver.proofs.Arcs.{goes_on-out}
use Rattle.nest_solver.proofs.Solving.{reach-cases, reach-closes}
use Rattle.nest_solver.proofs.Forward.{HoldsBehind, forward, live-up}
use Rattle.nest_solver.proofs.Times.{bit_same, bit_other}
use Rattle.nest_solver.proofs.Puts.{puts-set}
use Rattle.nest_solver.specs.Nets.{entry}

-- A chosen arc that doesn't end the way goes on to a place with a way.
pub record GoesBehind (s : Shape) (depth : ℕ) (round weight best choice : ℕ → ℕ) (p : ℕ) : Type 0 where
  pub on : goes_on s depth round (choice p) ≡ true
  pub known : 0 < best (s.to (choice p))
  pub tight : best p ≡ weight (choice p) + best (s.to (choice p))

pub goes-behind : (s : Shape) (depth : ℕ) (round weight best choice : ℕ → ℕ) (p : ℕ) →
    IsSwept s depth round weight best choice → 0 < best p → closes s depth (choice p) ≡ false →
    GoesBehind s depth round weight best choice p
goes-behind s depth round weight best choice p swept some ongoing =
    elim (reach-cases s depth round best (choice p) (swept.leads p some))
    as (λ _. GoesBehind s depth round weight best choice p) [
      | inl ends ↦ absurd (true≢false (sym ends ∙ ongoing))
      | inr g ↦ record {
        on = g.0;
        known = omega (arith, g.1, swept.leads p some);
        tight = swept.tight p some ∙ ap (λ n. weight (choice p) + n) g.1;
      }
    ]

-- From each place with a way there are such arcs.
follows_at : (s : Shape) (depth : ℕ) (round weight best choice : ℕ → ℕ) → IsSwept s depth round weight best choice →
    (p : ℕ) → IsUpTo s.places p →
    HoldsBehind s (λ q. 0 < best q → (way : List ℕ) × Follows s depth choice q way) p →
    0 < best p → (way : List ℕ) × Follows s depth choice p way
follows_at s depth round weight best choice swept p u behind some =
    elim (cases_Bool (closes s depth (choice p))) as (λ _. (way : List ℕ) × Follows s depth choice p way) [
      | inl ends ↦ (choice p ∷ [], (refl, inl (ends, refl)))
      | inr ongoing ↦
          let on = goes-behind s depth round weight best choice p swept some ongoing in
          let goes = goes_on-out s depth round (choice p) on.on in
          let rest = behind (choice p) (swept.up p some) (swept.leaves p some) goes.to goes.forward on.known in
          (choice p ∷ rest.0, (refl, inr (ongoing, rest.1)))
    ]

pub follows-some : (s : Shape) (depth : ℕ) (round weight best choice : ℕ → ℕ) (p : ℕ) → IsNest s →
    IsSwept s depth round weight best choice → 0 < best p → (way : List ℕ) × Follows s depth choice p way
follows-some s depth round weight best choice p nest swept some =
    forward s nest (λ q. 0 < best q → (way : List ℕ) × Follows s depth choice q way)
    (follows_at s depth round weight best choice swept) p
    (live-up s nest depth round weight best choice swept p some) some

-- They are a way, and it weighs what the sweep found.
pub record IsFollowed (s : Shape) (depth : ℕ) (round weight best : ℕ → ℕ) (p : ℕ) (way : List ℕ) : Type 0 where
  pub goes : IsWay s depth round p way
  pub weighs : sum_by weight way + 1 ≡ best p

pub follows-way : (s : Shape) (depth : ℕ) (round weight best choice : ℕ → ℕ) (p : ℕ) (way : List ℕ) →
    IsSwept s depth round weight best choice → 0 < best p → Follows s depth choice p way →
    IsFollowed s depth round weight best p way
follows-way s depth round weight best choice p [] swept some f = absurd f
follows-way s depth round weight best choice p (i ∷ more) swept some f =
    elim f.1 as (λ _. IsFollowed s depth round weight best p (i ∷ more)) [
      | inl ends ↦ subst (λ (rest : List ℕ). IsFollowed s depth round weight best p (i ∷ rest)) (sym ends.1)
          (record {
            goes = (up, leaves, inl (ends.0, refl));
            weighs = omega (arith, swept.tight p some, ap weight f.0, closed ends.0);
          })
      | inr on ↦
          let ongoing : closes s depth (choice p) ≡ false = subst (λ (k : ℕ). closes s depth k ≡ false) f.0 on.0 in
          let behind = goes-behind s depth round weight best choice p swept some ongoing in
          let to : s.to i ≡ s.to (choice p) = ap s.to f.0 in
          let rest = follows-way s depth round weight best choice (s.to i) more swept
          (omega (arith, ap best to, behind.known)) on.1 in
          record {
            goes = (up, leaves, inr (subst (λ (k : ℕ). goes_on s depth round k ≡ true) (sym f.0) behind.on, rest.goes));
            weighs = omega (
              arith,
              sum_by-cons weight i more,
              rest.weighs,
              behind.tight,
              ap weight f.0,
              ap best to,
            );
          }
    ]
  where
    up : IsUpTo s.arcs i
    up = subst (λ (k : ℕ). IsUpTo s.arcs k) (sym f.0) (swept.up p some)

    leaves : s.from i ≡ p
    leaves = ap s.from f.0 ∙ swept.leaves p some

    closed : closes s depth i ≡ true → reach s depth round best (choice p) ≡ 1
    closed e = reach-closes s depth round best (choice p) (subst (λ (k : ℕ). closes s depth k ≡ true) f.0 e)

-- ---- A walk on its way.
-- What comes behind an arc of a walk.
abbrev pub Behind : Shape → (depth : ℕ) → (choice : ℕ → ℕ) → ℕ → List ℕ → Type 0
Behind s depth choice i rest =
    ((closes s depth i ≡ true) × (rest ≡ []))
    ⊎ ((closes s depth i ≡ false) × Follows s depth choice (s.to i) rest)

pub times-append : (xs ys : List ℕ) (i : ℕ) → times (xs ++ ys) i ≡ times xs i + times ys i
times-append [] ys i = omega arith
times-append (x ∷ xs) ys i = omega (arith, times-append xs ys i)

pub record IsWalking (s : Shape) (depth : ℕ) (choice : ℕ → ℕ) (from often : ℕ) (before after : ℕ → ℕ) (i p : ℕ) : Type 0 where
  pub front : List ℕ
  pub chosen : i ≡ choice p
  pub onward : (rest : List ℕ) → Behind s depth choice i rest → Follows s depth choice from (front ++ rest)
  pub counts : (k : ℕ) → IsUpTo s.arcs k → after k ≡ before k + often * times front k

pub walking-start : (s : Shape) (depth : ℕ) (choice : ℕ → ℕ) (from often : ℕ) (before after : ℕ → ℕ) (i : ℕ) →
    i ≡ choice from → ((k : ℕ) → IsUpTo s.arcs k → after k ≡ before k + often * bit (i == k)) →
    IsWalking s depth choice from often before after i from
walking-start s depth choice from often before after i chosen counts =
    record {
      front = i ∷ [];
      chosen = chosen;
      onward = λ rest behind. (chosen, behind);
      counts = λ k u. counts k u ∙ ap (λ n. before k + often * n) (let e : bit (i == k) ≡ bit (i == k) + 0 = omega arith in e);
    }

pub walking-more : (s : Shape) (depth : ℕ) (choice : ℕ → ℕ) (from often : ℕ) (before after later : ℕ → ℕ) (i p j : ℕ) →
    IsWalking s depth choice from often before after i p → closes s depth i ≡ false → j ≡ choice (s.to i) →
    ((k : ℕ) → IsUpTo s.arcs k → later k ≡ after k + often * bit (j == k)) →
    IsWalking s depth choice from often before later j (s.to i)
walking-more s depth choice from often before after later i p j walking ongoing chosen counts =
    record {
      front = walking.front ++ j ∷ [];
      chosen = chosen;
      onward = λ rest behind. subst (Follows s depth choice from) (sym (append_assoc walking.front (j ∷ []) rest))
          (walking.onward (j ∷ rest) (inr (ongoing, (chosen, behind))));
      counts = λ k u. omega (
        arith,
        counts k u,
        walking.counts k u,
        ap (λ n. often * n) (times-append walking.front (j ∷ []) k),
      );
    }

pub walking-end : (s : Shape) (depth : ℕ) (choice : ℕ → ℕ) (from often : ℕ) (before after : ℕ → ℕ) (i p : ℕ) →
    IsWalking s depth choice from often before after i p → closes s depth i ≡ true →
    IsWalked s depth choice from often before after
walking-end s depth choice from often before after i p walking ends =
    record {
      way = walking.front ++ [];
      follows = walking.onward [] (inl (ends, refl));
      counts = λ k u. omega (
        arith,
        walking.counts k u,
        ap (λ n. often * n) (times-append walking.front [] k),
      );
    }

-- There is room for the next arc, and for the first one.
room_of : (s : Shape) (depth : ℕ) (choice : ℕ → ℕ) (from often : ℕ) (before : ℕ → ℕ) (way : List ℕ) (k m : ℕ) →
    ((other : List ℕ) → Follows s depth choice from other → (i : ℕ) → IsUpTo s.arcs i →
    before i + often * times other i < 2 ^ 64) →
    Follows s depth choice from way → IsUpTo s.arcs k → m ≤ times way k → before k + often * m < 2 ^ 64
room_of s depth choice from often before way k m room follows u few =
    omega (arith, room way follows k u, mul-le-mul_left often few)

pub walking-room_first : (s : Shape) (depth : ℕ) (choice counts : ℕ → ℕ) (from often : ℕ) → IsNest s →
    IsWalkable s depth choice from often counts → counts (choice from) + often < 2 ^ 64
walking-room_first s depth choice counts from often nest walkable =
    let way = follows-some s depth walkable.round walkable.weight walkable.best choice from nest walkable.swept
    walkable.known in
    by way.0 way.1
  where
    by : (way : List ℕ) → Follows s depth choice from way → counts (choice from) + often < 2 ^ 64
    by [] f = absurd f
    by (i ∷ more) f =
        omega (
          arith,
          room_of s depth choice from often counts (i ∷ more) (choice from) 1 walkable.room f
              (walkable.swept.up from walkable.known)
              (omega (arith, bit_same i (choice from) f.0)),
        )

pub walking-room_more : (s : Shape) (depth : ℕ) (choice before after : ℕ → ℕ) (from often i p : ℕ) → IsNest s →
    (walkable : IsWalkable s depth choice from often before) →
    IsWalking s depth choice from often before after i p → 0 < walkable.best p → closes s depth i ≡ false →
    after (choice (s.to i)) + often < 2 ^ 64
walking-room_more s depth choice before after from often i p nest walkable walking some ongoing =
    let shut : closes s depth (choice p) ≡ false = subst (λ (k : ℕ). closes s depth k ≡ false) walking.chosen ongoing in
    let behind = goes-behind s depth walkable.round walkable.weight walkable.best choice p walkable.swept some shut in
    let known : 0 < walkable.best (s.to i) = omega (arith, behind.known, ap (λ k. walkable.best (s.to k)) walking.chosen) in
    let way = follows-some s depth walkable.round walkable.weight walkable.best choice (s.to i) nest walkable.swept known in
    by known way.0 way.1
  where
    by : 0 < walkable.best (s.to i) → (way : List ℕ) → Follows s depth choice (s.to i) way →
        after (choice (s.to i)) + often < 2 ^ 64
    by known [] f = absurd f
    by known (j ∷ more) f =
        let up = walkable.swept.up (s.to i) known in
        omega (
          arith,
          walking.counts (choice (s.to i)) up,
          room_of s depth choice from often before (walking.front ++ j ∷ more) (choice (s.to i))
              (times walking.front (choice (s.to i)) + 1) walkable.room (walking.onward (j ∷ more) (inr (ongoing, f))) up
              (omega (
                arith,
                times-append walking.front (j ∷ more) (choice (s.to i)),
                bit_same j (choice (s.to i)) f.0,
              )),
        )

-- A table of counts in which one arc came so many times more.
pub counts-pass : (table : List ℕ) (at arc often : ℕ) → arc ≡ at → at < length table → (k : ℕ) →
    entry (set table arc (entry table arc + often)) k ≡ entry table k + often * bit (arc == k)
counts-pass table at arc often e low k =
    let puts = puts-set table arc (entry table arc + often) (omega (arith, e, low)) in
    elim (cases_eq k arc)
    as (λ _. entry (set table arc (entry table arc + often)) k ≡ entry table k + often * bit (arc == k)) [
      | inl same ↦ omega (
        arith,
        ap (entry (set table arc (entry table arc + often))) same,
        puts.here,
        ap (entry table) same,
        ap (λ b. often * b) (bit_same arc k (sym same)),
      )
      | inr differ ↦ omega (
        arith,
        puts.others k differ,
        ap (λ b. often * b) (bit_other arc k (λ f. differ (sym f))),
      )
    ]

-- Behind an arc that doesn't end the way.
pub record IsNextArc (s : Shape) (choice best : ℕ → ℕ) (i : ℕ) : Type 0 where
  pub up : IsUpTo s.arcs (choice (s.to i))
  pub known : 0 < best (s.to i)
  pub to : 0 < s.to i
  pub forward : is_back s i ≡ false
  pub leaves : s.from (choice (s.to i)) ≡ s.to i

pub next-arc : (s : Shape) (depth : ℕ) (round weight best choice : ℕ → ℕ) (i p : ℕ) →
    IsSwept s depth round weight best choice → 0 < best p → i ≡ choice p → closes s depth i ≡ false →
    IsNextArc s choice best i
next-arc s depth round weight best choice i p swept some chosen ongoing =
    let behind = goes-behind s depth round weight best choice p swept some
    (subst (λ (k : ℕ). closes s depth k ≡ false) chosen ongoing) in
    let goes = goes_on-out s depth round (choice p) behind.on in
    let known : 0 < best (s.to i) = omega (arith, behind.known, ap (λ k. best (s.to k)) chosen) in
    record {
      up = swept.up (s.to i) known;
      known = known;
      to = omega (arith, goes.to, ap s.to chosen);
      forward = subst (λ (k : ℕ). is_back s k ≡ false) (sym chosen) goes.forward;
      leaves = swept.leaves (s.to i) known;
    }
