-- What a visit leaves of the visits of each loop.
use Rattle.std.proofs.Common.{◌≡◌, ℕ, suc, List, [], ◌∷◌, ◌++◌, refl, sym, subst, append-nil, arith}
use Rattle.std.specs.Prelude.{◌↔◌}
use Rattle.std.proofs.lemmas.List.{append_assoc}
use Rattle.flow_net.specs.Entering.{IsOutside}
use Rattle.flow_net.specs.Scopes.{Holds}
use Rattle.flow_net.specs.Visits.{KeepsBound, ends, enters, passes, returns}
use Rattle.flow_net.specs.declared.net.LoopInst.{LoopInst}
use Rattle.flow_net.specs.declared.net.Net.{Net}
use Rattle.image_run.specs.Turns.{IsNoTurn, IsTurn, Tracks}

-- A place that isn't the header passes by.
passed-by : (net : Net) (scope : ℕ) (inst : LoopInst) (from left to : ℕ) (more : List ℕ) → (to ≡ inst.header → ⊥) →
    KeepsBound net scope inst from left (to ∷ more) → KeepsBound net scope inst to left more
passed-by net scope inst _ _ _ _ away (passes from left to more differ rest) = rest
passed-by net scope inst _ _ _ _ away (enters from left turns more outside bound rest) = absurd (away refl)
passed-by net scope inst _ _ _ _ away (returns from left more inside rest) = absurd (away refl)

-- A visit of the header from outside enters the loop anew.
entered : (net : Net) (scope : ℕ) (inst : LoopInst) (from left turns : ℕ) (more : List ℕ) → IsOutside net scope from →
    inst.bound ≡ suc turns → KeepsBound net scope inst from left (inst.header ∷ more) →
    KeepsBound net scope inst inst.header turns more
entered net scope inst from left turns more outside bound keeps = by_form from left inst.header more outside refl keeps where
  by_form : (from left header : ℕ) (more : List ℕ) → IsOutside net scope from → header ≡ inst.header →
      KeepsBound net scope inst from left (header ∷ more) → KeepsBound net scope inst inst.header turns more
  by_form _ _ _ _ outside same (passes from left to more differ rest) = absurd (differ same)
  by_form _ _ _ _ outside same (enters from left other more out also rest) =
      let equal : other ≡ turns = omega (arith, bound, also) in
      subst (λ (n : ℕ). KeepsBound net scope inst inst.header n more) equal rest
  by_form _ _ _ _ outside same (returns from left more inside rest) = absurd (outside inside)

pub enters-turn : (net : Net) (scope : ℕ) (inst : LoopInst) (from left turns : ℕ) → IsOutside net scope from →
    inst.bound ≡ suc turns → IsTurn net scope inst from left turns
enters-turn net scope inst from left turns outside bound more = (
  λ rest. enters from left turns more outside bound rest,
  λ keeps. entered net scope inst from left turns more outside bound keeps,
)

-- A visit from inside takes one turn of those that are left.
came-back : (net : Net) (scope : ℕ) (inst : LoopInst) (from left : ℕ) (more : List ℕ) → Holds net scope from →
    KeepsBound net scope inst from left (inst.header ∷ more) →
    (after : ℕ) × (left ≡ suc after) × KeepsBound net scope inst inst.header after more
came-back net scope inst from left more inside keeps = by_form from left inst.header more inside refl keeps where
  by_form : (from left header : ℕ) (more : List ℕ) → Holds net scope from → header ≡ inst.header →
      KeepsBound net scope inst from left (header ∷ more) →
      (after : ℕ) × (left ≡ suc after) × KeepsBound net scope inst inst.header after more
  by_form _ _ _ _ inside same (passes from left to more differ rest) = absurd (differ same)
  by_form _ _ _ _ inside same (enters from left other more out also rest) = absurd (out inside)
  by_form _ _ _ _ inside same (returns from left more held rest) = (left, refl, rest)

pub returns-turn : (net : Net) (scope : ℕ) (inst : LoopInst) (from left after : ℕ) → Holds net scope from →
    left ≡ suc after → IsTurn net scope inst from left after
returns-turn net scope inst from left after inside one more = (
  λ rest. subst (λ (n : ℕ). KeepsBound net scope inst from n (inst.header ∷ more)) (sym one)
      (returns from after more inside rest),
  λ keeps.
      let back = came-back net scope inst from left more inside keeps in
      let equal : back.0 ≡ after = omega (arith, back.1, one) in
      subst (λ (n : ℕ). KeepsBound net scope inst inst.header n more) equal back.2,
)

pub no-turn : (net : Net) (scope : ℕ) (inst : LoopInst) (from left : ℕ) → Holds net scope from → left ≡ 0 →
    IsNoTurn net scope inst from left
no-turn net scope inst from left inside none more keeps =
    let back = came-back net scope inst from left more inside keeps in
    omega (arith, back.1, none)

-- ---- What is tracked behind one visit more.
behind : (net : Net) (scope : ℕ) (inst : LoopInst) (visited : List ℕ) (from left to after : ℕ) →
    ((more : List ℕ) → KeepsBound net scope inst to after more ↔ KeepsBound net scope inst from left (to ∷ more)) →
    Tracks net scope inst visited from left → Tracks net scope inst (visited ++ to ∷ []) to after
behind net scope inst visited from left to after step tracks more =
    let parts : (visited ++ to ∷ []) ++ more ≡ visited ++ to ∷ more = append_assoc visited (to ∷ []) more in (
      λ keeps. subst (KeepsBound net scope inst 0 0) (sym parts) ((tracks (to ∷ more)).0 ((step more).0 keeps)),
      λ keeps. (step more).1 ((tracks (to ∷ more)).1 (subst (KeepsBound net scope inst 0 0) parts keeps)),
    )

pub tracks-past : (net : Net) (scope : ℕ) (inst : LoopInst) (visited : List ℕ) (from left to : ℕ) → (to ≡ inst.header → ⊥) →
    Tracks net scope inst visited from left → Tracks net scope inst (visited ++ to ∷ []) to left
tracks-past net scope inst visited from left to away tracks =
    behind net scope inst visited from left to left
    (λ more. (
      λ rest. passes from left to more away rest,
      λ keeps. passed-by net scope inst from left to more away keeps,
    )) tracks

pub tracks-turn : (net : Net) (scope : ℕ) (inst : LoopInst) (visited : List ℕ) (from left to after : ℕ) → to ≡ inst.header →
    IsTurn net scope inst from left after → Tracks net scope inst visited from left →
    Tracks net scope inst (visited ++ to ∷ []) to after
tracks-turn net scope inst visited from left to after same turned tracks =
    subst (λ (n : ℕ). Tracks net scope inst (visited ++ n ∷ []) n after) (sym same)
    (behind net scope inst visited from left inst.header after turned tracks)

-- A header that may not be visited breaks the bound.
pub tracks-over : (net : Net) (scope : ℕ) (inst : LoopInst) (visited : List ℕ) (from left to : ℕ) → to ≡ inst.header →
    IsNoTurn net scope inst from left → Tracks net scope inst visited from left →
    KeepsBound net scope inst 0 0 (visited ++ to ∷ []) → ⊥
tracks-over net scope inst visited from left to same none tracks keeps =
    none [] ((tracks (inst.header ∷ [])).1 (subst (λ (n : ℕ). KeepsBound net scope inst 0 0 (visited ++ n ∷ [])) same keeps))

-- What is tracked is kept.
pub tracks-kept : (net : Net) (scope : ℕ) (inst : LoopInst) (visited : List ℕ) (from left : ℕ) →
    Tracks net scope inst visited from left → KeepsBound net scope inst 0 0 visited
tracks-kept net scope inst visited from left tracks =
    subst (KeepsBound net scope inst 0 0) (append-nil visited) ((tracks []).0 (ends from left))

pub tracks-first : (net : Net) (scope : ℕ) (inst : LoopInst) → Tracks net scope inst [] 0 0
tracks-first net scope inst more = (λ keeps. keeps, λ keeps. keeps)

-- Places that keep a bound do so up to each of them.
front-by : (net : Net) (scope : ℕ) (inst : LoopInst) (front rest places : List ℕ) (from left : ℕ) → places ≡ front ++ rest →
    KeepsBound net scope inst from left places → KeepsBound net scope inst from left front
front-by net scope inst [] rest places from left same keeps = ends from left
front-by net scope inst (to ∷ front) rest _ _ _ same (ends from left) = cc
front-by net scope inst (to ∷ front) rest _ _ _ same (passes from left other more differ keeps) =
    let here : other ≡ to = cc in
    let later : more ≡ front ++ rest = cc in
    subst (λ (n : ℕ). KeepsBound net scope inst from left (n ∷ front)) here
    (passes from left other front differ (front-by net scope inst front rest more other left later keeps))
front-by net scope inst (to ∷ front) rest _ _ _ same (enters from left turns more outside bound keeps) =
    let here : inst.header ≡ to = cc in
    let later : more ≡ front ++ rest = cc in
    subst (λ (n : ℕ). KeepsBound net scope inst from left (n ∷ front)) here
    (enters from left turns front outside bound (front-by net scope inst front rest more inst.header turns later keeps))
front-by net scope inst (to ∷ front) rest _ _ _ same (returns from left more inside keeps) =
    let here : inst.header ≡ to = cc in
    let later : more ≡ front ++ rest = cc in
    subst (λ (n : ℕ). KeepsBound net scope inst from (suc left) (n ∷ front)) here
    (returns from left front inside (front-by net scope inst front rest more inst.header left later keeps))

pub keeps-front : (net : Net) (scope : ℕ) (inst : LoopInst) (front rest : List ℕ) (from left : ℕ) →
    KeepsBound net scope inst from left (front ++ rest) → KeepsBound net scope inst from left front
keeps-front net scope inst front rest from left keeps = front-by net scope inst front rest (front ++ rest) from left refl keeps
