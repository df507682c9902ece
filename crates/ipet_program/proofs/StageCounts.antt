-- How often an access goes on to its further stages in a run: at most as often as to the stage before, and as its
-- place is come to.
use Rattle.std.proofs.Common.{◌≡◌, ℕ, zero, suc, ◌+◌, ◌-◌, ◌<◌, ◌≤◌, ◌==◌, ◌&&◌, not, Bool, true, false, cond, List, [], ◌∷◌, ◌++◌, All, Option, Some, None, refl, sym, ap, ◌∙◌, subst, inl, inr, arith, true≢false}
use Rattle.std.specs.Prelude.{count_by, nat_le}
use Rattle.std.proofs.lemmas.Bool.{cases_Bool, eqb-true}
use Rattle.std.proofs.lemmas.Bool.Decides.{nat_tests}
use Rattle.std.proofs.lemmas.Int.{ints}
use Rattle.std.proofs.lemmas.List.Elements.{All-head, All-tail}
use Rattle.std.proofs.lemmas.List.Sums.{sum_by-cons}
use lib.IntN.{ℤ, pos}
use Rattle.flow_net.specs.Numbers.{item_at}
use Rattle.flow_net.specs.declared.net.Access.{Access}
use Rattle.flow_net.specs.declared.net.Net.{Net}
use Rattle.flow_net.specs.declared.net.NetArc.{NetArc}
use Rattle.net_model.specs.Moments.{Makes, Moment, Takes, arcs_of}
use Rattle.net_model.specs.Claims.{EachMade, arrives, hits, misses}
use Rattle.net_model.specs.Walks.{IsWalk, WalksOn, access_numbers}
use Rattle.ipet_program.specs.Counts.{counts_for, counts_of, goes_on_to}
use Rattle.ipet_program.specs.Rows.{comes_to, one_if}
use Rattle.ipet_program.specs.declared.program.Stage.{Stage}
use Rattle.ipet_program.proofs.Exchange.{IsColumn}
use Rattle.ipet_program.proofs.PlaceAccesses.{times-at, times_in, times_in-cons}
use Rattle.ipet_program.proofs.RunSums.{along}

-- The moment makes the access, and misses at the level.
abbrev pub is_miss : (access level : ℕ) → Moment → Bool
is_miss access level (Takes arc) = false
is_miss access level (Makes number address caches hit) = (number == access) && misses level caches hit

-- The moment makes the access.
abbrev pub is_made : (access : ℕ) → Moment → Bool
is_made access (Takes arc) = false
is_made access (Makes number address caches hit) = number == access

pub count_by-cons : (test : Moment → Bool) (m : Moment) (more : List Moment) →
    count_by test (m ∷ more) ≡ cond (test m) 1 0 + count_by test more
count_by-cons test m more = sum_by-cons (λ (x : Moment). cond (test x) 1 0) m more

-- What implies another thing counts at most as often.
pub count-less : (test other : Moment → Bool) → ((m : Moment) → test m ≡ true → other m ≡ true) → (moments : List Moment) →
    count_by test moments ≤ count_by other moments
count-less test other implies [] = omega arith
count-less test other implies (m ∷ more) =
    let rest = count-less test other implies more in
    let left = count_by-cons test m more in
    let right = count_by-cons other m more in
    elim (cases_Bool (test m)) as (λ _. count_by test (m ∷ more) ≤ count_by other (m ∷ more)) [
      | inl e ↦
          let one : ◌≡◌ {A = ℕ} (cond (test m) 1 0) 1 = ap (λ (b : Bool). cond b 1 0) e in
          let also : ◌≡◌ {A = ℕ} (cond (other m) 1 0) 1 = ap (λ (b : Bool). cond b 1 0) (implies m e) in
          omega (arith, rest, left, right, one, also)
      | inr e ↦
          let none : ◌≡◌ {A = ℕ} (cond (test m) 1 0) 0 = ap (λ (b : Bool). cond b 1 0) e in
          omega (arith, rest, left, right, none)
    ]

both : (one other : Bool) → (one && other) ≡ true → (one ≡ true) × (other ≡ true)
both true other e = (refl, e)
both false other e = absurd (true≢false (sym e))

both-of : (one other : Bool) → one ≡ true → other ≡ true → (one && other) ≡ true
both-of one other e f = ap (λ (b : Bool). b && other) e ∙ f

-- A miss at a cache comes after one at the cache before.
pub misses-before : (level caches : ℕ) (hit : Bool) → misses (suc level) caches hit ≡ true → misses level caches hit ≡ true
misses-before level caches hit e =
    let parts = both (nat_le (suc level) caches) (not (hits (suc level) caches hit)) e in
    let some : suc level ≤ caches = grind (arith, nat_tests, parts.0) in
    let here : nat_le level caches ≡ true = grind (arith, nat_tests, some) in
    let past : (level == caches) ≡ false = grind (arith, nat_tests, some) in
    both-of (nat_le level caches) (not (hits level caches hit)) here (ap (λ (b : Bool). not (b && hit)) past)

pub miss-before : (access level : ℕ) (m : Moment) → is_miss access (suc level) m ≡ true → is_miss access level m ≡ true
miss-before access level (Takes arc) e = e
miss-before access level (Makes number address caches hit) e =
    let parts = both (number == access) (misses (suc level) caches hit) e in
    both-of (number == access) (misses level caches hit) parts.0 (misses-before level caches hit parts.1)

pub miss-made : (access level : ℕ) (m : Moment) → is_miss access level m ≡ true → is_made access m ≡ true
miss-made access level (Takes arc) e = e
miss-made access level (Makes number address caches hit) e = (both (number == access) (misses level caches hit) e).0

-- What misses is the access, and its visit misses.
pub record IsMiss (access level : ℕ) (m : Moment) : Type 0 where
  pub address : ℕ
  pub caches : ℕ
  pub hit : Bool
  pub makes : m ≡ Makes access address caches hit
  pub missed : misses level caches hit ≡ true

pub miss-makes : (access level : ℕ) (m : Moment) → is_miss access level m ≡ true → IsMiss access level m
miss-makes access level (Takes arc) e = absurd (true≢false (sym e))
miss-makes access level (Makes number address caches hit) e =
    let parts = both (number == access) (misses level caches hit) e in
    record {
      address = address;
      caches = caches;
      hit = hit;
      makes = ap (λ (n : ℕ). Makes n address caches hit) (eqb-true number access parts.0);
      missed = parts.1;
    }

-- ---- The first stage is come to by the arcs into the place.
-- How often the arcs of a walk come to the place.
abbrev pub comes : List NetArc → (place : ℕ) → Moment → Bool
comes arcs place (Takes number) = comes_to place (item_at number arcs)
comes arcs place (Makes access address caches hit) = false

module _ (net : Net) (range : ℕ → ℕ → Type 0) (access : ℕ) (own : Access) (there : item_at access net.accesses ≡ Some own) where
  -- After an arc to a place the access may be made once where it is the place's own.
  made-after : (number : ℕ) (arc : NetArc) → item_at number net.arcs ≡ Some arc →
      times_in access (access_numbers net arc.to) ≤ cond (comes_to own.place (item_at number net.arcs)) 1 0
  made-after number arc at =
      let most = times-at net access own there arc.to in
      subst (λ (found : Option NetArc). times_in access (access_numbers net arc.to) ≤ cond (comes_to own.place found) 1 0) (sym at) most

  -- What is left to be made at a place, and once for each time that the access's own place is come to.
  made-on : (later : List Moment) (place : ℕ) (left : List ℕ) → WalksOn net range place left later →
      count_by (is_made access) later ≤ times_in access left + count_by (comes net.arcs own.place) later
  made-on [] place left on = omega arith
  made-on (Takes number ∷ more) place left on =
      let arc = on.1.1.0 in
      let rest = made-on more arc.to (access_numbers net arc.to) on.1.1.3 in
      let few = made-after number arc on.1.1.1 in
      let made = count_by-cons (is_made access) (Takes number) more in
      let come = count_by-cons (comes net.arcs own.place) (Takes number) more in
      omega (arith, rest, few, made, come)
  made-on (Makes number address caches hit ∷ more) place left on =
      let rest = made-on more place on.0 on.3 in
      let made = count_by-cons (is_made access) (Makes number address caches hit) more in
      let come = count_by-cons (comes net.arcs own.place) (Makes number address caches hit) more in
      let first : times_in access left ≡ cond (number == access) 1 0 + times_in access on.0 =
      ap (times_in access) on.1 ∙ times_in-cons access number on.0 in
      omega (arith, rest, made, come, first)

  -- An access is made at most as often as its place is come to.
  pub made-few : (moments : List Moment) → IsWalk net range moments →
      count_by (is_made access) moments ≤ count_by (comes net.arcs own.place) moments
  made-few [] walk = omega arith
  made-few (Makes number address caches hit ∷ more) walk = absurd walk
  made-few (Takes number ∷ more) walk =
      let arc = walk.1.0 in
      let rest = made-on more arc.to (access_numbers net arc.to) walk.1.3 in
      let at : item_at number net.arcs ≡ Some arc = ap (λ (n : ℕ). item_at n net.arcs) walk.0 ∙ walk.1.1 in
      let few = made-after number arc at in
      let made = count_by-cons (is_made access) (Takes number) more in
      let come = count_by-cons (comes net.arcs own.place) (Takes number) more in
      omega (arith, rest, few, made, come)

-- ---- Accesses that never go on.
never-made : (access level : ℕ) (all : List Moment) → EachMade access (λ caches hit. misses level caches hit ≡ false) all →
    (front moments : List Moment) → all ≡ front ++ moments → count_by (is_miss access level) moments ≡ 0
never-made access level all each front [] e = refl
never-made access level all each front (m ∷ more) e =
    let rest = never-made access level all each (front ++ m ∷ []) more (e ∙ push front m more) in
    let sum = count_by-cons (is_miss access level) m more in
    elim (cases_Bool (is_miss access level m)) as (λ _. count_by (is_miss access level) (m ∷ more) ≡ 0) [
      | inl missed ↦
          let is = miss-makes access level m missed in
          let none = each front more is.address is.caches is.hit (e ∙ ap (λ (x : Moment). front ++ x ∷ more) is.makes) in
          absurd (true≢false (sym is.missed ∙ none))
      | inr none ↦
          let nothing : ◌≡◌ {A = ℕ} (cond (is_miss access level m) 1 0) 0 = ap (λ (b : Bool). cond b 1 0) none in
          omega (arith, rest, sum, nothing)
    ]
  where
    push : (a : List Moment) (x : Moment) (b : List Moment) → a ++ x ∷ b ≡ (a ++ x ∷ []) ++ b
    push [] x b = refl
    push (y ∷ a) x b = ap (λ (l : List Moment). y ∷ l) (push a x b)

pub never-misses : (access level : ℕ) (moments : List Moment) →
    EachMade access (λ caches hit. misses level caches hit ≡ false) moments → count_by (is_miss access level) moments ≡ 0
never-misses access level moments each = never-made access level moments each [] moments refl

-- What doesn't arrive doesn't miss.
pub absent-misses : (level caches : ℕ) (hit : Bool) → arrives level caches ≡ false → misses level caches hit ≡ false
absent-misses level caches hit e = ap (λ (b : Bool). b && not (hits level caches hit)) e

-- ---- Columns.
-- The sum of a test's ones along the arcs is how often it holds.
pub along-count : (test : ℕ → Bool) (counted : Moment → Bool) → ((number : ℕ) → counted (Takes number) ≡ test number) →
    ((access address caches : ℕ) (hit : Bool) → counted (Makes access address caches hit) ≡ false) → (moments : List Moment) →
    along (λ number. one_if (test number)) (arcs_of moments) ≡ pos (count_by counted moments)
along-count test counted takes makes [] = refl
along-count test counted takes makes (Takes number ∷ more) =
    let rest = along-count test counted takes makes more in
    let sum : count_by counted (Takes number ∷ more) ≡ cond (test number) 1 0 + count_by counted more =
    count_by-cons counted (Takes number) more ∙ ap (λ (b : Bool). cond b 1 0 + count_by counted more) (takes number) in
    let first : one_if (test number) ≡ pos (cond (test number) 1 0) = one (test number) in
    omega (arith, ints)
  where
    one : (b : Bool) → one_if b ≡ pos (cond b 1 0)
    one true = refl
    one false = refl
along-count test counted takes makes (Makes access address caches hit ∷ more) =
    let rest = along-count test counted takes makes more in
    let sum = count_by-cons counted (Makes access address caches hit) more in
    let none : ◌≡◌ {A = ℕ} (cond (counted (Makes access address caches hit)) 1 0) 0 =
    ap (λ (b : Bool). cond b 1 0) (makes access address caches hit) in
    omega (arith, ints)

-- A stage's column counts the misses of its access at the cache before it.
pub counts-stage : (arcs : ℕ) (stages : List Stage) (column : ℕ) (stage : Stage) → arcs < column →
    item_at (column - arcs) stages ≡ Some stage → (moments : List Moment) → All (IsColumn arcs) (arcs_of moments) →
    counts_of arcs stages moments column ≡ count_by (is_miss stage.access stage.level) moments
counts-stage arcs stages column stage above at [] within = refl
counts-stage arcs stages column stage above at (Takes number ∷ more) within =
    let rest = counts-stage arcs stages column stage above at more (All-tail (IsColumn arcs) number (arcs_of more) within) in
    let low : IsColumn arcs number = All-head (IsColumn arcs) number (arcs_of more) within in
    let most = low.1 in
    let differ : ◌≡◌ {A = ℕ} (cond (number == column) 1 0) 0 = grind (arith, nat_tests, above, most) in
    let left = count_by-cons (counts_for arcs stages column) (Takes number) more in
    let right = count_by-cons (is_miss stage.access stage.level) (Takes number) more in
    omega (arith, rest, differ, left, right)
counts-stage arcs stages column stage above at (Makes access address caches hit ∷ more) within =
    let rest = counts-stage arcs stages column stage above at more within in
    let left = count_by-cons (counts_for arcs stages column) (Makes access address caches hit) more in
    let right = count_by-cons (is_miss stage.access stage.level) (Makes access address caches hit) more in
    let same : ◌≡◌ {A = ℕ} (cond (goes_on_to (item_at (column - arcs) stages) access caches hit) 1 0)
    (cond (is_miss stage.access stage.level (Makes access address caches hit)) 1 0) =
    ap (λ (found : Option Stage). cond (goes_on_to found access caches hit) 1 0) at in
    omega (arith, rest, left, right, same)
