-- How visits are counted: cache by cache as the access goes, and by how many caches it went to.
use Rattle.std.proofs.Common.{◌≡◌, ℕ, zero, suc, ◌+◌, ◌==◌, ◌&&◌, ◌<◌, ◌≤◌, Bool, true, false, List, [], ◌∷◌, ◌++◌, length, take, drop, set, get_or, refl, sym, ◌∙◌, ap, ap₂, subst, arith}
use Rattle.std.proofs.Math.Dec.{eqb-suc-zero}
use Rattle.std.proofs.lemmas.List.{append-nil, drop-set-lt, drop_all, length-map, take_all}
use Rattle.std.proofs.lemmas.List.Elements.{All-cons, All-head, All-nil, All-tail}
use Rattle.lru_concrete.specs.declared.level.Level.{Level}
use Rattle.lru_concrete.specs.declared.level.Side.{Side}
use Rattle.lru_concrete.specs.declared.visit.Visit.{Visit}
use Rattle.lru_concrete.specs.Chains.{Held, Hierarchy, Went, finds_in, goes, levels_of, onward, serves, touch_in, visit_of}
use Rattle.lru_concrete.proofs.Kept.{levels-goes}
use Rattle.mips_machine.specs.declared.caches.Tally.{Tally}
use Rattle.mips_machine.specs.Passing.{counting, tallied}
use Rattle.mips_machine.specs.Tallies.{AreAtMost, counted, mark_at, marked}

-- ---- As the access goes.
-- A hit is a visit.
hit-onward : (served found : Bool) (cache changed : Held) (more : List Held) (rest : Went) →
    (rest.visit.hit ≡ true → 1 ≤ rest.visit.caches) →
    (onward served found cache changed more rest).visit.hit ≡ true → 1 ≤ (onward served found cache changed more rest).visit.caches
hit-onward false found cache changed more rest some hit = some hit
hit-onward true true cache changed more rest some hit = omega arith
hit-onward true false cache changed more rest some hit = omega arith

hit-some : (side : Side) (address : ℕ) (caches : List Held) → (goes side address caches).visit.hit ≡ true →
    1 ≤ (goes side address caches).visit.caches
hit-some side address [] hit = cc
hit-some side address (cache ∷ more) hit =
    hit-onward (serves cache.level.serves side) (finds_in cache address) cache (touch_in cache address) more
    (goes side address more) (hit-some side address more) hit

-- So an access that found nothing so far and goes on to no cache found nothing.
not-last : (caches : ℕ) (hit : Bool) → (hit ≡ true → 1 ≤ caches) → (caches == 0 && hit) ≡ false
not-last zero false some = refl
not-last zero true some = absurd (omega (arith, some refl))
not-last (suc caches) hit some = ap (λ (b : Bool). b && hit) (eqb-suc-zero caches)

marked-onward : (side : Side) (served found : Bool) (cache changed : Held) (more : List Held) (rest : Went) (tally : Tally)
    (tallies : List Tally) (counts : List Tally) → serves cache.level.serves side ≡ served → (rest.visit.hit ≡ true → 1 ≤ rest.visit.caches) →
    counts ≡ marked side rest.visit.caches rest.visit.hit (levels_of more) tallies →
    counting served found tally tallies counts
    ≡ marked side (onward served found cache changed more rest).visit.caches (onward served found cache changed more rest).visit.hit
    (levels_of (cache ∷ more)) (tally ∷ tallies)
marked-onward side false found cache changed more rest tally tallies counts served some same = by_left rest.visit.caches same
  where
    by_left : (left : ℕ) → counts ≡ marked side left rest.visit.hit (levels_of more) tallies →
        tally ∷ counts ≡ marked side left rest.visit.hit (levels_of (cache ∷ more)) (tally ∷ tallies)
    by_left zero same = ap (λ (ts : List Tally). tally ∷ ts) same
    by_left (suc left) same =
        ap (λ (ts : List Tally). tally ∷ ts) same
        ∙ ap (λ (b : Bool). mark_at b tally (counted (left == 0 && rest.visit.hit) tally)
        (marked side (suc left) rest.visit.hit (levels_of more) tallies) (marked side left rest.visit.hit (levels_of more) tallies)) (sym served)
marked-onward side true true cache changed more rest tally tallies counts served some same =
    ap (λ (b : Bool). mark_at b tally (counted true tally)
    (marked side 1 true (levels_of more) tallies) (marked side 0 true (levels_of more) tallies)) (sym served)
marked-onward side true false cache changed more rest tally tallies counts served some same =
    ap (λ (ts : List Tally). counted false tally ∷ ts) same
    ∙ ap (λ (b : Bool). counted b tally ∷ marked side rest.visit.caches rest.visit.hit (levels_of more) tallies)
    (sym (not-last rest.visit.caches rest.visit.hit some))
    ∙ ap (λ (b : Bool). mark_at b tally (counted (rest.visit.caches == 0 && rest.visit.hit) tally)
    (marked side (suc rest.visit.caches) rest.visit.hit (levels_of more) tallies)
    (marked side rest.visit.caches rest.visit.hit (levels_of more) tallies)) (sym served)

marked-none : (side : Side) (left : ℕ) (hit : Bool) (tallies : List Tally) → tallies ≡ marked side left hit [] tallies
marked-none side zero hit tallies = refl
marked-none side (suc left) hit tallies = refl

-- What an access counts at the caches, as it goes, is what the code counts.
pub tallied-marked : (side : Side) (address : ℕ) (caches : List Held) (tallies : List Tally) → length tallies ≡ length caches →
    tallied side address caches tallies
    ≡ marked side (goes side address caches).visit.caches (goes side address caches).visit.hit (levels_of caches) tallies
tallied-marked side address [] tallies same = marked-none side 0 false tallies
tallied-marked side address (cache ∷ more) [] same = absurd (omega (arith, same))
tallied-marked side address (cache ∷ more) (tally ∷ tallies) same =
    marked-onward side (serves cache.level.serves side) (finds_in cache address) cache (touch_in cache address) more
    (goes side address more) tally tallies (tallied side address more tallies) refl (hit-some side address more)
    (tallied-marked side address more tallies (omega (arith, same)))

-- ---- Each cache counts an access at most once.
counted-more : (hit : Bool) (tally : Tally) (most : ℕ) → tally.hits + tally.misses ≤ most →
    (counted hit tally).hits + (counted hit tally).misses ≤ most + 1
counted-more true tally most low = omega (arith, low)
counted-more false tally most low = omega (arith, low)

abbrev lies_low : ℕ → Tally → Type 0
lies_low most tally = tally.hits + tally.misses ≤ most

pub low-more : (most : ℕ) (tallies : List Tally) → AreAtMost most tallies → AreAtMost (most + 1) tallies
low-more most [] low = All-nil (lies_low (most + 1))
low-more most (tally ∷ tallies) low =
    let one = All-head (lies_low most) tally tallies low in
    All-cons (lies_low (most + 1)) tally tallies (omega (arith, one)) (low-more most tallies (All-tail (lies_low most) tally tallies low))

low-at : (served : Bool) (most : ℕ) (tally changed : Tally) (stayed gone : List Tally) → lies_low most tally →
    lies_low (most + 1) changed → AreAtMost (most + 1) stayed → AreAtMost (most + 1) gone →
    AreAtMost (most + 1) (mark_at served tally changed stayed gone)
low-at false most tally changed stayed gone one more rest other = All-cons (lies_low (most + 1)) tally stayed (omega (arith, one)) rest
low-at true most tally changed stayed gone one more rest other = All-cons (lies_low (most + 1)) changed gone more other

pub marked-low : (side : Side) (left : ℕ) (hit : Bool) (levels : List Level) (tallies : List Tally) (most : ℕ) → AreAtMost most tallies →
    AreAtMost (most + 1) (marked side left hit levels tallies)
marked-low side zero hit levels tallies most low = low-more most tallies low
marked-low side (suc left) hit [] tallies most low = low-more most tallies low
marked-low side (suc left) hit (level ∷ levels) [] most low = All-nil (lies_low (most + 1))
marked-low side (suc left) hit (level ∷ levels) (tally ∷ tallies) most low =
    let rest = All-tail (lies_low most) tally tallies low in
    let one = All-head (lies_low most) tally tallies low in
    low-at (serves level.serves side) most tally (counted (left == 0 && hit) tally)
    (marked side (suc left) hit levels tallies) (marked side left hit levels tallies) one
    (counted-more (left == 0 && hit) tally most one)
    (marked-low side (suc left) hit levels tallies most rest) (marked-low side left hit levels tallies most rest)

length-at : (served : Bool) (tally changed : Tally) (stayed gone : List Tally) (n : ℕ) → length stayed ≡ n → length gone ≡ n →
    length (mark_at served tally changed stayed gone) ≡ suc n
length-at false tally changed stayed gone n same other = ap suc same
length-at true tally changed stayed gone n same other = ap suc other

pub length-marked : (side : Side) (left : ℕ) (hit : Bool) (levels : List Level) (tallies : List Tally) → length tallies ≡ length levels →
    length (marked side left hit levels tallies) ≡ length tallies
length-marked side zero hit levels tallies same = refl
length-marked side (suc left) hit [] tallies same = refl
length-marked side (suc left) hit (level ∷ levels) [] same = refl
length-marked side (suc left) hit (level ∷ levels) (tally ∷ tallies) same =
    length-at (serves level.serves side) tally (counted (left == 0 && hit) tally)
    (marked side (suc left) hit levels tallies) (marked side left hit levels tallies) (length tallies)
    (length-marked side (suc left) hit levels tallies (omega (arith, same))) (length-marked side left hit levels tallies (omega (arith, same)))

-- ---- Counting cache by cache.
-- A cache that doesn't serve the access is passed.
past-suc : (side : Side) (left : ℕ) (hit : Bool) (levels : List Level) (tallies : List Tally) (i : ℕ) (level : Level) → i < length levels →
    length tallies ≡ length levels → level ≡ get_or levels i level → serves level.serves side ≡ false →
    take i tallies ++ marked side left hit (drop i levels) (drop i tallies)
    ≡ take (suc i) tallies ++ marked side left hit (drop (suc i) levels) (drop (suc i) tallies)
past-suc side left hit [] tallies i level inside same is served = absurd (omega (arith, inside))
past-suc side left hit (l ∷ levels) [] i level inside same is served = absurd (omega (arith, same))
past-suc side zero hit (l ∷ levels) (t ∷ tallies) zero level inside same is served = refl
past-suc side (suc left) hit (l ∷ levels) (t ∷ tallies) zero level inside same is served =
    ap (λ (b : Bool). mark_at b t (counted (left == 0 && hit) t) (marked side (suc left) hit levels tallies) (marked side left hit levels tallies))
    (ap (λ (x : Level). serves x.serves side) (sym is) ∙ served)
past-suc side left hit (l ∷ levels) (t ∷ tallies) (suc i) level inside same is served =
    ap (λ (ts : List Tally). t ∷ ts) (past-suc side left hit levels tallies i level (omega (arith, inside)) (omega (arith, same)) is served)

pub marked-past : (side : Side) (left : ℕ) (hit : Bool) (levels : List Level) (tallies : List Tally) (i : ℕ) (level : Level) → i < length levels →
    length tallies ≡ length levels → level ≡ get_or levels i level → serves level.serves side ≡ false →
    take i tallies ++ marked side left hit (drop i levels) (drop i tallies)
    ≡ take (i + 1) tallies ++ marked side left hit (drop (i + 1) levels) (drop (i + 1) tallies)
marked-past side left hit levels tallies i level inside same is served =
    let next : suc i ≡ i + 1 = omega arith in
    past-suc side left hit levels tallies i level inside same is served
    ∙ ap (λ n. take n tallies ++ marked side left hit (drop n levels) (drop n tallies)) next

-- One that serves it is counted.
served-suc : (side : Side) (left : ℕ) (hit : Bool) (levels : List Level) (tallies : List Tally) (i : ℕ) (level : Level) (d : Tally) →
    i < length levels → length tallies ≡ length levels → level ≡ get_or levels i level → serves level.serves side ≡ true →
    take i tallies ++ marked side (suc left) hit (drop i levels) (drop i tallies)
    ≡ take (suc i) (set tallies i (counted (left == 0 && hit) (get_or tallies i d)))
    ++ marked side left hit (drop (suc i) levels) (drop (suc i) (set tallies i (counted (left == 0 && hit) (get_or tallies i d))))
served-suc side left hit [] tallies i level d inside same is served = absurd (omega (arith, inside))
served-suc side left hit (l ∷ levels) [] i level d inside same is served = absurd (omega (arith, same))
served-suc side left hit (l ∷ levels) (t ∷ tallies) zero level d inside same is served =
    ap (λ (b : Bool). mark_at b t (counted (left == 0 && hit) t) (marked side (suc left) hit levels tallies) (marked side left hit levels tallies))
    (ap (λ (x : Level). serves x.serves side) (sym is) ∙ served)
served-suc side left hit (l ∷ levels) (t ∷ tallies) (suc i) level d inside same is served =
    ap (λ (ts : List Tally). t ∷ ts)
    (served-suc side left hit levels tallies i level d (omega (arith, inside)) (omega (arith, same)) is served)

pub marked-served : (side : Side) (left more : ℕ) (hit : Bool) (levels : List Level) (tallies : List Tally) (i : ℕ) (level : Level) (d : Tally) →
    i < length levels → length tallies ≡ length levels → level ≡ get_or levels i level → serves level.serves side ≡ true → more ≡ suc left →
    take i tallies ++ marked side more hit (drop i levels) (drop i tallies)
    ≡ take (i + 1) (set tallies i (counted (left == 0 && hit) (get_or tallies i d)))
    ++ marked side left hit (drop (i + 1) levels) (drop (i + 1) (set tallies i (counted (left == 0 && hit) (get_or tallies i d))))
marked-served side left more hit levels tallies i level d inside same is served one =
    let next : suc i ≡ i + 1 = omega arith in
    ap (λ n. take i tallies ++ marked side n hit (drop i levels) (drop i tallies)) one
    ∙ served-suc side left hit levels tallies i level d inside same is served
    ∙ ap (λ n. take n (set tallies i (counted (left == 0 && hit) (get_or tallies i d)))
    ++ marked side left hit (drop n levels) (drop n (set tallies i (counted (left == 0 && hit) (get_or tallies i d))))) next

-- The rest of the tallies lies as low as before.
low-suc : (most : ℕ) (tallies : List Tally) (i : ℕ) → AreAtMost most (drop i tallies) → AreAtMost most (drop (suc i) tallies)
low-suc most [] i low = All-nil (lies_low most)
low-suc most (tally ∷ tallies) zero low = All-tail (lies_low most) tally tallies low
low-suc most (tally ∷ tallies) (suc i) low = low-suc most tallies i low

pub low-past : (most : ℕ) (tallies : List Tally) (i : ℕ) → AreAtMost most (drop i tallies) → AreAtMost most (drop (i + 1) tallies)
low-past most tallies i low =
    let next : suc i ≡ i + 1 = omega arith in
    subst (λ n. AreAtMost most (drop n tallies)) next (low-suc most tallies i low)

pub low-set : (most : ℕ) (tallies : List Tally) (i : ℕ) (new : Tally) → AreAtMost most (drop i tallies) →
    AreAtMost most (drop (i + 1) (set tallies i new))
low-set most tallies i new low =
    subst (AreAtMost most) (sym (drop-set-lt (i + 1) tallies i new (omega arith))) (low-past most tallies i low)

-- All caches were gone by, or no visit is left.
pub marked-all : (side : Side) (left : ℕ) (hit : Bool) (levels : List Level) (tallies : List Tally) (i : ℕ) → length levels ≤ i →
    length tallies ≡ length levels →
    take i tallies ++ marked side left hit (drop i levels) (drop i tallies) ≡ tallies
marked-all side left hit levels tallies i end same =
    let none : drop i levels ≡ [] = drop_all i levels end in
    let gone : drop i tallies ≡ [] = drop_all i tallies (omega (arith, same, end)) in
    ap₂ (λ (ls : List Level) (ts : List Tally). take i tallies ++ marked side left hit ls ts) none gone
    ∙ ap (λ (ts : List Tally). take i tallies ++ ts) (sym (marked-none side left hit []))
    ∙ append-nil (take i tallies) ∙ take_all i tallies (omega (arith, same, end))

-- ---- At a machine's caches.
module _ (side : Side) (address : ℕ) (caches after : Hierarchy) (tallies : List Tally)
    (goes_on : after ≡ record caches { caches = (goes side address caches.caches).after }) (same : length tallies ≡ length caches.caches) where
  levels-stay : levels_of after.caches ≡ levels_of caches.caches
  levels-stay = ap (λ (h : Hierarchy). levels_of h.caches) goes_on ∙ levels-goes side address caches.caches

  many : length (levels_of caches.caches) ≡ length caches.caches
  many = length-map caches.caches (λ (h : Held). h.level)

  -- There are as many tallies as caches.
  pub visit-fits : length tallies ≡ length (levels_of after.caches)
  visit-fits = same ∙ sym many ∙ ap (λ (ls : List Level). length ls) (sym levels-stay)

  pub held-many : length caches.caches ≡ length after.caches
  held-many = sym many ∙ ap (λ (ls : List Level). length ls) (sym levels-stay) ∙ length-map after.caches (λ (h : Held). h.level)

  -- The code counts the visit.
  module _ (visit : Visit) (levels : List Level) (given new : List Tally)
      (visit_is : visit ≡ visit_of side (levels_of caches.caches) caches.memory (goes side address caches.caches).visit)
      (levels_is : levels ≡ levels_of after.caches) (given_is : given ≡ tallies)
      (new_is : new ≡ marked side visit.caches visit.hit levels given) where
    as_marked : new ≡ marked side (goes side address caches.caches).visit.caches (goes side address caches.caches).visit.hit (levels_of caches.caches) tallies
    as_marked = new_is
        ∙ ap (λ (v : Visit). marked side v.caches v.hit levels given) visit_is
        ∙ ap₂ (λ (ls : List Level) (ts : List Tally).
        marked side (goes side address caches.caches).visit.caches (goes side address caches.caches).visit.hit ls ts)
        (levels_is ∙ levels-stay) given_is

    pub visit-counts : new ≡ tallied side address caches.caches tallies
    visit-counts = as_marked ∙ sym (tallied-marked side address caches.caches tallies same)

    pub visit-many : length new ≡ length tallies
    visit-many = ap (λ (ts : List Tally). length ts) as_marked
        ∙ length-marked side (goes side address caches.caches).visit.caches (goes side address caches.caches).visit.hit
        (levels_of caches.caches) tallies (same ∙ sym many)

    pub visit-low : (most : ℕ) → AreAtMost most tallies → AreAtMost (most + 1) new
    visit-low most low = subst (AreAtMost (most + 1)) (sym as_marked)
        (marked-low side (goes side address caches.caches).visit.caches (goes side address caches.caches).visit.hit
        (levels_of caches.caches) tallies most low)
