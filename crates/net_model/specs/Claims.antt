-- What letters and classes say of a run: which of the visits of an access at a cache of its chain hit and miss.
use Rattle.std.specs.Prelude.{◌≡◌, ℕ, nat_le, ◌==◌, ◌&&◌, not, Bool, true, false, List, [], ◌∷◌, ◌++◌, Contains}
use Rattle.flow_net.specs.Entering.{Enters}
use Rattle.flow_net.specs.declared.letter.Class.{Class}
use Rattle.flow_net.specs.declared.letter.Class.TheVariants.{Hit, Miss, First, Unclassified}
use Rattle.flow_net.specs.declared.letter.Letter.{Letter}
use Rattle.flow_net.specs.declared.letter.Letter.TheVariants.{Always, Never, Uncertain}
use Rattle.flow_net.specs.declared.net.Net.{Net}
use Rattle.net_model.specs.Moments.{Makes, Moment, Takes}

-- An access that visited so many caches of its chain, the last of which held its block or didn't, arrived at the cache
-- of a level, counted from 1 along the chain; it hit there; it missed there, and so went on.
abbrev pub arrives : (level caches : ℕ) → Bool
arrives level caches = nat_le level caches

abbrev pub hits : (level caches : ℕ) (hit : Bool) → Bool
hits level caches hit = (level == caches) && hit

abbrev pub misses : (level caches : ℕ) (hit : Bool) → Bool
misses level caches hit = arrives level caches && not (hits level caches hit)

-- Each time that the access is made, its visit is so.
abbrev pub EachMade : (access : ℕ) → (visit : ℕ → Bool → Type 0) → List Moment → Type 0
EachMade access visit moments =
    (front rest : List Moment) (address caches : ℕ) (hit : Bool) →
    moments ≡ front ++ Makes access address caches hit ∷ rest → visit caches hit

-- What the letter of an access at a level says: it always arrives there, it never does, or nothing.
abbrev pub LetterHolds : (access level : ℕ) → Letter → List Moment → Type 0
LetterHolds access level Always moments = EachMade access (λ caches hit. arrives level caches ≡ true) moments
LetterHolds access level Never moments = EachMade access (λ caches hit. arrives level caches ≡ false) moments
LetterHolds access level Uncertain moments = Unit {0}

-- An arc is taken that enters the scope.
abbrev pub EntersIn : Net → (scope : ℕ) → List Moment → Type 0
EntersIn net scope moments = (number : ℕ) × Contains moments (Takes number) × Enters net scope number

-- In each stay in the scope at most one arrival misses: between two of them that do the scope is entered anew.
abbrev pub MissesOnce : Net → (scope access level : ℕ) → List Moment → Type 0
MissesOnce net scope access level moments =
    (front between rest : List Moment) (address again caches later : ℕ) (hit hit_later : Bool) →
    moments ≡ front ++ Makes access address caches hit ∷ between ++ Makes access again later hit_later ∷ rest →
    misses level caches hit ≡ true → misses level later hit_later ≡ true → EntersIn net scope between

-- What the class of an access at a level says: each arrival hits, each misses, at most one in each stay in a scope
-- misses, or nothing.
abbrev pub ClassHolds : Net → (access level : ℕ) → Class → List Moment → Type 0
ClassHolds net access level Hit moments = EachMade access (λ caches hit. misses level caches hit ≡ false) moments
ClassHolds net access level Miss moments = EachMade access (λ caches hit. hits level caches hit ≡ false) moments
ClassHolds net access level (First scope) moments = MissesOnce net scope access level moments
ClassHolds net access level Unclassified moments = Unit {0}
