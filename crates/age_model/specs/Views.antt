-- What one cache of a chain sees of an access.
use Rattle.std.specs.Prelude.{◌≡◌, ℕ, suc, Bool, true, false, List, [], ◌∷◌, ◌++◌, Some, slice_get}
use Rattle.flow_net.specs.declared.net.Net.{Net}
use Rattle.lru_concrete.specs.Chains.{Held, Went, before, finds_in, goes, levels_of, touch_in}
use Rattle.lru_concrete.specs.declared.level.Side.{Side}
use Rattle.net_model.specs.Claims.{arrives, hits}
use Rattle.net_model.specs.Moments.{Makes, Moment}
use Rattle.age_model.specs.Moves.{caches_after}

-- The cache of number n, counted from 0, has this level in the chain. Where the access comes to that level, the cache is
-- touched, and the visit hits at that level exactly where the cache held the block. Else the cache stays as it was.
-- The analyses of the classes of accesses stand on this alone: each of them follows one cache.
pub record Sees (went : Went) (n level : ℕ) (cache changed : Held) (found : Bool) : Type 0 where
  pub touched : arrives level went.visit.caches ≡ true → slice_get went.after n ≡ Some changed
  pub hit : arrives level went.visit.caches ≡ true → hits level went.visit.caches went.visit.hit ≡ found
  pub stays : arrives level went.visit.caches ≡ false → slice_get went.after n ≡ Some cache

-- Each cache that serves the side of an access sees it so: its level is one more than the number of caches before it
-- that serve that side.
abbrev pub SeesIts : Side → (address : ℕ) → List Held → (n : ℕ) → Held → Type 0
SeesIts side address caches n cache =
    Sees (goes side address caches) n (suc (before side (levels_of caches) n)) cache (touch_in cache address)
    (finds_in cache address)

-- So it sees an access of its side after a front of the moments of a run. (`sees-made` of proofs/Sights.antt: it does along
-- all moments that move the caches. A cache that doesn't serve the side stays: `stays-unserved` there.)
abbrev pub SeesMade : Net → List Held → (front : List Moment) → (access address visited : ℕ) → (hit : Bool) → Side →
    (n : ℕ) → Held → Type 0
SeesMade net caches front access address visited hit side n cache =
    Sees
    (record {
      visit = record { caches = visited; hit = hit };
      after = caches_after net caches (front ++ Makes access address visited hit ∷ []);
    })
    n (suc (before side (levels_of caches) n)) cache (touch_in cache address) (finds_in cache address)
