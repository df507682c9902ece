-- What holds while the caches of the elements are read, before the element of this number.
use Rattle.std.proofs.Common.{◌≡◌, ℕ, suc, ◌+◌, ◌<◌, ◌≤◌, Bool, true, false, ◌&&◌, nat_le, List, [], ◌∷◌, ◌++◌, length, map, get_or, take, drop, Option, Some, None, refl, sym, ap, arith, unwrap_or, is_some, filter, option_and_then, if◌then◌else◌}
use Rattle.std.proofs.lemmas.Bool.{false≢true, or_parts}
use Rattle.std.proofs.lemmas.Bool.Decides.{nat_tests}
use Rattle.std.proofs.lemmas.List.{take_more, map-append}
use Rattle.toml.specs.Data.{Data, Members, as_table}
use Rattle.toml.specs.View.{view}
use Rattle.toml.specs.declared.value.Value.{Value}
use Rattle.cache_config.specs.Caches.{Cache, cache, cache_by, cache_in, cache_of, is_of, is_past, is_too_deep, serves_in}
use Rattle.cache_config.specs.Chains.{AreShort, most_chain}
use Rattle.cache_config.specs.Faults.{chain_rule, element_faults, numbered}
use Rattle.cache_config.specs.Keys.{cache_tables}
use Rattle.cache_config.proofs.EmptyLemmas.{failed_test, free_at}
use Rattle.lru_concrete.specs.Chains.{chain, serves}
use Rattle.lru_concrete.specs.Limits.{most_levels}
use Rattle.lru_concrete.specs.declared.level.Level.{Level}
use Rattle.lru_concrete.specs.declared.level.Serves.{Serves}
use Rattle.lru_concrete.specs.declared.level.Side.{Side}
use Rattle.lru_concrete.specs.declared.level.Side.TheVariants as side

-- The caches of levels.
abbrev pub caches : List Level → List (Option Cache)
caches levels = map (λ (level : Level). Some (cache level)) levels

serves-by : (what : Option Serves) (sets ways line latency : Option ℕ) (c : Cache) → Some c ≡ cache_by what sets ways line latency → what ≡ Some c.serves
serves-by None sets ways line latency c e = absurd (false≢true (sym (ap is_some e)))
serves-by (Some what) None ways line latency c e = absurd (false≢true (sym (ap is_some e)))
serves-by (Some what) (Some s) None line latency c e = absurd (false≢true (sym (ap is_some e)))
serves-by (Some what) (Some s) (Some w) None latency c e = absurd (false≢true (sym (ap is_some e)))
serves-by (Some what) (Some s) (Some w) (Some l) None c e = absurd (false≢true (sym (ap is_some e)))
serves-by (Some what) (Some s) (Some w) (Some l) (Some n) c e = ap (λ o. Some (unwrap_or o c).serves) (sym e)

serves-from : (table : Option Members) (c : Cache) → Some c ≡ option_and_then cache_in table → option_and_then serves_in table ≡ Some c.serves
serves-from None c e = absurd (false≢true (sym (ap is_some e)))
serves-from (Some ms) c e = serves-by (serves_in ms) _ _ _ _ c e

-- An element that gives a level serves the sides that the level serves.
pub same-side : (served : Side) (level : Level) (d : Data) → Some (cache level) ≡ cache_of d → is_of served d ≡ serves level.serves served
same-side served level d e = rw (serves-from (as_table d) (cache level) e) refl

one-more : (b : Bool) (xs : List Level) (ds : List Data) (level : Level) (d : Data) → length xs ≡ length ds →
    length (if b then level ∷ xs else xs) ≡ length (if b then d ∷ ds else ds)
one-more true xs ds level d e = ap suc e
one-more false xs ds level d e = e

-- As many elements serve a side as levels.
pub same-chain : (served : Side) (levels : List Level) (ds : List Data) → caches levels ≡ map cache_of ds →
    length (chain served levels) ≡ length (filter (is_of served) ds)
same-chain served [] [] e = refl
same-chain served [] (d ∷ ds) e = absurd cc
same-chain served (level ∷ levels) [] e = absurd cc
same-chain served (level ∷ levels) (d ∷ ds) e =
    let head : Some (cache level) ≡ cache_of d = ap (λ xs. get_or xs 0 (cache_of d)) e in
    let rest = same-chain served levels ds (ap (drop 1) e) in
    rw (same-side served level d head) (one-more (serves level.serves served) (chain served levels) (filter (is_of served) ds) level d rest)

last-one : (b : Bool) (level : Level) → length (if b then level ∷ [] else []) ≡ 0 + (if b then 1 else 0)
last-one true level = refl
last-one false level = refl

more-one : (b : Bool) (level : Level) (xs ys : List Level) (n : ℕ) → length ys ≡ length xs + n →
    length (if b then level ∷ ys else ys) ≡ length (if b then level ∷ xs else xs) + n
more-one true level xs ys n e = omega (arith, e)
more-one false level xs ys n e = e

-- One more level at the end of a chain, where it serves the side.
push-chain : (served : Side) (levels : List Level) (last : Level) →
    length (chain served (levels ++ last ∷ [])) ≡ length (chain served levels) + (if serves last.serves served then 1 else 0)
push-chain served [] last = last-one (serves last.serves served) last
push-chain served (level ∷ levels) last =
    more-one (serves level.serves served) level (chain served levels) (chain served (levels ++ last ∷ [])) _ (push-chain served levels last)

short-step : (b : Bool) (n : ℕ) → n ≤ most_chain → b && nat_le most_chain n ≡ false → n + (if b then 1 else 0) ≤ most_chain
short-step true n few free = grind (arith, nat_tests)
short-step false n few free = omega (arith, few)

side-free : (served : Side) (earlier : List Data) (d : Data) → is_too_deep earlier d ≡ false → is_past served earlier d ≡ false
side-free side.Fetch earlier d e = let (here, there) = or_parts (is_past side.Fetch earlier d) (is_past side.Load earlier d) e in here
side-free side.Load earlier d e = let (here, there) = or_parts (is_past side.Fetch earlier d) (is_past side.Load earlier d) e in there

short-push : (levels : List Level) (level : Level) (earlier : List Data) (d : Data) → caches levels ≡ map cache_of earlier → Some (cache level) ≡ cache_of d →
    is_too_deep earlier d ≡ false → AreShort levels → AreShort (levels ++ level ∷ [])
short-push levels level earlier d e same free short served =
    let past : serves level.serves served && nat_le most_chain (length (chain served levels)) ≡ false
    = rw (← same-side served level d same, same-chain served levels earlier e) (side-free served earlier d free) in
    rw (push-chain served levels level) (short-step (serves level.serves served) (length (chain served levels)) (short served) past)

pub record AreCaches (values : List Value) (at : ℕ) (levels : List Level) : Type 0 where
  pub left : numbered (element_faults cache_tables chain_rule (map view values)) at (map view (drop at values)) ≡ []
  pub so_far : caches levels ≡ map cache_of (map view (take at values))
  pub short : AreShort levels

pub more_caches : (values : List Value) (at : ℕ) (value : Value) (levels : List Level) (level : Level) → length values ≤ most_levels →
    at < length values → get_or values at value ≡ value → AreCaches values at levels → Some (cache level) ≡ cache_of (view value) →
    AreCaches values (at + 1) (levels ++ level ∷ [])
more_caches values at value levels level few low is read same =
    let free = free_at cache_tables chain_rule values at value few low is read.left in
    let before = map view (take at values) in
    let deep = failed_test (is_too_deep before (view value)) _ free.joint in
    let all : map cache_of (map view (take (at + 1) values)) ≡ map cache_of before ++ cache_of (view value) ∷ []
    = rw (take_more values at value low, is, map-append view (take at values) (value ∷ []), map-append cache_of before (view value ∷ [])) refl in
    record {
      left = free.rest;
      so_far = rw (map-append (λ (l : Level). Some (cache l)) levels (level ∷ []), all, read.so_far, same) refl;
      short = short-push levels level before (view value) read.so_far same deep read.short;
    }
