-- The loop instances that arcs enter, and the arcs that enter each scope.
use Rattle.std.specs.Prelude.{◌≡◌, ℕ, zero, suc, ◌+◌, ◌-◌, ◌<◌, ◌≤◌, List, [], ◌∷◌, ◌++◌, length, All, AllPairs, Contains, Some, slice_get, slice_set, refl}
use Rattle.std.proofs.Common.{◌∙◌, ◌⊎◌, arith, get_or, inl, inr, subst, sym}
use Rattle.std.proofs.lemmas.Bool.{cases_eq}
use Rattle.std.proofs.lemmas.List.{length-set, length_push}
use Rattle.std.proofs.lemmas.List.Elements.{All-push, Contains-get_or}
use Rattle.std.proofs.lemmas.Option.{none-some, same_Some, slice_get_within}
use Rattle.flow_net.specs.Entering.{Enters, IsOutside}
use Rattle.flow_net.specs.Entering.Enters.{run, loop}
use Rattle.flow_net.specs.Nested.{IsNested}
use Rattle.flow_net.specs.Numbers.{IsNumberOf, IsNumberOrZero, item_at}
use Rattle.flow_net.specs.Scopes.{Holds}
use Rattle.flow_net.specs.Scopes.IsWithin.{here}
use Rattle.flow_net.specs.declared.net.Net.{Net}
use Rattle.flow_net.specs.declared.net.NetArc.{NetArc}
use Rattle.flow_net.specs.declared.net.Place.{Place}
use Rattle.flow_net.proofs.Headers.{comes-enters, enters-comes, header-scope}
use Rattle.flow_net.proofs.Holds.{holds-zero}
use Rattle.flow_net.proofs.Numbers.{item_at-all, item_at-same, item_at-there, item_at-within}
use Rattle.net_tables.specs.Crossings.{AreArcsEntering, AreEntering, AreLoopsEntered, IsLoopEntered}
use Rattle.net_tables.specs.Numbers.{AreNumbers, numbers_of}
use Rattle.net_tables.proofs.Numbering.{IsIn, numbers_has, numbers_here, numbers_only, numbers_past, slice_get-set_other, slice_get-set_same}

-- What an index reads from a list has the number after it.
pub item_at-listed : {X : Type 0} (items list : List X) (number : ℕ) (d : X) → list ≡ items → IsNumberOf items number →
    item_at number items ≡ Some (get_or list (number - 1) d)
item_at-listed {X = X} items list number d same inside =
    subst (λ (xs : List X). item_at number items ≡ Some (get_or xs (number - 1) d)) (sym same)
    (item_at-there items number d inside)

-- Where an arc goes to, it goes to a place, unless that is 0.
pub end-number : (net : Net) → IsNested net → (number : ℕ) (arc : NetArc) → item_at number net.arcs ≡ Some arc → 0 < arc.to →
    IsNumberOf net.places arc.to
end-number net nested number arc there some = record {
  from_one = omega (arith, some);
  within = item_at-all (λ (a : NetArc). IsNumberOrZero net.places a.to) net.arcs number arc nested.numbers.ends there;
}

pub start-number : (net : Net) → IsNested net → (number : ℕ) (arc : NetArc) → item_at number net.arcs ≡ Some arc →
    0 < arc.from → IsNumberOf net.places arc.from
start-number net nested number arc there some = record {
  from_one = omega (arith, some);
  within = item_at-all (λ (a : NetArc). IsNumberOrZero net.places a.from) net.arcs number arc nested.numbers.starts there;
}

-- The loop instance that an arc enters is the innermost scope of its end.
pub entered-own : (net : Net) → IsNested net → (scope number : ℕ) → 0 < scope → Enters net scope number →
    (arc : NetArc) (place : Place) → item_at number net.arcs ≡ Some arc → item_at arc.to net.places ≡ Some place →
    place.scope ≡ scope
entered-own net nested _ _ some run arc place there at = absurd (omega (arith, some))
entered-own net nested _ _ some (loop scope number inst other also same header outside) arc place there at =
    header-scope net nested scope inst place also
    (subst (λ (n : ℕ). item_at n net.places ≡ Some place) header
    (subst (λ (a : NetArc). item_at a.to net.places ≡ Some place) (item_at-same net.arcs number arc other there same) at))

-- An arc to 0 enters no loop instance.
pub entered-none : (net : Net) → IsNested net → (number : ℕ) (arc : NetArc) → item_at number net.arcs ≡ Some arc →
    arc.to ≡ 0 → IsLoopEntered net number 0
entered-none net nested number arc there out scope some = (
  λ e. absurd (omega (arith, some, e)),
  λ enters.
      let comes = enters-comes net nested scope number enters in
      absurd (holds-zero net scope
      (subst (Holds net scope) out
      (subst (λ (a : NetArc). Holds net scope a.to) (item_at-same net.arcs number comes.arc arc comes.there there)
      comes.inside))),
)

-- Nor does one whose start is held by the innermost scope of its end.
pub entered-held : (net : Net) → IsNested net → (number : ℕ) (arc : NetArc) (place : Place) →
    item_at number net.arcs ≡ Some arc → item_at arc.to net.places ≡ Some place → Holds net place.scope arc.from →
    IsLoopEntered net number 0
entered-held net nested number arc place there at held scope some = (
  λ e. absurd (omega (arith, some, e)),
  λ enters.
      let comes = enters-comes net nested scope number enters in
      absurd (comes.outside
      (subst (λ (a : NetArc). Holds net scope a.from) (item_at-same net.arcs number arc comes.arc there comes.there)
      (subst (λ (n : ℕ). Holds net n arc.from) (entered-own net nested scope number some enters arc place there at) held))),
)

-- Each other arc to a place enters the innermost scope of its end.
pub entered-scope : (net : Net) → IsNested net → (number : ℕ) (arc : NetArc) (place : Place) →
    item_at number net.arcs ≡ Some arc → item_at arc.to net.places ≡ Some place → IsOutside net place.scope arc.from →
    IsLoopEntered net number place.scope
entered-scope net nested number arc place there at outside scope some = (
  λ e. subst (λ (n : ℕ). Enters net n number) (sym e)
      (comes-enters net nested place.scope number
      (item_at-all (λ (p : Place). IsNumberOrZero net.loops p.scope) net.places arc.to place nested.scopes.places at)
      (record { arc = arc; there = there; outside = outside; inside = record { place = place; there = at; within = here } })),
  λ enters. sym (entered-own net nested scope number some enters arc place there at),
)

-- ---- The numbers of the arcs that enter a scope.
is_in-contains : (number : ℕ) (numbers : List ℕ) → IsIn number numbers → Contains numbers number
is_in-contains number [] is = absurd is
is_in-contains number (other ∷ others) (inl e) = (0, omega arith, sym e)
is_in-contains number (other ∷ others) (inr more) =
    let rest = is_in-contains number others more in (suc rest.0, omega (arith, rest.1), rest.2)

contains-is_in : (number : ℕ) (numbers : List ℕ) → Contains numbers number → IsIn number numbers
contains-is_in number [] (k, less, same) = absurd (omega (arith, less))
contains-is_in number (other ∷ others) (zero, less, same) = inl (sym same)
contains-is_in number (other ∷ others) (suc k, less, same) =
    inr (contains-is_in number others (k, omega (arith, less), same))

pairs-cons : (x : ℕ) (xs : List ℕ) → All (λ y. x < y) xs → AllPairs ◌<◌ xs → AllPairs ◌<◌ (x ∷ xs)
pairs-cons x xs less pairs zero zero d before within = absurd (omega (arith, before))
pairs-cons x xs less pairs zero (suc j) d before within = less j d (omega (arith, within))
pairs-cons x xs less pairs (suc i) zero d before within = absurd (omega (arith, before))
pairs-cons x xs less pairs (suc i) (suc j) d before within = pairs i j d (omega (arith, before)) (omega (arith, within))

numbers-rising : (key from : ℕ) (keys : List ℕ) → AllPairs ◌<◌ (numbers_of key from keys)
numbers-rising key from [] = λ i j d before within. absurd (omega (arith, within))
numbers-rising key from (other ∷ others) =
    let rest = numbers-rising key (from + 1) others in
    elim (cases_eq other key) as (λ _. AllPairs ◌<◌ (numbers_of key from (other ∷ others))) [
      | inl e ↦ subst (AllPairs ◌<◌) (sym (numbers_here key from other others e))
          (pairs-cons from (numbers_of key (from + 1) others)
          (λ k d less.
          let is = numbers_only key (from + 1) others (get_or (numbers_of key (from + 1) others) k d)
          (contains-is_in (get_or (numbers_of key (from + 1) others) k d) (numbers_of key (from + 1) others)
          (Contains-get_or (numbers_of key (from + 1) others) k d less)) in
          omega (arith, is.counted))
          rest)
      | inr ne ↦ subst (AllPairs ◌<◌) (sym (numbers_past key from other others ne)) rest
    ]

run-only : (net : Net) (scope number : ℕ) → Enters net scope number → scope ≡ 0 → number ≡ 1
run-only net _ _ run e = refl
run-only net _ _ (loop zero number inst arc also there header outside) e = absurd (none-some inst also)
run-only net _ _ (loop (suc scope) number inst arc also there header outside) e = absurd (omega (arith, e))

entering-run : (net : Net) → AreEntering net 0 (1 ∷ [])
entering-run net = record {
  enters = λ number. (
    λ among. subst (Enters net 0) (sym (one number (contains-is_in number (1 ∷ []) among))) run,
    λ enters. subst (Contains (1 ∷ [])) (sym (run-only net 0 number enters refl)) (0, omega arith, refl),
  );
  rising = λ i j d before within. absurd (omega (arith, before, within));
}
  where
    one : (number : ℕ) → IsIn number (1 ∷ []) → number ≡ 1
    one number (inl e) = e
    one number (inr more) = absurd more

entering-loop : (net : Net) (keys : List ℕ) (scope : ℕ) → 0 < scope → IsNested net → AreLoopsEntered net keys →
    AreEntering net scope (numbers_of scope 1 keys)
entering-loop net keys scope some nested are = record {
  enters = λ number. (to number, from number);
  rising = numbers-rising scope 1 keys;
}
  where
    to : (number : ℕ) → Contains (numbers_of scope 1 keys) number → Enters net scope number
    to number among =
        let is = numbers_only scope 1 keys number (contains-is_in number (numbers_of scope 1 keys) among) in
        let at : item_at (suc is.position) keys ≡ Some scope = is.there in
        let counted : suc is.position ≡ number = omega (arith, is.counted) in
        (are.each number scope (subst (λ (n : ℕ). item_at n keys ≡ Some scope) counted at) scope some).0 refl

    from : (number : ℕ) → Enters net scope number → Contains (numbers_of scope 1 keys) number
    from number enters =
        let comes = enters-comes net nested scope number enters in
        let inside = item_at-within net.arcs number comes.arc comes.there in
        let there = item_at-there keys number 0
        (record { from_one = inside.from_one; within = omega (arith, are.size, inside.within) }) in
        let same = (are.each number (get_or keys (number - 1) 0) there scope some).1 enters in
        let at : slice_get keys (number - 1) ≡ Some scope =
        before number inside.from_one (subst (λ (k : ℕ). item_at number keys ≡ Some k) (sym same) there) in
        let counted : 1 + (number - 1) ≡ number = omega (arith, inside.from_one) in
        is_in-contains number (numbers_of scope 1 keys)
        (subst (λ (n : ℕ). IsIn n (numbers_of scope 1 keys)) counted
        (numbers_has scope 1 keys (number - 1) at))
      where
        before : (n : ℕ) → 1 ≤ n → item_at n keys ≡ Some scope → slice_get keys (n - 1) ≡ Some scope
        before zero low e = absurd (omega (arith, low))
        before (suc position) low e =
            let same : position ≡ suc position - 1 = omega arith in
            subst (λ (k : ℕ). slice_get keys k ≡ Some scope) same e

-- The lists of arcs by the loop instance that they enter, with arc 1 in the list of the run.
pub entering-all : (net : Net) (keys : List ℕ) (lists : List (List ℕ)) → IsNested net → AreLoopsEntered net keys →
    AreNumbers (length net.loops) keys lists → AreArcsEntering net (slice_set lists 0 (1 ∷ []))
entering-all net keys lists nested entered are = record {
  size = length-set lists 0 (1 ∷ []) ∙ are.size;
  each = each;
}
  where
    each : (scope : ℕ) (numbers : List ℕ) → slice_get (slice_set lists 0 (1 ∷ [])) scope ≡ Some numbers →
        AreEntering net scope numbers
    each zero numbers there =
        subst (AreEntering net 0)
        (same_Some (1 ∷ []) numbers (sym (slice_get-set_same lists 0 (1 ∷ []) (omega (arith, are.size))) ∙ there))
        (entering-run net)
    each (suc below) numbers there =
        let old : slice_get lists (suc below) ≡ Some numbers =
        sym (slice_get-set_other lists 0 (suc below) (1 ∷ []) (λ e. omega (arith, e))) ∙ there in
        let less = slice_get_within lists (suc below) numbers old in
        subst (AreEntering net (suc below))
        (same_Some (numbers_of (suc below) 1 keys) numbers
        (sym (are.each (suc below) (omega (arith, less, are.size))) ∙ old))
        (entering-loop net keys (suc below) (omega arith) nested entered)

-- ---- The arcs so far.
pub record AreEnteredSoFar (net : Net) (index : ℕ) (scopes : List ℕ) : Type 0 where
  pub size : length scopes ≡ index
  pub each : (number entered : ℕ) → item_at number scopes ≡ Some entered → IsLoopEntered net number entered
  pub low : All (λ scope. scope ≤ length net.loops) scopes

-- What a list has at a number, after one more item.
pub pushed-at : {X : Type 0} (items : List X) (last : X) (number : ℕ) (item : X) →
    item_at number (items ++ last ∷ []) ≡ Some item →
    (item_at number items ≡ Some item) ⊎ ((number ≡ length items + 1) × (last ≡ item))
pushed-at items last zero item there = absurd (none-some item there)
pushed-at [] last (suc zero) item there = inr (omega arith, same_Some last item there)
pushed-at [] last (suc (suc position)) item there = absurd (none-some item there)
pushed-at (first ∷ items) last (suc zero) item there = inl there
pushed-at (first ∷ items) last (suc (suc position)) item there =
    elim (pushed-at items last (suc position) item there)
    as (λ _. (item_at (suc (suc position)) (first ∷ items) ≡ Some item) ⊎
    ((suc (suc position) ≡ length (first ∷ items) + 1) × (last ≡ item))) [
      | inl old ↦ inl old
      | inr new ↦ inr (omega (arith, new.0), new.1)
    ]

pub entered-more : (net : Net) (index : ℕ) (scopes : List ℕ) (entered : ℕ) → IsLoopEntered net (index + 1) entered →
    entered ≤ length net.loops → AreEnteredSoFar net index scopes → AreEnteredSoFar net (index + 1) (scopes ++ entered ∷ [])
entered-more net index scopes entered is low are = record {
  size = omega (arith, length_push scopes entered, are.size);
  each = λ number other there. elim (pushed-at scopes entered number other there) as (λ _. IsLoopEntered net number other) [
    | inl old ↦ are.each number other old
    | inr new ↦
        let same : index + 1 ≡ number = omega (arith, new.0, are.size) in
        subst (λ (n : ℕ). IsLoopEntered net n other) same
        (subst (λ (s : ℕ). IsLoopEntered net (index + 1) s) new.1 is)
  ];
  low = All-push (λ scope. scope ≤ length net.loops) scopes entered are.low low;
}
