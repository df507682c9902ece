-- The contexts that the calls in a context make are new, one after the other.
use Rattle.std.proofs.Common.{◌≡◌, ℕ, ◌+◌, ◌<◌, ◌⊎◌, inl, inr, Bool, true, false, List, [], ◌∷◌, ◌++◌, length, map, get_or, take, All, Contains, if◌then◌else◌, refl, sym, ap, subst, ◌∙◌, arith}
use Rattle.std.specs.List.{list_any}
use Rattle.std.proofs.lemmas.List.{append_assoc, get_or-take, length-take, map_more}
use Rattle.std.proofs.lemmas.List.Elements.{Contains-append_cases}
use Rattle.std.proofs.lemmas.Option.{get_or_from_slice_get, slice_get_within}
use Rattle.flow_net.specs.declared.net.Context.{Context}
use Rattle.indexmap.proofs.CallerLemmas.{Contains-list_any}
use Rattle.indexmap.specs.IndexSet.{insert_key}
use Rattle.step_table.proofs.Positions.{place_of}
use Rattle.call_contexts.specs.Counting.{call_of}
use Rattle.call_contexts.specs.Expansion.{RiseCalls, context_of}
use Rattle.call_contexts.specs.Sizes.{IsCallAfter}
use Rattle.call_contexts.specs.declared.calls.Called.{Called}
use Rattle.call_contexts.proofs.Numbering.{is_same, is_same-decides}
use Rattle.call_contexts.proofs.Places.{mapped_at}

-- A new context goes last.
pub insert_new : (contexts : List Context) (context : Context) → (Contains contexts context → ⊥) → insert_key is_same contexts context ≡ contexts ++ context ∷ []
insert_new contexts context new = by_test (list_any (is_same context) contexts) refl
  where
    by_test : (b : Bool) → list_any (is_same context) contexts ≡ b → insert_key is_same contexts context ≡ contexts ++ context ∷ []
    by_test true e = absurd (new (Contains-list_any is_same (λ x y. (is_same-decides x y).0) contexts context e))
    by_test false e = ap (λ (b : Bool). if b then contexts else contexts ++ context ∷ []) e

-- Calls that come one after the other make different contexts.
differ : (parent : ℕ) (a b : Called) → IsCallAfter (call_of a) (call_of b) → context_of parent a ≡ context_of parent b → ⊥
differ parent a b (inl less) e = omega (arith, less, ap (λ (c : Context). c.site) e)
differ parent a b (inr both) e = omega (arith, both.1, ap (λ (c : Context). c.target) e)

-- Those of the earlier calls of a list are others than that of a later one.
made_apart : (parent : ℕ) (calls : List Called) (i : ℕ) (one : Called) → RiseCalls calls → i < length calls → get_or calls i one ≡ one →
    Contains (map (context_of parent) (take i calls)) (context_of parent one) → ⊥
made_apart parent calls i one rising inside is among =
    let (k, listed) = place_of (map (context_of parent) (take i calls)) (context_of parent one) among in
    let (earlier, there, same) = mapped_at (context_of parent) (take i calls) k (context_of parent one) listed in
    let within : k < i = omega (arith, slice_get_within (take i calls) k earlier there, length-take i calls) in
    let at : get_or calls k one ≡ earlier = sym (get_or-take i calls k one within) ∙ get_or_from_slice_get (take i calls) k earlier one there in
    differ parent earlier one
    (subst (λ (a : Called). IsCallAfter (call_of a) (call_of one)) at
    (subst (λ (b : Called). IsCallAfter (call_of (get_or calls k one)) (call_of b)) is (rising k i one within inside)))
    same

-- One more context that a call makes.
pub added_more : (parent : ℕ) (calls : List Called) (i : ℕ) (one : Called) (before now later : List Context) → RiseCalls calls →
    All (λ called. Contains before (context_of parent called) → ⊥) calls → i < length calls → one ≡ get_or calls i one →
    now ≡ before ++ map (context_of parent) (take i calls) → later ≡ insert_key is_same now (context_of parent one) →
    later ≡ before ++ map (context_of parent) (take (i + 1) calls)
added_more parent calls i one before now later rising new inside is are given =
    given ∙ insert_new now (context_of parent one) fresh
    ∙ ap (λ (front : List Context). front ++ context_of parent one ∷ []) are
    ∙ append_assoc before (map (context_of parent) (take i calls)) (context_of parent one ∷ [])
    ∙ ap (λ (last : Called). before ++ (map (context_of parent) (take i calls) ++ context_of parent last ∷ [])) is
    ∙ ap (λ (back : List Context). before ++ back) (sym (map_more (context_of parent) calls i one inside))
  where
    by_part : Contains before (context_of parent one) ⊎ Contains (map (context_of parent) (take i calls)) (context_of parent one) → ⊥
    by_part (inl old) = subst (λ (called : Called). Contains before (context_of parent called) → ⊥) (sym is) (new i one inside) old
    by_part (inr among) = made_apart parent calls i one rising inside (sym is) among

    fresh : Contains now (context_of parent one) → ⊥
    fresh there = by_part (Contains-append_cases before (map (context_of parent) (take i calls)) (context_of parent one)
        (subst (λ (contexts : List Context). Contains contexts (context_of parent one)) are there))
