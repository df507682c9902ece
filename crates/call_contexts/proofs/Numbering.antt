-- The number that a context has among different ones.
use Rattle.std.proofs.Common.{◌≡◌, ◌≢◌, ℕ, ◌<◌, ◌≤◌, ◌⊎◌, inl, inr, ◌==◌, ◌&&◌, Bool, true, false, List, length, get_or, slice_get, position, Some, None, AllPairs, if◌then◌else◌, sym, ap, subst, ◌∙◌, arith, true≢false}
use Rattle.std.specs.Bool.{Decides}
use Rattle.std.specs.List.{position_or_len}
use Rattle.std.proofs.lemmas.Bool.{cases_lt, lt-ltb}
use Rattle.std.proofs.lemmas.Bool.Decides.{Decides-and, Decides-eqb, Decides-like}
use Rattle.std.proofs.lemmas.List.Quantifiers.{position-Some}
use Rattle.std.proofs.lemmas.List.Sums.{fails_before_first}
use Rattle.std.proofs.lemmas.Option.{get_or_from_slice_get, none-some, slice_get_within}
use Rattle.flow_net.specs.declared.net.Context.{Context}
use Rattle.net_model.specs.Contexts.{made_by}
use Rattle.call_contexts.specs.Layout.{IsMadeAs}

-- Contexts are tested part by part.
abbrev pub is_same : Context → Context → Bool
is_same a b = a.parent == b.parent && (a.site == b.site && a.target == b.target)

pub is_same-decides : (a b : Context) → Decides (is_same a b) (a ≡ b)
is_same-decides a b =
    Decides-like _ (λ h. together a b h.0 h.1.0 h.1.1) (λ e. (ap (λ (c : Context). c.parent) e, (ap (λ (c : Context). c.site) e, ap (λ (c : Context). c.target) e)))
    (Decides-and _ _ (Decides-eqb a.parent b.parent) (Decides-and _ _ (Decides-eqb a.site b.site) (Decides-eqb a.target b.target)))
  where
    together : (a b : Context) → a.parent ≡ b.parent → a.site ≡ b.site → a.target ≡ b.target → a ≡ b
    together a b e f g = λ i. record { parent = e i; site = f i; target = g i }

-- Where an item passes, a first one that passes has a position.
pub position_there : {X : Type 0} (p : X → Bool) (xs : List X) (k : ℕ) (x : X) → slice_get xs k ≡ Some x → p x ≡ true → position p xs ≡ None → ⊥
position_there {X} p xs k x there passes none = by_case (cases_lt k (position_or_len p xs))
  where
    at : p (get_or xs k x) ≡ true
    at = ap p (get_or_from_slice_get xs k x x there) ∙ passes

    by_case : (k < position_or_len p xs) ⊎ (position_or_len p xs ≤ k) → ⊥
    by_case (inl l) = true≢false (sym at ∙ fails_before_first p xs k x l)
    by_case (inr l) =
        let less : position_or_len p xs < length xs = omega (arith, slice_get_within xs k x there) in
        none-some (position_or_len p xs) (sym none ∙ ap (λ b. if b then Some (position_or_len p xs) else None) (lt-ltb (position_or_len p xs) (length xs) less))

-- Among different contexts the first one that is equal is the one that is meant.
number_same : (contexts : List Context) → AllPairs (λ (a b : Context). a ≢ b) contexts → (wanted : Context) (number found : ℕ) →
    slice_get contexts number ≡ Some wanted → position (is_same wanted) contexts ≡ Some found → number ≡ found
number_same contexts apart wanted number found there is =
    omega (arith, not_before (cases_lt number found), not_behind (cases_lt found number))
  where
    first : (found < length contexts) × (is_same wanted (get_or contexts found wanted) ≡ true) × ((k : ℕ) → k < found → is_same wanted (get_or contexts k wanted) ≡ false)
    first = position-Some (is_same wanted) contexts found wanted is

    at_number : get_or contexts number wanted ≡ wanted
    at_number = get_or_from_slice_get contexts number wanted wanted there

    not_before : (number < found) ⊎ (found ≤ number) → found ≤ number
    not_before (inr l) = l
    not_before (inl l) = absurd (true≢false (sym ((is_same-decides wanted (get_or contexts number wanted)).1 (sym at_number)) ∙ first.2 number l))

    not_behind : (found < number) ⊎ (number ≤ found) → number ≤ found
    not_behind (inr l) = l
    not_behind (inl l) =
        absurd (apart found number wanted l (slice_get_within contexts number wanted there)
        (sym ((is_same-decides wanted (get_or contexts found wanted)).0 first.1) ∙ sym at_number))

-- The number that is found is the one that the context has.
pub number_found : (contexts : List Context) → AllPairs (λ (a b : Context). a ≢ b) contexts → (parent site callee number found : ℕ) →
    IsMadeAs contexts parent site callee number → position (is_same (made_by parent site callee)) contexts ≡ Some found →
    IsMadeAs contexts parent site callee found
number_found contexts apart parent site callee number found made is =
    subst (IsMadeAs contexts parent site callee) (number_same contexts apart (made_by parent site callee) number found made.there is) made
