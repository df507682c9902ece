-- Contexts stand in the order of the calls that make them.
use Rattle.std.proofs.Common.{◌≡◌, ℕ, zero, suc, ◌<◌, ◌≤◌, ◌⊎◌, inl, inr, List, [], ◌∷◌, slice_get, drop, AllPairs, Some, refl, subst, arith}
use Rattle.std.proofs.lemmas.Bool.{cases_lt}
use Rattle.std.proofs.lemmas.Option.{none-some}
use Rattle.elf_mips.specs.declared.image.Image.{Image}
use Rattle.flow_net.specs.declared.net.Context.{Context}
use Rattle.net_model.specs.Contexts.{AreContexts, IsCallBefore, IsContextBefore, made_by}
use Rattle.call_contexts.specs.Layout.{IsMadeAs}
use Rattle.call_contexts.proofs.Places.{pair_at}
use Rattle.call_contexts.proofs.SpotNumbers.{one-at}

call-strict : (a b : Context) → IsCallBefore a b → IsCallBefore b a → ⊥
call-strict a b (inl less) (inl more) = omega (arith, less, more)
call-strict a b (inl less) (inr more) = omega (arith, less, more.0)
call-strict a b (inr less) (inl more) = omega (arith, less.0, more)
call-strict a b (inr less) (inr more) = omega (arith, less.1, more.1)

-- The order of contexts is strict.
pub context-strict : (a b : Context) → IsContextBefore a b → IsContextBefore b a → ⊥
context-strict a b (inl less) (inl more) = omega (arith, less, more)
context-strict a b (inl less) (inr more) = omega (arith, less, more.0)
context-strict a b (inr less) (inl more) = omega (arith, less.0, more)
context-strict a b (inr less) (inr more) = call-strict a b less.1 more.1

-- Of two further contexts the one of the lesser number comes first.
pub numbers-ordered : (contexts : List Context) → AllPairs IsContextBefore (drop 1 contexts) → (n m : ℕ) (a b : Context) →
    0 < n → n < m → slice_get contexts n ≡ Some a → slice_get contexts m ≡ Some b → IsContextBefore a b
numbers-ordered [] order n m a b some less one other = absurd (none-some a one)
numbers-ordered (c ∷ cs) order zero m a b some less one other = absurd (omega (arith, some))
numbers-ordered (c ∷ cs) order (suc i) zero a b some less one other = absurd (omega (arith, less))
numbers-ordered (c ∷ cs) order (suc i) (suc j) a b some less one other =
    pair_at IsContextBefore cs order i j a b (omega (arith, less)) one other

-- So the one that comes first has the lesser number, and a call makes one context.
pub context-lower : (image : Image) (entry : ℕ) (contexts : List Context) → AreContexts image entry contexts → (n m : ℕ) (a b : Context) →
    0 < n → 0 < m → slice_get contexts n ≡ Some a → slice_get contexts m ≡ Some b → IsContextBefore a b → n < m
context-lower image entry contexts are n m a b first second one other before = by_order (cases_lt n m) (cases_lt m n) where
  by_order : ((n < m) ⊎ (m ≤ n)) → ((m < n) ⊎ (n ≤ m)) → n < m
  by_order (inl less) h = less
  by_order (inr most) (inl above) =
      absurd (context-strict a b before (numbers-ordered contexts are.order m n b a second above other one))
  by_order (inr most) (inr least) =
      let same : n ≡ m = omega (arith, most, least) in
      let equal : a ≡ b = one-at contexts m a b (subst (λ (k : ℕ). slice_get contexts k ≡ Some a) same one) other in
      let itself : IsContextBefore b b = subst (λ (x : Context). IsContextBefore x b) equal before in
      absurd (context-strict b b itself itself)

pub made-once : (image : Image) (entry : ℕ) (contexts : List Context) → AreContexts image entry contexts → (parent site callee n m : ℕ) →
    IsMadeAs contexts parent site callee n → IsMadeAs contexts parent site callee m → n ≡ m
made-once image entry contexts are parent site callee n m one other = by_order (cases_lt n m) (cases_lt m n) where
  no : (i j : ℕ) → IsMadeAs contexts parent site callee i → IsMadeAs contexts parent site callee j → i < j → ⊥
  no i j first second less =
      let before : IsContextBefore (made_by parent site callee) (made_by parent site callee) =
      numbers-ordered contexts are.order i j (made_by parent site callee) (made_by parent site callee) first.later less first.there second.there in
      context-strict (made_by parent site callee) (made_by parent site callee) before before

  by_order : ((n < m) ⊎ (m ≤ n)) → ((m < n) ⊎ (n ≤ m)) → n ≡ m
  by_order (inl less) h = absurd (no n m one other less)
  by_order (inr most) (inl above) = absurd (no m n other one above)
  by_order (inr most) (inr least) = omega (arith, most, least)

pub made-rises : (image : Image) (entry : ℕ) (contexts : List Context) → AreContexts image entry contexts →
    (parent site lesser greater n m : ℕ) → IsMadeAs contexts parent site lesser n → IsMadeAs contexts parent site greater m →
    lesser < greater → n < m
made-rises image entry contexts are parent site lesser greater n m one other less =
    context-lower image entry contexts are n m (made_by parent site lesser) (made_by parent site greater) one.later other.later
    one.there other.there (inr (refl, inr (refl, less)))
