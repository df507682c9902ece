-- The accesses of a place by their numbers: each is made there, and has its number once.
use Rattle.std.proofs.Common.{◌≡◌, ℕ, zero, suc, ◌+◌, ◌≤◌, ◌<◌, ◌==◌, Bool, true, false, cond, List, [], ◌∷◌, Option, Some, slice_get, refl, sym, ap, ◌∙◌, subst, inl, inr, arith}
use Rattle.std.specs.Prelude.{count_by}
use Rattle.std.proofs.lemmas.Bool.{cases_Bool, eqb-true}
use Rattle.std.proofs.lemmas.Bool.Decides.{nat_tests}
use Rattle.std.proofs.lemmas.List.Sums.{sum_by-cons}
use Rattle.flow_net.specs.Numbers.{item_at}
use Rattle.flow_net.specs.declared.net.Access.{Access}
use Rattle.flow_net.specs.declared.net.Net.{Net}
use Rattle.flow_net.proofs.Numbers.{item_at-same}
use Rattle.net_model.specs.Walks.{access_numbers, numbers_at}

-- Something holds of each number.
abbrev pub AllIn : (ℕ → Type 0) → List ℕ → Type 0
AllIn P [] = Unit {0}
AllIn P (x ∷ xs) = P x × AllIn P xs

all_in-more : (P Q : ℕ → Type 0) → ((x : ℕ) → P x → Q x) → (xs : List ℕ) → AllIn P xs → AllIn Q xs
all_in-more P Q f [] all = tt
all_in-more P Q f (x ∷ xs) all = (f x all.0, all_in-more P Q f xs all.1)

-- The access of this number is made at the place; the first one of the list has the given number.
abbrev IsAmong : (number : ℕ) → List Access → (place access : ℕ) → Type 0
IsAmong number accesses place access =
    (k : ℕ) × (own : Access) × (access ≡ number + k) × (slice_get accesses k ≡ Some own) × (own.place ≡ place)

abbrev pub choose : Bool → (number : ℕ) → List ℕ → List ℕ
choose test number more = cond test (number ∷ more) more

are-among : (number : ℕ) (accesses : List Access) (place : ℕ) →
    AllIn (IsAmong number accesses place) (numbers_at place number accesses)
are-among number [] place = tt
are-among number (access ∷ more) place =
    let P : ℕ → Type 0 = IsAmong number (access ∷ more) place in
    let rest : List ℕ = numbers_at place (suc number) more in
    let later : AllIn P rest = all_in-more (IsAmong (suc number) more place) P
    (λ x among. (suc among.0, among.1, among.2 ∙ omega arith, among.3, among.4)) rest (are-among (suc number) more place) in
    elim (cases_Bool (access.place == place)) as (λ _. AllIn P (choose (access.place == place) number rest)) [
      | inl e ↦ subst (λ (b : Bool). AllIn P (choose b number rest)) (sym e)
          ((0, access, omega arith, refl, eqb-true access.place place e), later)
      | inr e ↦ subst (λ (b : Bool). AllIn P (choose b number rest)) (sym e) later
    ]

-- The access of this number is made at the place.
abbrev pub IsMadeAt : Net → (place access : ℕ) → Type 0
IsMadeAt net place access = (own : Access) × (item_at access net.accesses ≡ Some own) × (own.place ≡ place)

pub made-at : (net : Net) (place : ℕ) → AllIn (IsMadeAt net place) (access_numbers net place)
made-at net place =
    all_in-more (IsAmong 1 net.accesses place) (IsMadeAt net place)
    (λ x among. let e : suc among.0 ≡ x = omega (arith, among.2) in
    (among.1, subst (λ (n : ℕ). item_at n net.accesses ≡ Some among.1) e among.3, among.4))
    (access_numbers net place) (are-among 1 net.accesses place)

-- An access is made at one place.
pub one-place : (net : Net) (access : ℕ) (own : Access) → item_at access net.accesses ≡ Some own → (place : ℕ) →
    IsMadeAt net place access → place ≡ own.place
one-place net access own there place made =
    sym made.2 ∙ ap (λ (a : Access). a.place) (item_at-same net.accesses access made.0 own made.1 there)

-- ---- How often a number stands among those of a place.
abbrev pub times_in : (access : ℕ) → List ℕ → ℕ
times_in access numbers = count_by (λ (number : ℕ). number == access) numbers

pub times_in-cons : (access number : ℕ) (more : List ℕ) →
    times_in access (number ∷ more) ≡ cond (number == access) 1 0 + times_in access more
times_in-cons access number more = sum_by-cons (λ (n : ℕ). cond (n == access) 1 0) number more

-- A number below the first one doesn't stand there, and each stands there at most once.
never-before : (access place number : ℕ) (accesses : List Access) → access < number →
    times_in access (numbers_at place number accesses) ≡ 0
never-before access place number [] less = refl
never-before access place number (own ∷ more) less =
    let rest : List ℕ = numbers_at place (suc number) more in
    let later : times_in access rest ≡ 0 = never-before access place (suc number) more (omega (arith, less)) in
    let other : ◌≡◌ {A = ℕ} (cond (number == access) 1 0) 0 = grind (arith, nat_tests, less) in
    let sum = times_in-cons access number rest in
    elim (cases_Bool (own.place == place)) as (λ _. times_in access (choose (own.place == place) number rest) ≡ 0) [
      | inl e ↦ subst (λ (b : Bool). times_in access (choose b number rest) ≡ 0) (sym e) (omega (arith, later, other, sum))
      | inr e ↦ subst (λ (b : Bool). times_in access (choose b number rest) ≡ 0) (sym e) later
    ]

at-most-once : (access place number : ℕ) (accesses : List Access) → times_in access (numbers_at place number accesses) ≤ 1
at-most-once access place number [] = omega arith
at-most-once access place number (own ∷ more) =
    let rest : List ℕ = numbers_at place (suc number) more in
    let later : times_in access rest ≤ 1 = at-most-once access place (suc number) more in
    let sum = times_in-cons access number rest in
    let first : times_in access (number ∷ rest) ≤ 1 =
    elim (cases_Bool (number == access)) as (λ _. times_in access (number ∷ rest) ≤ 1) [
      | inl e ↦
          let one : ◌≡◌ {A = ℕ} (cond (number == access) 1 0) 1 = ap (λ (b : Bool). cond b 1 0) e in
          let same : number ≡ access = eqb-true number access e in
          let none : times_in access rest ≡ 0 = never-before access place (suc number) more (omega (arith, same)) in
          omega (arith, sum, one, none)
      | inr e ↦
          let nothing : ◌≡◌ {A = ℕ} (cond (number == access) 1 0) 0 = ap (λ (b : Bool). cond b 1 0) e in
          omega (arith, sum, nothing, later)
    ] in
    elim (cases_Bool (own.place == place)) as (λ _. times_in access (choose (own.place == place) number rest) ≤ 1) [
      | inl e ↦ subst (λ (b : Bool). times_in access (choose b number rest) ≤ 1) (sym e) first
      | inr e ↦ subst (λ (b : Bool). times_in access (choose b number rest) ≤ 1) (sym e) later
    ]

-- What is made at another place doesn't stand there.
times-none : (access : ℕ) (numbers : List ℕ) → AllIn (λ number. number ≡ access → ⊥) numbers → times_in access numbers ≡ 0
times-none access [] all = refl
times-none access (number ∷ more) all =
    let rest = times-none access more all.1 in
    let differ = all.0 in
    let other : ◌≡◌ {A = ℕ} (cond (number == access) 1 0) 0 = grind (arith, nat_tests, differ) in
    let sum = times_in-cons access number more in
    omega (arith, rest, other, sum)

pub times-at : (net : Net) (access : ℕ) (own : Access) → item_at access net.accesses ≡ Some own → (place : ℕ) →
    times_in access (access_numbers net place) ≤ cond (place == own.place) 1 0
times-at net access own there place =
    elim (cases_Bool (place == own.place)) as (λ _. times_in access (access_numbers net place) ≤ cond (place == own.place) 1 0) [
      | inl e ↦
          let one : ◌≡◌ {A = ℕ} (cond (place == own.place) 1 0) 1 = ap (λ (b : Bool). cond b 1 0) e in
          let most : times_in access (access_numbers net place) ≤ 1 = at-most-once access place 1 net.accesses in
          omega (arith, one, most)
      | inr e ↦
          let differ : place ≡ own.place → ⊥ = λ same. grind (arith, nat_tests, same, e) in
          let none : times_in access (access_numbers net place) ≡ 0 =
          times-none access (access_numbers net place)
          (all_in-more (IsMadeAt net place) (λ number. number ≡ access → ⊥)
          (λ number made same. differ (one-place net access own there place (subst (IsMadeAt net place) same made)))
          (access_numbers net place) (made-at net place)) in
          omega (arith, none)
    ]
