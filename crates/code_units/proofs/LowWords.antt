-- Executable words stand so low that no sum of their address and 8 wraps.
use Rattle.std.proofs.Common.{◌≡◌, ℕ, ◌+◌, ◌-◌, ◌%◌, ◌==◌, ◌<◌, ◌≤◌, ◌^◌, Bool, true, false, cond, List, [], ◌∷◌, All, Option, Some, None, refl, sym, subst, arith, inl, inr, ◌⊎◌}
use Rattle.std.specs.Prelude.{find, option_map, nat_le, ◌&&◌, OnSome}
use Rattle.std.proofs.lemmas.Bool.{and_parts, leb-true}
use Rattle.std.proofs.lemmas.List.Elements.{All-head, All-tail}
use Rattle.elf_mips.specs.declared.segment.Segment.{Segment}
use Rattle.elf_mips.specs.Fields.{number_at}
use Rattle.elf_mips.specs.Segments.{code_at, EndsLow, holds, is_code}

head_or_rest : {X : Type 0} (y x : X) (rest : Option X) (b : Bool) → cond b (Some y) rest ≡ Some x →
    ((b ≡ true) × (y ≡ x)) ⊎ (rest ≡ Some x)
head_or_rest y x rest true e = inl (refl, cc)
head_or_rest y x rest false e = inr e

-- What is found passes the test, and is one of the items.
found : {X : Type 0} (test : X → Bool) (P : X → Type 0) (xs : List X) (x : X) →
    All P xs → find test xs ≡ Some x → P x × (test x ≡ true)
found test P [] x all e = cc
found test P (y ∷ xs) x all e =
    elim (head_or_rest y x (find test xs) (test y) e) [
      | inl w ↦ (subst P w.1 (All-head P y xs all), subst (λ v. test v ≡ true) w.1 w.0)
      | inr r ↦ found test P xs x (All-tail P y xs all) r
    ]

-- A value that is made of an item where a test holds.
made : {X : Type 0} (b : Bool) (f : X → ℕ) (o : Option X) (word : ℕ) →
    cond b (option_map f o) None ≡ Some word → (x : X) × (o ≡ Some x)
made true f None word e = cc
made true f (Some x) word e = (x, refl)
made false f o word e = cc

code_low : (segments : List Segment) (address word : ℕ) → All EndsLow segments →
    code_at segments address ≡ Some word → address + 8 < 2 ^ 32
code_low segments address word low e =
    let one = made (address % 4 == 0) (λ (s : Segment). number_at 4 (address - s.address) s.bytes)
    (find (λ s. holds 4 address s && is_code s) segments) word e in
    let held = found (λ s. holds 4 address s && is_code s) EndsLow segments one.0 low one.1 in
    let inside = and_parts (holds 4 address one.0) (is_code one.0) held.1 in
    let ends = and_parts (nat_le one.0.address address)
    (nat_le (address + 4) (one.0.address + one.0.size)) inside.0 in
    let above : address + 4 ≤ one.0.address + one.0.size = leb-true _ _ ends.1 in
    let below : EndsLow one.0 = held.0 in
    omega arith

always : {X : Type 0} (o : Option X) (P : Type 0) → P → OnSome o P
always None P p = tt
always (Some x) P p = p

-- Whatever is made of such a word.
pub word_low : {X : Type 0} (segments : List Segment) (address word : ℕ) (o : Option X) →
    All EndsLow segments → Some word ≡ code_at segments address → OnSome o (address + 8 < 2 ^ 32)
word_low segments address word o low e =
    always o (address + 8 < 2 ^ 32) (code_low segments address word low (sym e))
