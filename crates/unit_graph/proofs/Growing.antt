-- How more and more units are seen to return.
use Rattle.std.proofs.Common.{◌≡◌, ℕ, ◌+◌, ◌-◌, ◌*◌, ◌<◌, ◌≤◌, ◌^◌, length, length-append, ap, ◌∙◌, List, [], ◌∷◌, ◌++◌, All, Option, Some, None, refl, sym, subst, arith, inl, inr}
use Rattle.std.specs.Prelude.{Contains}
use Rattle.std.proofs.lemmas.List.Elements.{All-contains, All-contains_itself, All-nil, All-push, All-weaker, Contains-append_left, Contains-push}
use Rattle.elf_mips.specs.declared.image.Image.{Image}
use Rattle.net_model.specs.Functions.{CanReturn}
use Rattle.unit_graph.specs.Inference.{CanAllReturn, CanReturnOr, Grows, Infers, IsMetBy, IsSound, IsTried}
use Rattle.unit_graph.specs.Search.{IsWithin, Sees}
use Rattle.unit_graph.specs.declared.inference.Rule.{Rule}
use Rattle.unit_graph.proofs.Searching.{shrinks}

pub Grows-none : (seen waiting : List ℕ) → Grows seen waiting seen waiting
Grows-none seen waiting = record {
  kept = λ x h. h;
  still = λ x h. h;
  new = λ x h. inl h;
  known = λ x h. inl h;
  low = λ x h. inl h;
  rising = λ h. h;
  counted = refl;
  more = omega arith;
}

pub Grows-sees : (these : ℕ → Type 0) (seen waiting later_seen later_waiting : List ℕ) →
    Sees these seen waiting later_seen later_waiting → Grows seen waiting later_seen later_waiting
Grows-sees these seen waiting later_seen later_waiting sees = record {
  kept = sees.kept;
  still = sees.still;
  new = sees.new;
  known = λ x h. elim (sees.known x h) [ inl p ↦ inl p | inr q ↦ inr (sees.there x q) ];
  low = λ x h. elim (sees.only x h) [ inl p ↦ inl p | inr q ↦ inr (sees.low x q) ];
  rising = sees.rising;
  counted = sees.counted;
  more = sees.more;
}

pub Grows-then : (seen waiting seen1 waiting1 seen2 waiting2 : List ℕ) → Grows seen waiting seen1 waiting1 →
    Grows seen1 waiting1 seen2 waiting2 → Grows seen waiting seen2 waiting2
Grows-then seen waiting seen1 waiting1 seen2 waiting2 f g = record {
  kept = λ x h. g.kept x (f.kept x h);
  still = λ x h. g.still x (f.still x h);
  new = λ x h. elim (g.new x h) [
    | inl p ↦ elim (f.new x p) [ inl q ↦ inl q | inr r ↦ inr (g.still x r) ]
    | inr r ↦ inr r
  ];
  known = λ x h. elim (g.known x h) [
    | inl p ↦ elim (f.known x p) [ inl q ↦ inl q | inr r ↦ inr (g.kept x r) ]
    | inr r ↦ inr r
  ];
  low = λ x h. elim (g.low x h) [ inl p ↦ f.low x p | inr r ↦ inr r ];
  rising = λ h. g.rising (f.rising h);
  counted = omega (arith, f.counted, g.counted);
  more = omega (arith, f.more, g.more);
}

-- A rule whose other condition isn't met changes nothing.
pub IsTried-unmet : (rule : Rule) (seen waiting : List ℕ) → (IsMetBy rule.other seen → ⊥) → IsTried rule seen waiting seen waiting
IsTried-unmet rule seen waiting unmet = record {
  grows = Grows-none seen waiting;
  only = λ x h. inl h;
  there = λ met. absurd (unmet met);
}

pub IsTried-met : (rule : Rule) (seen waiting later_seen later_waiting : List ℕ) → IsMetBy rule.other seen →
    Sees (λ x. rule.then ≡ x) seen waiting later_seen later_waiting → IsTried rule seen waiting later_seen later_waiting
IsTried-met rule seen waiting later_seen later_waiting met sees = record {
  grows = Grows-sees (λ x. rule.then ≡ x) seen waiting later_seen later_waiting sees;
  only = λ x h. elim (sees.only x h) [ inl p ↦ inl p | inr e ↦ inr (sym e, met) ];
  there = λ h. sees.there rule.then refl;
}

pub Infers-none : (seen waiting : List ℕ) → Infers [] seen waiting seen waiting
Infers-none seen waiting = record {
  grows = Grows-none seen waiting;
  sound = λ image sound given can. can;
  there = All-nil (λ (rule : Rule). IsMetBy rule.other seen → Contains seen rule.then);
}

All-front : {X : Type 0} (P : X → Type 0) (xs : List X) (x : X) → All P (xs ++ x ∷ []) → All P xs
All-front P xs x all =
    All-weaker (Contains xs) P (λ y h. All-contains P (xs ++ x ∷ []) y all (Contains-append_left xs (x ∷ []) y h)) xs (All-contains_itself xs)

All-last : {X : Type 0} (P : X → Type 0) (xs : List X) (x : X) → All P (xs ++ x ∷ []) → P x
All-last P xs x all = All-contains P (xs ++ x ∷ []) x all (Contains-push xs x)

met_later : (other : Option ℕ) (seen later : List ℕ) → IsWithin seen later → IsMetBy other seen → IsMetBy other later
met_later None seen later kept met = met
met_later (Some address) seen later kept met = kept address met

can_other : (image : Image) (other : Option ℕ) (seen : List ℕ) → CanAllReturn image seen → IsMetBy other seen → CanReturnOr image other
can_other image None seen can met = met
can_other image (Some address) seen can met = can address met

pub Infers-more : (rules : List Rule) (rule : Rule) (seen waiting seen1 waiting1 seen2 waiting2 : List ℕ) →
    Infers rules seen waiting seen1 waiting1 → IsTried rule seen1 waiting1 seen2 waiting2 →
    Infers (rules ++ rule ∷ []) seen waiting seen2 waiting2
Infers-more rules rule seen waiting seen1 waiting1 seen2 waiting2 f g = record {
  grows = Grows-then seen waiting seen1 waiting1 seen2 waiting2 f.grows g.grows;
  sound = λ image sound given can x h.
      elim (g.only x h) [
        | inl p ↦ f.sound image (All-front (IsSound image) rules rule sound) (All-front (λ (r : Rule). CanReturn image r.given) rules rule given) can x p
        | inr q ↦ subst (CanReturn image) (sym q.0)
            (All-last (IsSound image) rules rule sound
            (All-last (λ (r : Rule). CanReturn image r.given) rules rule given)
            (can_other image rule.other seen1
            (f.sound image (All-front (IsSound image) rules rule sound) (All-front (λ (r : Rule). CanReturn image r.given) rules rule given) can)
            q.1))
      ];
  there =
      All-push (λ (r : Rule). IsMetBy r.other seen → Contains seen2 r.then) rules rule
      (All-weaker (λ (r : Rule). IsMetBy r.other seen → Contains seen1 r.then) (λ (r : Rule). IsMetBy r.other seen → Contains seen2 r.then)
      (λ r h met. g.grows.kept r.then (h met)) rules f.there)
      (λ met. g.there (met_later rule.other seen seen1 f.grows.kept met));
}

-- Each turn takes a waiting address; each that comes in its place was not seen before.
pub grows_shrinks : (address : ℕ) (seen waiting rest later_seen later_waiting : List ℕ) →
    length later_seen ≤ 2 ^ 32 → Grows seen rest later_seen later_waiting → waiting ≡ rest ++ address ∷ [] →
    2 * (2 ^ 32 - length later_seen) + length later_waiting < 2 * (2 ^ 32 - length seen) + length waiting
grows_shrinks address seen waiting rest later_seen later_waiting few grows e =
    shrinks (length seen) (length waiting) (length rest) (length later_seen) (length later_waiting)
    few grows.more grows.counted
    (ap length e ∙ length-append rest (address ∷ []))
