-- What becomes of a table and of the waiting places when a state comes to a place.
use Rattle.std.specs.Prelude.{◌≡◌, ℕ, ◌<◌, Bool, true, false, not, if◌then◌else◌, List, length, Option, None, Some, slice_set, refl}
use Rattle.std.proofs.Common.{◌∙◌, ap, arith, inl, inr, subst, sym}
use Rattle.std.proofs.lemmas.Bool.{cases_Bool, cases_eq, false≢true}
use Rattle.std.proofs.lemmas.List.{length-set}
use Rattle.std.proofs.lemmas.Option.{none-some, same_Some}
use Rattle.domain_laws.specs.Laws.{IsLatticeOn, IsRankedOn, IsWideningOn}
use Rattle.domain_laws.specs.Options.{option_ok, option_leq, option_joined, option_lattice_on, option_ranked_on, option_widening_on}
use Rattle.fixpoint.specs.Coming.{Comes}
use Rattle.fixpoint.specs.Values.{value_of, waits, Passes}
use Rattle.fixpoint.specs.Steps.{Follows}
use Rattle.fixpoint.proofs.Slots.{value_set_same, value_set_other, value_set_own, waits_set_same, waits_set_other, waiting_more, ranks_fall}

no_slot : {D : Type 0} (widened : D → D → D) (old : Option D) (x : D) → option_joined widened old (Some x) ≡ None → ⊥
no_slot widened None x e = none-some x (sym e)
no_slot widened (Some y) x e = none-some (widened y x) (sym e)

module _ {D : Type 0} (P : D → Type 0) (leq : D → D → Bool) (joined widened : D → D → D) (rank : D → ℕ) (height : ℕ)
    (laws : IsLatticeOn P leq joined) (ranks : IsRankedOn P leq rank height) (widens : IsWideningOn P leq widened) where
  -- Nothing happens.
  pub follows_same : (values : List (Option D)) (marks : List Bool) → ((place : ℕ) → option_ok P (value_of values place)) →
      Follows P leq rank height values marks values marks
  follows_same values marks shaped = record {
    size = refl;
    sizes = refl;
    shaped = shaped;
    grows = λ place. (option_lattice_on laws).same (value_of values place) (shaped place);
    same = λ place none. refl;
    keeps = λ place here. here;
    there = λ all place here. all place here;
    placed = λ all place here. all place here;
    falls = omega arith;
  }

  -- One thing happens after another.
  pub follows_chain : (a : List (Option D)) (k : List Bool) (b : List (Option D)) (l : List Bool) (c : List (Option D)) (m : List Bool) →
      ((place : ℕ) → option_ok P (value_of a place)) → Follows P leq rank height a k b l → Follows P leq rank height b l c m →
      Follows P leq rank height a k c m
  follows_chain a k b l c m shaped f g = record {
    size = g.size ∙ f.size;
    sizes = g.sizes ∙ f.sizes;
    shaped = g.shaped;
    grows = λ place. (option_lattice_on laws).chain (value_of a place) (value_of b place) (value_of c place)
        (shaped place) (f.shaped place) (g.shaped place) (f.grows place) (g.grows place);
    same = λ place none. g.same place none ∙ f.same place (not_before place none);
    keeps = λ place here. g.keeps place (f.keeps place here);
    there = λ all. g.there (f.there all);
    placed = λ all. g.placed (f.placed all);
    falls = omega (arith, f.falls, g.falls);
  }
    where
      not_before : (place : ℕ) → waits m place ≡ false → waits l place ≡ false
      not_before place none = elim (cases_Bool (waits l place)) as (λ _. waits l place ≡ false) [
        | inl here ↦ absurd (false≢true (sym none ∙ g.keeps place here))
        | inr gone ↦ gone
      ]

  module _ (place : ℕ) (x : D) (values : List (Option D)) (marks : List Bool)
      (shaped : (q : ℕ) → option_ok P (value_of values q)) (ok : P x) (inside : place < length values)
      (sized : length marks ≡ length values) (some : 0 < place) where
    new : Option D
    new = option_joined widened (value_of values place) (Some x)

    new_ok : option_ok P new
    unfolding new
    new_ok = (option_widening_on laws widens).kept (value_of values place) (Some x) (shaped place) ok

    new_above : option_leq leq (value_of values place) new ≡ true
    unfolding new
    new_above = (option_widening_on laws widens).left (value_of values place) (Some x) (shaped place) ok

    new_holds : option_leq leq (Some x) new ≡ true
    unfolding new
    new_holds = (option_widening_on laws widens).right (value_of values place) (Some x) (shaped place) ok

    -- The state grew, and the place waits.
    grew : option_leq leq new (value_of values place) ≡ false →
        Follows P leq rank height values marks (slice_set values place new) (slice_set marks place true)
    unfolding new
    grew more = record {
      size = length-set values place new;
      sizes = length-set marks place true;
      shaped = λ q. elim (cases_eq q place) as (λ _. option_ok P (value_of (slice_set values place new) q)) [
        | inl e ↦ subst (λ (n : ℕ). option_ok P (value_of (slice_set values place new) n)) (sym e)
            (subst (option_ok P) (sym (value_set_same values place new inside)) new_ok)
        | inr ne ↦ subst (option_ok P) (sym (value_set_other values place q new ne)) (shaped q)
      ];
      grows = λ q. elim (cases_eq q place)
          as (λ _. option_leq leq (value_of values q) (value_of (slice_set values place new) q) ≡ true) [
            | inl e ↦ subst (λ (n : ℕ). option_leq leq (value_of values n) (value_of (slice_set values place new) n) ≡ true) (sym e)
                (subst (λ (z : Option D). option_leq leq (value_of values place) z ≡ true)
                (sym (value_set_same values place new inside)) new_above)
            | inr ne ↦ subst (λ (z : Option D). option_leq leq (value_of values q) z ≡ true)
                (sym (value_set_other values place q new ne))
                ((option_lattice_on laws).same (value_of values q) (shaped q))
          ];
      same = λ q none. value_set_other values place q new (λ e. false≢true (sym none ∙
          ap (waits (slice_set marks place true)) e ∙ waits_set_same marks place true (omega (arith, inside, sized))));
      keeps = λ q here. elim (cases_eq q place) as (λ _. waits (slice_set marks place true) q ≡ true) [
        | inl e ↦ ap (waits (slice_set marks place true)) e ∙ waits_set_same marks place true (omega (arith, inside, sized))
        | inr ne ↦ waits_set_other marks place q true ne ∙ here
      ];
      there = λ all q here none. elim (cases_eq q place) as (λ _. ⊥) [
        | inl e ↦ new_there (sym (value_set_same values place new inside) ∙
            ap (value_of (slice_set values place new)) (sym e) ∙ none)
        | inr ne ↦ all q (sym (waits_set_other marks place q true ne) ∙ here)
            (sym (value_set_other values place q new ne) ∙ none)
      ];
      placed = λ all q here. elim (cases_eq q place) as (λ _. 0 < q) [
        | inl e ↦ omega (arith, e, some)
        | inr ne ↦ all q (sym (waits_set_other marks place q true ne) ∙ here)
      ];
      falls = omega (
        arith,
        waiting_more marks place (omega (arith, inside, sized)),
        ranks_fall rank height values place new inside
            ((option_ranked_on ranks).falls (value_of values place) new (shaped place) new_ok new_above more),
      );
    }
      where
        new_there : new ≡ None → ⊥
        new_there e = no_slot widened (value_of values place) x e

    -- The state didn't grow.
    stayed : option_leq leq new (value_of values place) ≡ true → slice_set values place new ≡ values
    stayed less =
        ap (slice_set values place)
        ((option_lattice_on laws).both new (value_of values place) new_ok (shaped place) less new_above) ∙
        value_set_own values place

    pub comes_follows : (later : List (Option D)) (after : List Bool) → Comes leq widened place x values marks later after →
        Follows P leq rank height values marks later after
    unfolding new
    comes_follows later after comes = elim (cases_Bool (option_leq leq new (value_of values place)))
        as (λ _. Follows P leq rank height values marks later after) [
          | inl less ↦ subst (Follows P leq rank height values marks later)
              (sym (comes.mark ∙ ap (λ (b : Bool). if not b then slice_set marks place true else marks) less))
              (subst (λ (v : List (Option D)). Follows P leq rank height values marks v marks)
              (sym (comes.slot ∙ stayed less)) (follows_same values marks shaped))
          | inr more ↦ subst (Follows P leq rank height values marks later)
              (sym (comes.mark ∙ ap (λ (b : Bool). if not b then slice_set marks place true else marks) more))
              (subst (λ (v : List (Option D)). Follows P leq rank height values marks v (slice_set marks place true))
              (sym comes.slot) (grew more))
        ]

    pub comes_holds : (later : List (Option D)) (after : List Bool) → Comes leq widened place x values marks later after →
        option_leq leq (Some x) (value_of later place) ≡ true
    unfolding new
    comes_holds later after comes =
        subst (λ (z : Option D). option_leq leq (Some x) z ≡ true)
        (sym (ap (λ (v : List (Option D)). value_of v place) comes.slot ∙ value_set_same values place new inside)) new_holds

  -- A test that widening keeps is passed later too.
  pub comes_passes : (test : ℕ → D → Bool) →
      ((place : ℕ) (y z : D) → P y → P z → test place y ≡ true → test place z ≡ true → test place (widened y z) ≡ true) →
      (place : ℕ) (x : D) (values : List (Option D)) (marks : List Bool) (later : List (Option D)) (after : List Bool) →
      ((q : ℕ) → option_ok P (value_of values q)) → P x → place < length values →
      Comes leq widened place x values marks later after → test place x ≡ true → Passes test values → Passes test later
  comes_passes test kept place x values marks later after shaped ok inside comes here all q y there =
      elim (cases_eq q place) as (λ _. test q y ≡ true) [
        | inl e ↦ subst (λ (n : ℕ). test n y ≡ true) (sym e)
            (widens_to (value_of values place) refl (sym slot_is ∙ ap (value_of later) (sym e) ∙ there))
        | inr ne ↦ all q y (sym (value_set_other values place q (option_joined widened (value_of values place) (Some x)) ne) ∙
            sym (ap (λ (v : List (Option D)). value_of v q) comes.slot) ∙ there)
      ]
    where
      slot_is : value_of later place ≡ option_joined widened (value_of values place) (Some x)
      slot_is = ap (λ (v : List (Option D)). value_of v place) comes.slot ∙
          value_set_same values place (option_joined widened (value_of values place) (Some x)) inside

      widens_to : (old : Option D) → value_of values place ≡ old → option_joined widened (value_of values place) (Some x) ≡ Some y →
          test place y ≡ true
      widens_to None e is = subst (λ (z : D). test place z ≡ true)
          (same_Some x y (sym (ap (λ (o : Option D). option_joined widened o (Some x)) e) ∙ is)) here
      widens_to (Some z) e is = subst (λ (w : D). test place w ≡ true)
          (same_Some (widened z x) y (sym (ap (λ (o : Option D). option_joined widened o (Some x)) e) ∙ is))
          (kept place z x (subst (option_ok P) e (shaped place)) ok (all place z e) here)
