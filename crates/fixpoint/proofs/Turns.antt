-- One turn of the solver: a waiting place is taken, and its outcome comes to the places behind its arcs.
use Rattle.std.specs.Prelude.{◌≡◌, ℕ, ◌+◌, ◌*◌, ◌<◌, ◌≤◌, Bool, true, false, List, length, Option, None, Some, slice_set}
use Rattle.std.proofs.Common.{◌∙◌, ap, arith, inl, inr, subst, sym}
use Rattle.std.proofs.lemmas.Bool.{cases_Bool, cases_eq, false≢true}
use Rattle.std.proofs.lemmas.List.{length-set}
use Rattle.std.proofs.lemmas.Option.{same_Some}
use Rattle.domain_laws.specs.Laws.{IsLatticeOn}
use Rattle.domain_laws.specs.Options.{option_ok, option_leq, option_lattice_on}
use Rattle.flow_net.specs.Numbers.{item_at}
use Rattle.flow_net.specs.declared.net.NetArc.{NetArc}
use Rattle.fixpoint.specs.Solved.{IsKept}
use Rattle.fixpoint.specs.Values.{value_of, waits, Passes}
use Rattle.fixpoint.specs.Steps.{Follows, Holds, ranks_of, waiting}
use Rattle.fixpoint.proofs.Slots.{waits_set_same, waits_set_other, waiting_less}

module _ {D : Type 0} (P : D → Type 0) (leq : D → D → Bool) (joined widened : D → D → D) (rank : D → ℕ) (height : ℕ)
    (stepped moved : ℕ → D → D) (arcs : List NetArc) (slots : ℕ) (start : D) (laws : IsLatticeOn P leq joined)
    (values : List (Option D)) (marks : List Bool) (place : ℕ) (x : D)
    (holds : Holds P leq widened stepped moved arcs slots start values marks)
    (here : waits marks place ≡ true) (there : value_of values place ≡ Some x) (inside : place < length marks)
    (later : List (Option D)) (after : List Bool)
    (follows : Follows P leq rank height values (slice_set marks place false) later after)
    -- The outcomes of the place are there.
    (come : (number : ℕ) (arc : NetArc) → item_at number arcs ≡ Some arc → arc.from ≡ place → 0 < arc.to →
    option_leq leq (Some (moved number (stepped place x))) (value_of later arc.to) ≡ true)
    (outcome_ok : (number : ℕ) (arc : NetArc) (y : D) → item_at number arcs ≡ Some arc → 0 < arc.from → P y →
    P (moved number (stepped arc.from y)))
    (passed : (test : ℕ → D → Bool) → IsKept P widened stepped moved arcs test → Passes test values → Passes test later) where
  rises : (y : D) (q : ℕ) → P y → option_leq leq (Some y) (value_of values q) ≡ true →
      option_leq leq (Some y) (value_of later q) ≡ true
  rises y q ok h = (option_lattice_on laws).chain (Some y) (value_of values q) (value_of later q) ok
      (holds.shaped q) (follows.shaped q) h (follows.grows q)

  not_waiting : (q : ℕ) → waits after q ≡ false → (q ≡ place → ⊥) → waits marks q ≡ false
  not_waiting q none ne = elim (cases_Bool (waits marks q)) as (λ _. waits marks q ≡ false) [
    | inl waited ↦ absurd (false≢true (sym none ∙ follows.keeps q (waits_set_other marks place q false ne ∙ waited)))
    | inr gone ↦ gone
  ]

  pub turn : (start_ok : P start) → Holds P leq widened stepped moved arcs slots start later after
  turn start_ok = record {
    size = follows.size ∙ holds.size;
    sizes = follows.sizes ∙ length-set marks place false ∙ holds.sizes;
    shaped = follows.shaped;
    queued = follows.there (λ q waited. elim (cases_eq q place) as (λ _. value_of values q ≡ None → ⊥) [
      | inl e ↦ absurd (false≢true (sym (ap (waits (slice_set marks place false)) e ∙ waits_set_same marks place false inside) ∙ waited))
      | inr ne ↦ holds.queued q (sym (waits_set_other marks place q false ne) ∙ waited)
    ]);
    placed = follows.placed (λ q waited. elim (cases_eq q place) as (λ _. 0 < q) [
      | inl e ↦ absurd (false≢true (sym (ap (waits (slice_set marks place false)) e ∙ waits_set_same marks place false inside) ∙ waited))
      | inr ne ↦ holds.placed q (sym (waits_set_other marks place q false ne) ∙ waited)
    ]);
    begun = λ arc first. rises start arc.to start_ok (holds.begun arc first);
    settled = λ number arc y at from to value none. elim (cases_eq arc.from place)
        as (λ _. option_leq leq (Some (moved number (stepped arc.from y))) (value_of later arc.to) ≡ true) [
          | inl e ↦
              let same : x ≡ y = same_Some x y (sym there ∙ ap (value_of values) (sym e) ∙ sym (follows.same arc.from none) ∙ value) in
              subst (λ (z : D). option_leq leq (Some (moved number (stepped arc.from z))) (value_of later arc.to) ≡ true) same
              (subst (λ (p : ℕ). option_leq leq (Some (moved number (stepped p x))) (value_of later arc.to) ≡ true) (sym e)
              (come number arc at e to))
          | inr ne ↦
              let old : value_of values arc.from ≡ Some y = sym (follows.same arc.from none) ∙ value in
              rises (moved number (stepped arc.from y)) arc.to
              (outcome_ok number arc y at from (subst (option_ok P) old (holds.shaped arc.from)))
              (holds.settled number arc y at from to old (not_waiting arc.from none ne))
        ];
    tests = λ test kept first. passed test kept (holds.tests test kept first);
  }

  -- There is less to do.
  pub turn_less : 2 * ranks_of rank height later + waiting after + 1 ≤ 2 * ranks_of rank height values + waiting marks
  turn_less = omega (arith, follows.falls, waiting_less marks place inside here)
