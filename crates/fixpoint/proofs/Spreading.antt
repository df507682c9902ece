-- The outcome of a place comes along the arcs that leave it, one after another.
use Rattle.std.specs.Prelude.{◌≡◌, ℕ, zero, suc, ◌<◌, Bool, true, List, [], ◌∷◌, length, Option, Some, refl}
use Rattle.std.proofs.Common.{◌∙◌, ◌⊎◌, ap, arith, get_or, inl, inr, subst, sym}
use Rattle.std.proofs.lemmas.Option.{same_Some}
use Rattle.domain_laws.specs.Laws.{IsLatticeOn, IsRankedOn, IsWideningOn}
use Rattle.domain_laws.specs.Options.{option_ok, option_leq, option_lattice_on}
use Rattle.flow_net.specs.Numbers.{item_at}
use Rattle.flow_net.specs.declared.net.NetArc.{NetArc}
use Rattle.fixpoint.specs.Coming.{Comes}
use Rattle.fixpoint.specs.Steps.{Along, Follows, HasCome, IsIn, IsSpread}
use Rattle.fixpoint.specs.Values.{value_of}
use Rattle.fixpoint.proofs.Arriving.{comes_follows, comes_holds, comes_passes, follows_chain, follows_same}

module _ {D : Type 0} (P : D → Type 0) (leq : D → D → Bool) (joined widened : D → D → D) (rank : D → ℕ) (height : ℕ)
    (moved : ℕ → D → D) (arcs : List NetArc) (laws : IsLatticeOn P leq joined) (ranks : IsRankedOn P leq rank height)
    (widens : IsWideningOn P leq widened) (after : D) (numbers : List ℕ) (values : List (Option D)) (marks : List Bool)
    (shaped : (q : ℕ) → option_ok P (value_of values q))
    (all_ok : (number : ℕ) → IsIn number numbers → P (moved number after)) where
  pub spread_begins : IsSpread P leq widened rank height moved arcs after numbers numbers values marks values marks
  spread_begins = record {
    follows = follows_same P leq joined widened rank height laws ranks widens values marks shaped;
    come = λ number is. inl is;
    passed = λ test kept each all. all;
  }

  -- The outcome comes to the end of one more arc.
  module _ (number : ℕ) (rest : List ℕ) (later : List (Option D)) (left : List Bool) (next : List (Option D)) (on : List Bool)
      (spread : IsSpread P leq widened rank height moved arcs after numbers (number ∷ rest) values marks later left)
      (is : IsIn number numbers) (sized : length left ≡ length later) (end : NetArc) (at : item_at number arcs ≡ Some end) where
    spread_stops : end.to ≡ 0 → next ≡ later → on ≡ left →
        IsSpread P leq widened rank height moved arcs after numbers rest values marks next on
    spread_stops run_ends same stays =
        subst (λ (v : List (Option D)). IsSpread P leq widened rank height moved arcs after numbers rest values marks v on) (sym same)
        (subst (IsSpread P leq widened rank height moved arcs after numbers rest values marks later) (sym stays) (record {
          follows = spread.follows;
          come = λ other there. elim (spread.come other there) as (λ _. IsIn other rest ⊎ HasCome leq moved arcs after later other) [
            | inl (inl e) ↦ inr (λ arc found to. absurd (omega (
              arith,
              zero,
              to,
              ap (λ (a : NetArc). a.to)
                  (same_Some arc end (sym found ∙ ap (λ (n : ℕ). item_at n arcs) e ∙ at)),
            )))
            | inl (inr more) ↦ inl more
            | inr come ↦ inr come
          ];
          passed = spread.passed;
        }))

    module _ (to : 0 < end.to) (inside : end.to < length later)
        (comes : Comes leq widened end.to (moved number after) later left next on) where
      step : Follows P leq rank height later left next on
      step = comes_follows P leq joined widened rank height laws ranks widens end.to (moved number after) later left
          spread.follows.shaped (all_ok number is) inside sized to next on comes

      holds : option_leq leq (Some (moved number after)) (value_of next end.to) ≡ true
      holds = comes_holds P leq joined widened rank height laws ranks widens end.to (moved number after) later left
          spread.follows.shaped (all_ok number is) inside sized to next on comes

      spread_comes : IsSpread P leq widened rank height moved arcs after numbers rest values marks next on
      spread_comes = record {
        follows = follows_chain P leq joined widened rank height laws ranks widens values marks later left next on shaped spread.follows step;
        come = λ other there. elim (spread.come other there) as (λ _. IsIn other rest ⊎ HasCome leq moved arcs after next other) [
          | inl (inl e) ↦ inr (λ arc found some.
              let same : end ≡ arc = same_Some end arc (sym at ∙ ap (λ (n : ℕ). item_at n arcs) (sym e) ∙ found) in
              subst (λ (n : ℕ). option_leq leq (Some (moved n after)) (value_of next arc.to) ≡ true) (sym e)
              (subst (λ (a : NetArc). option_leq leq (Some (moved number after)) (value_of next a.to) ≡ true) same holds))
          | inl (inr more) ↦ inl more
          | inr come ↦ inr (λ arc found some. (option_lattice_on laws).chain (Some (moved other after)) (value_of later arc.to)
              (value_of next arc.to) (all_ok other there) (spread.follows.shaped arc.to) (step.shaped arc.to)
              (come arc found some) (step.grows arc.to))
        ];
        passed = λ test kept each all. comes_passes P leq joined widened rank height laws ranks widens test kept end.to
            (moved number after) later left next on spread.follows.shaped (all_ok number is) inside comes
            (each number end is at to) (spread.passed test kept each all);
      }

  pub spread_goes : (number : ℕ) (rest : List ℕ) (later : List (Option D)) (left : List Bool) (next : List (Option D)) (on : List Bool) →
      IsSpread P leq widened rank height moved arcs after numbers (number ∷ rest) values marks later left →
      IsIn number numbers → length left ≡ length later →
      ((arc : NetArc) → item_at number arcs ≡ Some arc → arc.to < length later) →
      Along leq widened moved arcs number after later left next on →
      IsSpread P leq widened rank height moved arcs after numbers rest values marks next on
  spread_goes number rest later left next on spread is sized inside along =
      elim along.ends as (λ _. IsSpread P leq widened rank height moved arcs after numbers rest values marks next on) [
        | inl (run_ends, same, stays) ↦
            spread_stops number rest later left next on spread is sized along.arc along.at run_ends same stays
        | inr (to, comes) ↦ spread_comes number rest later left next on spread is sized along.arc along.at to
            (inside along.arc along.at) comes
      ]

-- An item of a list is in it, as are those of its rest.
pub in_at : (numbers : List ℕ) (index : ℕ) → index < length numbers → IsIn (get_or numbers index 0) numbers
in_at [] index inside = absurd (omega (arith, inside))
in_at (number ∷ numbers) zero inside = inl refl
in_at (number ∷ numbers) (suc index) inside = inr (in_at numbers index (omega (arith, inside)))
