-- What holds of the table when no place waits.
use Rattle.std.specs.Prelude.{◌≡◌, ℕ, ◌<◌, Bool, true, false, List, [], ◌∷◌, length, Option, None, Some, refl}
use Rattle.std.proofs.Common.{◌∙◌, ap, arith, subst, sym}
use Rattle.std.proofs.lemmas.Bool.{false≢true}
use Rattle.domain_laws.specs.Laws.{IsLatticeOn, IsRankedOn, IsWideningOn}
use Rattle.domain_laws.specs.Options.{option_ok, option_leq}
use Rattle.std.proofs.lemmas.Option.{none-some, same_Some}
use Rattle.fixpoint.specs.Coming.{Comes}
use Rattle.flow_net.specs.Numbers.{item_at}
use Rattle.flow_net.specs.Paths.{IsPath, IsRunPath}
use Rattle.flow_net.specs.declared.net.NetArc.{NetArc}
use Rattle.fixpoint.specs.Solved.{AreCeilings, IsClosed, Starts}
use Rattle.fixpoint.specs.Values.{value_of, waits}
use Rattle.fixpoint.specs.Steps.{Follows, Holds}
use Rattle.fixpoint.proofs.Arriving.{comes_follows, comes_holds, comes_passes}

above_some : {D : Type 0} (leq : D → D → Bool) (x : D) (z : Option D) → option_leq leq (Some x) z ≡ true → z ≡ None → ⊥
above_some {D} leq x z h e =
    false≢true (sym (ap (λ (o : Option D). option_leq leq (Some x) o) e) ∙ h)

path_some : (arcs : List NetArc) (from : ℕ) (numbers : List ℕ) (to : ℕ) → 0 < to → IsPath arcs from numbers to → 0 < from
path_some arcs from [] to some path = omega (arith, some, path)
path_some arcs from (number ∷ numbers) to some path = path.0

module _ {D : Type 0} (P : D → Type 0) (leq : D → D → Bool) (widened : D → D → D) (stepped moved : ℕ → D → D)
    (arcs : List NetArc) (slots : ℕ) (start : D) (values : List (Option D)) (marks : List Bool)
    (holds : Holds P leq widened stepped moved arcs slots start values marks)
    (none : (place : ℕ) → waits marks place ≡ false) where
  pub ends_started : Starts leq arcs start values
  ends_started arc y first there =
      subst (λ (z : Option D). option_leq leq (Some start) z ≡ true) there (holds.begun arc first)

  pub ends_closed : IsClosed leq stepped moved arcs values
  ends_closed number arc x y at from to here there =
      subst (λ (z : Option D). option_leq leq (Some (moved number (stepped arc.from x))) z ≡ true) there
      (holds.settled number arc x at from to here (none arc.from))

  -- A state has come behind each arc that leaves a place with one.
  behind : (number : ℕ) (arc : NetArc) → item_at number arcs ≡ Some arc → 0 < arc.from → 0 < arc.to →
      (value_of values arc.from ≡ None → ⊥) → value_of values arc.to ≡ None → ⊥
  behind number arc at from to there = told (value_of values arc.from) refl
    where
      told : (z : Option D) → value_of values arc.from ≡ z → value_of values arc.to ≡ None → ⊥
      told None e = absurd (there e)
      told (Some x) e = above_some leq (moved number (stepped arc.from x)) (value_of values arc.to)
          (holds.settled number arc x at from to e (none arc.from))

  -- And so to each place of a path.
  come_on : (from : ℕ) (numbers : List ℕ) (to : ℕ) → 0 < to → IsPath arcs from numbers to →
      (value_of values from ≡ None → ⊥) → value_of values to ≡ None → ⊥
  come_on from [] to some path there = λ empty. there (ap (value_of values) path ∙ empty)
  come_on from (number ∷ numbers) to some path there =
      let arc = path.1.0 in
      come_on arc.to numbers to some path.1.3
      (behind number arc path.1.1 (subst (λ (n : ℕ). 0 < n) (sym path.1.2) path.0)
      (path_some arcs arc.to numbers to some path.1.3)
      (λ e. there (ap (value_of values) (sym path.1.2) ∙ e)))

  pub ends_full : (place : ℕ) → 0 < place → (numbers : List ℕ) → IsRunPath arcs numbers place →
      value_of values place ≡ None → ⊥
  ends_full place some [] path = absurd path
  ends_full place some (number ∷ numbers) path =
      let arc = path.1.0 in
      come_on arc.to numbers place some path.1.3
      (above_some leq start (value_of values arc.to)
      (holds.begun arc (subst (λ (n : ℕ). item_at n arcs ≡ Some arc) path.0 path.1.1)))

  -- The table is under each table of ceilings.
  pub ends_under : (joined : D → D → D) (laws : IsLatticeOn P leq joined)
      (rises : (number : ℕ) (arc : NetArc) (x y : D) → item_at number arcs ≡ Some arc → 0 < arc.from → P x → P y →
      leq x y ≡ true → leq (moved number (stepped arc.from x)) (moved number (stepped arc.from y)) ≡ true)
      (kept : (number : ℕ) (arc : NetArc) (x : D) → item_at number arcs ≡ Some arc → 0 < arc.from → P x →
      P (moved number (stepped arc.from x))) →
      (ceiling : ℕ → D) → AreCeilings P leq widened stepped moved arcs start ceiling →
      (place : ℕ) (x : D) → value_of values place ≡ Some x → leq x (ceiling place) ≡ true
  ends_under joined laws rises kept ceiling are =
      holds.tests (λ q x. leq x (ceiling q))
      (record {
        along = λ number arc x at from to ok under.
            laws.chain (moved number (stepped arc.from x)) (moved number (stepped arc.from (ceiling arc.from))) (ceiling arc.to)
            (kept number arc x at from ok) (kept number arc (ceiling arc.from) at from (are.shaped arc.from)) (are.shaped arc.to)
            (rises number arc x (ceiling arc.from) at from ok (are.shaped arc.from) under)
            (are.closed number arc at from to);
        widens = λ q x y p r h k. (are.ceilings q).above x y p r h k;
      })
      (λ arc first. are.starts arc first)

-- The start has come to the first place, and nothing else has happened.
pub first_held : {D : Type 0} (P : D → Type 0) (leq : D → D → Bool) (joined widened : D → D → D) (rank : D → ℕ) (height : ℕ)
    (stepped moved : ℕ → D → D) (arcs : List NetArc) (slots : ℕ) (start : D) (laws : IsLatticeOn P leq joined)
    (ranks : IsRankedOn P leq rank height) (widens : IsWideningOn P leq widened)
    (values : List (Option D)) (marks : List Bool) (later : List (Option D)) (left : List Bool) (arc : NetArc) →
    length values ≡ slots → length marks ≡ length values → ((q : ℕ) → value_of values q ≡ None) →
    ((q : ℕ) → waits marks q ≡ false) → item_at 1 arcs ≡ Some arc → 0 < arc.to → arc.to < slots → P start →
    Comes leq widened arc.to start values marks later left →
    Holds P leq widened stepped moved arcs slots start later left
first_held {D} P leq joined widened rank height stepped moved arcs slots start laws ranks widens values marks later left arc
    size sized blank unmarked first some inside ok comes = record {
      size = follows.size ∙ size;
      sizes = follows.sizes ∙ sized ∙ size;
      shaped = follows.shaped;
      queued = follows.there (λ q waited. absurd (false≢true (sym (unmarked q) ∙ waited)));
      placed = follows.placed (λ q waited. absurd (false≢true (sym (unmarked q) ∙ waited)));
      begun = λ other at. subst (λ (a : NetArc). option_leq leq (Some start) (value_of later a.to) ≡ true)
          (same_Some arc other (sym first ∙ at)) holds;
      settled = λ number other x at from to there none.
          absurd (none-some x (sym (follows.same other.from none ∙ blank other.from) ∙ there));
      tests = λ test kept passes. comes_passes P leq joined widened rank height laws ranks widens test kept.widens arc.to start
          values marks later left shaped ok (omega (arith, inside, size)) comes (passes arc first)
          (λ q x there. absurd (none-some x (sym (blank q) ∙ there)));
    }
  where
    shaped : (q : ℕ) → option_ok P (value_of values q)
    shaped q = subst (option_ok P) (sym (blank q)) tt

    follows : Follows P leq rank height values marks later left
    follows = comes_follows P leq joined widened rank height laws ranks widens arc.to start values marks shaped ok
        (omega (arith, inside, size)) sized some later left comes

    holds : option_leq leq (Some start) (value_of later arc.to) ≡ true
    holds = comes_holds P leq joined widened rank height laws ranks widens arc.to start values marks shaped ok
        (omega (arith, inside, size)) sized some later left comes
