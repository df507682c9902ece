-- The multipliers so far, and what can still come.
use Rattle.std.proofs.Common.{◌≡◌, ℕ, ◌+◌, ◌<◌, ◌≤◌, List, [], ◌∷◌, ◌++◌, length, get_or, drop, refl, sym, ap, subst, ◌∙◌, append_assoc, arith, codes, inl, inr}
use Rattle.std.specs.Prelude.{All, AllPairs, flat_map, pos}
use Rattle.std.specs.Fmt.{decimal, signed_decimal}
use Rattle.std.specs.List.{AllByRecursion}
use Rattle.std.proofs.Math.Seq.{get_or-append_seam}
use Rattle.std.proofs.Math.ListN.{get_or-append}
use Rattle.std.proofs.lemmas.Bool.{cases_lt}
use Rattle.std.proofs.lemmas.List.{append-nil, length-append}
use Rattle.std.proofs.lemmas.List.Elements.{All-nil, All-push}
use Rattle.std.proofs.lemmas.List.Quantifiers.{all_pairs_push}
use Rattle.ipet_program.specs.declared.leaf.Weight.{Weight}
use Rattle.cert_check.specs.Lines.{FitsWeight}
use Rattle.cert_check.specs.Numbers.{IsStop}
use Rattle.cert_check.specs.Texts.{weight_text}
use Rattle.cert_check.specs.Weights.{AreWeights}
use Rattle.cert_check.proofs.Lists.{flat_front, flat_push, head_same, tail_same}

-- The rows are below a number.
abbrev pub AreUnder : ℕ → List Weight → Type 0
AreUnder low weights = (k : ℕ) (d : Weight) → k < length weights → (get_or weights k d).row < low

-- What a line's multipliers still have behind the ones so far.
pub record Ahead (weights : List Weight) (rest : List ℕ) (all : List Weight) (behind : List ℕ) : Type 0 where
  pub more : List Weight
  pub parts : all ≡ weights ++ more
  pub text : rest ≡ flat_map weight_text more ++ 10 ∷ behind

-- The multipliers so far stand in front; `low` is the least number above their rows.
pub record AreSoFar (bytes : List ℕ) (weights : List Weight) (low : ℕ) (rest : List ℕ) : Type 0 where
  pub front : bytes ≡ flat_map weight_text weights ++ rest
  pub are : AreWeights weights
  pub under : AreUnder low weights
  pub least : (bound : ℕ) → AreUnder bound weights → low ≤ bound
  pub ahead : (all : List Weight) (behind : List ℕ) → AreWeights all →
      bytes ≡ flat_map weight_text all ++ 10 ∷ behind → Ahead weights rest all behind

fit_push : (weights : List Weight) (weight : Weight) → AllByRecursion FitsWeight weights → FitsWeight weight →
    AllByRecursion FitsWeight (weights ++ weight ∷ [])
fit_push [] weight h k = (k, tt)
fit_push (w ∷ weights) weight h k = (h.0, fit_push weights weight h.1 k)

fit_there : (weights : List Weight) (weight : Weight) (more : List Weight) →
    AllByRecursion FitsWeight (weights ++ weight ∷ more) → FitsWeight weight
fit_there [] weight more h = h.0
fit_there (w ∷ weights) weight more h = fit_there weights weight more h.1

under_push : (weights : List Weight) (weight : Weight) (low : ℕ) → AreUnder low weights → low ≤ weight.row →
    AreUnder (weight.row + 1) (weights ++ weight ∷ [])
under_push weights weight low h le k d lt =
    elim (cases_lt k (length weights)) [
      | inl l ↦ rw (get_or-append weights (weight ∷ []) d k l) (omega (arith, h k d l, le))
      | inr r ↦
          let e : k ≡ length weights = omega (arith, lt, r, length-append weights (weight ∷ [])) in
          rw (e, get_or-append_seam weights weight [] d) (omega arith)
    ]

-- A row of the whole line stands above those in front of it.
row_above : (weights : List Weight) (weight : Weight) (more : List Weight) →
    AllPairs (λ w v. w.row < v.row) (weights ++ weight ∷ more) → AreUnder weight.row weights
row_above weights weight more h k d lt =
    let long : length weights < length (weights ++ weight ∷ more) = omega (arith, length-append weights (weight ∷ more)) in
    rw (get_or-append weights (weight ∷ more) d k lt, get_or-append_seam weights weight more d) at (h k (length weights) d lt long)

-- No multiplier of the whole line is 0.
some_there : (weights : List Weight) (weight : Weight) (more : List Weight) →
    All (λ w. w.times ≡ pos 0 → ⊥) (weights ++ weight ∷ more) → weight.times ≡ pos 0 → ⊥
some_there weights weight more h =
    let long : length weights < length (weights ++ weight ∷ more) = omega (arith, length-append weights (weight ∷ more)) in
    subst (λ (w : Weight). w.times ≡ pos 0 → ⊥) (get_or-append_seam weights weight more weight) (h (length weights) weight long)

-- What stands behind a multiplier begins with no digit.
pub record Stop (text : List ℕ) : Type 0 where
  pub stop : ℕ
  pub rest : List ℕ
  pub ends : IsStop stop
  pub is : text ≡ stop ∷ rest

pub stops : (weights : List Weight) (behind : List ℕ) → Stop (flat_map weight_text weights ++ 10 ∷ behind)
stops [] behind = record { stop = 10; rest = behind; ends = λ h. absurd (omega arith); is = refl }
stops (weight ∷ weights) behind = record {
  stop = 32;
  rest = (decimal weight.row ++ codes ":" ++ signed_decimal weight.times) ++ (flat_map weight_text weights ++ 10 ∷ behind);
  ends = λ h. absurd (omega arith);
  is = flat_front weight_text weight weights (10 ∷ behind);
}

-- The line goes on with a multiplier.
pub record Next (weights : List Weight) (rest : List ℕ) (all : List Weight) (behind : List ℕ) : Type 0 where
  pub weight : Weight
  pub more : List Weight
  pub parts : all ≡ weights ++ weight ∷ more
  pub fits : FitsWeight weight
  pub row : AreUnder weight.row weights
  pub some : weight.times ≡ pos 0 → ⊥
  pub stop : ℕ
  pub after : List ℕ
  pub ends : IsStop stop
  pub here : rest ≡ weight_text weight ++ stop ∷ after
  pub tail : stop ∷ after ≡ flat_map weight_text more ++ 10 ∷ behind

next_by : (weights : List Weight) (rest : List ℕ) (all : List Weight) (behind : List ℕ) → AreWeights all →
    ((r : List ℕ) → rest ≡ 10 ∷ r → ⊥) → (more : List Weight) → all ≡ weights ++ more →
    rest ≡ flat_map weight_text more ++ 10 ∷ behind → Next weights rest all behind
next_by weights rest all behind are other [] e t = absurd (other behind t)
next_by weights rest all behind are other (weight ∷ more) e t =
    let s = stops more behind in
    record {
      weight = weight;
      more = more;
      parts = e;
      fits = fit_there weights weight more (subst (AllByRecursion FitsWeight) e are.fit);
      row = row_above weights weight more (subst (λ (ws : List Weight). AllPairs (λ w v. w.row < v.row) ws) e are.rising);
      some = some_there weights weight more (subst (λ (ws : List Weight). All (λ w. w.times ≡ pos 0 → ⊥) ws) e are.some);
      stop = s.stop;
      after = s.rest;
      ends = s.ends;
      here = t ∙ flat_front weight_text weight more (10 ∷ behind) ∙ ap (λ (x : List ℕ). weight_text weight ++ x) s.is;
      tail = sym s.is;
    }

-- Where the line isn't at its end, it goes on with a multiplier.
pub next_of : (bytes : List ℕ) (weights : List Weight) (low : ℕ) (rest : List ℕ) → AreSoFar bytes weights low rest →
    ((r : List ℕ) → rest ≡ 10 ∷ r → ⊥) → (all : List Weight) (behind : List ℕ) → AreWeights all →
    bytes ≡ flat_map weight_text all ++ 10 ∷ behind → Next weights rest all behind
next_of bytes weights low rest h other all behind are e =
    let a = h.ahead all behind are e in
    next_by weights rest all behind are other a.more a.parts a.text

over_by : (weights : List Weight) (rest : List ℕ) (all : List Weight) (behind : List ℕ) →
    (r : List ℕ) → rest ≡ 10 ∷ r → (more : List Weight) → all ≡ weights ++ more →
    rest ≡ flat_map weight_text more ++ 10 ∷ behind → (weights ≡ all) × (r ≡ behind)
over_by weights rest all behind r end [] e t = (sym (e ∙ append-nil weights), tail_same (sym end ∙ t))
over_by weights rest all behind r end (weight ∷ more) e t =
    let apart : 10 ≡ 32 = head_same (sym end ∙ t ∙ flat_front weight_text weight more (10 ∷ behind)) in
    absurd (omega (arith, apart))

-- Where the line is at its end, these are all of its multipliers.
pub over : (bytes : List ℕ) (weights : List Weight) (low : ℕ) (rest : List ℕ) → AreSoFar bytes weights low rest →
    (r : List ℕ) → rest ≡ 10 ∷ r → (all : List Weight) (behind : List ℕ) → AreWeights all →
    bytes ≡ flat_map weight_text all ++ 10 ∷ behind → (weights ≡ all) × (r ≡ behind)
over bytes weights low rest h r end all behind are e =
    let a = h.ahead all behind are e in
    over_by weights rest all behind r end a.more a.parts a.text

pub none_yet : (bytes : List ℕ) → AreSoFar bytes [] 0 bytes
none_yet bytes = record {
  front = refl;
  are = record { fit = tt; rising = λ i j d lt le. absurd (omega arith); some = All-nil _ };
  under = λ k d lt. absurd (omega arith);
  least = λ bound h. omega arith;
  ahead = λ all behind are e. record { more = all; parts = refl; text = e };
}

-- A multiplier more.
pub one_more : (bytes : List ℕ) (weights : List Weight) (low : ℕ) (rest : List ℕ) → AreSoFar bytes weights low rest →
    ((r : List ℕ) → rest ≡ 10 ∷ r → ⊥) → (weight : Weight) (behind : List ℕ) → FitsWeight weight →
    low ≤ weight.row → (weight.times ≡ pos 0 → ⊥) → rest ≡ weight_text weight ++ behind →
    ((w : Weight) (stop : ℕ) (after : List ℕ) → FitsWeight w → IsStop stop → rest ≡ weight_text w ++ stop ∷ after →
    (weight ≡ w) × (behind ≡ stop ∷ after)) → AreSoFar bytes (weights ++ weight ∷ []) (weight.row + 1) behind
one_more bytes weights low rest h other weight behind fits le some here only = record {
  front =
      h.front ∙ ap (λ (t : List ℕ). flat_map weight_text weights ++ t) here
      ∙ sym (append_assoc (flat_map weight_text weights) (weight_text weight) behind)
      ∙ ap (λ (t : List ℕ). t ++ behind) (sym (flat_push weight_text weights weight));
  are = record {
    fit = fit_push weights weight h.are.fit fits;
    rising = all_pairs_push (λ w v. w.row < v.row) weights weight h.are.rising (λ k d lt. omega (arith, h.under k d lt, le));
    some = All-push (λ w. w.times ≡ pos 0 → ⊥) weights weight h.are.some some;
  };
  under = under_push weights weight low h.under le;
  least = λ bound under.
      let long : length weights < length (weights ++ weight ∷ []) = omega (arith, length-append weights (weight ∷ [])) in
      let last : weight.row < bound =
      subst (λ (w : Weight). w.row < bound) (get_or-append_seam weights weight [] weight) (under (length weights) weight long) in
      omega arith;
  ahead = λ all after are e.
      let n = next_of bytes weights low rest h other all after are e in
      let same = only n.weight n.stop n.after n.fits n.ends n.here in
      record {
        more = n.more;
        parts = n.parts ∙ ap (λ (w : Weight). weights ++ w ∷ n.more) (sym same.0) ∙ sym (append_assoc weights (weight ∷ []) n.more);
        text = same.1 ∙ n.tail;
      };
}
