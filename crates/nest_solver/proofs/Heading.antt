-- Headers marked one loop instance after the other.
use Rattle.std.proofs.Common.{◌≡◌, ℕ, ◌+◌, ◌-◌, ◌<◌, ◌≤◌, length, get_or, Some, Option, sym, ap, ◌∙◌, subst, inl, inr, arith}
use Rattle.std.proofs.lemmas.Bool.{cases_eq}
use Rattle.flow_net.specs.Numbers.{item_at, IsNumberOf}
use Rattle.flow_net.specs.Nested.{IsNested}
use Rattle.flow_net.specs.declared.net.LoopInst.{LoopInst}
use Rattle.flow_net.specs.declared.net.Net.{Net}
use Rattle.flow_net.proofs.Numbers.{item_at-within, item_at-all, item_at-same}
use Rattle.nest_solver.specs.Nets.{HasHeaders, header_of}
use Rattle.nest_solver.specs.Shape.{IsUpTo}
use Rattle.nest_solver.proofs.Deeps.{inst_at, no_inst}
use Rattle.nest_solver.proofs.Puts.{Puts}

-- The headers of the loop instances of numbers below `high` are marked.
pub record AreMarked (net : Net) (headed : ℕ → ℕ) (high : ℕ) : Type 0 where
  pub own : (scope : ℕ) (inst : LoopInst) → scope < high → item_at scope net.loops ≡ Some inst →
      headed inst.header ≡ scope
  pub only : (place : ℕ) → 0 < headed place →
      (inst : LoopInst) × (item_at (headed place) net.loops ≡ Some inst) × (inst.header ≡ place)

pub header-up : (net : Net) → IsNested net → (scope : ℕ) → IsUpTo (length net.loops) scope →
    IsUpTo (length net.places) (header_of (item_at scope net.loops))
header-up net nested scope up =
    let there = inst_at net.loops scope up in
    let inst = get_or net.loops (scope - 1) no_inst in
    let header = item_at-all (λ (i : LoopInst). IsNumberOf net.places i.header) net.loops scope inst
    nested.numbers.headers there in
    subst (λ (found : Option LoopInst). IsUpTo (length net.places) (header_of found)) (sym there)
    (header.from_one, header.within)

pub marked-none : (net : Net) (headed : ℕ → ℕ) → ((place : ℕ) → headed place ≡ 0) → AreMarked net headed 1
marked-none net headed fresh = record {
  own = λ scope inst low there. absurd (omega (arith, low, (item_at-within net.loops scope inst there).from_one));
  only = λ place some. absurd (omega (arith, some, fresh place));
}

pub marked-more : (net : Net) → IsNested net → (headed headed2 : ℕ → ℕ) (n : ℕ) → IsUpTo (length net.loops) n →
    AreMarked net headed n → Puts headed headed2 (header_of (item_at n net.loops)) n → AreMarked net headed2 (n + 1)
marked-more net nested headed headed2 n up were puts =
    by (get_or net.loops (n - 1) no_inst) (inst_at net.loops n up)
    (subst (λ (found : Option LoopInst). Puts headed headed2 (header_of found) n) (inst_at net.loops n up) puts)
  where
    by : (last : LoopInst) → item_at n net.loops ≡ Some last → Puts headed headed2 last.header n →
        AreMarked net headed2 (n + 1)
    by last there puts = record { own = own; only = only }
      where
        own : (scope : ℕ) (inst : LoopInst) → scope < n + 1 → item_at scope net.loops ≡ Some inst →
            headed2 inst.header ≡ scope
        own scope inst low e = elim (cases_eq scope n) as (λ _. headed2 inst.header ≡ scope) [
          | inl same ↦ ap (λ (i : LoopInst). headed2 i.header)
              (item_at-same net.loops n inst last (subst (λ (k : ℕ). item_at k net.loops ≡ Some inst) same e) there)
              ∙ puts.here ∙ sym same
          | inr differ ↦ puts.others inst.header
              (λ same. differ (nested.distinct scope n inst last e there same))
              ∙ were.own scope inst (omega (arith, low, differ)) e
        ]

        only : (place : ℕ) → 0 < headed2 place →
            (inst : LoopInst) × (item_at (headed2 place) net.loops ≡ Some inst) × (inst.header ≡ place)
        only place some = elim (cases_eq place last.header)
            as (λ _. (inst : LoopInst) × (item_at (headed2 place) net.loops ≡ Some inst) × (inst.header ≡ place)) [
              | inl same ↦ (
                last,
                subst (λ (k : ℕ). item_at k net.loops ≡ Some last) (sym (ap headed2 same ∙ puts.here)) there,
                sym same,
              )
              | inr differ ↦ subst (λ (k : ℕ). (inst : LoopInst) × (item_at k net.loops ≡ Some inst) × (inst.header ≡ place))
                  (sym (puts.others place differ)) (were.only place (omega (arith, some, puts.others place differ)))
            ]

pub marked-all : (net : Net) (headed : ℕ → ℕ) (high : ℕ) → length net.loops < high → AreMarked net headed high →
    HasHeaders net headed
marked-all net headed high enough marked = record {
  own = λ scope inst there. marked.own scope inst (omega (arith, enough, (item_at-within net.loops scope inst there).within)) there;
  only = marked.only;
}

-- A mark is the number of a loop instance, or 0.
pub marks-low : (net : Net) (headed : ℕ → ℕ) (place : ℕ) → HasHeaders net headed → headed place ≤ length net.loops
marks-low net headed place headers = elim (cases_eq (headed place) 0) as (λ _. headed place ≤ length net.loops) [
  | inl none ↦ omega (arith, none)
  | inr some ↦ let h = headers.only place (omega (arith, some)) in
      (item_at-within net.loops (headed place) h.0 h.1).within
]
