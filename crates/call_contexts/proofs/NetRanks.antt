-- The numbers of a net's places: they rise along its ways without back arcs, its calls, and its returns where the way
-- behind the call is no back arc. A loop's header has the least number of what its instance holds.
use Rattle.std.proofs.Common.{◌≡◌, ℕ, zero, suc, ◌<◌, ◌≤◌, inl, inr, List, [], ◌∷◌, Contains, map, length, slice_get, Option, Some, None, refl, sym, ap, subst, ◌∙◌, arith}
use Rattle.std.specs.List.{AllZip}
use Rattle.std.proofs.lemmas.Bool.{cases_eq}
use Rattle.std.proofs.lemmas.Option.{none-some, same_Some, slice_get_within}
use Rattle.elf_mips.specs.declared.image.Image.{Image}
use Rattle.flow_net.specs.Numbers.{item_at}
use Rattle.flow_net.specs.declared.net.Context.{Context}
use Rattle.flow_net.specs.declared.net.Net.{Net}
use Rattle.flow_net.specs.declared.net.Place.{Place}
use Rattle.unit_graph.specs.declared.graph.Graph.{Graph}
use Rattle.unit_graph.specs.declared.graph.Graphs.{Graphs}
use Rattle.net_model.specs.Contexts.{AreContexts, root}
use Rattle.net_model.specs.Functions.{IsFunction, IsReached, further, main}
use Rattle.net_model.specs.Loops.{GoesForward, HasRanks, IsInBody}
use Rattle.net_model.specs.Net.{IsNet}
use Rattle.net_model.specs.Places.{IsPlaceOf}
use Rattle.loop_nest.specs.Programs.{IsNestOf}
use Rattle.loop_nest.specs.declared.nest.Loop.{Loop}
use Rattle.loop_nest.specs.declared.nest.Nests.{Nests}
use Rattle.loop_nest.proofs.HeaderRank.{header-rank}
use Rattle.loop_nest.proofs.NestLaws.{nest-ranked}
use Rattle.loop_nest.proofs.Ordered.{cases-in, nothing-in}
use Rattle.loop_nest.proofs.Ranked.{IsRanked, inner-rank}
use Rattle.call_contexts.specs.Programs.{IsProgram}
use Rattle.call_contexts.proofs.NetItems.{context-at, place-within}
use Rattle.call_contexts.proofs.Numerals.{AreEarlier, call-rises, numeral, numeral-least, numeral-rises, return-rises, total, total-least}

-- The functions of all contexts have ranks.
abbrev pub AreRanked : Image → List Context → Type 0
AreRanked image contexts = (number : ℕ) (of : Context) → slice_get contexts number ≡ Some of → IsRanked image of.target

abbrev rank-by : (image : Image) (o : Option Context) → ((of : Context) → o ≡ Some of → IsRanked image of.target) → ℕ → ℕ
rank-by image None ranked address = 0
rank-by image (Some of) ranked address = (ranked of refl).ranks.rank address

rank-by-rises : (image : Image) (o : Option Context) (ranked : (of : Context) → o ≡ Some of → IsRanked image of.target) (of : Context) →
    o ≡ Some of → (address later : ℕ) → IsReached image of.target address → GoesForward image of.target address later →
    rank-by image o ranked address < rank-by image o ranked later
rank-by-rises image None ranked of there address later reached on = absurd (none-some of there)
rank-by-rises image (Some own) ranked of there address later reached on =
    let same : own ≡ of = same_Some own of there in
    (ranked own refl).ranks.rises address later
    (subst (λ (c : Context). IsReached image c.target address) (sym same) reached)
    (subst (λ (c : Context). GoesForward image c.target address later) (sym same) on)

-- Each context but the first is made by an earlier one.
pub contexts-earlier : (image : Image) (entry : ℕ) (contexts : List Context) → AreContexts image entry contexts → AreEarlier contexts
contexts-earlier image entry contexts are number of there positive = (are.made number of there positive).earlier

module _ (image : Image) (net : Net) (ranked : AreRanked image net.contexts) where
  -- The rank of an address in the function of a context.
  pub rank-in : (number address : ℕ) → ℕ
  rank-in number address = rank-by image (slice_get net.contexts number) (ranked number) address

  rank-rises : (number : ℕ) (of : Context) → slice_get net.contexts number ≡ Some of → (address later : ℕ) →
      IsReached image of.target address → GoesForward image of.target address later → rank-in number address < rank-in number later
  unfolding rank-in
  rank-rises number of there address later reached on =
      rank-by-rises image (slice_get net.contexts number) (ranked number) of there address later reached on

  abbrev ranks-in : (number : ℕ) (of : Context) → slice_get net.contexts number ≡ Some of → HasRanks image of.target
  ranks-in number of there = record { rank = rank-in number; rises = rank-rises number of there }

  -- A number above the ranks of all places.
  abbrev place-rank : Option Place → ℕ
  place-rank None = 0
  place-rank (Some place) = rank-in place.context place.address

  pub digits : ℕ
  digits = suc (total (λ number. place-rank (item_at number net.places)) (length net.places))

  digit-below : (number context address : ℕ) → IsPlaceOf net number context address → rank-in context address < digits
  unfolding digits
  digit-below number context address at =
      let least = total-least (λ n. place-rank (item_at n net.places)) (length net.places) number (place-within net number context address at) in
      let own : place-rank (item_at number net.places) ≡ rank-in context address =
      ap place-rank at.there ∙ ap (λ (c : ℕ). rank-in c at.place.address) at.within ∙ ap (rank-in context) at.same in
      omega (arith, least, own)

  -- The number of a unit in a context.
  pub numeral-of : (context address : ℕ) → ℕ
  numeral-of context address = numeral net.contexts rank-in digits (length net.contexts) context address

  pub forward-rises : (number : ℕ) (of : Context) → slice_get net.contexts number ≡ Some of → (address later : ℕ) →
      IsReached image of.target address → GoesForward image of.target address later → numeral-of number address < numeral-of number later
  unfolding numeral-of
  forward-rises number of there address later reached on =
      numeral-rises net.contexts rank-in digits (length net.contexts) number address later
      (rank-rises number of there address later reached on)

  pub made-rises : AreEarlier net.contexts → (number : ℕ) (of : Context) (address : ℕ) → slice_get net.contexts number ≡ Some of →
      0 < number → numeral-of of.parent of.site < numeral-of number address
  unfolding numeral-of
  made-rises earlier number of address there positive =
      call-rises net.contexts rank-in digits (length net.contexts) earlier number of address there positive

  pub back-rises : AreEarlier net.contexts → (number : ℕ) (of over : Context) (place address later : ℕ) →
      slice_get net.contexts number ≡ Some of → 0 < number → IsPlaceOf net place number address →
      slice_get net.contexts of.parent ≡ Some over → IsReached image over.target of.site →
      GoesForward image over.target of.site later → numeral-of number address < numeral-of of.parent later
  unfolding numeral-of
  back-rises earlier number of over place address later there positive at made reached on =
      return-rises net.contexts rank-in digits (length net.contexts) earlier number of address later there positive
      (slice_get_within net.contexts number of there) (digit-below place number address at)
      (rank-rises of.parent over made of.site later reached on)

  pub header-least : (number : ℕ) (of : Context) → slice_get net.contexts number ≡ Some of → (header address : ℕ) →
      IsInBody image of.target header address → numeral-of number header ≤ numeral-of number address
  unfolding numeral-of
  header-least number of there header address body =
      numeral-least net.contexts rank-in digits (length net.contexts) number header address
      (header-rank image of.target (ranks-in number of there) (ranked number of there).told header address body)

  pub header-less : (number : ℕ) (of : Context) → slice_get net.contexts number ≡ Some of → (header address : ℕ) →
      IsInBody image of.target header address → (header ≡ address → ⊥) → numeral-of number header < numeral-of number address
  unfolding numeral-of
  header-less number of there header address body differ =
      numeral-rises net.contexts rank-in digits (length net.contexts) number header address
      (inner-rank image of.target (ranks-in number of there) (ranked number of there).told header address body differ)

-- The functions of a program have ranks, by their loops.
listed-ranked : (image : Image) (function : ℕ) (graphs : List Graph) (nests : List (List Loop)) → AllZip (IsNestOf image) graphs nests →
    Contains (map (λ (g : Graph). g.entry) graphs) function → IsRanked image function
listed-ranked image function [] nests zip there = absurd (nothing-in function there)
listed-ranked image function (graph ∷ graphs) [] zip there = absurd zip
listed-ranked image function (graph ∷ graphs) (loops ∷ nests) zip there =
    elim (cases-in graph.entry (map (λ (g : Graph). g.entry) graphs) function there) [
      | inl same ↦ subst (IsRanked image) same (nest-ranked image graph.entry loops zip.0)
      | inr behind ↦ listed-ranked image function graphs nests zip.1 behind
    ]

-- The contexts of a program are those of its functions.
pub context-function : (image : Image) (entry : ℕ) (contexts : List Context) → AreContexts image entry contexts → (n number : ℕ) (of : Context) →
    number < n → slice_get contexts number ≡ Some of → IsFunction image entry of.target
context-function image entry contexts are zero number of low there = absurd (omega (arith, low))
context-function image entry contexts are (suc n) number of low there = elim (cases_eq number 0) as (λ _. IsFunction image entry of.target) [
  | inl zero_number ↦
      subst (λ (c : Context). IsFunction image entry c.target)
      (context-at contexts 0 (root entry) of are.first (subst (λ (k : ℕ). slice_get contexts k ≡ Some of) zero_number there)) main
  | inr later ↦
      let by = are.made number of there (omega (arith, later)) in
      further by.there.context.target of.target
      (context-function image entry contexts are n of.parent by.there.context (omega (arith, by.earlier, low)) by.there.there)
      (record { address = of.site; reached = by.there.reached; calls = by.calls })
]

pub program-ranked : (image : Image) (entry : ℕ) (graphs : Graphs) (nests : Nests) (net : Net) → IsProgram image entry graphs nests →
    IsNet image entry net → AreRanked image net.contexts
program-ranked image entry graphs nests net program is number of there =
    listed-ranked image of.target graphs.graphs nests.nests program.nests_are
    (program.graphs_are.whole of.target (context-function image entry net.contexts is.contexts (suc number) number of (omega arith) there))
