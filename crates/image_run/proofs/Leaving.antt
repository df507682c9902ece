-- The arcs that leave a place, by their numbers.
use Rattle.std.proofs.Common.{◌≡◌, ℕ, zero, suc, ◌<◌, ◌≤◌, inl, inr, List, [], ◌∷◌, map, length, get_or, All, Some, refl, ap, sym, subst, ◌∙◌, arith}
use Rattle.std.specs.Prelude.{IfNone, IfSome, Option, None, slice_get}
use Rattle.std.proofs.lemmas.Option.{get_or_from_slice_get, none-some, same_Some}
use Rattle.std.proofs.lemmas.List.Elements.{All-cons, All-head, All-nil, All-tail}
use Rattle.flow_net.specs.Numbers.{IsNumberOf, item_at}
use Rattle.flow_net.specs.declared.net.Net.{Net}
use Rattle.flow_net.specs.declared.net.NetArc.{NetArc}
use Rattle.flow_net.specs.declared.net.Place.{Place}
use Rattle.mips_decode.specs.Transfer.{linking_of}
use Rattle.mips_decode.specs.declared.transfer.LinkKind.{LinkKind}
use Rattle.net_tables.specs.Numbers.{AreNumbers, numbers_of}
use Rattle.image_run.specs.Road.{IsNoWay, IsPlaceBehind}
use Rattle.net_tables.proofs.Numbering.{IsIn, numbers_has, numbers_only}

in-all : (P : ℕ → Type 0) (numbers : List ℕ) (n : ℕ) → All P numbers → IsIn n numbers → P n
in-all P [] n all is = absurd is
in-all P (m ∷ numbers) n all (inl same) = subst P (sym same) (All-head P m numbers all)
in-all P (m ∷ numbers) n all (inr later) = in-all P numbers n (All-tail P m numbers all) later

all-in : (P : ℕ → Type 0) (numbers : List ℕ) → ((n : ℕ) → IsIn n numbers → P n) → All P numbers
all-in P [] each = All-nil P
all-in P (m ∷ numbers) each =
    All-cons P m numbers (each m (inl refl)) (all-in P numbers (λ n is. each n (inr is)))

from-at : (arcs : List NetArc) (position : ℕ) (arc : NetArc) → slice_get arcs position ≡ Some arc →
    slice_get (map (λ (a : NetArc). a.from) arcs) position ≡ Some arc.from
from-at [] position arc there = absurd (none-some arc there)
from-at (a ∷ arcs) zero arc there = ap (λ (b : NetArc). Some b.from) (same_Some a arc there)
from-at (a ∷ arcs) (suc position) arc there = from-at arcs position arc there

at-within : (arcs : List NetArc) (position key : ℕ) → slice_get (map (λ (a : NetArc). a.from) arcs) position ≡ Some key →
    position < length arcs
at-within [] position key there = absurd (none-some key there)
at-within (a ∷ arcs) zero key there = omega arith
at-within (a ∷ arcs) (suc position) key there = let rest = at-within arcs position key there in omega (arith, rest)

-- The numbers are those of arcs.
pub leaving-numbers : (arcs : List NetArc) (place : ℕ) → All (IsNumberOf arcs) (numbers_of place 1 (map (λ (a : NetArc). a.from) arcs))
leaving-numbers arcs place =
    all-in (IsNumberOf arcs) (numbers_of place 1 (map (λ (a : NetArc). a.from) arcs)) (λ n is.
    let at = numbers_only place 1 (map (λ (a : NetArc). a.from) arcs) n is in
    let inside = at-within arcs at.position place at.there in
    let counted = at.counted in
    record { from_one = omega (arith, counted); within = omega (arith, counted, inside) })

-- What holds of them holds of each arc that leaves the place.
pub leaving-all : (P : ℕ → Type 0) (arcs : List NetArc) (place number : ℕ) (arc : NetArc) →
    All P (numbers_of place 1 (map (λ (a : NetArc). a.from) arcs)) → item_at number arcs ≡ Some arc → arc.from ≡ place → P number
leaving-all P arcs place zero arc all there same = absurd (none-some arc there)
leaving-all P arcs place (suc position) arc all there same =
    in-all P (numbers_of place 1 (map (λ (a : NetArc). a.from) arcs)) (suc position) all
    (subst (λ (n : ℕ). IsIn n (numbers_of place 1 (map (λ (a : NetArc). a.from) arcs))) (omega arith)
    (numbers_has place 1 (map (λ (a : NetArc). a.from) arcs) position (from-at arcs position arc there ∙ ap Some same)))

-- The list that the table has for a place.
pub list-at : (most : ℕ) (keys : List ℕ) (lists : List (List ℕ)) (place : ℕ) (list : List ℕ) → AreNumbers most keys lists → place ≤ most →
    list ≡ get_or lists place list → list ≡ numbers_of place 1 keys
list-at most keys lists place list are within same =
    same ∙ get_or_from_slice_get lists place (numbers_of place 1 keys) list (are.each place within)

-- ---- What was found from the place that stands at a number.
pub behind-some : (net : Net) (kind : LinkKind) (n next : ℕ) (from : Place) → item_at n net.places ≡ Some from → (found : Option ℕ) →
    IfSome found (IsPlaceBehind net (linking_of kind from.address next) from.context next) →
    IfSome found (λ to. (at : Place) → item_at n net.places ≡ Some at → IsPlaceBehind net (linking_of kind at.address next) at.context next to)
behind-some net kind n next from there None some = tt
behind-some net kind n next from there (Some to) some =
    λ at is. subst (λ (p : Place). IsPlaceBehind net (linking_of kind p.address next) p.context next to) (same_Some from at (sym there ∙ is)) some

pub behind-none : (net : Net) (kind : LinkKind) (n next : ℕ) (from : Place) → item_at n net.places ≡ Some from → (numbers : List ℕ) →
    numbers ≡ numbers_of n 1 (map (λ (a : NetArc). a.from) net.arcs) → (found : Option ℕ) →
    IfNone found (All (IsNoWay net (linking_of kind from.address next) from.context next) numbers) →
    IfNone found ((at : Place) → item_at n net.places ≡ Some at → (number : ℕ) (arc : NetArc) → item_at number net.arcs ≡ Some arc →
    arc.from ≡ n → IsPlaceBehind net (linking_of kind at.address next) at.context next arc.to → ⊥)
behind-none net kind n next from there numbers same (Some to) none = tt
behind-none net kind n next from there numbers same None none =
    λ at is number arc arc_is leaves behind.
    let here : at ≡ from = same_Some at from (sym is ∙ there) in
    leaving-all (IsNoWay net (linking_of kind from.address next) from.context next) net.arcs n number arc
    (subst (λ (list : List ℕ). All (IsNoWay net (linking_of kind from.address next) from.context next) list) same none) arc_is leaves
    arc arc_is (subst (λ (p : Place). IsPlaceBehind net (linking_of kind p.address next) p.context next arc.to) here behind)
