-- The numbers in the net of a program are those of its own contexts and places.
use Rattle.std.proofs.Common.{◌≡◌, ℕ, zero, suc, ◌+◌, ◌<◌, ◌≤◌, inl, inr, Bool, true, false, List, [], ◌∷◌, ◌++◌, length, slice_get, get_or, All, Option, Some, None, refl, sym, ap, subst, arith}
use Rattle.std.specs.Prelude.{is_some, if◌then◌else◌}
use Rattle.std.proofs.lemmas.Bool.{cases_eq}
use Rattle.std.proofs.lemmas.List.Elements.{All-append}
use Rattle.std.proofs.lemmas.Option.{slice_get-get_or, slice_get_within}
use Rattle.elf_mips.specs.declared.image.Image.{Image}
use Rattle.flow_net.specs.Nested.{HasNumbers}
use Rattle.flow_net.specs.Numbers.{IsNumberOf, IsNumberOrZero}
use Rattle.flow_net.specs.declared.net.Access.{Access}
use Rattle.flow_net.specs.declared.net.Context.{Context}
use Rattle.flow_net.specs.declared.net.LoopInst.{LoopInst}
use Rattle.flow_net.specs.declared.net.Net.{Net}
use Rattle.flow_net.specs.declared.net.NetArc.{NetArc}
use Rattle.flow_net.specs.declared.net.Place.{Place}
use Rattle.flow_net.specs.declared.net.Role.TheVariants.{Fetch, Slot, Load}
use Rattle.net_model.specs.Accesses.{access, accesses_from, content_accesses, load_access}
use Rattle.net_model.specs.Contexts.{root}
use Rattle.net_model.specs.Net.{IsNet, LeadsOn, LeadsTo, calls, comes_back, ends, goes}
use Rattle.net_model.specs.Onward.{load_of}
use Rattle.net_model.specs.Targets.{unit_at}
use Rattle.net_model.specs.declared.unit.CodeUnit.{CodeUnit}
use Rattle.net_model.specs.declared.unit.Content.{Content}
use Rattle.net_model.specs.declared.unit.Content.TheVariants.{Unit as Stands, Fault}
use Rattle.call_contexts.proofs.Items.{item-within}
use Rattle.call_contexts.proofs.NetItems.{all-by, context-at, place-number, place-within}
use Rattle.call_contexts.proofs.NetPaths.{Enters, IsArcOf, Leads, arc-of}

-- The accesses of a place name its number.
abbrev IsOf : ℕ → Access → Type 0
IsOf number access = access.place ≡ number

all-more : {T : Type 0} (P : T → Type 0) (item : T) (more : List T) → P item → All P more → All P (item ∷ more)
all-more {T} P item more one rest = λ i d inside. by_place i d inside where
  by_place : (i : ℕ) (d : T) → i < length (item ∷ more) → P (get_or (item ∷ more) i d)
  by_place zero d inside = one
  by_place (suc i) d inside = rest i d (omega (arith, inside))

none-of : {T : Type 0} (P : T → Type 0) → All P []
none-of P = λ i d inside. absurd (omega (arith, inside))

load-own : (number : ℕ) (load : Option ℕ) → All (IsOf number) (load_access number load)
load-own number None = none-of (IsOf number)
load-own number (Some address) = all-more (IsOf number) (access number Load address) [] refl (none-of (IsOf number))

slot-own : (number address : ℕ) (slot : Bool) → All (IsOf number) (if slot then access number Slot address ∷ [] else [])
slot-own number address false = none-of (IsOf number)
slot-own number address true = all-more (IsOf number) (access number Slot address) [] refl (none-of (IsOf number))

content-own : (number : ℕ) (content : Content) (address : ℕ) → All (IsOf number) (content_accesses number content address)
content-own number (Fault kind place) address = none-of (IsOf number)
content-own number (Stands unit) address =
    let slots = if is_some unit.slot then access number Slot (address + 4) ∷ [] else [] in
    let loads = load_access number (load_of unit address) in
    all-more (IsOf number) (access number Fetch address) (slots ++ loads) refl
    (All-append (IsOf number) slots loads (slot-own number (address + 4) (is_some unit.slot)) (load-own number (load_of unit address)))

-- The accesses of places that are numbered from one number up to another.
abbrev IsAmong : ℕ → Access → Type 0
IsAmong last access = (1 ≤ access.place) × (access.place ≤ last)

accesses-among : (image : Image) (last number : ℕ) (places : List Place) → 1 ≤ number → number + length places ≤ suc last →
    All (IsAmong last) (accesses_from image number places)
accesses-among image last number [] low high = none-of (IsAmong last)
accesses-among image last number (place ∷ more) low high =
    let own = content-own number (unit_at image place.address) place.address in
    All-append (IsAmong last) (content_accesses number (unit_at image place.address) place.address) (accesses_from image (suc number) more)
    (λ i d inside. let is = own i d inside in (omega (arith, is, low), omega (arith, is, high)))
    (accesses-among image last (suc number) more (omega arith) (omega (arith, high)))

module _ (image : Image) (entry : ℕ) (net : Net) (is : IsNet image entry net) where
  accesses-own : All (λ (a : Access). IsNumberOf net.places a.place) net.accesses
  accesses-own = subst (λ (accesses : List Access). All (λ (a : Access). IsNumberOf net.places a.place) accesses) (sym is.accesses)
      (λ i d inside.
      let among = accesses-among image (length net.places) 1 net.places (omega arith) (omega arith) i d inside in
      record { from_one = among.0; within = among.1 })

  context-own : (number : ℕ) (of : Context) → slice_get net.contexts number ≡ Some of → number < length net.contexts
  context-own number of there = slice_get_within net.contexts number of there

  parent-own : (number : ℕ) (of : Context) → slice_get net.contexts number ≡ Some of → of.parent < length net.contexts
  parent-own number of there = elim (cases_eq number 0) as (λ _. of.parent < length net.contexts) [
    | inl first ↦
        let same : root entry ≡ of = context-at net.contexts 0 (root entry) of is.contexts.first
        (subst (λ (n : ℕ). slice_get net.contexts n ≡ Some of) first there) in
        let outside : 0 ≡ of.parent = ap (λ (c : Context). c.parent) same in
        omega (arith, outside, context-own number of there)
    | inr further ↦
        let by = is.contexts.made number of there (omega (arith, further)) in
        omega (arith, by.earlier, context-own number of there)
  ]

  leads-end : (from to : ℕ) (leads : LeadsOn image net from to) → to ≤ length net.places
  leads-end from to leads = by_leads leads.unit leads.place.context leads.place.address to leads.leads where
    by_leads : (unit : CodeUnit) (context address to : ℕ) → LeadsTo image net unit context address to → to ≤ length net.places
    by_leads unit context address _ (goes to later listed at) = place-within net to context later at
    by_leads unit context address _ (calls to new callee listed positive there at) = place-within net to new callee at
    by_leads unit context address _ (comes_back to of leaves positive there at) = place-within net to of.parent (of.site + 8) at
    by_leads unit context address _ (ends leaves same) = omega arith

  start-own : (number : ℕ) (arc : NetArc) → IsArcOf image entry net number arc → arc.from ≤ length net.places
  start-own number arc (Enters one from at) = omega (arith, from)
  start-own number arc (Leads more leads) = item-within net.places arc.from leads.place leads.there

  end-own : (number : ℕ) (arc : NetArc) → IsArcOf image entry net number arc → arc.to ≤ length net.places
  end-own number arc (Enters one from at) = place-within net arc.to 0 entry at
  end-own number arc (Leads more leads) = leads-end arc.from arc.to leads

  pub numbers-own : HasNumbers net
  numbers-own = record {
    parents = λ i d inside. parent-own i (get_or net.contexts i d) (slice_get-get_or net.contexts i d inside);
    contexts = all-by (λ (p : Place). p.context < length net.contexts) net.places (λ n p there.
        let reaches = is.places.reached n p there in context-own p.context reaches.context reaches.there);
    starts = all-by (λ (a : NetArc). IsNumberOrZero net.places a.from) net.arcs (λ n a there.
        start-own n a (arc-of image entry net is n a there));
    ends = all-by (λ (a : NetArc). IsNumberOrZero net.places a.to) net.arcs (λ n a there.
        end-own n a (arc-of image entry net is n a there));
    headers = all-by (λ (l : LoopInst). IsNumberOf net.places l.header) net.loops (λ n l there.
        let one = is.loops.each n l there in place-number net l.header one.context one.header one.at);
    accesses = accesses-own;
  }
