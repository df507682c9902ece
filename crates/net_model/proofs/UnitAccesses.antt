-- The accesses that a unit makes are those of its place in the net, stores apart: each has its number there.
use Rattle.std.proofs.Common.{◌≡◌, ℕ, zero, suc, ◌+◌, ◌^◌, ◌<◌, ◌==◌, cond, is_some, All, Bool, true, false, List, [], ◌∷◌, ◌++◌, length, slice_get, Option, Some, None, refl, ap, sym, subst, ◌∙◌, arith}
use Rattle.std.specs.Prelude.{option_map}
use Rattle.std.specs.List.{AllZip, filter}
use Rattle.std.proofs.lemmas.Bool.Decides.{nat_tests}
use Rattle.std.proofs.lemmas.List.{append_assoc, append-nil, length-append}
use Rattle.std.proofs.lemmas.List.Elements.{All-cons, All-head, All-nil, All-tail}
use Rattle.std.proofs.lemmas.Option.{none-some, same_Some}
use Rattle.elf_mips.specs.declared.image.Image.{Image}
use Rattle.flow_net.specs.Numbers.{item_at}
use Rattle.flow_net.specs.declared.net.Access.{Access}
use Rattle.flow_net.specs.declared.net.Net.{Net}
use Rattle.flow_net.specs.declared.net.Place.{Place}
use Rattle.flow_net.specs.declared.net.Role.TheVariants.{Fetch, Slot}
use Rattle.mips_decode.specs.Accesses.{UnitAccess, accesses_at, accesses_of, data_access, goes_through}
use Rattle.mips_decode.specs.Step.{Done}
use Rattle.mips_decode.specs.declared.instr.Instr.{Instr}
use Rattle.mips_decode.specs.declared.instr.Instr.TheVariants.{Three, Shift, HiLo, MulDiv, Imm, Lui, Load, Store, Branch, Jump, JumpReg, JumpLink, Stop}
use Rattle.mips_decode.specs.declared.step.AccessKind.TheVariants as kind
use Rattle.mips_decode.specs.declared.step.Touched.{Touched}
use Rattle.net_model.specs.Accesses.{access, accesses_from, content_accesses, kind_of, load_access, unit_accesses}
use Rattle.net_model.specs.Moments.{Makes, Moment, VisitNone, VisitsNone, arcs_of}
use Rattle.net_model.specs.Onward.{is_load, load_of}
use Rattle.net_model.specs.Runs.{IsMadeBy}
use Rattle.net_model.specs.Targets.{unit_at}
use Rattle.net_model.specs.Units.{is_transfer}
use Rattle.net_model.specs.declared.unit.CodeUnit.{CodeUnit}
use Rattle.net_model.specs.declared.unit.Content.{Content}
use Rattle.net_model.specs.Walks.{IsInReach, MayGoTo, WalksOn, access_numbers, numbers_at, own_range}
use Rattle.net_model.specs.declared.unit.Content.TheVariants.{Unit as Stands, Fault}
use Rattle.net_model.proofs.Contents.{HasSlot}
use Rattle.net_model.proofs.Steps.{last_touch, slot_list}
use Rattle.net_model.proofs.Zero.{IsLow, touch}

-- ---- Which accesses are those of a place.
-- Numbers one after the other, as many as there are items.
abbrev pub numbers_from : (number : ℕ) → List Access → List ℕ
numbers_from number [] = []
numbers_from number (access ∷ more) = number ∷ numbers_from (suc number) more

is-number : (number other : ℕ) → number ≡ other → (number == other) ≡ true
is-number number other same = grind (arith, nat_tests)

is-other : (number other : ℕ) → (number ≡ other → ⊥) → (number == other) ≡ false
is-other number other differ = grind (arith, nat_tests)

abbrev IsOwn : (place : ℕ) → Access → Type 0
IsOwn place access = access.place ≡ place

abbrev AreOwn : (place : ℕ) → List Access → Type 0
AreOwn place accesses = All (IsOwn place) accesses

numbers-own : (place number : ℕ) (own more : List Access) → AreOwn place own →
    numbers_at place number (own ++ more) ≡ numbers_from number own ++ numbers_at place (number + length own) more
numbers-own place number [] more all = ap (λ (n : ℕ). numbers_at place n more) (omega arith)
numbers-own place number (access ∷ own) more all =
    let here : access.place ≡ place = All-head (IsOwn place) access own all in
    let rest = numbers-own place (suc number) own more (All-tail (IsOwn place) access own all) in
    rw (is-number access.place place here) (ap (λ (l : List ℕ). number ∷ l) (rest
    ∙ ap (λ (n : ℕ). numbers_from (suc number) own ++ numbers_at place n more) (omega arith)))

numbers-other : (place other number : ℕ) (own more : List Access) → (other ≡ place → ⊥) → AreOwn other own →
    numbers_at place number (own ++ more) ≡ numbers_at place (number + length own) more
numbers-other place other number [] more differ all = ap (λ (n : ℕ). numbers_at place n more) (omega arith)
numbers-other place other number (access ∷ own) more differ all =
    let here : access.place ≡ other = All-head (IsOwn other) access own all in
    let rest = numbers-other place other (suc number) own more differ (All-tail (IsOwn other) access own all) in
    rw (is-other access.place place (λ same. differ (sym here ∙ same)))
    (rest ∙ ap (λ (n : ℕ). numbers_at place n more) (omega arith))

load-own : (place : ℕ) (o : Option ℕ) → AreOwn place (load_access place o)
load-own place None = All-nil (IsOwn place)
load-own place (Some address) = All-cons (IsOwn place) _ [] refl (All-nil (IsOwn place))

slot-own : (place : ℕ) (b : Bool) (slot : Access) (more : List Access) → slot.place ≡ place → AreOwn place more →
    AreOwn place (cond b (slot ∷ []) [] ++ more)
slot-own place true slot more same all = All-cons (IsOwn place) slot more same all
slot-own place false slot more same all = all

content-own : (place : ℕ) (content : Content) (address : ℕ) → AreOwn place (content_accesses place content address)
content-own place (Stands unit) address =
    All-cons (IsOwn place) (access place Fetch address) _ refl
    (slot-own place (is_some unit.slot) (access place Slot (address + 4)) (load_access place (load_of unit address)) refl
    (load-own place (load_of unit address)))
content-own place (Fault kind at) address = All-nil (IsOwn place)

-- None of the accesses of later places is the place's own.
numbers-later : (image : Image) (place first number : ℕ) (places : List Place) → place < first →
    numbers_at place number (accesses_from image first places) ≡ []
numbers-later image place first number [] later = refl
numbers-later image place first number (own ∷ more) later =
    let mine : List Access = content_accesses first (unit_at image own.address) own.address in
    numbers-other place first number mine (accesses_from image (suc first) more) (λ same. omega (arith, later, same))
    (content-own first (unit_at image own.address) own.address)
    ∙ numbers-later image place (suc first) (number + length mine) more (omega (arith, later))

-- The accesses of a place are a part of those of the net, and no others are its own.
pub record IsPart (place number : ℕ) (part items : List Access) : Type 0 where
  pub front : List Access
  pub back : List Access
  pub whole : items ≡ front ++ (part ++ back)
  pub numbers : numbers_at place number items ≡ numbers_from (number + length front) part

pub place-accesses : (image : Image) (first from : ℕ) (places : List Place) (index : ℕ) (place : Place) (number : ℕ) →
    slice_get places index ≡ Some place → number ≡ first + index →
    IsPart number from (content_accesses number (unit_at image place.address) place.address) (accesses_from image first places)
place-accesses image first from [] index place number there same = absurd (none-some place there)
place-accesses image first from (own ∷ more) zero place number there same =
    let here : own ≡ place = same_Some own place there in
    let at : first ≡ number = omega (arith, same) in
    let mine : List Access = content_accesses number (unit_at image place.address) place.address in
    let whole : accesses_from image first (own ∷ more) ≡ mine ++ accesses_from image (suc first) more =
    ap (λ (p : Place). content_accesses first (unit_at image p.address) p.address ++ accesses_from image (suc first) more) here
    ∙ ap (λ (n : ℕ). content_accesses n (unit_at image place.address) place.address ++ accesses_from image (suc first) more) at in
    record {
      front = [];
      back = accesses_from image (suc first) more;
      whole = whole;
      numbers = ap (numbers_at number from) whole
          ∙ numbers-own number from mine (accesses_from image (suc first) more) (content-own number (unit_at image place.address) place.address)
          ∙ ap (λ (l : List ℕ). numbers_from from mine ++ l)
          (numbers-later image number (suc first) (from + length mine) more (omega (arith, at)))
          ∙ append-nil (numbers_from from mine)
          ∙ ap (λ (n : ℕ). numbers_from n mine) (omega arith);
    }
place-accesses image first from (own ∷ more) (suc index) place number there same =
    let mine : List Access = content_accesses first (unit_at image own.address) own.address in
    let rest = place-accesses image (suc first) (from + length mine) more index place number there (omega (arith, same)) in
    let part : List Access = content_accesses number (unit_at image place.address) place.address in
    let long : length (mine ++ rest.front) ≡ length mine + length rest.front = length-append mine rest.front in
    record {
      front = mine ++ rest.front;
      back = rest.back;
      whole = ap (λ (l : List Access). mine ++ l) rest.whole
          ∙ sym (append_assoc mine rest.front (part ++ rest.back));
      numbers = numbers-other number first from mine (accesses_from image (suc first) more) (λ is. omega (arith, is, same))
          (content-own first (unit_at image own.address) own.address)
          ∙ rest.numbers
          ∙ ap (λ (n : ℕ). numbers_from n part) (omega (arith, long));
    }

-- An access of a unit and the net's access for it.
pub record Matches (place : ℕ) (made : UnitAccess) (access : Access) : Type 0 where
  pub own : access.place ≡ place
  pub kind : kind_of access.role ≡ made.kind
  pub at : access.at ≡ made.at
  pub reach : MayGoTo access.role access.at made.address

-- ---- The moments of accesses.
pub record AreMade (net : Net) (place : ℕ) (accesses : List UnitAccess) (numbers : List ℕ) : Type 0 where
  pub moments : List Moment
  pub made : AllZip (IsMadeBy net place) accesses moments
  pub uncached : VisitNone moments
  pub quiet : (rest : List Moment) → arcs_of (moments ++ rest) ≡ arcs_of rest
  pub walks : (rest : List Moment) → WalksOn net (own_range net) place [] rest →
      WalksOn net (own_range net) place numbers (moments ++ rest)

middle : {T : Type 0} (front : List T) (item : T) (back : List T) → slice_get (front ++ item ∷ back) (length front) ≡ Some item
middle [] item back = refl
middle (x ∷ front) item back = middle front item back

pub made-of : (net : Net) (place : ℕ) (accesses : List UnitAccess) (own front back : List Access) →
    net.accesses ≡ front ++ (own ++ back) → AllZip (Matches place) accesses own →
    AreMade net place accesses (numbers_from (suc (length front)) own)
made-of net place [] [] front back same zip =
    record { moments = []; made = tt; uncached = All-nil VisitsNone; quiet = λ rest. refl; walks = λ rest walk. walk }
made-of net place [] (access ∷ own) front back same zip = absurd zip
made-of net place (made ∷ more) [] front back same zip = absurd zip
made-of net place (made ∷ more) (access ∷ own) front back same zip =
    let there : item_at (suc (length front)) net.accesses ≡ Some access =
    ap (λ (l : List Access). slice_get l (length front)) same ∙ middle front access (own ++ back) in
    let longer : front ++ (access ∷ (own ++ back)) ≡ (front ++ access ∷ []) ++ (own ++ back) =
    sym (append_assoc front (access ∷ []) (own ++ back)) in
    let one : length (front ++ access ∷ []) ≡ suc (length front) = length-append front (access ∷ []) ∙ omega arith in
    let rest : AreMade net place more (numbers_from (suc (suc (length front))) own) =
    subst (λ (n : ℕ). AreMade net place more (numbers_from (suc n) own)) one
    (made-of net place more own (front ++ access ∷ []) back (same ∙ longer) zip.1) in
    let moment : Moment = Makes (suc (length front)) made.address 0 false in
    let is : IsMadeBy net place made moment = record {
      number = suc (length front);
      access = access;
      there = there;
      own = zip.0.own;
      kind = zip.0.kind;
      at = zip.0.at;
      caches = 0;
      hit = false;
      makes = refl;
    } in
    record {
      moments = moment ∷ rest.moments;
      made = (is, rest.made);
      uncached = All-cons VisitsNone moment rest.moments (refl, refl) rest.uncached;
      quiet = rest.quiet;
      walks = λ later walk. (
        numbers_from (suc (suc (length front))) own,
        refl,
        subst (λ (o : Option Access). IsInReach o made.address) (sym there) zip.0.reach,
        rest.walks later walk,
      );
    }

-- Where the unit loads.
abbrev loaded : (site : ℕ) → Option Bool → Option ℕ
loaded site None = None
loaded site (Some true) = None
loaded site (Some false) = Some site

abbrev goes : UnitAccess → Bool
goes access = goes_through access.kind

data-by : (place site : ℕ) (address size : ℕ) (b : Bool) → address < 2 ^ 32 →
    AllZip (Matches place) (filter goes (data_access site (Some (record { address = address; size = size; store = b }))))
    (load_access place (loaded site (Some b)))
data-by place site address size true low = tt
data-by place site address size false low = (record { own = refl; kind = refl; at = refl; reach = low }, tt)

data-matches : (place site : ℕ) (access : Option Touched) → IsLow access →
    AllZip (Matches place) (filter goes (data_access site access))
    (load_access place (loaded site (option_map (λ (a : Touched). a.store) access)))
data-matches place site None low = tt
data-matches place site (Some touched) low = data-by place site touched.address touched.size touched.store low

touch-load : (instr : Instr) (address : ℕ) → (loaded address (touch instr)) ≡ load_of (record { instr = instr; slot = None }) address
touch-load (Three op rd rs rt) address = refl
touch-load (Shift op rd rt by) address = refl
touch-load (HiLo op number) address = refl
touch-load (MulDiv op rs rt) address = refl
touch-load (Imm op rt rs imm) address = refl
touch-load (Lui rt imm) address = refl
touch-load (Load op rt base offset) address = refl
touch-load (Store op rt base offset) address = refl
touch-load (Branch op rs rt offset) address = refl
touch-load (Jump link index) address = refl
touch-load (JumpReg rs) address = refl
touch-load (JumpLink rd rs) address = refl
touch-load (Stop op code) address = refl

no-load : (instr : Instr) → is_transfer instr ≡ true → is_load instr ≡ false
no-load (Branch op rs rt offset) is = refl
no-load (Jump link index) is = refl
no-load (JumpReg rs) is = refl
no-load (JumpLink rd rs) is = refl
no-load (Three op rd rs rt) is = refl
no-load (Shift op rd rt by) is = refl
no-load (HiLo op number) is = refl
no-load (MulDiv op rs rt) is = refl
no-load (Imm op rt rs imm) is = refl
no-load (Lui rt imm) is = refl
no-load (Store op rt base offset) is = refl
no-load (Stop op code) is = refl
no-load (Load op rt base offset) is = cc

slot-load : (instr slot : Instr) (address : ℕ) → is_transfer instr ≡ true →
    (loaded (address + 4) (touch slot)) ≡ load_of (record { instr = instr; slot = Some slot }) address
slot-load instr slot address is = touch-load slot (address + 4) ∙ rw (no-load instr is) refl

-- The accesses of a unit by its parts.
parts-match : (code : ℕ → Option ℕ) (place address : ℕ) (instr : Instr) (slot : Option Instr) (access : Option Touched) →
    HasSlot code address instr slot → option_map (λ (a : Touched). a.store) access ≡ last_touch instr slot → IsLow access →
    AllZip (Matches place)
    (filter goes (accesses_at address (instr ∷ slot_list slot) access))
    (unit_accesses place (record { instr = instr; slot = slot }) address)
parts-match code place address instr None access has touches low =
    let load : loaded address (option_map (λ (a : Touched). a.store) access) ≡ load_of (record { instr = instr; slot = None }) address =
    ap (loaded address) touches ∙ touch-load instr address in (
      record { own = refl; kind = refl; at = refl; reach = refl },
      subst (λ (o : Option ℕ). AllZip (Matches place) (filter goes (data_access address access)) (load_access place o)) load
          (data-matches place address access low),
    )
parts-match code place address instr (Some slot) access has touches low =
    let load : loaded (address + 4) (option_map (λ (a : Touched). a.store) access)
    ≡ load_of (record { instr = instr; slot = Some slot }) address =
    ap (loaded (address + 4)) touches ∙ slot-load instr slot address has.0 in (
      record { own = refl; kind = refl; at = refl; reach = refl },
      (
        record { own = refl; kind = refl; at = refl; reach = refl },
        subst (λ (o : Option ℕ). AllZip (Matches place) (filter goes (data_access (address + 4) access)) (load_access place o)) load
            (data-matches place (address + 4) access low),
      ),
    )

-- What a unit did at a place makes the accesses of the place.
pub unit-matches : (code : ℕ → Option ℕ) (place address : ℕ) (unit : CodeUnit) (done : Done) → HasSlot code address unit.instr unit.slot →
    done.instructions ≡ unit.instr ∷ slot_list unit.slot →
    option_map (λ (a : Touched). a.store) done.access ≡ last_touch unit.instr unit.slot → IsLow done.access →
    AllZip (Matches place) (filter goes (accesses_of address done)) (unit_accesses place unit address)
unit-matches code place address unit done has instructions touches low =
    subst (λ (instrs : List Instr). AllZip (Matches place) (filter goes (accesses_at address instrs done.access)) (unit_accesses place unit address))
    (sym instructions)
    (parts-match code place address unit.instr unit.slot done.access has touches low)

-- So they have moments.
pub unit-made : (image : Image) (code : ℕ → Option ℕ) (net : Net) (number address : ℕ) (place : Place) (unit : CodeUnit) (done : Done) →
    net.accesses ≡ accesses_from image 1 net.places → item_at number net.places ≡ Some place → place.address ≡ address →
    unit_at image address ≡ Stands unit → HasSlot code address unit.instr unit.slot →
    done.instructions ≡ unit.instr ∷ slot_list unit.slot →
    option_map (λ (a : Touched). a.store) done.access ≡ last_touch unit.instr unit.slot → IsLow done.access →
    AreMade net number (filter goes (accesses_of address done)) (access_numbers net number)
unit-made image code net zero address place unit done all there same stands has instructions touches low =
    absurd (none-some place there)
unit-made image code net (suc index) address place unit done all there same stands has instructions touches low =
    let part = place-accesses image 1 1 net.places index place (suc index) there (omega arith) in
    let own : content_accesses (suc index) (unit_at image place.address) place.address ≡ unit_accesses (suc index) unit address =
    ap (λ (a : ℕ). content_accesses (suc index) (unit_at image a) a) same
    ∙ ap (λ (c : Content). content_accesses (suc index) c address) stands in
    let numbers : access_numbers net (suc index) ≡ numbers_from (suc (length part.front)) (unit_accesses (suc index) unit address) =
    ap (numbers_at (suc index) 1) all ∙ part.numbers
    ∙ ap (λ (n : ℕ). numbers_from n (content_accesses (suc index) (unit_at image place.address) place.address)) (omega arith)
    ∙ ap (numbers_from (suc (length part.front))) own in
    subst (AreMade net (suc index) (filter goes (accesses_of address done))) (sym numbers)
    (made-of net (suc index) (filter goes (accesses_of address done)) (unit_accesses (suc index) unit address) part.front part.back
    (all ∙ part.whole ∙ ap (λ (l : List Access). part.front ++ (l ++ part.back)) own)
    (unit-matches code (suc index) address unit done has instructions touches low))
