-- The first broken rule of a kind is the fault that is answered.
use Rattle.std.proofs.Common.{◌≡◌, ℕ, ◌+◌, ◌<◌, ◌≤◌, Bool, true, false, List, [], ◌∷◌, Some, None, All, refl, ap, sym, arith, rules, inl, inr, ◌⊎◌, subst, zero, suc}
use Rattle.std.specs.Bool.{⊤}
use Rattle.std.proofs.lemmas.List.Elements.{All-nil, All-cons, All-weaker}
use Rattle.std.proofs.lemmas.Bool.{cases_lt}
use Rattle.elf_mips.specs.Rules.{Rule, rule, IsLeast, broken_places, first_place, size_rules, magic_rules, kind_rules, table_rules}
use Rattle.elf_mips.specs.Faults.{IsBroken, IsCleanBelow, IsFirstFault, Tells, offenders, order, rules_of}
use Rattle.elf_mips.specs.declared.fault.ElfKind.{ElfKind}
use Rattle.elf_mips.specs.declared.fault.ElfKind.TheVariants.{Short, NotElf, NotThisKind, BadTable, BadSegment, BadSection, BadRecord}
use Rattle.elf_mips.specs.declared.fault.ElfFault.{ElfFault}
use Rattle.elf_mips.specs.declared.fault.ElfFault.TheVariants.{Bad, Memory}

-- The places of the rules don't fall, and none is below `low`.
abbrev pub Rises : ℕ → List Rule → Type 0
Rises low [] = ⊤
Rises low (r ∷ rest) = (low ≤ r.place) × Rises r.place rest

-- No broken rule stands below the least place.
above_step : (b : Bool) (p low : ℕ) (rest : List Rule) → low ≤ p →
    All (λ q. p ≤ q) (broken_places rest) → All (λ q. low ≤ q) (broken_places (rule b p ∷ rest))
above_step true p low rest h all =
    All-weaker (λ q. p ≤ q) (λ q. low ≤ q) (λ q k. omega arith) (broken_places rest) all
above_step false p low rest h all =
    All-cons (λ q. low ≤ q) p (broken_places rest) h
    (All-weaker (λ q. p ≤ q) (λ q. low ≤ q) (λ q k. omega arith) (broken_places rest) all)

pub above : (low : ℕ) (rest : List Rule) → Rises low rest → All (λ q. low ≤ q) (broken_places rest)
above low [] h = All-nil (λ q. low ≤ q)
above low (r ∷ rest) h = above_step r.kept r.place low rest h.0 (above r.place rest h.1)

-- The first broken rule has the least place of the broken ones.
least_step : (b : Bool) (p place : ℕ) (rest : List Rule) → Rises p rest →
    (first_place rest ≡ Some place → IsLeast place (broken_places rest)) →
    first_place (rule b p ∷ rest) ≡ Some place → IsLeast place (broken_places (rule b p ∷ rest))
least_step true p place rest up later e = later e
least_step false p place rest up later e =
    let same : p ≡ place = cc in
    subst (λ q. IsLeast q (p ∷ broken_places rest)) same (record {
      here = (0, omega arith, refl);
      least = All-cons (λ q. p ≤ q) p (broken_places rest) (omega arith) (above p rest up);
    })

pub least_from : (low place : ℕ) (rest : List Rule) → Rises low rest →
    first_place rest ≡ Some place → IsLeast place (broken_places rest)
least_from low place [] up e = cc
least_from low place (r ∷ rest) up e =
    least_step r.kept r.place place rest up.1 (least_from r.place place rest up.1) e

-- Where no rule is the first broken one, none is broken.
none_step : (b : Bool) (p : ℕ) (rest : List Rule) →
    (first_place rest ≡ None → broken_places rest ≡ []) →
    first_place (rule b p ∷ rest) ≡ None → broken_places (rule b p ∷ rest) ≡ []
none_step true p rest later e = later e
none_step false p rest later e = cc

pub none_from : (rest : List Rule) → first_place rest ≡ None → broken_places rest ≡ []
none_from [] e = refl
none_from (r ∷ rest) e = none_step r.kept r.place rest (none_from rest) e

-- The kind of a number, so that two kinds of one number are one.
abbrev kind_of : ℕ → ElfKind
kind_of zero = Short
kind_of (suc zero) = NotElf
kind_of (suc (suc zero)) = NotThisKind
kind_of (suc (suc (suc zero))) = BadTable
kind_of (suc (suc (suc (suc zero)))) = BadSegment
kind_of (suc (suc (suc (suc (suc zero))))) = BadSection
kind_of (suc (suc (suc (suc (suc (suc n)))))) = BadRecord

kind_of-order : (kind : ElfKind) → kind_of (order kind) ≡ kind
kind_of-order Short = refl
kind_of-order NotElf = refl
kind_of-order NotThisKind = refl
kind_of-order BadTable = refl
kind_of-order BadSegment = refl
kind_of-order BadSection = refl
kind_of-order BadRecord = refl

order_same : (a b : ElfKind) → order a ≡ order b → a ≡ b
order_same a b e = cc (kind_of-order a, kind_of-order b, ap kind_of e)

-- One more kind without a fault.
clean_step : (kind k : ElfKind) (file : List ℕ) → IsCleanBelow (order kind) file →
    offenders kind file ≡ [] → order k < order kind + 1 →
    (order k < order kind) ⊎ (order kind ≤ order k) → offenders k file ≡ []
clean_step kind k file clean none h (inl less) = clean k less
clean_step kind k file clean none h (inr more) =
    subst (λ k. offenders k file ≡ []) (order_same kind k (omega arith)) none

pub clean_more : (kind : ElfKind) (file : List ℕ) → IsCleanBelow (order kind) file →
    first_place (rules_of kind file) ≡ None → IsCleanBelow (order kind + 1) file
clean_more kind file clean none k h =
    clean_step kind k file clean (none_from (rules_of kind file) none) h
    (cases_lt (order k) (order kind))

-- The fault of the first broken rule of a kind, where no earlier kind has one.
pub tells : (kind : ElfKind) (file : List ℕ) (e : ElfFault) → Rises 0 (rules_of kind file) →
    IsCleanBelow (order kind) file → IsBroken kind (rules_of kind file) e → Tells file e
tells kind file Memory up clean h = absurd h
tells kind file (Bad k place) up clean h =
    let first : IsLeast place (offenders kind file) =
    least_from 0 place (rules_of kind file) up h.1 in
    subst (λ k. IsFirstFault file k place) (sym h.0) (record {
      here = first.here;
      first = clean;
      least = first.least;
    })

-- Each list of rules of the header rises.
pub size_rises : (file : List ℕ) → Rises 0 (size_rules file)
unfolding size_rules
size_rises file = (omega arith, tt)

pub magic_rises : (file : List ℕ) → Rises 0 (magic_rules file)
unfolding magic_rules
magic_rises file = (omega arith, tt)

pub kind_rises : (file : List ℕ) → Rises 0 (kind_rules file)
unfolding kind_rules
kind_rises file = search rules

pub table_rises : (file : List ℕ) → Rises 0 (table_rules file)
unfolding table_rules
table_rises file = search rules

-- What the header's checks give, in their order.
pub after_size : (file : List ℕ) → first_place (size_rules file) ≡ None → IsCleanBelow 1 file
after_size file none = clean_more Short file (λ k h. absurd (omega arith)) none

pub after_magic : (file : List ℕ) → first_place (size_rules file) ≡ None →
    first_place (magic_rules file) ≡ None → IsCleanBelow 2 file
after_magic file size magic = clean_more NotElf file (after_size file size) magic

pub after_kind : (file : List ℕ) → first_place (size_rules file) ≡ None →
    first_place (magic_rules file) ≡ None → first_place (kind_rules file) ≡ None →
    IsCleanBelow 3 file
after_kind file size magic kind = clean_more NotThisKind file (after_magic file size magic) kind

pub after_table : (file : List ℕ) → first_place (size_rules file) ≡ None →
    first_place (magic_rules file) ≡ None → first_place (kind_rules file) ≡ None →
    first_place (table_rules file) ≡ None → IsCleanBelow 4 file
after_table file size magic kind table =
    clean_more BadTable file (after_kind file size magic kind) table

pub tells_size : (file : List ℕ) (e : ElfFault) → IsBroken Short (size_rules file) e → Tells file e
tells_size file e h = tells Short file e (size_rises file) (λ k h. absurd (omega arith)) h

pub tells_magic : (file : List ℕ) (e : ElfFault) → first_place (size_rules file) ≡ None →
    IsBroken NotElf (magic_rules file) e → Tells file e
tells_magic file e size h = tells NotElf file e (magic_rises file) (after_size file size) h

pub tells_kind : (file : List ℕ) (e : ElfFault) → first_place (size_rules file) ≡ None →
    first_place (magic_rules file) ≡ None → IsBroken NotThisKind (kind_rules file) e → Tells file e
tells_kind file e size magic h =
    tells NotThisKind file e (kind_rises file) (after_magic file size magic) h

pub tells_table : (file : List ℕ) (e : ElfFault) → first_place (size_rules file) ≡ None →
    first_place (magic_rules file) ≡ None → first_place (kind_rules file) ≡ None →
    IsBroken BadTable (table_rules file) e → Tells file e
tells_table file e size magic kind h =
    tells BadTable file e (table_rises file) (after_kind file size magic kind) h
