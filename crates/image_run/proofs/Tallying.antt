-- Each cache of a machine keeps its tally.
use Rattle.std.proofs.Common.{◌≡◌, ℕ, suc, Bool, true, false, List, [], ◌∷◌, length, Option, Some, None, refl, ap, sym, subst, ◌∙◌, arith}
use Rattle.std.proofs.lemmas.List.{length-replicate}
use Rattle.cache_config.specs.Chains.{side_of}
use Rattle.cache_config.specs.declared.profile.Profile.{Profile}
use Rattle.elf_mips.specs.declared.image.Image.{Image}
use Rattle.lru_concrete.specs.declared.level.Side.{Side}
use Rattle.lru_concrete.specs.Chains.{Held, Went, finds_in, goes, onward, serves, touch_in}
use Rattle.mips_decode.specs.Accesses.{UnitAccess, accesses_of}
use Rattle.mips_decode.specs.State.{State}
use Rattle.mips_decode.specs.Step.{Done}
use Rattle.mips_machine.specs.declared.caches.Tally.{Tally}
use Rattle.mips_machine.specs.Machine.{IsMachineStart, Machine, done_by}
use Rattle.mips_machine.specs.Passing.{Tallied, counting, no_visits, passed, passed_all, tallied}

abbrev pub HasTallies : Tallied → Type 0
HasTallies caches = length caches.tallies ≡ length caches.held

length-counting : (served found : Bool) (tally : Tally) (more rest : List Tally) (n : ℕ) → length more ≡ n → length rest ≡ n →
    length (counting served found tally more rest) ≡ suc n
length-counting false found tally more rest n one other = omega (arith, other)
length-counting true true tally more rest n one other = omega (arith, one)
length-counting true false tally more rest n one other = omega (arith, other)

length-tallied : (side : Side) (address : ℕ) (caches : List Held) (tallies : List Tally) →
    length (tallied side address caches tallies) ≡ length tallies
length-tallied side address [] tallies = refl
length-tallied side address (cache ∷ more) [] = refl
length-tallied side address (cache ∷ more) (tally ∷ tallies) =
    length-counting (serves cache.level.serves side) (finds_in cache address) tally tallies (tallied side address more tallies) (length tallies)
    refl (length-tallied side address more tallies)

length-onward : (served found : Bool) (cache changed : Held) (more : List Held) (rest : Went) → length rest.after ≡ length more →
    length (onward served found cache changed more rest).after ≡ suc (length more)
length-onward false found cache changed more rest same = omega (arith, same)
length-onward true true cache changed more rest same = refl
length-onward true false cache changed more rest same = omega (arith, same)

length-goes : (side : Side) (address : ℕ) (caches : List Held) → length (goes side address caches).after ≡ length caches
length-goes side address [] = refl
length-goes side address (cache ∷ more) =
    length-onward (serves cache.level.serves side) (finds_in cache address) cache (touch_in cache address) more (goes side address more)
    (length-goes side address more)

passed-tallies : (side : Option Side) (address : ℕ) (caches : Tallied) → HasTallies caches → HasTallies (passed side address caches)
passed-tallies None address caches same = same
passed-tallies (Some side) address caches same =
    length-tallied side address caches.held caches.tallies ∙ same ∙ sym (length-goes side address caches.held)

all-tallies : (accesses : List UnitAccess) (caches : Tallied) → HasTallies caches → HasTallies (passed_all accesses caches)
all-tallies [] caches same = same
all-tallies (access ∷ more) caches same =
    all-tallies more (passed (side_of access.kind) access.address caches) (passed-tallies (side_of access.kind) access.address caches same)

pub done-tallies : (m n : Machine) (done : Done) (next : State) → n ≡ done_by m done next → HasTallies m.caches → HasTallies n.caches
done-tallies m n done next is same =
    subst (λ (k : Machine). HasTallies k.caches) (sym is) (all-tallies (accesses_of m.values.pc done) m.caches same)

pub start-tallies : (image : Image) (profile : Profile) (entry : ℕ) (m : Machine) → IsMachineStart image profile entry m → HasTallies m.caches
start-tallies image profile entry m start =
    ap length start.tallies ∙ length-replicate {A = Tally} (length m.caches.held) no_visits
