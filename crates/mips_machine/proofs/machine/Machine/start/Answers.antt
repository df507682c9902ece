-- The machine that is made is a start state.
use Rattle.std.proofs.Common.{◌≡◌, ◌∙◌, length, replicate, refl, ap, subst, sym}
use Rattle.lru_concrete.specs.Chains.{levels_of}
use Rattle.mips_machine.specs.Machine.{unvisited}
use Rattle.mips_machine.specs.Passing.{Tallied, no_visits}
use Rattle.mips_machine.proofs.machine.Machine.start.Goals as goal

pub returns-clause-start : goal.returns-clause-start
returns-clause-start c =
    let new : c.in_ok-new.field-0 ≡ unvisited c.args.caches = c.in_ok-new.ensures in
    record {
      values = record {
        pc = refl;
        registers = c.start_registers.ensures.start c.args.entry;
        memory = c.in_ok-memory.ensures.start;
      };
      cycles = refl;
      last = refl;
      classes = refl;
      store = refl;
      levels = ap (λ (t : Tallied). levels_of t.held) new ∙ c.requires.caches.levels;
      memory = ap (λ (t : Tallied). t.memory) new ∙ c.requires.caches.memory;
      tallies = subst (λ (t : Tallied). t.tallies ≡ replicate (length t.held) no_visits) (sym new) refl;
    }
