-- A run before its first unit.
use Rattle.std.proofs.Common.{◌≡◌, ℕ, List, [], get_or, refl, ap, sym, subst, ◌∙◌, arith}
use Rattle.std.proofs.Math.Path.{fun_ext}
use Rattle.std.proofs.lemmas.List.Elements.{All-nil}
use Rattle.std.proofs.lemmas.Option.{get_or_from_slice_get}
use Rattle.cache_config.specs.declared.profile.Profile.{Profile}
use Rattle.elf_mips.specs.declared.image.Image.{Image}
use Rattle.elf_mips.specs.Segments.{code_at as image_code}
use Rattle.flow_net.specs.declared.net.NetArc.{NetArc}
use Rattle.mips_decode.specs.Calls.{ReturnsToCaller}
use Rattle.mips_decode.specs.Records.{KeepsTargets}
use Rattle.mips_decode.specs.State.{code_at}
use Rattle.mips_decode.specs.Units.{RunUnit}
use Rattle.mips_machine.specs.Image.{regions_of}
use Rattle.mips_machine.specs.Machine.{IsMachineStart, Machine}
use Rattle.mips_machine.proofs.CodeLemmas.{code_at-regions_of, code_at-start}
use Rattle.net_model.specs.Places.{IsPlaceOf}
use Rattle.net_model.specs.Targets.{targets_at}
use Rattle.image_run.specs.declared.course.Course.{Course}
use Rattle.image_run.specs.declared.course.Program.{Program}
use Rattle.image_run.specs.declared.report.Verdict.TheVariants.{Kept}
use Rattle.image_run.specs.Course.{IsCourse, IsFollowed, IsFollowing, IsRunnable, machine_of}
use Rattle.image_run.specs.Ranges.{KeepsRange, ranges_at}
use Rattle.image_run.specs.Turns.{AreTracked, IsSized}
use Rattle.image_run.specs.Verdicts.{KeepAll}
use Rattle.image_run.proofs.Tallying.{start-tallies}
use Rattle.image_run.proofs.Turning.{tracks-kept}
use Rattle.image_run.proofs.Visiting.{loops-kept}

-- The executable words of a start are the image's.
pub start-code : (image : Image) (profile : Profile) (entry : ℕ) (m : Machine) → IsMachineStart image profile entry m →
    code_at m.values.regions ≡ image_code image.segments
start-code image profile entry m start = fun_ext (λ address.
    code_at-start (regions_of image profile) m.values.regions start.values.memory address
    ∙ code_at-regions_of address image profile image.filled)

none-kept : (program : Program) → IsRunnable program → (course : Course) → AreTracked program.net.now [] course.turns →
    KeepAll program.image.now program.entry []
none-kept program runnable course tracked = record {
  records = record {
    targets = All-nil (λ (u : RunUnit). KeepsTargets (targets_at program.image.now u.at.address) u.step);
    bounds = loops-kept program.image.now program.entry program.net.now runnable.is_net [] [] tt
        (λ scope inst there. tracks-kept program.net.now scope inst [] course.turns.from _ (tracked.loops scope inst there));
  };
  ranges = All-nil (λ (u : RunUnit). KeepsRange (ranges_at program.image.now) u.at.address u.step);
  callers = All-nil (λ (u : RunUnit). ReturnsToCaller u.at.calls u.step);
}

-- The first place is the one to which arc 1 goes.
pub first-course : (program : Program) (runnable : IsRunnable program) (course : Course) →
    course.machine ≡ machine_of program → IsMachineStart program.image.now program.profile.now program.entry course.machine →
    course.steps ≡ 0 → course.place ≡ runnable.is_net.arcs.first.0.to → course.verdict ≡ Kept →
    AreTracked program.net.now [] course.turns → IsSized program.net.now course.turns → IsCourse program course
first-course program runnable course machine start none place kept tracked sized =
    let cycles = start.cycles in
    record {
      start = subst (IsMachineStart program.image.now program.profile.now program.entry) machine start;
      tallies = start-tallies program.image.now program.profile.now program.entry course.machine start;
      machines = [];
      going = tt;
      last = sym machine;
      steps = sym none;
      cycles = omega (arith, cycles);
      code = start-code program.image.now program.profile.now program.entry course.machine start;
      verdict = subst (IsFollowed program [] course) (sym kept) following;
    }
  where
    following : IsFollowing program [] course
    following = record {
      kept = none-kept program runnable course tracked;
      zero = start.values.registers.zero;
      place = record {
        context = 0;
        by = refl;
        at = subst (λ (n : ℕ). IsPlaceOf program.net.now n 0 program.entry) (sym place) runnable.is_net.arcs.first.3;
      };
      address = sym start.values.pc;
      visited = [];
      are = tt;
      turns = tracked;
      sized = sized;
    }

-- The first arc, as the code reads it.
pub first-read : (program : Program) (runnable : IsRunnable program) (arcs : List NetArc) (d : NetArc) → arcs ≡ program.net.now.arcs →
    (get_or arcs 0 d).to ≡ runnable.is_net.arcs.first.0.to
first-read program runnable arcs d same =
    ap (λ (a : NetArc). a.to)
    (ap (λ (list : List NetArc). get_or list 0 d) same
    ∙ get_or_from_slice_get program.net.now.arcs 0 runnable.is_net.arcs.first.0 d runnable.is_net.arcs.first.1)
