-- The analysis of a program without a fault.
use Rattle.std.proofs.Common.{◌≡◌, ℕ, ◌^◌, ◌<◌, List, [], ◌∷◌, length, min, refl, subst, arith}
use Rattle.cache_config.specs.declared.profile.Profile.{Profile}
use Rattle.call_contexts.specs.Programs.{HasNoReturn, HasTooMany, IsProgram}
use Rattle.call_contexts.proofs.NetOnce.{net-once}
use Rattle.call_contexts.proofs.SizesOnce.{sizes-few}
use Rattle.elf_mips.specs.declared.image.Image.{Image}
use Rattle.flow_net.specs.declared.net.Net.{Net}
use Rattle.ipet_program.specs.declared.certificate.Certificate.{Certificate}
use Rattle.ipet_program.proofs.CertificateLaw.{certificate-bound}
use Rattle.loop_nest.specs.declared.nest.Nests.{Nests}
use Rattle.lru_concrete.specs.declared.level.Level.{Level}
use Rattle.unit_graph.specs.declared.graph.Graphs.{Graphs}
use Rattle.wcet_engine.specs.FileFaults.{IsUnbuilt}
use Rattle.wcet_engine.specs.ProgramFaults.{IsAnalysisOf, IsLargeNet, IsTooLarge, IsTooMany}
use Rattle.wcet_engine.specs.Stages.{Certifies, IsNetOf}
use Rattle.wcet_engine.proofs.CodeKinds.{code-faultless}
use Rattle.wcet_engine.proofs.ProgramFaultLemmas.{free-program}
use Rattle.wcet_engine.proofs.WalkRuns.{walks-net}
use Rattle.wcet_engine.proofs.NetBound.{counted-bounds, counts-runs}

-- The sizes that are told are above the limits.
pub too-many : (image : Image) (entry contexts places : ℕ) → HasTooMany image entry contexts places → IsTooMany image entry
too-many image entry contexts places told =
    record { contexts = told.all_contexts; places = told.all_places; sizes = told.sizes; many = told.many }

-- The net of a program shows that its entry function can return, and that its sizes are within the limits, since a
-- program has one number of contexts and places.
pub can-return : (image : Image) (entry : ℕ) (net : Net) → IsNetOf image entry net → HasNoReturn image entry → ⊥
can-return image entry net is none = none is.can_return

pub not-many : (image : Image) (entry : ℕ) (graphs : Graphs) (nests : Nests) (net : Net) → IsProgram image entry graphs nests →
    IsNetOf image entry net → IsTooMany image entry → ⊥
not-many image entry graphs nests net program is many =
    sizes-few image entry graphs program.graphs_are program.faultless _ _ is.sizes is.contexts is.places
    (min many.contexts (2 ^ 63)) (min many.places (2 ^ 63))
    (record {
      all_contexts = many.contexts;
      all_places = many.places;
      sizes = many.sizes;
      many = many.many;
      contexts_told = refl;
      places_told = refl;
    })

-- The crude bound of a net whose program is built isn't too large, and a program has one net.
fitting : (image : Image) (profile : Profile) (entry : ℕ) (net : Net) (certificate : Certificate) → IsNetOf image entry net →
    Certifies image profile net certificate → IsTooLarge image profile entry → ⊥
fitting image profile entry net certificate is certifies large =
    let same : large.net ≡ net = net-once image entry large.net net large.is_net is.is_net in
    let above = subst (IsLargeNet image profile) same large.large in
    let low = certifies.low in
    omega (arith, above, low)

pub without-caches : (levels : List Level) → (0 < length levels → ⊥) → levels ≡ []
without-caches [] built = refl
without-caches (level ∷ levels) built = absurd (built (omega arith))

-- A program without a fault is analysed.
pub is-analysed : (image : Image) (profile : Profile) (entry : ℕ) (graphs : Graphs) (nests : Nests) (net : Net) (certificate : Certificate) →
    (IsUnbuilt profile → ⊥) → IsProgram image entry graphs nests → IsNetOf image entry net → Certifies image profile net certificate →
    IsAnalysisOf image profile entry (record { net = net; certificate = certificate })
is-analysed image profile entry graphs nests net certificate built program is certifies =
    let greatest = certificate-bound certifies.program certificate certifies.checkable certifies.valid in
    let counted = counts-runs image profile entry net certifies.program (without-caches profile.levels built) is certifies.is in
    record {
      faultless =
          free-program image profile entry (code-faultless image entry graphs nests program) (can-return image entry net is)
          (not-many image entry graphs nests net program is) (fitting image profile entry net certificate is certifies);
      is_net = is.is_net;
      paths = is.paths;
      walks = walks-net image profile entry net is.paths;
      program = certifies.program;
      is_program = certifies.is;
      valid = certifies.valid;
      reached = certifies.reached;
      tree = certifies.tree;
      line = certifies.line;
      greatest = greatest;
      counted = counted;
      bounds = counted-bounds image profile entry net certifies.program certificate.bound counted greatest;
    }
