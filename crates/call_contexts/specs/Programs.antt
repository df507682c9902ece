-- Programs that have a net, and what is answered of the others.
use Rattle.std.specs.Prelude.{◌≡◌, ℕ, ◌<◌, ◌^◌, ◌⊎◌, min}
use Rattle.elf_mips.specs.declared.image.Image.{Image}
use Rattle.loop_nest.specs.Programs.{AreNests}
use Rattle.loop_nest.specs.declared.nest.Nests.{Nests}
use Rattle.net_model.specs.Faults.{HasNoFault}
use Rattle.net_model.specs.Functions.{CanReturn}
use Rattle.unit_graph.specs.Graphs.{AreGraphs}
use Rattle.unit_graph.specs.declared.graph.Graphs.{Graphs}
use Rattle.call_contexts.specs.Sizes.{AreSizes, most_contexts, most_places}
use Rattle.call_contexts.specs.declared.fault.NetFault.{NetFault}
use Rattle.call_contexts.specs.declared.fault.NetFault.TheVariants.{NeverReturns, TooMany, Memory}

-- The graphs and the loops of a program's functions, whose code has no fault.
pub record IsProgram (image : Image) (entry : ℕ) (graphs : Graphs) (nests : Nests) : Type 0 where
  pub graphs_are : AreGraphs image entry graphs
  pub nests_are : AreNests image graphs nests
  pub faultless : HasNoFault image entry

-- They are those of some program; and what is said of each program that they are of.
abbrev pub AreOfProgram : Graphs → Nests → Type 0
AreOfProgram graphs nests = (image : Image) × (entry : ℕ) × IsProgram image entry graphs nests

abbrev pub OfProgram : Graphs → Nests → (said : Image → ℕ → Type 0) → Type 0
OfProgram graphs nests said = (image : Image) (entry : ℕ) → IsProgram image entry graphs nests → said image entry

-- No unit that the entry function reaches returns.
abbrev pub HasNoReturn : Image → ℕ → Type 0
HasNoReturn image entry = CanReturn image entry → ⊥

-- A program has more contexts or places than a net may have.
abbrev pub AreTooMany : (contexts places : ℕ) → Type 0
AreTooMany contexts places = (most_contexts < contexts) ⊎ (most_places < places)

-- The numbers of contexts and places as they are told: each at most 2^63.
pub record HasTooMany (image : Image) (entry contexts places : ℕ) : Type 0 where
  pub all_contexts : ℕ
  pub all_places : ℕ
  pub sizes : AreSizes image entry all_contexts all_places
  pub many : AreTooMany all_contexts all_places
  pub contexts_told : contexts ≡ min all_contexts (2 ^ 63)
  pub places_told : places ≡ min all_places (2 ^ 63)

-- What a fault says of a program: that its entry function never returns, or else that it has too many contexts or
-- places. Want of memory says nothing.
abbrev pub TellsFault : Image → (entry : ℕ) → NetFault → Type 0
TellsFault image entry NeverReturns = HasNoReturn image entry
TellsFault image entry (TooMany contexts places) = CanReturn image entry × HasTooMany image entry contexts places
TellsFault image entry Memory = Unit {0}
