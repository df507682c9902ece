-- Words that rise are words.
use Rattle.domain_laws.specs.Maps.{map_joined}
use Rattle.std.proofs.Common.{ℕ, List}
use Rattle.value_domain.specs.Spans.{Span}
use Rattle.cell_memory.specs.declared.lattice.Rise.{Rise}
use Rattle.cell_memory.specs.declared.lattice.Rise.TheVariants.{Join, Widen}
use Rattle.cell_memory.specs.Rises.{risen}
use Rattle.cell_memory.specs.Words.{AreWords}
use Rattle.cell_memory.specs.WordLaws.{words_lattice, words_widening}

pub risen_kept : (by : Rise) (words newer : List (ℕ × Span)) → AreWords words → AreWords newer → AreWords (map_joined (risen by) words newer)
risen_kept Join words newer p q = words_lattice.kept words newer p q
risen_kept Widen words newer p q = words_widening.kept words newer p q
