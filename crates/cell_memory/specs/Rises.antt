-- The two ways in which known words rise.
use Rattle.std.specs.Prelude.{Option}
use Rattle.cell_memory.specs.declared.lattice.Rise.{Rise}
use Rattle.cell_memory.specs.declared.lattice.Rise.TheVariants.{Join, Widen}
use Rattle.cell_memory.specs.Words.{joined_word, widened_word}
use Rattle.value_domain.specs.Spans.{Span}

abbrev pub risen : Rise → Span → Span → Option Span
risen Join x y = joined_word x y
risen Widen x y = widened_word x y
