-- The limits of caches.
use Rattle.std.specs.Prelude.{ℕ}

-- The most sets of a cache, and the most blocks of a set.
abbrev pub most_sets : ℕ
most_sets = 1024

abbrev pub most_ways : ℕ
most_ways = 16

-- The fewest and the most bytes of a block.
abbrev pub least_line : ℕ
least_line = 4

abbrev pub most_line : ℕ
most_line = 256

-- The most cycles of one visit of a cache, and of memory.
abbrev pub most_latency : ℕ
most_latency = 1000000

-- The most caches.
abbrev pub most_levels : ℕ
most_levels = 6
