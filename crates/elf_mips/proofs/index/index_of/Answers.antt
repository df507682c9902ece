-- The sort leaves the starts by rising addresses.
use Rattle.std.proofs.Common.{rules, List, sym, subst}
use Rattle.std.proofs.lemmas.List.Sorted.{IsNonDecreasingBy-from_sort_by_key}
use Rattle.std.specs.List.Sorted.{IsNonDecreasingBy}
use Rattle.elf_mips.specs.declared.segment.Start.{Start}
use Rattle.elf_mips.proofs.index.index_of.Goals as goal

pub returns-clause-rising : goal.returns-clause-rising
returns-clause-rising c =
    let rising = IsNonDecreasingBy-from_sort_by_key (λ (start : Start). start.address)
    c.sort_by_key.new.self.items c.in_ok-sort_by_key.ensures.sorted (λ a r q k. search rules) in
    subst (λ (all : List Start). IsNonDecreasingBy (λ start. start.address) all)
    (sym c.from_vec.ensures) rising
