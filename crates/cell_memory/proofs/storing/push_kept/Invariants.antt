-- The words so far that stay are behind the list.
use Rattle.std.proofs.Common.{◌≡◌, ◌++◌, take}
use Rattle.cell_memory.specs.Stores.{kept_between}
use Rattle.cell_memory.proofs.storing.push_kept.Given as goal

abbrev pub invariant-loop-word : goal.invariant-loop-word
invariant-loop-word l =
    l.left.items ≡ l.initial.left.items ++ kept_between l.store.writable.now l.store.address l.store.size l.low l.high (take l.word-index l.words)
