-- The lines so far.
use Rattle.std.proofs.Common.{◌≡◌, ◌++◌, flat_map, take}
use Rattle.std.specs.String.{string_bytes}
use Rattle.wcet_engine.specs.Texts.{node_text}
use Rattle.wcet_engine.proofs.text.add_tree.Given as goal

abbrev pub invariant-loop-node : goal.invariant-loop-node
invariant-loop-node l = string_bytes l.text ≡ string_bytes l.initial.text ++ flat_map node_text (take l.node-index l.tree)
