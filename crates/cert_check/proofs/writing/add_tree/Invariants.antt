-- The lines so far.
use Rattle.std.proofs.Common.{◌≡◌, ◌++◌, flat_map, take}
use Rattle.std.specs.List.{AllByRecursion}
use Rattle.std.specs.String.{string_bytes}
use Rattle.cert_check.specs.Lines.{FitsNode}
use Rattle.cert_check.specs.Texts.{node_text}
use Rattle.cert_check.proofs.writing.add_tree.Given as goal

abbrev pub invariant-loop-node : goal.invariant-loop-node
invariant-loop-node l = record {
  text : string_bytes l.text ≡ string_bytes l.initial.text ++ flat_map node_text (take l.node-index l.tree);
  fit : AllByRecursion FitsNode (take l.node-index l.tree);
}
