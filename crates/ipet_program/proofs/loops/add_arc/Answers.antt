-- The row of the loop instance gets the arc's term, and no other row has one.
use Rattle.std.proofs.Common.{◌≡◌, ◌-◌, ◌-ℤ◌, ◌*ℤ◌, not, Bool, pos, length, get_or, Some, ap, ◌∙◌, arith, rules, w64, SFits}
use Rattle.std.proofs.lemmas.Int.{to_z-of_z}
use Rattle.flow_net.specs.Numbers.{item_at}
use Rattle.flow_net.specs.Scopes.{holds_of}
use Rattle.flow_net.specs.declared.net.LoopInst.{LoopInst}
use Rattle.ipet_program.specs.Rows.{one_if}
use Rattle.ipet_program.proofs.LoopRows.{grown-loop, grown-none}
use Rattle.ipet_program.proofs.Numbered.{item-number}
use Rattle.ipet_program.proofs.loops.add_arc.Goals as goal

pub returns-then-scope-eq0 : goal.returns-then-scope-eq0
returns-then-scope-eq0 c = record {
  rows = λ row known.
      known ∙ grown-none c.args.net.now c.args.arc c.loop_at-scope.result c.loop_at-scope.ensures.header row
      c.args.column (length c.args.rows.now) c.if-scope-eq0.true;
}

pub returns : goal.returns
returns c = record {
  rows = λ row known.
      let net = c.args.net.now in
      let scope = c.loop_at-scope.result in
      let is = c.loop_at-scope.ensures.header in
      let inst : LoopInst = get_or c.as_slice.result.now (scope - 1) (record { header = 0; bound = 0; outer = 0 }) in
      let there : item_at scope net.loops ≡ Some inst =
      item-number net.loops c.as_slice.result.now scope (record { header = 0; bound = 0; outer = 0 })
      c.as_slice.ensures
      (grind arith) is.within in
      let entering : c.is_outside-entering.result ≡ not (holds_of net scope c.args.arc.from) =
      c.is_outside-entering.ensures.outside in
      let fits : SFits w64 c.header_factor.result = search rules in
      c.in_ok-add_at.ensures.rows row known
      ∙ grown-loop net c.args.arc scope is row c.args.column (length c.args.rows.now) _ inst there
      (to_z-of_z w64 c.header_factor.result fits ∙ c.header_factor.ensures.factor
      ∙ ap (λ (b : Bool). pos 1 -ℤ pos inst.bound *ℤ one_if b) entering);
}
