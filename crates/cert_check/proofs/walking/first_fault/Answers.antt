-- A broken rule of the tree ends the walk; the others wait for its end.
use Rattle.std.proofs.Common.{rules, ◌≡◌, ◌+◌, ◌≤◌, [], ◌∷◌, drop, vec_capacity, sym, inl, inr}
use Rattle.std.proofs.lemmas.Bool.{OnTrue_at, OnFalse_at}
use Rattle.cert_check.specs.Rejects.{branches_of}
use Rattle.cert_check.proofs.Found.{ended, finish, has-room, told-at-once, walked-more, wider}
use Rattle.cert_check.proofs.walking.first_fault.Goals.{then-loop-more-test+else-place-tree, else-loop-more-test}
use Rattle.cert_check.proofs.walking.first_fault.Goals as goal

pub returns-then-is_found : goal.returns-then-is_found
returns-then-is_found c =
    told-at-once c.args.program.now c.args.bound (branches_of ([] ∷ []) c.args.tree.now) c.args.tree.now
    c.loop-more.scratch.cuts.items c.loop-more.more c.loop-more.place c.loop-more.wide c.loop-more.dual _
    c.index-tree-place.result c.index-tree-place.result c.fault_at-found.result
    c.loop-more.invariant.walked c.loop-more-test.true c.if-place-tree.true c.index-tree-place.is c.fault_at-found.ensures.found
    c.if-is_found.ensures.same

pub go_on-more-requires : goal.go_on-more-requires
go_on-more-requires c =
    let room = has-room c.args.program.now c.args.bound (branches_of ([] ∷ []) c.args.tree.now) c.args.tree.now
    c.loop-more.scratch.cuts.items c.loop-more.more c.loop-more.place c.loop-more.wide c.loop-more.dual _
    c.index-tree-place.result c.index-tree-place.result c.fault_at-found.result
    c.loop-more.invariant.walked c.loop-more-test.true c.if-place-tree.true c.index-tree-place.is c.fault_at-found.ensures.found in
    rw c.fault_at-found.ensures.cuts room

pub loop-more-preserved : goal.loop-more-preserved
loop-more-preserved c =
    let cuts = sym c.fault_at-found.ensures.cuts in
    let grown : vec_capacity c.loop-more.scratch.cuts ≤ vec_capacity c.go_on-more.new.cuts = rw cuts c.go_on-more.ensures.room in
    record {
      walked = rw (c.kept-wide.ensures, c.kept-dual.ensures)
          (wider c.args.program.now c.args.bound (branches_of ([] ∷ []) c.args.tree.now) c.args.tree.now
          c.go_on-more.new.cuts.items c.go_on-more.result (c.loop-more.place + 1) _ _
          (vec_capacity c.loop-more.scratch.cuts) (vec_capacity c.go_on-more.new.cuts) grown
          (walked-more c.args.program.now c.args.bound (branches_of ([] ∷ []) c.args.tree.now) c.args.tree.now
          c.loop-more.scratch.cuts.items c.loop-more.more c.loop-more.place c.loop-more.wide c.loop-more.dual
          (vec_capacity c.loop-more.scratch.cuts) c.index-tree-place.result c.index-tree-place.result c.fault_at-found.result
          c.loop-more.invariant.walked c.loop-more-test.true c.if-place-tree.true c.index-tree-place.is
          c.fault_at-found.ensures.found c.go_on-more.new.cuts.items c.go_on-more.result
          c.is_found-in-loop-more.result c.is_found-in-loop-more-2.result c.if-is_found.ensures.other
          (λ h. OnTrue_at h c.is_found-in-loop-more.ensures.same)
          (λ h. OnFalse_at h c.is_found-in-loop-more.ensures.other)
          (λ h. OnTrue_at h c.is_found-in-loop-more-2.ensures.same)
          (λ h. OnFalse_at h c.is_found-in-loop-more-2.ensures.other) (rw cuts c.go_on-more.ensures.next)
          (rw cuts c.go_on-more.ensures.few)));
      columns = search rules;
    }

pub returns : goal.returns
returns c =
    let w = c.loop-more.invariant.walked in
    let none : drop c.loop-more.place (branches_of ([] ∷ []) c.args.tree.now) ≡ [] =
    ended (branches_of ([] ∷ []) c.args.tree.now) c.args.tree.now c.loop-more.scratch.cuts.items c.loop-more.more
    c.loop-more.place w.ahead
    (elim c.loop-more-test.branch [ then-loop-more-test+else-place-tree v ↦ inr v.if-place-tree.false | else-loop-more-test v ↦ inl v.loop-more-test.false ]) in
    rw c.told_of.ensures
    (finish c.args.program.now c.args.bound (branches_of ([] ∷ []) c.args.tree.now) c.loop-more.place c.loop-more.wide
    c.loop-more.dual none w.trees w.wides w.duals w.fine)
