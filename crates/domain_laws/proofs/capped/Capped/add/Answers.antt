-- The items with one more still rise.
use Rattle.std.proofs.Common.{arith, rules, subst, sym}
use Rattle.std.specs.Prelude.{Some}
use Rattle.domain_laws.specs.Sets.{AreFew, Climbs, Limited}
use Rattle.domain_laws.proofs.capped.Capped.add.Goals.{in-Some-1, in-None-1}
use Rattle.domain_laws.specs.SetLaws.{climbs_put}
use Rattle.domain_laws.proofs.capped.Capped.add.Goals as goal

pub invariant_of-self-then-len-self-2 : goal.invariant_of-self-then-len-self-2
invariant_of-self-then-len-self-2 c =
    let was : Climbs 0 c.in-Some.items.items = search rules in (
      subst (Climbs 0) (sym c.in_ok-put_item.ensures.ok) (climbs_put 0 c.args.item c.in-Some.items.items was (omega arith)),
      omega arith,
    )

pub returns-then-len-self-clause-few : goal.returns-then-len-self-clause-few
returns-then-len-self-clause-few c =
    let was : Climbs 0 c.in-Some.items.items = search rules in
    let few : AreFew c.self.inside.limit (Some c.put_item.new.items.items) = (
      subst (Climbs 0) (sym c.in_ok-put_item.ensures.ok) (climbs_put 0 c.args.item c.in-Some.items.items was (omega arith)),
      omega arith,
    ) in
    elim c.match-self.branch [
      | in-Some-1 w ↦ subst (λ (s : Limited). AreFew s.limit s.items) (sym w.self-is) few
      | in-None-1 w ↦ subst (λ (s : Limited). AreFew s.limit s.items) (sym w.self-is) few
    ]
