-- The two searches give the places between which the rules of the address stand.
use Rattle.std.proofs.Common.{◌-◌, nat_le, nat_lt, rules, ◌∙◌, ap, take, None}
use Rattle.std.proofs.lemmas.List.Sorted.{IsPartitionPoint-from_clause, IsPartitionedBy-leb, IsPartitionedBy-ltb}
use Rattle.unit_graph.specs.declared.inference.Rule.{Rule}
use Rattle.code_units.proofs.Ranging.{AreAt, IsSplit, from_to, part_at_address}
use Rattle.unit_graph.proofs.inference.rules_at.Goals as goal

nothing : Rule
nothing = record { given = 0; other = None; then = 0 }

less : (c : goal.After-rest-1) →
    IsSplit (λ rule. nat_lt rule.given c.args.address) c.args.rules.now c.partition_point-from.result
less c =
    IsPartitionPoint-from_clause (λ (rule : Rule). nat_lt rule.given c.args.address) c.args.rules.now
    c.partition_point-from.result c.partition_point-from.ensures.partitioned
    (IsPartitionedBy-ltb (λ (rule : Rule). rule.given) c.args.rules.now c.args.address c.requires)
    (λ a r q k. search rules)

most : (c : goal.After-rest-1) →
    IsSplit (λ rule. nat_le rule.given c.args.address) c.args.rules.now c.partition_point-to.result
most c =
    IsPartitionPoint-from_clause (λ (rule : Rule). nat_le rule.given c.args.address) c.args.rules.now
    c.partition_point-to.result c.partition_point-to.ensures.partitioned
    (IsPartitionedBy-leb (λ (rule : Rule). rule.given) c.args.rules.now c.args.address c.requires)
    (λ a r q k. search rules)

less_later : (c : goal.After-found-1) →
    IsSplit (λ rule. nat_lt rule.given c.args.address) c.args.rules.now c.partition_point-from.result
less_later c =
    IsPartitionPoint-from_clause (λ (rule : Rule). nat_lt rule.given c.args.address) c.args.rules.now
    c.partition_point-from.result c.partition_point-from.ensures.partitioned
    (IsPartitionedBy-ltb (λ (rule : Rule). rule.given) c.args.rules.now c.args.address c.requires)
    (λ a r q k. search rules)

most_later : (c : goal.After-found-1) →
    IsSplit (λ rule. nat_le rule.given c.args.address) c.args.rules.now c.partition_point-to.result
most_later c =
    IsPartitionPoint-from_clause (λ (rule : Rule). nat_le rule.given c.args.address) c.args.rules.now
    c.partition_point-to.result c.partition_point-to.ensures.partitioned
    (IsPartitionedBy-leb (λ (rule : Rule). rule.given) c.args.rules.now c.args.address c.requires)
    (λ a r q k. search rules)

pub overflow_sub-to : goal.overflow_sub-to
overflow_sub-to c =
    from_to (λ (rule : Rule). rule.given) c.args.rules.now c.args.address c.partition_point-from.result c.partition_point-to.result nothing
    c.partition_point-from.ensures.bound (less c) (most c)

found : (c : goal.After-found-1) → AreAt (λ (rule : Rule). rule.given) c.args.rules.now c.args.address c.split_at-2.result.0.now
found c =
    part_at_address (λ (rule : Rule). rule.given) c.args.rules.now c.args.address c.partition_point-from.result c.partition_point-to.result
    c.split_at-2.result.0.now
    c.partition_point-to.ensures.bound c.partition_point-from.ensures.bound (less_later c) (most_later c)
    (c.split_at-2.ensures.front ∙ ap (take (c.partition_point-to.result - c.partition_point-from.result)) c.split_at.ensures.back)

pub returns-clause-within : goal.returns-clause-within
returns-clause-within c = (found c).within

pub returns-clause-sound : goal.returns-clause-sound
returns-clause-sound c = (found c).sound

pub returns-clause-whole : goal.returns-clause-whole
returns-clause-whole c = (found c).whole
