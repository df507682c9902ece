-- Images with the same segments and records have the same program at an entry: its units, loops, nets and faults.
use Rattle.std.proofs.Common.{◌≡◌, ℕ, ◌+◌, ◌<◌, inl, inr, cond, List, Option, Some, None, refl, ap, subst, ◌∙◌}
use Rattle.std.proofs.Math.Path.{fun_ext}
use Rattle.cache_config.specs.Instructions.{costs_of}
use Rattle.cache_config.specs.declared.profile.Profile.{Profile}
use Rattle.call_contexts.proofs.SameSizes.{no_return-same, sizes-same}
use Rattle.elf_mips.specs.declared.image.Image.{Image}
use Rattle.elf_mips.specs.declared.segment.Segment.{Segment}
use Rattle.elf_mips.specs.Segments.{code_at, is_writable_word}
use Rattle.flow_net.specs.Numbers.{item_at}
use Rattle.flow_net.specs.declared.net.Net.{Net}
use Rattle.flow_net.specs.declared.net.Place.{Place}
use Rattle.ipet_program.specs.Costs.{content_full}
use Rattle.ipet_program.specs.Programs.{crude_limit, crude_of, full_at, full_price}
use Rattle.mips_decode.specs.Step.{fetched}
use Rattle.net_model.specs.declared.unit.CodeKind.{CodeKind}
use Rattle.net_model.specs.declared.unit.CodeKind.TheVariants as code
use Rattle.net_model.specs.declared.unit.Content.{Content}
use Rattle.net_model.specs.declared.unit.Content.TheVariants.{Unit as Stands}
use Rattle.net_model.specs.Units.{Word, Holds, Lacks, content_at, content_of, is_transfer, known, with_slot, word_at}
use Rattle.net_model.proofs.SameCode.{IsSameCode, function-same, offends-same}
use Rattle.net_model.proofs.SameNets.{irreducible-same, net-same, unbounded-same}
use Rattle.loop_nest.specs.Programs.{IsIrreducibleIn, IsUnboundedIn}
use Rattle.wcet_engine.specs.declared.refusal.RefusalKind.{RefusalKind}
use Rattle.wcet_engine.specs.ProgramFaults.{IsCodeFault, IsTooLarge, IsTooMany, OffendsIn}
use Rattle.wcet_engine.proofs.SameCosts.{HaveSameCosts, same-full}

-- Two images with the same segments and records.
pub record IsSame (a b : Image) : Type 0 where
  pub segments : a.segments ≡ b.segments
  pub marks : a.marks ≡ b.marks

word-same : (a b : Image) (address : ℕ) → IsSame a b → word_at a address ≡ word_at b address
word-same a b address same =
    ap (λ (segments : List Segment). cond (is_writable_word segments address) (Lacks code.WritableCode) (known (fetched (code_at segments) address)))
    same.segments

content_of-same : (a b : Image) (address : ℕ) (word : Word) → IsSame a b → content_of a address word ≡ content_of b address word
content_of-same a b address (Lacks kind) same = refl
content_of-same a b address (Holds instr) same =
    ap (λ (word : Word). cond (is_transfer instr) (with_slot instr (address + 4) word) (Stands (record { instr = instr; slot = None })))
    (word-same a b (address + 4) same)

pub content-same : (a b : Image) (address : ℕ) → IsSame a b → content_at a address ≡ content_at b address
content-same a b address same =
    content_of-same a b address (word_at a address) same ∙ ap (content_of b address) (word-same a b address same)

-- Images that are the same so far have the same code.
code-of : (a b : Image) → IsSame a b → IsSameCode a b
code-of a b same = record { contents = λ address. content-same a b address same; marks = same.marks }

full_at-same : (a b : Image) (profile : Profile) (number : ℕ) (place : Option Place) → IsSame a b →
    full_at profile a number place ≡ full_at profile b number place
full_at-same a b profile number None same = refl
full_at-same a b profile number (Some place) same =
    ap (λ (c : Content). content_full (costs_of profile) number c place.address) (content-same a b place.address same)

full-same : (a b : Image) (profile : Profile) (net : Net) → IsSame a b → full_price profile a net ≡ full_price profile b net
full-same a b profile net same = fun_ext (λ number. full_at-same a b profile number (item_at number net.places) same)

-- What is said of the program of an image holds of that of another one that is the same so far.
cycle-same : (a b : Image) (entry place : ℕ) → IsSame a b → IsIrreducibleIn a entry place → IsIrreducibleIn b entry place
cycle-same a b entry place same fault = record {
  function = fault.function;
  is = function-same a b (code-of a b same) entry fault.function fault.is;
  here = irreducible-same a b fault.function place (code-of a b same) fault.here;
}

unbound-same : (a b : Image) (entry place : ℕ) → IsSame a b → IsUnboundedIn a entry place → IsUnboundedIn b entry place
unbound-same a b entry place same fault = record {
  function = fault.function;
  is = function-same a b (code-of a b same) entry fault.function fault.is;
  here = unbounded-same a b fault.function place (code-of a b same) fault.here;
}

fault-same : (a b : Image) (entry : ℕ) (kind : CodeKind) (place : ℕ) → IsSame a b → IsCodeFault kind a entry place → IsCodeFault kind b entry place
fault-same a b entry code.Irreducible place same fault = cycle-same a b entry place same fault
fault-same a b entry code.NoBound place same fault = unbound-same a b entry place same fault
fault-same a b entry code.WritableCode place same fault = offends-same a b (code-of a b same) entry code.WritableCode place fault
fault-same a b entry code.UnknownWord place same fault = offends-same a b (code-of a b same) entry code.UnknownWord place fault
fault-same a b entry code.TransferInSlot place same fault = offends-same a b (code-of a b same) entry code.TransferInSlot place fault
fault-same a b entry code.UnknownTarget place same fault = offends-same a b (code-of a b same) entry code.UnknownTarget place fault
fault-same a b entry code.LinkRegister place same fault = offends-same a b (code-of a b same) entry code.LinkRegister place fault
fault-same a b entry code.Recursion place same fault = offends-same a b (code-of a b same) entry code.Recursion place fault

large-same : (a b : Image) (profile other : Profile) (entry : ℕ) → IsSame a b → HaveSameCosts profile other →
    IsTooLarge a profile entry → IsTooLarge b other entry
large-same a b profile other entry same costs is =
    let price = full-same a b profile is.net same ∙ same-full b profile other is.net costs in
    record {
      net = is.net;
      is_net = net-same a b entry is.net (code-of a b same) is.is_net;
      large = subst (λ (price : ℕ → ℕ). crude_limit < crude_of is.net price) price is.large;
    }

many-same : (a b : Image) (entry : ℕ) → IsSame a b → IsTooMany a entry → IsTooMany b entry
many-same a b entry same is = record {
  contexts = is.contexts;
  places = is.places;
  sizes = sizes-same a b entry is.contexts is.places (code-of a b same) is.sizes;
  many = is.many;
}

-- So are the faults of the program, under profiles with the same costs.
pub program-same : (a b : Image) (profile other : Profile) (entry : ℕ) (kind : RefusalKind) (place : ℕ) → IsSame a b →
    HaveSameCosts profile other → OffendsIn a profile entry kind place → OffendsIn b other entry kind place
program-same a b profile other entry kind place same costs (inl fault) = inl (record {
  inner = fault.inner;
  same = fault.same;
  offends = fault-same a b entry fault.inner place same fault.offends;
})
program-same a b profile other entry kind place same costs (inr (inl fault)) = inr (inl (record {
  same = fault.same;
  offends = (fault.offends.0, no_return-same a b entry (code-of a b same) fault.offends.1);
}))
program-same a b profile other entry kind place same costs (inr (inr (inl fault))) = inr (inr (inl (record {
  same = fault.same;
  offends = (fault.offends.0, many-same a b entry same fault.offends.1);
})))
program-same a b profile other entry kind place same costs (inr (inr (inr (inl fault)))) = inr (inr (inr (inl (record {
  same = fault.same;
  offends = (fault.offends.0, large-same a b profile other entry same costs fault.offends.1);
}))))
program-same a b profile other entry kind place same costs (inr (inr (inr (inr none)))) = absurd none
