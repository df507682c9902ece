-- Which fault comes first: of two, and of some contents.
use Rattle.std.proofs.Common.{◌≡◌, ℕ, List, [], ◌∷◌, ◌++◌, Option, Some, None, subst, arith, inl, inr, ◌⊎◌}
use Rattle.std.specs.Prelude.{All, Contains}
use Rattle.std.proofs.lemmas.List.Elements.{All-push, All-weaker, Contains-append_left, Contains-push}
use Rattle.net_model.specs.declared.unit.CodeKind.{CodeKind}
use Rattle.net_model.specs.declared.unit.Content.{Content}
use Rattle.net_model.specs.declared.unit.Content.TheVariants.{Unit as Stands, Fault}
use Rattle.unit_graph.specs.declared.first.Offence.{Offence}
use Rattle.unit_graph.specs.Firsts.{Follows, IsAmong, IsFaultOf, IsNoEarlier}

-- What isn't before a fault that isn't before another one isn't before that one.
pub later : (a b : Offence) (kind : CodeKind) (place : ℕ) → IsNoEarlier a b.kind b.place →
    IsNoEarlier b kind place → IsNoEarlier a kind place
later a b kind place (inl p) (inl q) = inl (omega arith)
later a b kind place (inl p) (inr q) = inl (omega arith)
later a b kind place (inr p) (inl q) = inl (omega arith)
later a b kind place (inr p) (inr q) = inr (omega arith, omega arith)

-- What follows a fault follows each one that isn't behind it.
pub Follows-later : (a b : Offence) (content : Content) → IsNoEarlier a b.kind b.place →
    Follows (Some b) content → Follows (Some a) content
Follows-later a b (Stands unit) ahead follows = tt
Follows-later a b (Fault kind place) ahead follows = later a b kind place ahead follows

-- No fault stood there so far.
pub Follows-none : (first : Option Offence) (content : Content) → Follows None content → Follows first content
Follows-none first (Stands unit) follows = tt
Follows-none first (Fault kind place) follows = absurd follows

-- The first fault with that of one more address.
pub IsAmong-more : (first result : Option Offence) (contents : List Content) (one : Content) →
    IsAmong first contents → (result ≡ first) ⊎ IsFaultOf result one → IsAmong result (contents ++ one ∷ [])
IsAmong-more first None contents one among either = tt
IsAmong-more None (Some result) contents one among (inl e) = cc
IsAmong-more (Some first) (Some result) contents one among (inl e) =
    let same : first ≡ result = cc in
    subst (λ (offence : Offence). Contains (contents ++ one ∷ []) (Fault offence.kind offence.place)) same
    (Contains-append_left contents (one ∷ []) (Fault first.kind first.place) among)
IsAmong-more first (Some result) contents one among (inr here) =
    subst (Contains (contents ++ one ∷ [])) here (Contains-push contents one)

pub Follows-more : (first result : Option Offence) (contents : List Content) (one : Content) →
    All (Follows first) contents → ((content : Content) → Follows first content → Follows result content) →
    Follows result one → All (Follows result) (contents ++ one ∷ [])
Follows-more first result contents one all old new =
    All-push (Follows result) contents one (All-weaker (Follows first) (Follows result) old contents all) new
