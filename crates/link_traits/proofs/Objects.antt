-- How many objects of a host are out.
use Rattle.std.proofs.Common.{◌≡◌, ℕ, ◌+◌, Option, Some, None, IsSome, refl, arith}
use Rattle.link_traits.specs.Traffic.{Sight}
use Rattle.link_traits.specs.Host.{Hosted, sink_out, objects_out}

sink_is_in : (lent : ℕ) (out : Option Sight) → lent + sink_out out ≡ 0 → IsSome out
sink_is_in lent None none_out = let bad : lent + 1 ≡ 0 = none_out in absurd (omega arith)
sink_is_in lent (Some sink) none_out = refl

-- while no object is out, the output sink is with the host
pub sink_is_here : (h : Hosted) → objects_out h ≡ 0 → IsSome h.out
sink_is_here h none_out = sink_is_in h.lent h.out none_out
