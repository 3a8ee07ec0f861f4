use Rattle.std.proofs.Common.{◌≡◌}
use Rattle.order_witness.specs.Marks.{IsMarked}
use Rattle.saturation.specs.Pairs.{AddsPairs, IsFirstBelow}
use Rattle.saturation.proofs.pairs.add_links.Given as goal

abbrev pub invariant-loop-number : goal.invariant-loop-number
invariant-loop-number l = AddsPairs (IsFirstBelow (λ a b. (b ≡ l.reader) × IsMarked l.marks a) l.number) l.fn.edges.items l.edges.items
