use Rattle.std.proofs.Common.{◌≡◌, arith}
use Rattle.order_witness.specs.Marks.{IsMarked}
use Rattle.saturation.proofs.Adds.{first_more, first_whole}
use Rattle.saturation.proofs.Readers.{marked_within}
use Rattle.saturation.proofs.pairs.add_links.Goals as goal

pub loop-number-preserved : goal.loop-number-preserved
loop-number-preserved c =
    first_more (λ a b. (b ≡ c.args.reader) × IsMarked c.args.marks.now a) c.loop-number.number c.args.edges.now.items c.loop-number.edges.items c.add_link.new.edges.items
    c.loop-number.invariant c.in_ok-add_link.ensures

pub returns : goal.returns
returns c =
    first_whole (λ a b. (b ≡ c.args.reader) × IsMarked c.args.marks.now a) c.loop-number.number c.args.edges.now.items c.loop-number.edges.items
    (λ a b link. let h = marked_within c.args.marks.now a link.1 in omega arith)
    c.loop-number.invariant
