use Rattle.std.proofs.Common.{◌≡◌, ℕ, List, length, arith}
use Rattle.reach_rows.proofs.Pairs.{member_from_reaches, reaches_from_member}
use Rattle.reach_rows.proofs.Closing.{size_of}
use Rattle.reach_rows.proofs.reach.Reach.reaches.Goals as goal

pub has-requires : goal.has-requires
has-requires c =
    let size : length c.self.inside.rows ≡ c.args.self.now.size = size_of c.self.inside.rows c.args.self.now c.self.view_is in
    let to = c.requires.to in
    omega arith

pub returns : goal.returns
returns c =
    let rows : List (List ℕ) = c.self.inside.rows in
    rw (← c.self.view_is) (
      λ is. reaches_from_member rows c.args.from c.args.to (c.has.ensures.0 is),
      λ on. c.has.ensures.1 (member_from_reaches rows c.self.invariant c.args.from c.args.to on),
    )
