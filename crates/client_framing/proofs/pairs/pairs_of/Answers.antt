use Rattle.std.proofs.Common.{refl, ◌∙◌, ap, ◌++◌, List, ℕ}
use Rattle.std.specs.Prelude.{flat_map}
use Rattle.client_framing.specs.Spelling.{pair_bytes}
use Rattle.client_framing.proofs.PairLists.{pairs_more, each_more, pairs_after, only_end}
use Rattle.client_framing.proofs.pairs.pairs_of.Goals as goal

pub loop-name-preserved : goal.loop-name-preserved
loop-name-preserved c =
    let at = c.loop-name in
    let got = c.in-Some in
    record {
      read = rw (c.in_ok-push.ensures.ok, c.in_ok-owned_pair.ensures) (pairs_more c.args.body.now at.rest.now got.after.now _ at.pairs at.invariant.read got.ensures.some);
      each = rw (c.in_ok-push.ensures.ok, c.in_ok-owned_pair.ensures) (each_more at.pairs _ at.invariant.each got.ensures.is_pair);
      left = pairs_after at.rest.now got.after.now _ at.invariant.left got.ensures.is_pair got.ensures.some;
    }

pub returns-clause-whole : goal.returns-clause-whole
returns-clause-whole c =
    let at = c.loop-name in
    at.invariant.read ∙ ap (λ (x : List ℕ). flat_map pair_bytes at.pairs ++ x) (only_end at.rest.now at.invariant.left (c.in_default.ensures.none refl))
