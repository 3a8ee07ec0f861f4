use Rattle.std.proofs.Common.{◌≡◌, ◌++◌, ◌-◌, ◌∙◌, ℕ, List, ap, arith, drop, get_or, length, min, sym, take}
use Rattle.std.specs.Vec.{with_items}
use Rattle.std.proofs.lemmas.List.{length-drop, take_all, with_items_is}
use Rattle.bit_rows.specs.Words.{JoinsFrom}
use Rattle.bit_rows.proofs.Lengths.{joined_whole}
use Rattle.bit_rows.proofs.growing.join.Goals as goal

pub returns-clause-joined : goal.returns-clause-joined
returns-clause-joined c =
    let old = c.args.words.now.items in
    let joined = c.join.new.words in
    let others = c.args.others.now in
    let common : ℕ = c.min-common.result in
    let size = c.args.words.now.ok.0 in
    let least : common ≡ min (length old) (length others) =
    c.min-common.ensures ∙ ap (λ (n : ℕ). min n (length others)) (c.len.ensures ∙ size) in
    let joins : JoinsFrom 0 common old joined others = rw (← least) at (rw c.deref_mut.ensures.value at c.join.ensures) in
    let front : (with_items c.args.words.now joined).items ≡ joined = with_items_is c.args.words.now joined (joins.size ∙ sym size) in
    let left = length-drop common others in
    let tail : take (length others - common) (drop common others) ≡ drop common others =
    take_all (length others - common) (drop common others) (omega arith) in
    let whole : c.append.new.words.items ≡ joined ++ drop common others =
    c.append.ensures.items ∙ ap (λ (xs : List ℕ). xs ++ take (length others - common) (drop common others)) front
    ∙ ap (λ (xs : List ℕ). joined ++ xs) tail in
    λ k. ap (λ (xs : List ℕ). get_or xs k 0) whole ∙ joined_whole old joined others common least joins k
