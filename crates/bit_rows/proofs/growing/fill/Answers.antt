use Rattle.std.proofs.Common.{◌≡◌, ◌∙◌, ℕ, List, ap, length, subst, sym}
use Rattle.std.specs.Vec.{with_items}
use Rattle.std.proofs.lemmas.List.{with_items_is}
use Rattle.bit_rows.specs.Members.{IsUnion, members}
use Rattle.bit_rows.specs.Runs.{numbers_of}
use Rattle.bit_rows.proofs.Parts.{same_members}
use Rattle.bit_rows.proofs.Runs.{filled_nothing}
use Rattle.bit_rows.proofs.growing.fill.Goals as goal

pub returns-then-is_empty-clause-union : goal.returns-then-is_empty-clause-union
returns-then-is_empty-clause-union c =
    filled_nothing c.args.run.first c.args.run.end c.args.words.now.items (c.is_empty.ensures.0 c.if-is_empty.true)

pub returns-clause-union : goal.returns-clause-union
returns-clause-union c =
    let reached = c.reach.new.words in
    let words : List ℕ = c.fill.new.words in
    let numbers : List ℕ = numbers_of c.args.run.first c.args.run.end in
    let items : (with_items reached words).items ≡ words =
    with_items_is reached words (c.fill.ensures.size ∙ ap length c.deref_mut.ensures.value ∙ sym reached.ok.0) in
    let before : members c.deref_mut.result.now ≡ members c.args.words.now.items =
    ap members c.deref_mut.ensures.value ∙ same_members c.args.words.now.items reached.items c.reach.ensures.same in
    subst (λ (ws : List ℕ). IsUnion (members c.args.words.now.items) numbers (members ws)) (sym items)
    (subst (λ (ms : List ℕ). IsUnion ms numbers (members words)) before c.fill.ensures.union)
