use Rattle.std.proofs.Common.{◌≡◌, ◌<◌, ℕ, List, [], length, get_or, subst, arith}
use Rattle.std.proofs.lemmas.List.{get_or_default}
use Rattle.reach_rows.specs.Rows.{row_at, Carries}
use Rattle.reach_rows.proofs.Carrying.{carries_more}
use Rattle.reach_rows.proofs.carry.carry_all.Goals as goal

pub loop-number-preserved : goal.loop-number-preserved
loop-number-preserved c =
    let size = c.loop-number.invariant.size in
    let k : ℕ = c.loop-number.number in
    let small : k < length c.args.rows.now = let h = c.loop-number-test.true in omega arith in
    let row : get_or c.loop-number.rows k c.index-rows-number.result ≡ row_at c.loop-number.rows k =
    get_or_default c.loop-number.rows k c.index-rows-number.result [] (omega arith) in
    carries_more k c.args.target c.args.gained.now c.args.rows.now c.loop-number.rows c.carry.new.row small c.loop-number.invariant
    (subst (λ (r : List ℕ). Carries c.args.target c.args.gained.now r c.carry.new.row) row c.carry.ensures)
