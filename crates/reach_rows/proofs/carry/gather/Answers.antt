use Rattle.std.proofs.Common.{◌≡◌, ◌+◌, ◌-◌, ℕ, drop, length, arith, refl, subst}
use Rattle.reach_rows.specs.Rows.{IsUpTo, GainsAll}
use Rattle.reach_rows.proofs.Carrying.{IsGathering, up_to_goes_down, gathering_start, gathering_more}
use Rattle.reach_rows.proofs.carry.gather.Goals as goal

pub loop-done-init : goal.loop-done-init
loop-done-init c =
    gathering_start c.args.rows.now (IsUpTo c.args.rows.now) c.args.members.now (length c.args.members.now - 0) c.args.row.now (omega arith)
    c.requires.down

pub loop-done-preserved : goal.loop-done-preserved
loop-done-preserved c =
    let rows = c.args.rows.now in
    let members = c.args.members.now in
    let done : ℕ = c.loop-done.done in
    let k : ℕ = length members - 1 - done in
    let small = c.loop-done-test.true in
    let before : length members - done ≡ k + 1 = omega arith in
    let after : k ≡ length members - (done + 1) = omega arith in
    subst (λ (n : ℕ). IsGathering rows (IsUpTo rows) members n c.args.row.now c.add_up_to.new.row) after
    (gathering_more rows (IsUpTo rows) members k _ c.args.row.now c.loop-done.row c.add_up_to.new.row
    (up_to_goes_down rows c.requires.closed) (omega arith) refl c.add_up_to.ensures
    (subst (λ (n : ℕ). IsGathering rows (IsUpTo rows) members n c.args.row.now c.loop-done.row) before c.loop-done.invariant))

pub returns : goal.returns
returns c =
    let end = c.loop-done-test.false in
    let none : length c.args.members.now - c.loop-done.done ≡ 0 = omega arith in
    subst (λ (n : ℕ). GainsAll (IsUpTo c.args.rows.now) (drop n c.args.members.now) c.args.row.now c.loop-done.row) none
    c.loop-done.invariant.gains
