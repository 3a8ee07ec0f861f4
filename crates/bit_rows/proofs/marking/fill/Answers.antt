use Rattle.std.proofs.Common.{◌+◌, ◌-◌, ◌/◌, ◌<◌, ◌∙◌, ℕ, refl, sym, inl, inr, arith}
use Rattle.std.proofs.lemmas.Bool.{cases_lt, true≢false}
use Rattle.bit_rows.specs.Runs.{FillsWords}
use Rattle.bit_rows.proofs.Runs.{filled, filled_nothing, fills_then, fills_whole}
use Rattle.bit_rows.proofs.marking.fill.Goals as goal

pub returns-then-is_empty-clause-union : goal.returns-then-is_empty-clause-union
returns-then-is_empty-clause-union c =
    filled_nothing c.args.run.first c.args.run.end c.args.words.now (c.is_empty.ensures.0 c.if-is_empty.true)

pub returns-then-from-last-clause-union : goal.returns-then-from-last-clause-union
returns-then-from-last-clause-union c =
    let first : ℕ = c.args.run.first in
    let end : ℕ = c.args.run.end in
    let one = c.if-from-last.true in
    let some : first < end = elim (cases_lt first end) [
      | inl there ↦ there
      | inr none ↦ absurd (true≢false (sym (c.is_empty.ensures.1 none) ∙ c.if-is_empty.false))
    ] in
    filled first end (first / 64) (first / 64 + 1) c.args.words.now c.fill_word.new.words some refl (omega arith) c.fill_word.ensures

pub returns-clause-union : goal.returns-clause-union
returns-clause-union c =
    let first : ℕ = c.args.run.first in
    let end : ℕ = c.args.run.end in
    let several = c.if-from-last.false in
    let some : first < end = elim (cases_lt first end) [
      | inl there ↦ there
      | inr none ↦ absurd (true≢false (sym (c.is_empty.ensures.1 none) ∙ c.if-is_empty.false))
    ] in
    let from : ℕ = first / 64 in
    let last : ℕ = (end - 1) / 64 in
    let order : from < last = omega arith in
    let whole : FillsWords first end (from + 1) last c.fill_word.new.words c.fill_whole.new.words =
    fills_whole first end (from + 1) last c.fill_word.new.words c.fill_whole.new.words (omega arith) (omega arith) c.fill_whole.ensures in
    let front : FillsWords first end from last c.args.words.now c.fill_whole.new.words =
    fills_then first end from (from + 1) last c.args.words.now c.fill_word.new.words c.fill_whole.new.words (omega arith) (omega arith)
    c.fill_word.ensures whole in
    filled first end from (last + 1) c.args.words.now c.fill_word-2.new.words some refl refl
    (fills_then first end from last (last + 1) c.args.words.now c.fill_whole.new.words c.fill_word-2.new.words (omega arith) (omega arith) front
    c.fill_word-2.ensures)
