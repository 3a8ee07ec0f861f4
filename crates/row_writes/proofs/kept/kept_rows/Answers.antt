-- One row more, that is kept or not, and a row over which WHERE fails.
use Rattle.std.proofs.Common.{◌≡◌, ◌∙◌, Bor, true, false, Ok, Err, sym, ap, rules, arith}
use Rattle.std.specs.Option.{option_map}
use Rattle.std.proofs.lemmas.List.{map-append}
use Rattle.std.proofs.lemmas.Grind.{common_steps}
use Rattle.row_meaning.specs.Changes as changes
use Rattle.row_meaning.specs.Pictures.{TableRow}
use Rattle.row_writes.specs.Seen.{rows_seen}
use Rattle.row_writes.proofs.Steps.{kept_more, kept_fault}
use Rattle.row_writes.proofs.kept.kept_rows.Goals as goal
use Rattle.row_writes.proofs.kept.kept_rows.Goals.{then-is_kept+in_ok-push, else-is_kept}

pub returns-in_err-is_kept : goal.returns-in_err-is_kept
returns-in_err-is_kept c =
    let filter = option_map (λ f. f.now) c.args.filter in
    let fails : changes.passes filter c.row-item.result.1 ≡ Err c.in_err-is_kept.field-0.0 =
    ap (changes.passes filter) (sym c.as_slice.ensures) ∙ sym c.in_err-is_kept.ensures in
    let e : changes.kept_rows filter c.args.rows.now ≡ Err c.in_err-is_kept.field-0.0 =
    kept_fault filter c.args.rows.now c.loop-row.row-index c.row-item.result c.in_err-is_kept.field-0.0 (rows_seen c.loop-row.kept)
    (changes.kept_rows filter c.args.rows.now) c.loop-row-test.true c.row-item.is fails c.loop-row.invariant in
    rw e (first_of (search rules, grind (arith, common_steps)))

pub loop-row-preserved : goal.loop-row-preserved
loop-row-preserved c =
    let filter = option_map (λ f. f.now) c.args.filter in
    let holds : changes.passes filter c.row-item.result.1 ≡ Ok c.in_ok-is_kept.is_kept =
    ap (changes.passes filter) (sym c.as_slice.ensures) ∙ sym c.in_ok-is_kept.ensures in
    elim c.if-is_kept.branch [
      | then-is_kept+in_ok-push w ↦
          kept_more filter c.args.rows.now c.loop-row.row-index c.row-item.result true (rows_seen c.loop-row.kept) (rows_seen c.if-is_kept.kept)
          (changes.kept_rows filter c.args.rows.now) c.loop-row-test.true c.row-item.is (holds ∙ ap Ok w.if-is_kept.true)
          (ap rows_seen w.kept-is ∙ ap rows_seen w.in_ok-push.ensures.ok ∙ map-append (λ (r : Bor TableRow). r.now) c.loop-row.kept _)
          c.loop-row.invariant
      | else-is_kept w ↦
          kept_more filter c.args.rows.now c.loop-row.row-index c.row-item.result false (rows_seen c.loop-row.kept) (rows_seen c.if-is_kept.kept)
          (changes.kept_rows filter c.args.rows.now) c.loop-row-test.true c.row-item.is (holds ∙ ap Ok w.if-is_kept.false)
          (ap rows_seen w.kept-is) c.loop-row.invariant
    ]
