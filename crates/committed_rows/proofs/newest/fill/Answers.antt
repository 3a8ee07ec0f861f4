use Rattle.std.proofs.Common.{List, ◌++◌, [], ◌∷◌, length, take, refl, sym, ◌∙◌, subst}
use Rattle.std.proofs.lemmas.Option.{slice_get_read}
use Rattle.cell_base.specs.declared.cell.Cell.{Cell}
use Rattle.cell_base.specs.declared.value.Value.{Value}
use Rattle.committed_rows.specs.declared.newest.Newest.{Newest}
use Rattle.committed_rows.specs.Walk.{Fills}
use Rattle.committed_rows.proofs.Noted.{next_prefix, fills_more, fills_over, none_from_test, some_from_test}
use Rattle.committed_rows.proofs.newest.fill.Goals as goal
use Rattle.committed_rows.proofs.newest.fill.Goals.{then-not-contains_key+in_ok-add, else-not-contains_key}

pub loop-write-preserved : goal.loop-write-preserved
loop-write-preserved c =
    let prefix = next_prefix c.args.writes.now c.loop-write.write-index c.write-item.result
    (slice_get_read c.args.writes.now (length c.args.writes.now) c.loop-write.write-index c.write-item.result refl c.loop-write-test.true c.write-item.is) in
    subst (λ (ws : List (Cell × Value)). Fills c.args.newest.now ws c.if-not-contains_key.newest) (sym prefix)
    (elim c.if-not-contains_key.branch [
      | then-not-contains_key+in_ok-add w ↦
          subst (λ (n : Newest). Fills c.args.newest.now (take c.loop-write.write-index c.args.writes.now ++ c.write-item.result ∷ []) n) (sym w.newest-is)
          (fills_more c.args.newest.now c.loop-write.newest w.add.new.newest (take c.loop-write.write-index c.args.writes.now) c.write-item.result
          c.loop-write.invariant (none_from_test _ (sym c.contains_key.ensures ∙ w.if-not-contains_key.true)) w.in_ok-add.ensures)
      | else-not-contains_key w ↦
          subst (λ (n : Newest). Fills c.args.newest.now (take c.loop-write.write-index c.args.writes.now ++ c.write-item.result ∷ []) n) (sym w.newest-is)
          (fills_over c.args.newest.now c.loop-write.newest (take c.loop-write.write-index c.args.writes.now) c.write-item.result
          c.loop-write.invariant (some_from_test _ (sym c.contains_key.ensures ∙ w.if-not-contains_key.false)))
    ])
