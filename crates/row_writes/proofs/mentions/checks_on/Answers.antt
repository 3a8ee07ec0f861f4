-- One CHECK more, which mentions an assigned column or doesn't.
use Rattle.std.proofs.Common.{◌+◌, ◌++◌, ◌∙◌, Bor, drop, map, sym, ap}
use Rattle.std.proofs.lemmas.List.{map-append}
use Rattle.sql_tree.specs.declared.typed_expr.TypedExpr.{TypedExpr}
use Rattle.row_meaning.specs.Changes as changes
use Rattle.row_writes.proofs.Checks.{check_kept, check_left}
use Rattle.row_writes.proofs.mentions.checks_on.Goals as goal
use Rattle.row_writes.proofs.mentions.checks_on.Goals.{then-mentions_assigned+in_ok-push, else-mentions_assigned}

pub loop-check-preserved : goal.loop-check-preserved
loop-check-preserved c =
    elim c.if-mentions_assigned.branch [
      | then-mentions_assigned+in_ok-push w ↦
          check_kept c.args.set.now c.args.checks.now c.loop-check.check-index c.check-item.result (map (λ (k : Bor TypedExpr). k.now) c.loop-check.kept.items)
          (map (λ (k : Bor TypedExpr). k.now) c.if-mentions_assigned.kept.items) (changes.checks_on c.args.set.now c.args.checks.now)
          c.loop-check-test.true c.check-item.is (sym c.mentions_assigned.ensures ∙ w.if-mentions_assigned.true)
          (ap (λ v. map (λ (k : Bor TypedExpr). k.now) v.items) w.kept-is ∙ ap (map (λ (k : Bor TypedExpr). k.now)) w.in_ok-push.ensures.items
          ∙ map-append (λ (k : Bor TypedExpr). k.now) c.loop-check.kept.items _)
          c.loop-check.invariant
      | else-mentions_assigned w ↦
          ap (λ v. map (λ (k : Bor TypedExpr). k.now) v.items ++ changes.checks_on c.args.set.now (drop (c.loop-check.check-index + 1) c.args.checks.now)) w.kept-is
          ∙ check_left c.args.set.now c.args.checks.now c.loop-check.check-index c.check-item.result (map (λ (k : Bor TypedExpr). k.now) c.loop-check.kept.items)
          (changes.checks_on c.args.set.now c.args.checks.now) c.loop-check-test.true c.check-item.is (sym c.mentions_assigned.ensures ∙ w.if-mentions_assigned.false)
          c.loop-check.invariant
    ]
