use Rattle.std.proofs.Common.{sym, ◌∙◌}
use Rattle.std.proofs.lemmas.Bool.{false≢true}
use Rattle.std.proofs.lemmas.Result.{IfOk-weaker}
use Rattle.history_check.specs.TableKeys.{keys_at}
use Rattle.history_check.proofs.KeyLemmas.{lists_others}
use Rattle.history_check.proofs.ScanLemmas.{lists_to, lists_among}
use Rattle.history_check.proofs.keys.lists_keys.Goals as goal

pub returns-then-not-ascend : goal.returns-then-not-ascend
returns-then-not-ascend c = (λ h. absurd (false≢true h), λ lists. absurd (false≢true (sym c.if-not-ascend.true ∙ c.ascend.ensures.1 lists.ascending)))

pub returns-then-not-branch : goal.returns-then-not-branch
returns-then-not-branch c = (
  λ h. absurd (false≢true h),
  λ lists. absurd (false≢true (sym c.if-not-branch.true ∙ c.in_ok-lists_table.ensures.1 (lists_among c.args.initial.now c.args.before.now c.args.session c.args.table (keys_at c.keys.result.now c.args.table) c.args.keys.now lists))),
)

pub returns-then-not-branch-2 : goal.returns-then-not-branch-2
returns-then-not-branch-2 c = (
  λ h. absurd (false≢true h),
  λ lists. absurd (false≢true (sym c.if-not-branch-2.true ∙ c.in_ok-lists_table-2.ensures.1 (lists_among c.args.initial.now c.args.before.now c.args.session c.args.table (keys_at c.args.notes.now.keys c.args.table) c.args.keys.now lists))),
)

pub returns : goal.returns
returns c =
    IfOk-weaker c.lists_no_other.result _ _
    (λ lists exact. (
      λ h. lists_to c.args.initial.now c.args.before.now c.args.session c.args.table c.args.keys.now c.keys.result.now c.args.notes.now.keys c.keys.ensures c.requires.notes.keys (c.ascend.ensures.0 c.if-not-ascend.false)
          (c.in_ok-lists_table.ensures.0 c.if-not-branch.false) (c.in_ok-lists_table-2.ensures.0 c.if-not-branch-2.false) (exact.0 h),
      λ whole. exact.1 (lists_others c.args.initial.now c.args.before.now c.args.session c.args.table c.args.keys.now whole),
    ))
    c.lists_no_other.ensures
