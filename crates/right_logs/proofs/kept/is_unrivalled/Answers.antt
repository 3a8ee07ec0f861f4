use Rattle.std.proofs.Common.{ℕ, List, sym, subst}
use Rattle.std.specs.List.Sorted.{IsStrictlyIncreasing}
use Rattle.right_logs.proofs.JudgeLemmas.{unrivalled_late, unrivalled_rc, unrivalled_ra, unrivalled_cc}
use Rattle.right_logs.proofs.kept.is_unrivalled.Goals as goal

pub none_is_late-requires-clause-ascending : goal.none_is_late-requires-clause-ascending
none_is_late-requires-clause-ascending c = subst (λ (xs : List ℕ). IsStrictlyIncreasing xs) (sym c.as_slice-writers.ensures) c.requires.ascending

pub returns-then-none_is_late : goal.returns-then-none_is_late
returns-then-none_is_late c = λ h.
    unrivalled_late c.args.places.now.at.items c.args.pass.now c.args.reads.now c.args.own.now c.args.note.now c.as_slice-writers.result.now c.args.before c.args.from
    c.as_slice-writers.ensures (c.none_is_late.ensures c.if-none_is_late.true)

pub returns-in-Rc : goal.returns-in-Rc
returns-in-Rc c = λ h.
    unrivalled_rc c.args.places.now.at.items c.args.pass.now c.args.reads.now c.args.own.now c.args.note.now c.args.before c.args.from c.in-Rc.is
    (c.has_no_earlier_rival.ensures h)

pub has_no_unseen_rival-requires-clause-ascending : goal.has_no_unseen_rival-requires-clause-ascending
has_no_unseen_rival-requires-clause-ascending c = subst (λ (xs : List ℕ). IsStrictlyIncreasing xs) (sym c.as_slice-writers.ensures) c.requires.ascending

pub returns-then-has_no_source_rival : goal.returns-then-has_no_source_rival
returns-then-has_no_source_rival c = λ h.
    unrivalled_ra c.args.places.now.at.items c.args.pass.now c.args.reads.now c.args.own.now c.args.note.now c.as_slice-writers.result.now c.args.before c.args.from
    c.as_slice-writers.ensures c.in-Ra.is (c.has_no_source_rival.ensures c.if-has_no_source_rival.true) (c.has_no_unseen_rival.ensures h)

pub returns-then-pass : goal.returns-then-pass
returns-then-pass c = λ h.
    unrivalled_cc c.args.places.now.at.items c.args.pass.now c.args.reads.now c.args.own.now c.args.note.now c.as_slice-writers.result.now c.args.before c.args.from
    c.as_slice-writers.ensures c.in-Cc.is c.if-pass.true (c.has_no_unseen_rival-then-pass.ensures h)
