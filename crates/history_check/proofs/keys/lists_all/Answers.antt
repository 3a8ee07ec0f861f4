use Rattle.std.proofs.Common.{rules, refl, sym, ◌∙◌}
use Rattle.std.specs.Map.Iter.{deref}
use Rattle.std.proofs.lemmas.Bool.{false≢true}
use Rattle.std.proofs.lemmas.Map.Iter.{rest_more, rest_all}
use Rattle.history_check.proofs.ScanLemmas.{scan_start, scan_more, scan_whole, scan_next}
use Rattle.history_check.proofs.keys.lists_all.Goals as goal

pub loop-key-init : goal.loop-key-init
loop-key-init c = scan_start c.args.initial.now c.args.before.now c.args.session c.args.table c.args.keys.now c.args.among.now c.into_iter-key-iterator.result (search rules)

pub loop-key-preserved : goal.loop-key-preserved
loop-key-preserved c =
    scan_more c.args.initial.now c.args.before.now c.args.session c.args.table c.args.keys.now c.args.among.now c.loop-key.key-iterator c.next.new.self c.in-Some.key.now
    (rest_more deref c.loop-key.key-iterator c.next.new.self c.next.result c.in-Some.key c.in-Some.is c.next.ensures.steps)
    (c.in_ok-is_listed.ensures.0 c.if-not-branch.false) c.loop-key.invariant

pub returns-then-not-branch : goal.returns-then-not-branch
returns-then-not-branch c = (
  λ h. absurd (false≢true h),
  λ all. absurd (false≢true (sym c.if-not-branch.true
      ∙ c.in_ok-is_listed.ensures.1 (scan_next c.args.initial.now c.args.before.now c.args.session c.args.table c.args.keys.now c.args.among.now c.loop-key.key-iterator c.next.new.self c.in-Some.key.now
      (rest_more deref c.loop-key.key-iterator c.next.new.self c.next.result c.in-Some.key c.in-Some.is c.next.ensures.steps) c.loop-key.invariant all))),
)

pub returns : goal.returns
returns c = (
  λ h. scan_whole c.args.initial.now c.args.before.now c.args.session c.args.table c.args.keys.now c.args.among.now c.loop-key.key-iterator
      (rest_all deref c.loop-key.key-iterator c.next.new.self c.next.result c.in-None.is c.next.ensures.steps) c.loop-key.invariant,
  λ all. refl,
)
