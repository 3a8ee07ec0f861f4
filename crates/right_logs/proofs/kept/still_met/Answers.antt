use Rattle.std.proofs.Common.{◌≤◌, List, length, sym, subst}
use Rattle.right_logs.specs.declared.open_reads.SessionReads.{SessionReads}
use Rattle.right_logs.specs.OpenReads.{AreReadsOf}
use Rattle.right_logs.proofs.JudgeLemmas.{stands_ascend, stands_high, kept_of}
use Rattle.right_logs.proofs.kept.still_met.Goals as goal

pub reads_of-requires-clause-opened : goal.reads_of-requires-clause-opened
reads_of-requires-clause-opened c = subst (λ (ls : List SessionReads). c.args.session ≤ length ls) (sym c.deref.ensures.value) c.requires.opened

pub are_kept-requires-clause-ascending : goal.are_kept-requires-clause-ascending
are_kept-requires-clause-ascending c = stands_ascend c.args.places.now.at.items c.args.pass.now c.requires.stands

pub are_kept-requires-clause-highest : goal.are_kept-requires-clause-highest
are_kept-requires-clause-highest c = stands_high c.args.places.now.at.items c.args.pass.now c.requires.stands

pub returns : goal.returns
returns c = λ h. (
  c.if-not-pass.false,
  kept_of c.args.places.now.at.items c.args.pass.now c.args.session c.args.reader c.reads_of.result.now
      (subst (λ (ls : List SessionReads). AreReadsOf ls c.args.session c.reads_of.result.now) c.deref.ensures.value c.reads_of.ensures) (c.are_kept.ensures h),
)
