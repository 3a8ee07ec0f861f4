use Rattle.check_command.proofs.Many.{few_events}
use Rattle.check_command.proofs.Judging.{right_of, notes_of, numbered_of}
use Rattle.check_command.proofs.verdict.judged_verdict.Goals as goal

pub check_order_by-requires : goal.check_order_by-requires
check_order_by-requires g c =
    let same = (c.in-Ok.ensures.only c.requires.version c.requires.trace c.requires.log c.requires.few).0 in
    record {
      notes = notes_of c.args.bytes.now c.args.cells.now c.in-Ok.trace c.requires same;
      numbered = numbered_of c.args.bytes.now c.args.cells.now c.in-Ok.trace c.requires same;
      right = right_of c.args.bytes.now c.args.cells.now c.in-Ok.trace c.requires same;
      few = few_events c.in-Ok.ensures.found.0 c.in-Ok.trace c.args.bytes.now c.in-Ok.ensures.found.1 c.requires.few;
    }

pub verdict_by-requires : goal.verdict_by-requires
verdict_by-requires g c = record {
  few = c.requires.few;
  log = c.in-Ok.ensures.found;
  right = c.check_order_by.ensures.ok;
  breach = c.check_order_by.ensures.breach;
}
