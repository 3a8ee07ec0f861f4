use Rattle.std.proofs.Common.{◌-◌, get_or, arith}
use Rattle.std.proofs.lemmas.Option.{slice_get-get_or}
use Rattle.right_logs.proofs.open_reads.reads_of.Goals as goal

pub returns : goal.returns
returns c =
    let low = c.requires.some in
    let high = c.requires.opened in
    record {
      place = c.args.session - 1;
      number = omega arith;
      list = get_or c.args.lists.now (c.args.session - 1) c.index-lists-session.result;
      is = slice_get-get_or c.args.lists.now (c.args.session - 1) c.index-lists-session.result (omega arith);
      reads_are = c.as_slice.ensures.value;
    }
