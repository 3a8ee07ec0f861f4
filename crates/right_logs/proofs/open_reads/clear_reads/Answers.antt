use Rattle.std.proofs.Common.{◌-◌, length, refl, arith}
use Rattle.std.proofs.lemmas.Option.{slice_get_read}
use Rattle.right_logs.proofs.open_reads.clear_reads.Goals as goal

pub returns : goal.returns
returns c =
    let low = c.requires.some in
    let high = c.requires.opened in
    record {
      place = c.args.session - 1;
      number = omega arith;
      changes = record {
        before = c.index_mut.result.now;
        after = record { notes = c.clear.new.self };
        is = slice_get_read c.args.lists.now.items (length c.args.lists.now.items) (c.args.session - 1) c.index_mut.result.now refl (omega arith) c.index_mut.ensures.value;
        set_to = refl;
        changes = c.clear.ensures.items;
      };
    }
