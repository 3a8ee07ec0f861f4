use Rattle.std.proofs.Common.{◌≡◌, List, length, set, Some, arith, refl, ap, sym, ◌∙◌}
use Rattle.std.specs.List.{slice_get}
use Rattle.std.proofs.lemmas.List.{length-set, set-set}
use Rattle.std.proofs.lemmas.Option.{slice_get_read}
use Rattle.txn_buffer.proofs.Lists.{slice_get-set_other}
use Rattle.cycle_report.specs.declared.pasts.Past.{Past}
use Rattle.cycle_report.proofs.pasts.read_row.Goals as goal

pub returns : goal.returns
returns c =
    let mid = c.replace_past-own.new.rows.items in
    let taken = c.replace_past-own.ensures.now in
    let long : length mid ≡ length c.args.rows.now.items = ap length taken ∙ length-set c.args.rows.now.items c.args.reader c.empty_past.result in
    let there : slice_get mid c.args.source ≡ Some c.index.result.now =
    slice_get_read mid (length mid) c.args.source c.index.result.now refl (let within = c.requires.source in omega arith) c.index.ensures
    in
    record {
      from = c.index.result.now;
      is =
          sym (slice_get-set_other c.args.rows.now.items c.args.reader c.args.source c.empty_past.result c.requires.apart)
          ∙ ap (λ (rows : List Past). slice_get rows c.args.source) (sym taken) ∙ there;
      changes = record {
        before = c.replace_past-own.result;
        after = c.take_in.new.own;
        is = c.replace_past-own.ensures.was;
        set_to =
            c.replace_past-empty.ensures.now ∙ ap (λ (rows : List Past). set rows c.args.reader c.take_in.new.own) taken
            ∙ set-set c.args.rows.now.items c.args.reader c.empty_past.result c.take_in.new.own;
        changes = c.take_in.ensures;
      };
    }
