use Rattle.std.proofs.Common.{◌≡◌, length, Some, arith, refl, ap, ◌∙◌}
use Rattle.std.specs.List.{slice_get}
use Rattle.std.proofs.lemmas.List.{length-set}
use Rattle.std.proofs.lemmas.Option.{slice_get_read}
use Rattle.right_logs.proofs.ClockLemmas.{source_taken}
use Rattle.right_logs.proofs.txn_notes.take_source.Goals as goal

pub returns : goal.returns
returns c =
    let mid = c.replace_note-own.new.notes.items in
    let taken = c.replace_note-own.ensures.now in
    let long : length mid ≡ length c.args.notes.now.items = ap length taken ∙ length-set c.args.notes.now.items c.args.reader c.blank_note.result in
    let there : slice_get mid c.args.source ≡ Some c.index.result.now =
    slice_get_read mid (length mid) c.args.source c.index.result.now refl (let within = c.requires.source in omega arith) c.index.ensures
    in
    source_taken c.args.reader c.args.source c.args.notes.now.items mid c.replace_note-blank.new.notes.items c.blank_note.result c.replace_note-own.result c.index.result.now _
    c.requires.apart c.replace_note-own.ensures.was taken there c.replace_note-blank.ensures.now refl refl c.in_ok-take_in.ensures
