use Rattle.std.proofs.Common.{length, refl, sym}
use Rattle.std.proofs.lemmas.Option.{slice_get_read}
use Rattle.order_test.proofs.presences.entry_at.Goals as goal

pub returns : goal.returns
returns c = record {
  cell_is = sym c.in-Some.ensures.key;
  note = c.index.result.now;
  note_is = slice_get_read c.args.cells.now.notes.items (length c.args.cells.now.notes.items) c.args.at c.index.result.now refl c.requires.within c.index.ensures;
  committed = sym c.as_slice.ensures;
}
