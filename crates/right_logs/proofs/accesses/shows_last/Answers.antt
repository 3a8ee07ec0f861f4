use Rattle.std.proofs.Common.{length, refl}
use Rattle.std.proofs.lemmas.Option.{slice_get_read}
use Rattle.right_logs.proofs.accesses.shows_last.Goals as goal

pub returns : goal.returns
returns c = λ shows. (
  c.index.result.now,
  (
    slice_get_read c.args.pass.now.cells.notes.items (length c.args.pass.now.cells.notes.items) c.args.at c.index.result.now refl c.requires c.index.ensures,
    c.gives_last.ensures shows,
  ),
)
