use Rattle.std.proofs.Common.{ℕ, length, refl, arith, subst}
use Rattle.std.proofs.lemmas.Option.{slice_get_read}
use Rattle.right_logs.specs.Judging.{IsUnrivalled}
use Rattle.right_logs.proofs.kept.is_kept_now.Goals as goal

pub is_unrivalled-requires-clause-ascending : goal.is_unrivalled-requires-clause-ascending
is_unrivalled-requires-clause-ascending c =
    c.requires.ascending c.args.read.cell c.index-2.result.now
    (slice_get_read c.args.pass.now.cells.notes.items (length c.args.pass.now.cells.notes.items) c.args.read.cell c.index-2.result.now refl (omega arith) c.index-2.ensures)

pub returns : goal.returns
returns c = λ h. record {
  before = c.stands_before.ensures c.if-not-stands_before.false;
  own = c.index.result.now;
  own_is = slice_get_read c.args.pass.now.txns.items (length c.args.pass.now.txns.items) c.args.read.reader c.index.result.now refl (omega arith) c.index.ensures;
  note = c.index-2.result.now;
  note_is = slice_get_read c.args.pass.now.cells.notes.items (length c.args.pass.now.cells.notes.items) c.args.read.cell c.index-2.result.now refl (omega arith) c.index-2.ensures;
  unrivalled = subst (λ (place : ℕ). IsUnrivalled c.args.places.now.at.items c.args.pass.now c.args.reads.now c.index.result.now c.index-2.result.now c.args.read.place place)
      c.place_at.ensures (c.is_unrivalled.ensures h);
}
