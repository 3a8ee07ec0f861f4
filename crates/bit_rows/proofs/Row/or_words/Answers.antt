use Rattle.bit_rows.proofs.Marks.{union}
use Rattle.bit_rows.proofs.Row.or_words.Goals as goal

pub returns : goal.returns
returns c =
    rw (← c.self.view_is) (union c.self.inside.words.items c.join.new.words.items c.args.words.now c.join.ensures.joined)
