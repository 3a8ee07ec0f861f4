use Rattle.std.proofs.Common.{◌*◌, ◌∙◌, ℕ, ap, sym}
use Rattle.bit_rows.specs.Members.{members}
use Rattle.bit_rows.proofs.Parts.{cut_members}
use Rattle.bit_rows.proofs.RowLines.{row_is}
use Rattle.bit_rows.proofs.lines.Lines.words.Goals as goal

pub returns-clause-members : goal.returns-clause-members
returns-clause-members c =
    let lines = c.args.self.now in
    let s : ℕ = c.args.segment in
    ap members c.first_words.ensures.words
    ∙ cut_members lines.pool.items (s * lines.room) lines.room c.words_below.result c.args.end
    c.words_below.ensures.within c.words_below.ensures.enough
    (λ n member. c.requires.holds.ended c.args.number s c.args.end n c.requires.words member)
    ∙ sym (row_is lines c.args.number _ c.requires.words)
