use Rattle.std.proofs.Common.{◌<◌, ◌↔◌, ◌*◌, ℕ, List, arith, subst, sym}
use Rattle.std.specs.Prelude.{IsTrue, vec_capacity}
use Rattle.std.specs.List.{Contains}
use Rattle.std.proofs.lemmas.Bool.{true≢false}
use Rattle.bit_rows.specs.Members.{members}
use Rattle.bit_rows.specs.Segments.{segment}
use Rattle.bit_rows.proofs.RowLines.{ended_row, row_is}
use Rattle.bit_rows.proofs.lines.Lines.has_in_words.Goals as goal

pub returns-then-bit-end : goal.returns-then-bit-end
returns-then-bit-end c =
    let past = c.if-bit-end.true in
    let lines = c.args.self.now in (
      λ no. absurd (true≢false (sym no)),
      λ member.
          let small : c.args.bit < c.args.end =
          ended_row lines.lines.items lines.pool.items lines.segments lines.room (vec_capacity lines.pool) c.args.number c.args.segment
          c.args.end c.args.bit c.requires.holds c.requires.words member in
          absurd (omega arith),
    )

pub returns : goal.returns
returns c =
    let lines = c.args.self.now in
    let s : ℕ = c.args.segment in
    let test : IsTrue c.has.result ↔ Contains (members (segment lines.pool.items (s * lines.room) lines.room)) c.args.bit =
    rw c.deref.ensures.value at (rw c.place.ensures.place at c.has.ensures) in
    subst (λ (r : List ℕ). IsTrue c.has.result ↔ Contains r c.args.bit) (sym (row_is lines c.args.number _ c.requires.words)) test
