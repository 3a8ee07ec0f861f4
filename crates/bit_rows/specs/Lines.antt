-- The lines of a matrix: what they show as rows, and what is kept of them.
use Rattle.std.specs.Prelude.{◌≡◌, ◌<◌, ◌≤◌, ◌*◌, ◌%◌, ℕ, List, Contains, length, map, slice_index_or, sum_by, vec_capacity}
use Rattle.bit_rows.specs.declared.TheConstants.{WORDS, BLOCK}
use Rattle.bit_rows.specs.declared.line.Line.{Line}
use Rattle.bit_rows.specs.declared.line.Line.TheVariants.{InRun, InWords}
use Rattle.bit_rows.specs.declared.lines.Lines.{Lines}
use Rattle.bit_rows.specs.declared.run.Run.{Run}
use Rattle.bit_rows.specs.Members.{members}
use Rattle.bit_rows.specs.Runs.{IsInRun, JoinsRun, numbers_of}
use Rattle.bit_rows.specs.Segments.{segment}
use Rattle.bit_rows.specs.Matrix.{JoinsAt, EmptiesAt}

-- the line is a run, and joined with another one it is a run
abbrev pub IsJoinedRun : Line → ℕ → ℕ → ℕ → ℕ → Type 0
IsJoinedRun (InRun own) first end joined_first joined_end = JoinsRun own.first own.end first end joined_first joined_end
IsJoinedRun (InWords s e) first end joined_first joined_end = ⊥

-- a line without numbers
abbrev pub empty_line : Line
empty_line = InRun (record { first = 0; end = 0 })

-- line k, an empty one where there is no such line
abbrev pub line_at : List Line → ℕ → Line
line_at lines k = slice_index_or lines k empty_line

-- the members of a line
abbrev pub row_of : List ℕ → ℕ → Line → List ℕ
row_of pool room (InRun run) = numbers_of run.first run.end
row_of pool room (InWords s e) = members (segment pool (s * room) room)

-- the rows that lines show
unfoldable pub rows_in : List ℕ → ℕ → List Line → List (List ℕ)
rows_in pool room lines = map (row_of pool room) lines

-- how many segments a line has
abbrev pub share_of : Line → ℕ
share_of (InRun run) = 0
share_of (InWords s e) = 1

-- each line of words has a segment of its own in the pool and no member from its end on, there is room
-- for a segment for each line, and each number of a run or of a line's place is within a segment
pub record AreLines (lines : List Line) (pool : List ℕ) (segments room capacity : ℕ) : Type 0 where
  pub some : 0 < room
  pub blocks : room % BLOCK ≡ 0
  pub size : room ≤ WORDS
  pub few : length lines ≤ 64 * room
  pub long : length pool ≡ segments * room
  pub taken : sum_by share_of lines ≡ segments
  pub spare : length lines * room ≤ capacity
  pub placed : (k s e : ℕ) → line_at lines k ≡ InWords s e → s < segments
  pub apart : (j k s d e : ℕ) → line_at lines j ≡ InWords s d → line_at lines k ≡ InWords s e → j ≡ k
  pub below : (k : ℕ) (run : Run) (n : ℕ) → line_at lines k ≡ InRun run → IsInRun run.first run.end n → n < 64 * room
  pub ended : (k s e n : ℕ) → line_at lines k ≡ InWords s e → Contains (members (segment pool (s * room) room)) n → n < e

-- the lines hold together
abbrev pub HoldTogether : Lines → Type 0
HoldTogether lines = AreLines lines.lines.items lines.pool.items lines.segments lines.room (vec_capacity lines.pool)

-- the rows that lines show
abbrev pub rows_of : Lines → List (List ℕ)
rows_of lines = rows_in lines.pool.items lines.room lines.lines.items

-- the row of the target has been joined with another row, and the lines hold together
pub record JoinsLine (target : ℕ) (gained : List ℕ) (old new : Lines) : Type 0 where
  pub holds : HoldTogether new
  pub rows : JoinsAt target gained (rows_of old) (rows_of new)

-- the row of the target has lost its members, and the lines hold together
pub record EmptiesLine (target : ℕ) (old new : Lines) : Type 0 where
  pub holds : HoldTogether new
  pub rows : EmptiesAt target (rows_of old) (rows_of new)
