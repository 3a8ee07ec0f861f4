-- The lines of a matrix as they grow: segments that are taken, more room, and a line more.
use Rattle.std.proofs.Common.{◌≡◌, ℕ, ◌+◌, ◌-◌, ◌*◌, ◌%◌, ◌<◌, ◌≤◌, List, [], ◌∷◌, ◌++◌, length, get_or, set, replicate, refl, get_or-set_same, get_or-set_other, ap, sym, ◌∙◌, subst, inl, inr, arith}
use Rattle.std.specs.List.{Contains, sum_by}
use Rattle.std.proofs.lemmas.Bool.{cases_eq, cases_lt}
use Rattle.std.proofs.lemmas.List.{ext_get_or, get_or_past, get_or_push, get_or_append_left, get_or-append_right, length-set, length_push, map-append}
use Rattle.std.proofs.lemmas.List.Sums.{sum_by-append, sum_by-set, sum_by-cons}
use Rattle.bit_rows.specs.declared.TheConstants.{WORDS, BLOCK}
use Rattle.bit_rows.specs.declared.line.Line.{Line}
use Rattle.bit_rows.specs.declared.line.Line.TheVariants.{InRun, InWords}
use Rattle.bit_rows.specs.declared.run.Run.{Run}
use Rattle.bit_rows.specs.Members.{members}
use Rattle.bit_rows.specs.Runs.{numbers_of}
use Rattle.bit_rows.specs.Segments.{AreCopied, ChangesSegment, JoinsSegment, segment}
use Rattle.bit_rows.specs.Matrix.{JoinsAt, row_at}
use Rattle.bit_rows.specs.Lines.{AreLines, empty_line, line_at, row_of, rows_in, share_of}
use Rattle.bit_rows.proofs.Lengths.{zero_words}
use Rattle.bit_rows.proofs.Parts.{no_members, segment_before, segment_kept, step_within, word_in, word_past}
use Rattle.bit_rows.proofs.RowLines.{ended_row, row_line, length_rows, same_end, same_number}
use Rattle.bit_rows.proofs.Runs.{in_numbers}

-- ---- how many segments there may be

pub shares_few : (lines : List Line) → sum_by share_of lines ≤ length lines
shares_few [] = omega arith
shares_few (InRun run ∷ lines) =
    let sum : sum_by share_of (InRun run ∷ lines) ≡ 0 + sum_by share_of lines = sum_by-cons share_of (InRun run) lines in
    let rest = shares_few lines in
    omega arith
shares_few (InWords s e ∷ lines) =
    let sum : sum_by share_of (InWords s e ∷ lines) ≡ 1 + sum_by share_of lines = sum_by-cons share_of (InWords s e) lines in
    let rest = shares_few lines in
    omega arith

-- one fewer at least, where some line is a run
pub shares_fewer : (lines : List Line) (target : ℕ) (run : Run) → target < length lines → line_at lines target ≡ InRun run →
    sum_by share_of lines < length lines
shares_fewer lines target run within is =
    let sum : sum_by share_of (set lines target (InWords 0 0)) + share_of (line_at lines target) ≡ sum_by share_of lines + 1 =
    sum_by-set share_of lines target (InWords 0 0) empty_line within in
    let none : share_of (line_at lines target) ≡ 0 = ap share_of is in
    let most : sum_by share_of (set lines target (InWords 0 0)) ≤ length (set lines target (InWords 0 0)) = shares_few (set lines target (InWords 0 0)) in
    let long : length (set lines target (InWords 0 0)) ≡ length lines = length-set lines target (InWords 0 0) in
    omega arith

pub times_le : (a b room : ℕ) → a ≤ b → a * room ≤ b * room
times_le a b room most = elim (cases_eq a b) [
  | inl same ↦ let equal : a * room ≡ b * room = ap (λ (n : ℕ). n * room) same in omega arith
  | inr other ↦ let step : a * room + room ≤ b * room = step_within a b room (omega arith) in omega arith
]

pub room_left :
    (lines : List Line) (pool : List ℕ) (segments room capacity target : ℕ) (run : Run) → AreLines lines pool segments room capacity →
    target < length lines → line_at lines target ≡ InRun run → length pool + room ≤ capacity
room_left lines pool segments room capacity target run are within is =
    let fewer = shares_fewer lines target run within is in
    let taken = are.taken in
    let step : segments * room + room ≤ length lines * room = step_within segments (length lines) room (omega arith) in
    let spare = are.spare in
    let long = are.long in
    omega arith

pub within_spare :
    (lines : List Line) (pool : List ℕ) (segments room capacity count : ℕ) → AreLines lines pool segments room capacity →
    length lines ≤ count → length pool ≤ count * room
within_spare lines pool segments room capacity count are most =
    let few = shares_few lines in
    let taken = are.taken in
    let long = are.long in
    let step : segments * room ≤ count * room = times_le segments count room (omega arith) in
    omega arith

-- ---- a run that gets a segment

pub taken_rows :
    (pool longer new : List ℕ) (segments room capacity target end : ℕ) (run : Run) (lines : List Line) → target < length lines →
    AreLines lines pool segments room capacity → line_at lines target ≡ InRun run → longer ≡ pool ++ replicate {A = ℕ} room 0 →
    JoinsSegment (segments * room) room (numbers_of run.first run.end) longer new →
    JoinsAt target [] (rows_in pool room lines) (rows_in new room (set lines target (InWords segments end)))
taken_rows pool longer new segments room capacity target end run lines within are is lengthened joins =
    let line : Line = InWords segments end in
    let long : length pool ≡ segments * room = are.long in
    let before : row_at (rows_in pool room lines) target ≡ numbers_of run.first run.end =
    row_line pool room lines target ∙ ap (row_of pool room) is in
    let after : row_at (rows_in new room (set lines target line)) target ≡ members (segment new (segments * room) room) =
    row_line new room (set lines target line) target ∙ ap (row_of new room) (get_or-set_same lines target line empty_line within) in
    let fresh : members (segment longer (segments * room) room) ≡ [] =
    no_members (segment longer (segments * room) room) (fresh_zero pool longer (segments * room) room long lengthened) in
    record {
      size =
          length_rows new room (set lines target line) ∙ length-set lines target line ∙ sym (length_rows pool room lines);
      joined = λ n. (
        λ member. elim ((joins.joined n).0 (subst (λ (r : List ℕ). Contains r n) after member)) [
          | inl zeros ↦ absurd (let none = subst (λ (r : List ℕ). Contains r n) fresh zeros in let small = none.1 in omega arith)
          | inr in_run ↦ inl (subst (λ (r : List ℕ). Contains r n) (sym before) in_run)
        ],
        λ either. elim either [
          | inl held ↦
              subst (λ (r : List ℕ). Contains r n) (sym after)
              ((joins.joined n).1 (inr (subst (λ (r : List ℕ). Contains r n) before held)))
          | inr none ↦ absurd (let small = none.1 in omega arith)
        ],
      );
      others = λ k other.
          row_line new room (set lines target line) k
          ∙ ap (row_of new room) (get_or-set_other lines target k line empty_line other)
          ∙ older_row (line_at lines k) pool longer new segments room long lengthened (λ t e has. are.placed k t e has) joins.changed
          ∙ sym (row_line pool room lines k);
    }
  where
    fresh_zero : (pool longer : List ℕ) (place room : ℕ) → length pool ≡ place → longer ≡ pool ++ replicate {A = ℕ} room 0 →
        (k : ℕ) → get_or (segment longer place room) k 0 ≡ 0
    fresh_zero pool longer place room long is k = elim (cases_lt k room) [
      | inl small ↦
          word_in longer place room k small ∙ ap (λ (ws : List ℕ). get_or ws (place + k) 0) is
          ∙ get_or-append_right pool (replicate {A = ℕ} room 0) place (place + k) 0 long (omega arith)
          ∙ zero_words room (place + k - place)
      | inr past ↦ word_past longer place room k past
    ]

    older_row :
        (line : Line) (pool longer new : List ℕ) (segments room : ℕ) → length pool ≡ segments * room →
        longer ≡ pool ++ replicate {A = ℕ} room 0 → ((t e : ℕ) → line ≡ InWords t e → t < segments) →
        ChangesSegment (segments * room) room longer new → row_of new room line ≡ row_of pool room line
    older_row (InRun run) pool longer new segments room long is placed changes = refl
    older_row (InWords t e) pool longer new segments room long is placed changes =
        let below : t * room + room ≤ segments * room = step_within t segments room (placed t e refl) in
        ap members
        (segment_kept longer new (segments * room) room (t * room) changes (inr below)
        ∙ ap (λ (ws : List ℕ). segment ws (t * room) room) is
        ∙ segment_before pool (replicate {A = ℕ} room 0) (t * room) room (omega arith))

pub taken_lines :
    (pool new : List ℕ) (segments room capacity more target end : ℕ) (run : Run) (lines : List Line) → target < length lines →
    AreLines lines pool segments room capacity → line_at lines target ≡ InRun run → length new ≡ length pool + room → capacity ≤ more →
    run.end ≤ end → JoinsAt target [] (rows_in pool room lines) (rows_in new room (set lines target (InWords segments end))) →
    AreLines (set lines target (InWords segments end)) new (segments + 1) room more
taken_lines pool new segments room capacity more target end run lines within are is longer larger last joins =
    let line : Line = InWords segments end in
    let long : length (set lines target line) ≡ length lines = length-set lines target line in
    let few = are.few in
    let sum : sum_by share_of (set lines target line) + share_of (line_at lines target) ≡ sum_by share_of lines + 1 =
    sum_by-set share_of lines target line empty_line within in
    let none : share_of (line_at lines target) ≡ 0 = ap share_of is in
    let taken = are.taken in
    let was = are.long in
    let spare : length lines * room ≤ capacity = are.spare in
    let next : (segments + 1) * room ≡ segments * room + room = omega arith in
    let now : line_at (set lines target line) target ≡ line = get_or-set_same lines target line empty_line within in
    let stays : (k : ℕ) → (k ≡ target → ⊥) → line_at (set lines target line) k ≡ line_at lines k =
    λ k other. get_or-set_other lines target k line empty_line other in
    let at_target : (k s e : ℕ) → k ≡ target → line_at (set lines target line) k ≡ InWords s e → InWords segments end ≡ InWords s e =
    λ k s e same has. sym (ap (line_at (set lines target line)) same ∙ now) ∙ has in
    let earlier : (k s e : ℕ) → (k ≡ target → ⊥) → line_at (set lines target line) k ≡ InWords s e → s < segments =
    λ k s e other has. are.placed k s e (sym (stays k other) ∙ has) in
    record {
      some = are.some;
      blocks = are.blocks;
      size = are.size;
      few = omega arith;
      long = omega arith;
      taken = omega arith;
      spare =
          subst (λ (n : ℕ). n * room ≤ more) (sym long) (omega arith);
      placed = λ k s e has. elim (cases_eq k target) [
        | inl same ↦ let is_last : segments ≡ s = same_number segments s end e (at_target k s e same has) in omega arith
        | inr other ↦ let before : s < segments = earlier k s e other has in omega arith
      ];
      apart = λ j k s d e at_j at_k. elim (cases_eq j target) [
        | inl j_same ↦ elim (cases_eq k target) [
          | inl k_same ↦ j_same ∙ sym k_same
          | inr k_other ↦
              let last : segments ≡ s = same_number segments s end d (at_target j s d j_same at_j) in
              let before : s < segments = earlier k s e k_other at_k in
              absurd (omega arith)
        ]
        | inr j_other ↦ elim (cases_eq k target) [
          | inl k_same ↦
              let last : segments ≡ s = same_number segments s end e (at_target k s e k_same at_k) in
              let before : s < segments = earlier j s d j_other at_j in
              absurd (omega arith)
          | inr k_other ↦ are.apart j k s d e (sym (stays j j_other) ∙ at_j) (sym (stays k k_other) ∙ at_k)
        ]
      ];
      below = λ k other n has inside. elim (cases_eq k target) [
        | inl same ↦
            let clash : line ≡ InRun other = sym (ap (line_at (set lines target line)) same ∙ now) ∙ has in
            absurd (let shares : 1 ≡ 0 = ap share_of clash in omega arith)
        | inr apart_from ↦ are.below k other n (sym (stays k apart_from) ∙ has) inside
      ];
      ended = λ k s e n has member.
          let shown : Contains (row_at (rows_in new room (set lines target line)) k) n =
          subst (λ (r : List ℕ). Contains r n) (sym (row_line new room (set lines target line) k ∙ ap (row_of new room) has)) member in
          elim (cases_eq k target) [
            | inl same ↦
                let highest : end ≡ e = same_end segments s end e (at_target k s e same has) in
                elim ((joins.joined n).0 (subst (λ (i : ℕ). Contains (row_at (rows_in new room (set lines target line)) i) n) same shown)) [
                  | inl was ↦
                      let inside =
                      (in_numbers run.first run.end n).0
                      (subst (λ (r : List ℕ). Contains r n) (row_line pool room lines target ∙ ap (row_of pool room) is) was) in
                      let below : n < run.end = inside.1 in
                      omega arith
                  | inr none_gained ↦ absurd (let small = none_gained.1 in omega arith)
                ]
            | inr other ↦
                ended_row lines pool segments room capacity k s e n are (sym (stays k other) ∙ has)
                (subst (λ (r : List ℕ). Contains r n) (joins.others k other) shown)
          ];
    }

-- ---- more room

pub rows_widened :
    (old new : List ℕ) (lines : List Line) (segments room more capacity : ℕ) → AreLines lines old segments room capacity →
    AreCopied segments room more old new → rows_in new more lines ≡ rows_in old room lines
rows_widened old new lines segments room more capacity are copied =
    ext_get_or [] (rows_in new more lines) (rows_in old room lines)
    (length_rows new more lines ∙ sym (length_rows old room lines))
    (λ k small.
    row_line new more lines k ∙ wide_row (line_at lines k) old new segments room more copied (λ t e has. are.placed k t e has)
    ∙ sym (row_line old room lines k))
  where
    wide_row :
        (line : Line) (old new : List ℕ) (segments room more : ℕ) → AreCopied segments room more old new →
        ((t e : ℕ) → line ≡ InWords t e → t < segments) → row_of new more line ≡ row_of old room line
    wide_row (InRun run) old new segments room more copied placed = refl
    wide_row (InWords t e) old new segments room more copied placed = copied.members t (placed t e refl)

pub lines_widened :
    (lines : List Line) (pool new : List ℕ) (segments room more capacity now : ℕ) → AreLines lines pool segments room capacity →
    room ≤ more → more % BLOCK ≡ 0 → more ≤ WORDS → length new ≡ segments * more → length lines * more ≤ now →
    rows_in new more lines ≡ rows_in pool room lines → AreLines lines new segments more now
lines_widened lines pool new segments room more capacity now are larger blocks size long spare same =
    let some = are.some in
    let few = are.few in
    record {
      some = omega arith;
      blocks = blocks;
      size = size;
      few = omega arith;
      long = long;
      taken = are.taken;
      spare = spare;
      placed = are.placed;
      apart = are.apart;
      below = λ k run n is inside. let was : n < 64 * room = are.below k run n is inside in omega arith;
      ended = λ k s e n is member.
          ended_row lines pool segments room capacity k s e n are is
          (subst (λ (rows : List (List ℕ)). Contains (row_at rows k) n) same
          (subst (λ (r : List ℕ). Contains r n) (sym (row_line new more lines k ∙ ap (row_of new more) is)) member));
    }

-- room for more segments
pub lines_reserved :
    (lines : List Line) (pool new : List ℕ) (segments room capacity more : ℕ) → AreLines lines pool segments room capacity → new ≡ pool →
    length lines * room ≤ more → AreLines lines new segments room more
lines_reserved lines pool new segments room capacity more are same spare =
    subst (λ (words : List ℕ). AreLines lines words segments room more) (sym same) (record {
      some = are.some;
      blocks = are.blocks;
      size = are.size;
      few = are.few;
      long = are.long;
      taken = are.taken;
      spare = spare;
      placed = are.placed;
      apart = are.apart;
      below = are.below;
      ended = are.ended;
    })

-- ---- a line more

line_pushed : (lines : List Line) (k : ℕ) → line_at (lines ++ empty_line ∷ []) k ≡ line_at lines k
line_pushed lines k = elim (cases_lt k (length lines)) [
  | inl before ↦ get_or_append_left lines (empty_line ∷ []) empty_line k before
  | inr past ↦ elim (cases_eq k (length lines)) [
    | inl last ↦ get_or_push lines empty_line empty_line k (sym last) ∙ sym (get_or_past lines k empty_line past)
    | inr over ↦
        let long : length (lines ++ empty_line ∷ []) ≡ length lines + 1 = length_push lines empty_line in
        get_or_past (lines ++ empty_line ∷ []) k empty_line (omega arith) ∙ sym (get_or_past lines k empty_line past)
  ]
]

pub lines_pushed :
    (lines : List Line) (pool : List ℕ) (segments room capacity : ℕ) → AreLines lines pool segments room capacity →
    (length lines + 1) * room ≤ capacity → length lines < 64 * room → AreLines (lines ++ empty_line ∷ []) pool segments room capacity
lines_pushed lines pool segments room capacity are spare free =
    let long : length (lines ++ empty_line ∷ []) ≡ length lines + 1 = length_push lines empty_line in
    let sum : sum_by share_of (lines ++ empty_line ∷ []) ≡ sum_by share_of lines + 0 = sum_by-append share_of lines (empty_line ∷ []) in
    let taken = are.taken in
    record {
      some = are.some;
      blocks = are.blocks;
      size = are.size;
      few = omega arith;
      long = are.long;
      taken = omega arith;
      spare = subst (λ (n : ℕ). n * room ≤ capacity) (sym long) spare;
      placed = λ k s e has. are.placed k s e (sym (line_pushed lines k) ∙ has);
      apart = λ j k s d e at_j at_k. are.apart j k s d e (sym (line_pushed lines j) ∙ at_j) (sym (line_pushed lines k) ∙ at_k);
      below = λ k run n has inside. are.below k run n (sym (line_pushed lines k) ∙ has) inside;
      ended = λ k s e n has member. are.ended k s e n (sym (line_pushed lines k) ∙ has) member;
    }

pub rows_pushed :
    (pool : List ℕ) (room : ℕ) (lines : List Line) → rows_in pool room (lines ++ empty_line ∷ []) ≡ rows_in pool room lines ++ [] ∷ []
unfolding rows_in numbers_of
rows_pushed pool room lines = map-append (row_of pool room) lines (empty_line ∷ [])
