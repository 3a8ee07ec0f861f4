-- The lines of a matrix: rows that are joined, emptied, added and given more room.
use Rattle.std.proofs.Common.{◌≡◌, ◌↔◌, ◌⊎◌, ℕ, ◌+◌, ◌*◌, ◌<◌, ◌≤◌, List, [], ◌∷◌, length, set, map, refl, get_or-set_same, get_or-set_other, ap, sym, ◌∙◌, subst, inl, inr, arith}
use Rattle.std.specs.Prelude.{vec_capacity}
use Rattle.std.specs.List.{Contains, sum_by}
use Rattle.std.specs.Vec.{with_items}
use Rattle.std.proofs.Math.ListN.{get_or-map}
use Rattle.std.proofs.lemmas.Bool.{cases_eq, cases_lt}
use Rattle.std.proofs.lemmas.List.{length-map, length-set, with_items_is}
use Rattle.std.proofs.lemmas.List.Sums.{sum_by-set}
use Rattle.bit_rows.specs.declared.TheConstants.{ROW_BITS}
use Rattle.bit_rows.specs.declared.line.Line.{Line}
use Rattle.bit_rows.specs.declared.line.Line.TheVariants.{InRun, InWords}
use Rattle.bit_rows.specs.declared.lines.Lines.{Lines}
use Rattle.bit_rows.specs.declared.run.Run.{Run}
use Rattle.bit_rows.specs.Members.{members, IsUnion}
use Rattle.bit_rows.specs.Runs.{IsInRun, numbers_of}
use Rattle.bit_rows.specs.Segments.{ChangesSegment, ClearsSegment, JoinsSegment, segment}
use Rattle.bit_rows.specs.Matrix.{EmptiesAt, JoinsAt, row_at}
use Rattle.bit_rows.specs.Lines.{AreLines, EmptiesLine, HoldTogether, IsJoinedRun, JoinsLine, empty_line, line_at, row_of, rows_in, rows_of, share_of}
use Rattle.bit_rows.proofs.Marks.{contains_cons, contains_first, contains_later}
use Rattle.bit_rows.proofs.Parts.{segment_kept, step_within}
use Rattle.bit_rows.proofs.Runs.{in_numbers}

-- ---- lines and rows

pub row_line : (pool : List ℕ) (room : ℕ) (lines : List Line) (k : ℕ) → row_at (rows_in pool room lines) k ≡ row_of pool room (line_at lines k)
unfolding rows_in numbers_of
row_line pool room lines k = get_or-map (row_of pool room) lines k empty_line

pub length_rows : (pool : List ℕ) (room : ℕ) (lines : List Line) → length (rows_in pool room lines) ≡ length lines
unfolding rows_in
length_rows pool room lines = length-map lines (row_of pool room)

pub no_numbers_none : numbers_of 0 0 ≡ []
unfolding numbers_of
no_numbers_none = refl

-- the row of a line whose segment isn't the one that has changed
kept_row :
    (line : Line) (s room : ℕ) (old new : List ℕ) → ((t e : ℕ) → line ≡ InWords t e → t ≡ s → ⊥) → ChangesSegment (s * room) room old new →
    row_of new room line ≡ row_of old room line
kept_row (InRun run) s room old new apart changes = refl
kept_row (InWords t e) s room old new apart changes =
    ap members (segment_kept old new (s * room) room (t * room) changes (elim (cases_eq t s) [
      | inl same ↦ absurd (apart t e refl same)
      | inr other ↦ elim (cases_lt t s) [
        | inl low ↦ inr (step_within t s room low)
        | inr high ↦ inl (step_within s t room (omega arith))
      ]
    ]))

-- ---- a line that is another one now

pub joins_line :
    (pool : List ℕ) (room target : ℕ) (gained : List ℕ) (lines : List Line) (line : Line) → target < length lines →
    IsUnion (row_of pool room (line_at lines target)) gained (row_of pool room line) →
    JoinsAt target gained (rows_in pool room lines) (rows_in pool room (set lines target line))
joins_line pool room target gained lines line within union =
    let now : row_at (rows_in pool room (set lines target line)) target ≡ row_of pool room line =
    row_line pool room (set lines target line) target ∙ ap (row_of pool room) (get_or-set_same lines target line empty_line within) in
    record {
      size = length_rows pool room (set lines target line) ∙ length-set lines target line ∙ sym (length_rows pool room lines);
      joined =
          subst (λ (r : List ℕ). IsUnion (row_at (rows_in pool room lines) target) gained r) (sym now)
          (subst (λ (r : List ℕ). IsUnion r gained (row_of pool room line)) (sym (row_line pool room lines target)) union);
      others = λ k other.
          row_line pool room (set lines target line) k
          ∙ ap (row_of pool room) (get_or-set_other lines target k line empty_line other) ∙ sym (row_line pool room lines k);
    }

-- ---- a segment that has changed

pub joins_words :
    (old new : List ℕ) (room target s e segments capacity : ℕ) (gained : List ℕ) (lines : List Line) →
    AreLines lines old segments room capacity → line_at lines target ≡ InWords s e → JoinsSegment (s * room) room gained old new →
    JoinsAt target gained (rows_in old room lines) (rows_in new room lines)
joins_words old new room target s e segments capacity gained lines are is joins =
    let before : row_at (rows_in old room lines) target ≡ members (segment old (s * room) room) =
    row_line old room lines target ∙ ap (row_of old room) is in
    let after : row_at (rows_in new room lines) target ≡ members (segment new (s * room) room) =
    row_line new room lines target ∙ ap (row_of new room) is in
    record {
      size = length_rows new room lines ∙ sym (length_rows old room lines);
      joined =
          subst (λ (r : List ℕ). IsUnion (row_at (rows_in old room lines) target) gained r) (sym after)
          (subst (λ (r : List ℕ). IsUnion r gained (members (segment new (s * room) room))) (sym before) joins.joined);
      others = λ k other.
          row_line new room lines k
          ∙ kept_row (line_at lines k) s room old new
          (λ t d has same. other (are.apart k target s d e (has ∙ ap (λ (n : ℕ). InWords n d) same) is)) joins.changed
          ∙ sym (row_line old room lines k);
    }

pub empties_words :
    (old new : List ℕ) (room target s e segments capacity : ℕ) (lines : List Line) →
    AreLines lines old segments room capacity → line_at lines target ≡ InWords s e → ClearsSegment (s * room) room old new →
    EmptiesAt target (rows_in old room lines) (rows_in new room lines)
empties_words old new room target s e segments capacity lines are is clears = record {
  size = length_rows new room lines ∙ sym (length_rows old room lines);
  none = row_line new room lines target ∙ ap (row_of new room) is ∙ clears.none;
  others = λ k other.
      row_line new room lines k
      ∙ kept_row (line_at lines k) s room old new
      (λ t d has same. other (are.apart k target s d e (has ∙ ap (λ (n : ℕ). InWords n d) same) is)) clears.changed
      ∙ sym (row_line old room lines k);
}

-- the number of a line's segment, and its end
number_of : Line → ℕ
number_of (InRun run) = 0
number_of (InWords s e) = s

last_of : Line → ℕ
last_of (InRun run) = 0
last_of (InWords s e) = e

pub same_number : (s t d e : ℕ) → InWords s d ≡ InWords t e → s ≡ t
unfolding number_of
same_number s t d e same = ap number_of same

pub same_end : (s t d e : ℕ) → InWords s d ≡ InWords t e → d ≡ e
unfolding last_of
same_end s t d e same = ap last_of same

-- a member of a line of words is below its end
pub ended_row :
    (lines : List Line) (pool : List ℕ) (segments room capacity k s e n : ℕ) → AreLines lines pool segments room capacity →
    line_at lines k ≡ InWords s e → Contains (row_at (rows_in pool room lines) k) n → n < e
ended_row lines pool segments room capacity k s e n are is member =
    are.ended k s e n is (subst (λ (r : List ℕ). Contains r n) (row_line pool room lines k ∙ ap (row_of pool room) is) member)

-- the words of one line alone have changed, and its members are below its end
pub lines_changed :
    (lines : List Line) (old new : List ℕ) (segments room capacity target s e : ℕ) → AreLines lines old segments room capacity →
    line_at lines target ≡ InWords s e → ChangesSegment (s * room) room old new →
    ((n : ℕ) → Contains (members (segment new (s * room) room)) n → n < e) → AreLines lines new segments room capacity
lines_changed lines old new segments room capacity target s e are is changes below = record {
  some = are.some;
  blocks = are.blocks;
  size = are.size;
  few = are.few;
  long = changes.size ∙ are.long;
  taken = are.taken;
  spare = are.spare;
  placed = are.placed;
  apart = are.apart;
  below = are.below;
  ended = λ k t d n at_k member. elim (cases_eq k target) [
    | inl same ↦
        let words : InWords t d ≡ InWords s e = sym at_k ∙ ap (line_at lines) same ∙ is in
        let number : t ≡ s = same_number t s d e words in
        let last : d ≡ e = same_end t s d e words in
        let small : n < e = below n (subst (λ (u : ℕ). Contains (members (segment new (u * room) room)) n) number member) in
        omega arith
    | inr other ↦
        are.ended k t d n at_k
        (subst (λ (r : List ℕ). Contains r n)
        (kept_row (InWords t d) s room old new
        (λ u c has same. other (are.apart k target s d e (at_k ∙ ap (λ (m : ℕ). InWords m d) (same_number t u d c has ∙ same)) is)) changes)
        member)
  ];
}

-- the pool of lines, of which one segment has gained members below its line's end
pub pool_joined :
    (target s e : ℕ) (gained words : List ℕ) (lines : Lines) → HoldTogether lines → line_at lines.lines.items target ≡ InWords s e →
    ((n : ℕ) → Contains gained n → n < e) → JoinsSegment (s * lines.room) lines.room gained lines.pool.items words →
    JoinsLine target gained lines (record lines { pool = with_items lines.pool words })
pool_joined target s e gained words lines holds is below joins =
    let items : (with_items lines.pool words).items ≡ words = with_items_is lines.pool words (joins.changed.size ∙ sym lines.pool.ok.0) in
    record {
      holds =
          subst (λ (ws : List ℕ). AreLines lines.lines.items ws lines.segments lines.room (vec_capacity lines.pool)) (sym items)
          (lines_changed lines.lines.items lines.pool.items words lines.segments lines.room (vec_capacity lines.pool) target s e holds is
          joins.changed
          (λ n member. elim ((joins.joined n).0 member) [ inl was ↦ holds.ended target s e n is was | inr more ↦ below n more ]));
      rows =
          subst (λ (ws : List ℕ). JoinsAt target gained (rows_of lines) (rows_in ws lines.room lines.lines.items)) (sym items)
          (joins_words lines.pool.items words lines.room target s e lines.segments (vec_capacity lines.pool) gained
          lines.lines.items holds is joins);
    }

pub pool_cleared :
    (target s e : ℕ) (words : List ℕ) (lines : Lines) → HoldTogether lines → line_at lines.lines.items target ≡ InWords s e →
    ClearsSegment (s * lines.room) lines.room lines.pool.items words →
    EmptiesLine target lines (record lines { pool = with_items lines.pool words })
pool_cleared target s e words lines holds is clears =
    let items : (with_items lines.pool words).items ≡ words = with_items_is lines.pool words (clears.changed.size ∙ sym lines.pool.ok.0) in
    record {
      holds =
          subst (λ (ws : List ℕ). AreLines lines.lines.items ws lines.segments lines.room (vec_capacity lines.pool)) (sym items)
          (lines_changed lines.lines.items lines.pool.items words lines.segments lines.room (vec_capacity lines.pool) target s e holds is
          clears.changed
          (λ n member.
          let none = subst (λ (r : List ℕ). Contains r n) clears.none member in let small = none.1 in absurd (omega arith)));
      rows =
          subst (λ (ws : List ℕ). EmptiesAt target (rows_of lines) (rows_in ws lines.room lines.lines.items)) (sym items)
          (empties_words lines.pool.items words lines.room target s e lines.segments (vec_capacity lines.pool)
          lines.lines.items holds is clears);
    }

-- ---- one row joined twice

pub joins_then :
    (target : ℕ) (first second gained : List ℕ) (old mid new : List (List ℕ)) →
    ((n : ℕ) → Contains gained n ↔ (Contains first n ⊎ Contains second n)) → JoinsAt target first old mid → JoinsAt target second mid new →
    JoinsAt target gained old new
joins_then target first second gained old mid new both a b = record {
  size = b.size ∙ a.size;
  joined = λ n. (
    λ member. elim ((b.joined n).0 member) [
      | inl before ↦ elim ((a.joined n).0 before) [ inl was ↦ inl was | inr more ↦ inr ((both n).1 (inl more)) ]
      | inr more ↦ inr ((both n).1 (inr more))
    ],
    λ either. elim either [
      | inl was ↦ (b.joined n).1 (inl ((a.joined n).1 (inl was)))
      | inr more ↦ elim ((both n).0 more) [
        | inl one ↦ (b.joined n).1 (inl ((a.joined n).1 (inr one)))
        | inr other ↦ (b.joined n).1 (inr other)
      ]
    ],
  );
  others = λ k other. b.others k other ∙ a.others k other;
}

-- joined with nothing first
pub joins_after :
    (target : ℕ) (gained : List ℕ) (old mid new : List (List ℕ)) → JoinsAt target [] old mid → JoinsAt target gained mid new →
    JoinsAt target gained old new
joins_after target gained old mid new a b =
    joins_then target [] gained gained old mid new (λ n. (
      λ member. inr member,
      λ either. elim either [ inl none ↦ absurd (let small = none.1 in omega arith) | inr more ↦ more ],
    )) a b

-- a row and the number of its place
pub joins_up_to :
    (target number : ℕ) (row : List ℕ) (old mid new : List (List ℕ)) → JoinsAt target row old mid →
    JoinsAt target (numbers_of number (number + 1)) mid new → JoinsAt target (number ∷ row) old new
joins_up_to target number row old mid new a b =
    joins_then target row (numbers_of number (number + 1)) (number ∷ row) old mid new (λ n. (
      λ member. elim (contains_cons number row n member) [
        | inl is ↦ inr ((in_numbers number (number + 1) n).1 (omega arith, omega arith))
        | inr later ↦ inl later
      ],
      λ either. elim either [
        | inl held ↦ contains_later number row n held
        | inr one ↦
            let within = (in_numbers number (number + 1) n).0 one in
            let above : number ≤ n = within.0 in
            let below : n < number + 1 = within.1 in
            contains_first number row n (omega arith)
      ],
    )) a b

-- ---- a line that is a longer run now

run_union :
    (pool : List ℕ) (room : ℕ) (line : Line) (run both : Run) → IsJoinedRun line run.first run.end both.first both.end →
    IsUnion (row_of pool room line) (numbers_of run.first run.end) (numbers_of both.first both.end)
run_union pool room (InRun own) run both joins n = (
  λ member. elim ((joins n).0 ((in_numbers both.first both.end n).0 member)) [
    | inl in_own ↦ inl ((in_numbers own.first own.end n).1 in_own)
    | inr in_run ↦ inr ((in_numbers run.first run.end n).1 in_run)
  ],
  λ either. elim either [
    | inl held ↦ (in_numbers both.first both.end n).1 ((joins n).1 (inl ((in_numbers own.first own.end n).0 held)))
    | inr more ↦ (in_numbers both.first both.end n).1 ((joins n).1 (inr ((in_numbers run.first run.end n).0 more)))
  ],
)
run_union pool room (InWords s e) run both joins n = absurd joins

-- a line whose share of the segments stays none
pub line_set :
    (lines : List Line) (pool : List ℕ) (segments room capacity target : ℕ) (run : Run) → target < length lines →
    AreLines lines pool segments room capacity → share_of (line_at lines target) ≡ 0 →
    ((n : ℕ) → IsInRun run.first run.end n → n < 64 * room) → AreLines (set lines target (InRun run)) pool segments room capacity
line_set lines pool segments room capacity target run within are free below =
    let long : length (set lines target (InRun run)) ≡ length lines = length-set lines target (InRun run) in
    let few = are.few in
    let sum : sum_by share_of (set lines target (InRun run)) + share_of (line_at lines target) ≡ sum_by share_of lines + 0 =
    sum_by-set share_of lines target (InRun run) empty_line within in
    let taken = are.taken in
    let now : line_at (set lines target (InRun run)) target ≡ InRun run = get_or-set_same lines target (InRun run) empty_line within in
    let was : (k s e : ℕ) → line_at (set lines target (InRun run)) k ≡ InWords s e → line_at lines k ≡ InWords s e =
    λ k s e is. elim (cases_eq k target) [
      | inl same ↦ absurd (let clash : InRun run ≡ InWords s e = sym (ap (line_at (set lines target (InRun run))) same ∙ now) ∙ is in let shares : 0 ≡ 1 = ap share_of clash in omega arith)
      | inr other ↦ sym (get_or-set_other lines target k (InRun run) empty_line other) ∙ is
    ] in
    record {
      some = are.some;
      blocks = are.blocks;
      size = are.size;
      few = omega arith;
      long = are.long;
      taken = omega arith;
      spare = subst (λ (n : ℕ). n * room ≤ capacity) (sym long) are.spare;
      placed = λ k s e is. are.placed k s e (was k s e is);
      apart = λ j k s d e at_j at_k. are.apart j k s d e (was j s d at_j) (was k s e at_k);
      below = λ k other n is inside. elim (cases_eq k target) [
        | inl same ↦
            let whole : InRun run ≡ InRun other = sym (ap (line_at (set lines target (InRun run))) same ∙ now) ∙ is in
            let first : run.first ≡ other.first = ap (λ (l : Line). first_of l) whole in
            let end : run.end ≡ other.end = ap (λ (l : Line). end_of l) whole in
            let above : other.first ≤ n = inside.0 in
            let under : n < other.end = inside.1 in
            below n (omega arith, omega arith)
        | inr apart_from ↦ are.below k other n (sym (get_or-set_other lines target k (InRun run) empty_line apart_from) ∙ is) inside
      ];
      ended = λ k s e n is member. are.ended k s e n (was k s e is) member;
    }
  where
    first_of : Line → ℕ
    first_of (InRun r) = r.first
    first_of (InWords s e) = 0

    end_of : Line → ℕ
    end_of (InRun r) = r.end
    end_of (InWords s e) = 0

joined_share : (line : Line) (f e a b : ℕ) → IsJoinedRun line f e a b → share_of line ≡ 0
joined_share (InRun own) f e a b joins = refl
joined_share (InWords s d) f e a b joins = absurd joins

joined_below :
    (lines : List Line) (pool : List ℕ) (segments room capacity target : ℕ) (line : Line) (run both : Run) →
    AreLines lines pool segments room capacity →
    line_at lines target ≡ line → IsJoinedRun line run.first run.end both.first both.end →
    ((n : ℕ) → IsInRun run.first run.end n → n < 64 * room) → (n : ℕ) → IsInRun both.first both.end n → n < 64 * room
joined_below lines pool segments room capacity target (InRun own) run both are is joins below n inside =
    elim ((joins n).0 inside) [ inl in_own ↦ are.below target own n is in_own | inr in_run ↦ below n in_run ]
joined_below lines pool segments room capacity target (InWords s e) run both are is joins below n inside = absurd joins

pub run_lengthened :
    (lines : List Line) (pool : List ℕ) (segments room capacity target : ℕ) (run both : Run) → target < length lines →
    AreLines lines pool segments room capacity → IsJoinedRun (line_at lines target) run.first run.end both.first both.end →
    ((n : ℕ) → IsInRun run.first run.end n → n < 64 * room) →
    AreLines (set lines target (InRun both)) pool segments room capacity
    × JoinsAt target (numbers_of run.first run.end) (rows_in pool room lines) (rows_in pool room (set lines target (InRun both)))
run_lengthened lines pool segments room capacity target run both within are joins below = (
  line_set lines pool segments room capacity target both within are
      (joined_share (line_at lines target) run.first run.end both.first both.end joins)
      (joined_below lines pool segments room capacity target (line_at lines target) run both are refl joins below),
  joins_line pool room target (numbers_of run.first run.end) lines (InRun both) within
      (run_union pool room (line_at lines target) run both joins),
)

-- ---- a line of words whose end is no lower now

pub line_raised :
    (lines : List Line) (pool : List ℕ) (segments room capacity target s own end : ℕ) → target < length lines →
    AreLines lines pool segments room capacity → line_at lines target ≡ InWords s own → own ≤ end →
    AreLines (set lines target (InWords s end)) pool segments room capacity
    × JoinsAt target [] (rows_in pool room lines) (rows_in pool room (set lines target (InWords s end)))
line_raised lines pool segments room capacity target s own end within are is higher =
    let line : Line = InWords s end in
    let long : length (set lines target line) ≡ length lines = length-set lines target line in
    let few = are.few in
    let sum : sum_by share_of (set lines target line) + share_of (line_at lines target) ≡ sum_by share_of lines + 1 =
    sum_by-set share_of lines target line empty_line within in
    let share : share_of (line_at lines target) ≡ 1 = ap share_of is in
    let taken = are.taken in
    let now : line_at (set lines target line) target ≡ line = get_or-set_same lines target line empty_line within in
    let was : (k t e : ℕ) → line_at (set lines target line) k ≡ InWords t e → (d : ℕ) × ((line_at lines k ≡ InWords t d) × (d ≤ e)) =
    λ k t e has. elim (cases_eq k target) [
      | inl same ↦
          let words : InWords s end ≡ InWords t e = sym (ap (line_at (set lines target line)) same ∙ now) ∙ has in
          let number : s ≡ t = same_number s t end e words in
          let last : end ≡ e = same_end s t end e words in
          (own, (ap (line_at lines) same ∙ is ∙ ap (λ (n : ℕ). InWords n own) number, omega arith))
      | inr other ↦ (e, (sym (get_or-set_other lines target k line empty_line other) ∙ has, omega arith))
    ] in (
      record {
        some = are.some;
        blocks = are.blocks;
        size = are.size;
        few = omega arith;
        long = are.long;
        taken = omega arith;
        spare = subst (λ (n : ℕ). n * room ≤ capacity) (sym long) are.spare;
        placed = λ k t e has. let old = was k t e has in are.placed k t old.0 old.1.0;
        apart = λ j k t d e at_j at_k.
            let old_j = was j t d at_j in
            let old_k = was k t e at_k in
            are.apart j k t old_j.0 old_k.0 old_j.1.0 old_k.1.0;
        below = λ k run n has inside. elim (cases_eq k target) [
          | inl same ↦
              let clash : line ≡ InRun run = sym (ap (line_at (set lines target line)) same ∙ now) ∙ has in
              absurd (let shares : 1 ≡ 0 = ap share_of clash in omega arith)
          | inr other ↦ are.below k run n (sym (get_or-set_other lines target k line empty_line other) ∙ has) inside
        ];
        ended = λ k t e n has member.
            let old = was k t e has in
            let small : n < old.0 = are.ended k t old.0 n old.1.0 member in
            let most : old.0 ≤ e = old.1.1 in
            omega arith;
      },
      joins_line pool room target [] lines line within
          (subst (λ (r : List ℕ). IsUnion r [] (members (segment pool (s * room) room))) (sym (ap (row_of pool room) is)) (λ n. (
            λ member. inl member,
            λ either. elim either [ inl member ↦ member | inr none ↦ absurd (let small = none.1 in omega arith) ],
          ))),
    )

-- ---- no lines

pub no_rows : (pool : List ℕ) (room : ℕ) (lines : List Line) → lines ≡ [] → rows_in pool room lines ≡ []
unfolding rows_in
no_rows pool room lines none = ap (λ (ls : List Line). map (row_of pool room) ls) none

-- ---- what one line shows

pub row_is : (lines : Lines) (number : ℕ) (line : Line) → line_at lines.lines.items number ≡ line → row_at (rows_of lines) number ≡ row_of lines.pool.items lines.room line
row_is lines number line is = row_line lines.pool.items lines.room lines.lines.items number ∙ ap (row_of lines.pool.items lines.room) is

pub run_below :
    (lines : Lines) (number : ℕ) (run : Run) → HoldTogether lines → line_at lines.lines.items number ≡ InRun run → (n : ℕ) →
    IsInRun run.first run.end n → n < ROW_BITS
run_below lines number run holds is n inside =
    let small : n < 64 * lines.room = holds.below number run n is inside in
    let most = holds.size in
    omega arith

-- ---- a line that loses its members

pub line_cleared :
    (lines : List Line) (pool : List ℕ) (segments room capacity target : ℕ) (own : Run) → target < length lines →
    AreLines lines pool segments room capacity → line_at lines target ≡ InRun own →
    AreLines (set lines target empty_line) pool segments room capacity
    × EmptiesAt target (rows_in pool room lines) (rows_in pool room (set lines target empty_line))
line_cleared lines pool segments room capacity target own within are is = (
  line_set lines pool segments room capacity target (record { first = 0; end = 0 }) within are (ap share_of is)
      (λ n inside. let below : n < 0 = inside.1 in absurd (omega arith)),
  record {
    size = length_rows pool room (set lines target empty_line) ∙ length-set lines target empty_line ∙ sym (length_rows pool room lines);
    none =
        row_line pool room (set lines target empty_line) target
        ∙ ap (row_of pool room) (get_or-set_same lines target empty_line empty_line within) ∙ no_numbers_none;
    others = λ k other.
        row_line pool room (set lines target empty_line) k
        ∙ ap (row_of pool room) (get_or-set_other lines target k empty_line empty_line other) ∙ sym (row_line pool room lines k);
  },
)

-- ---- the row of a line of words, as the members of its segment

pub number_stays : (target : ℕ) (gained : List ℕ) (old new : Lines) → JoinsLine target gained old new → length new.lines.items ≡ length old.lines.items
number_stays target gained old new joins =
    sym (length_rows new.pool.items new.room new.lines.items) ∙ joins.rows.size ∙ length_rows old.pool.items old.room old.lines.items

pub source_words :
    (target source other e : ℕ) (old mid : Lines) → JoinsLine target [] old mid → (source ≡ target → ⊥) →
    line_at mid.lines.items source ≡ InWords other e → members (segment mid.pool.items (other * mid.room) mid.room) ≡ row_at (rows_of old) source
source_words target source other e old mid joins apart is =
    sym (row_is mid source (InWords other e) is) ∙ joins.rows.others source apart

-- ---- lines that are joined in two steps

pub line_joined_after :
    (target : ℕ) (gained : List ℕ) (old mid new : Lines) → JoinsLine target [] old mid → JoinsLine target gained mid new →
    JoinsLine target gained old new
line_joined_after target gained old mid new a b = record {
  holds = b.holds;
  rows = joins_after target gained (rows_of old) (rows_of mid) (rows_of new) a.rows b.rows;
}

pub line_joined_up_to :
    (target number : ℕ) (old mid new : Lines) → JoinsLine target (row_at (rows_of old) number) old mid →
    JoinsLine target (numbers_of number (number + 1)) mid new → JoinsLine target (number ∷ row_at (rows_of old) number) old new
line_joined_up_to target number old mid new a b = record {
  holds = b.holds;
  rows = joins_up_to target number (row_at (rows_of old) number) (rows_of old) (rows_of mid) (rows_of new) a.rows b.rows;
}

pub places_apart : (s t room : ℕ) → (s ≡ t → ⊥) → (s * room + room ≤ t * room) ⊎ (t * room + room ≤ s * room)
places_apart s t room other = elim (cases_lt s t) [
  | inl low ↦ inl (step_within s t room low)
  | inr high ↦ inr (step_within t s room (elim (cases_eq t s) [ inl same ↦ absurd (other (sym same)) | inr apart ↦ omega arith ]))
]
