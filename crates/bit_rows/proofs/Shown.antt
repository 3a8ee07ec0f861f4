-- What a matrix shows of its lines: the rows of the first ones.
use Rattle.std.proofs.Common.{◌≡◌, ◌+◌, ◌-◌, ◌<◌, ◌≤◌, ℕ, List, [], ◌∷◌, ◌++◌, length, take, ap, sym, ◌∙◌, subst, inl, inr, arith}
use Rattle.std.specs.Prelude.{Ok, Err, Result, OnOk, OnErr}
use Rattle.std.proofs.lemmas.Bool.{cases_lt}
use Rattle.std.proofs.lemmas.List.{ext_get_or, get_or_past, get_or-take, length-take, length_push, take_all, take_more}
use Rattle.bit_rows.specs.declared.lines.Lines.{Lines}
use Rattle.bit_rows.specs.Members.{IsUnion}
use Rattle.bit_rows.specs.Matrix.{JoinsAt, row_at}
use Rattle.bit_rows.specs.Lines.{EmptiesLine, JoinsLine, rows_of}
use Rattle.bit_rows.proofs.RowLines.{length_rows}

pub rows_long : (lines : Lines) → length (rows_of lines) ≡ length lines.lines.items
rows_long lines = length_rows lines.pool.items lines.room lines.lines.items

-- as many rows as the matrix counts
pub count_is :
    (lines : Lines) (rows : ℕ) (now : List (List ℕ)) → take rows (rows_of lines) ≡ now → rows ≤ length lines.lines.items → rows ≡ length now
count_is lines rows now view within =
    let long = rows_long lines in
    let cut = length-take rows (rows_of lines) in
    let shown = ap length view in
    omega arith

pub row_shown :
    (lines : Lines) (rows : ℕ) (now : List (List ℕ)) (k : ℕ) → take rows (rows_of lines) ≡ now → rows ≤ length lines.lines.items →
    k < length now → row_at (rows_of lines) k ≡ row_at now k
row_shown lines rows now k view within small =
    let count = count_is lines rows now view within in
    sym (get_or-take rows (rows_of lines) k [] (omega arith)) ∙ ap (λ (rs : List (List ℕ)). row_at rs k) view

pub popped_rows :
    (lines : Lines) (rows : ℕ) (now : List (List ℕ)) → take rows (rows_of lines) ≡ now → rows ≤ length lines.lines.items → 0 < length now →
    now ≡ take (rows - 1) (rows_of lines) ++ row_at now (length now - 1) ∷ []
popped_rows lines rows now view within some =
    let count = count_is lines rows now view within in
    let long = rows_long lines in
    let next : rows ≡ rows - 1 + 1 = omega arith in
    let last : rows - 1 ≡ length now - 1 = omega arith in
    sym view ∙ ap (λ (n : ℕ). take n (rows_of lines)) next ∙ take_more (rows_of lines) (rows - 1) [] (omega arith)
    ∙ ap (λ (r : List ℕ). take (rows - 1) (rows_of lines) ++ r ∷ [])
    (row_shown lines rows now (rows - 1) view within (omega arith) ∙ ap (row_at now) last)

-- a row that is joined, among those that are shown
joins_shown :
    (target rows : ℕ) (gained : List ℕ) (old new : List (List ℕ)) → target < rows → JoinsAt target gained old new →
    JoinsAt target gained (take rows old) (take rows new)
joins_shown target rows gained old new small joins =
    let size = joins.size in
    let cut = length-take rows old in
    let cut_new = length-take rows new in
    record {
      size = omega arith;
      joined =
          subst (λ (r : List ℕ). IsUnion r gained (row_at (take rows new) target)) (sym (get_or-take rows old target [] small))
          (subst (λ (r : List ℕ). IsUnion (row_at old target) gained r) (sym (get_or-take rows new target [] small)) joins.joined);
      others = λ k other. elim (cases_lt k rows) [
        | inl shown ↦ get_or-take rows new k [] shown ∙ joins.others k other ∙ sym (get_or-take rows old k [] shown)
        | inr past ↦
            get_or_past (take rows new) k [] (omega arith) ∙ sym (get_or_past (take rows old) k [] (omega arith))
      ];
    }

pub line_joins_shown :
    (target rows : ℕ) (gained row : List ℕ) (old new : Lines) (now : List (List ℕ)) → take rows (rows_of old) ≡ now →
    rows ≤ length old.lines.items → target < length now → gained ≡ row → JoinsLine target gained old new →
    JoinsAt target row now (take rows (rows_of new))
line_joins_shown target rows gained row old new now view within small is joins =
    let count = count_is old rows now view within in
    subst (λ (r : List ℕ). JoinsAt target r now (take rows (rows_of new))) is
    (subst (λ (rs : List (List ℕ)). JoinsAt target gained rs (take rows (rows_of new))) view
    (joins_shown target rows gained (rows_of old) (rows_of new) (omega arith) joins.rows))

pub lines_stay_emptied : (target : ℕ) (old new : Lines) → EmptiesLine target old new → length new.lines.items ≡ length old.lines.items
lines_stay_emptied target old new empties = sym (rows_long new) ∙ empties.rows.size ∙ rows_long old

-- ---- a row more

take_same :
    (n : ℕ) (xs ys : List (List ℕ)) → length xs ≡ length ys → ((k : ℕ) → k < n → row_at xs k ≡ row_at ys k) → take n xs ≡ take n ys
take_same n xs ys size same =
    let cut = length-take n xs in
    let cut_other = length-take n ys in
    ext_get_or [] (take n xs) (take n ys) (omega arith) (λ k small.
    get_or-take n xs k [] (omega arith) ∙ same k (omega arith) ∙ sym (get_or-take n ys k [] (omega arith)))

-- the next line, emptied
pub next_shown :
    (rows : ℕ) (old new : Lines) → rows < length old.lines.items → EmptiesLine rows old new →
    take (rows + 1) (rows_of new) ≡ take rows (rows_of old) ++ [] ∷ []
next_shown rows old new small empties =
    let long = rows_long old in
    let size = empties.rows.size in
    take_more (rows_of new) rows [] (omega arith)
    ∙ ap (λ (r : List ℕ). take rows (rows_of new) ++ r ∷ []) empties.rows.none
    ∙ ap (λ (rs : List (List ℕ)). rs ++ [] ∷ [])
    (take_same rows (rows_of new) (rows_of old) size (λ k before. empties.rows.others k (λ same. absurd (omega arith))))

-- a line after the last one
pub last_shown :
    (rows : ℕ) (old new : Lines) → rows ≡ length old.lines.items → rows_of new ≡ rows_of old ++ [] ∷ [] →
    take (rows + 1) (rows_of new) ≡ take rows (rows_of old) ++ [] ∷ []
last_shown rows old new all is =
    let long = rows_long old in
    let longer : length (rows_of old ++ [] ∷ []) ≡ length (rows_of old) + 1 = length_push (rows_of old) [] in
    let whole = ap length is in
    take_all (rows + 1) (rows_of new) (omega arith) ∙ is
    ∙ ap (λ (rs : List (List ℕ)). rs ++ [] ∷ []) (sym (take_all rows (rows_of old) (omega arith)))

pub one_longer : (old new : Lines) → rows_of new ≡ rows_of old ++ [] ∷ [] → length new.lines.items ≡ length old.lines.items + 1
one_longer old new is =
    let long = rows_long old in
    let now = rows_long new in
    let longer : length (rows_of old ++ [] ∷ []) ≡ length (rows_of old) + 1 = length_push (rows_of old) [] in
    let whole = ap length is in
    omega arith

pub no_shorter :
    {T E : Type 0} (r : Result T E) (old new : Lines) → OnOk r (rows_of new ≡ rows_of old ++ [] ∷ []) → OnErr r (rows_of new ≡ rows_of old) →
    length old.lines.items ≤ length new.lines.items
no_shorter (Ok x) old new is same = let longer = one_longer old new is in omega arith
no_shorter (Err e) old new is same =
    let long = rows_long old in
    let now = rows_long new in
    let whole = ap length same in
    omega arith

pub on_ok : {T E P Q : Type 0} (r : Result T E) → OnOk r P → (P → Q) → OnOk r Q
on_ok (Ok x) p f = f p
on_ok (Err e) p f = tt
