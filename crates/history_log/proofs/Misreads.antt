-- Why a piece isn't of its form, where a part of it isn't.
use Rattle.std.proofs.Common.{◌≡◌, ℕ, List, [], ◌∷◌, ◌++◌, Result, Ok, Err, refl, sym, ap, ◌∙◌, map, arith, slice_index}
use Rattle.std.specs.Prelude.{OnOk}
use Rattle.std.specs.Fmt.{decimal}
use Rattle.std.specs.List.{AllByRecursion, join_with_byte}
use Rattle.cell_base.specs.declared.cell.Cell.{Cell}
use Rattle.cell_base.specs.declared.cell.Cell.TheVariants.{Presence, Field}
use Rattle.cell_base.specs.declared.key.Key.{Key}
use Rattle.history_log.specs.declared.cells.CellKind.{CellKind}
use Rattle.history_log.specs.declared.cells.CellKind.TheVariants as kinds
use Rattle.history_log.specs.declared.misread.Misread.{Misread}
use Rattle.history_log.specs.declared.misread.Misread.TheVariants.{Form, Memory}
use Rattle.history_log.specs.Cut.{cut_at, Lacks}
use Rattle.history_log.specs.Spelling.{kind_word, key_word, cell_parts, cell_word}
use Rattle.history_log.specs.Reading.{Reads, Takes, IsEnd, IsU32, FitsKey, FitsCell, IsCell, IsCellAfter, IsKey, IsKeys, IsNumber, IsNumbers}
use Rattle.history_log.proofs.Cuts.{cut_joined, joined_cut}
use Rattle.history_log.proofs.Plain.{Plain, plain_lacks_point, parts_plain}

pub from_reads : {X Y A B : Type 0} (P : X → A → Type 0) (m : Misread) (a : A) (Q : Y → B → Type 0) (b : B) → Reads P (Err m) a
    → ((y : Y) → Q y b → (x : X) × P x a) → Reads Q (Err m) b
from_reads P Form a Q b fails found = λ y is. let f = found y is in fails f.0 f.1
from_reads P Memory a Q b fails found = tt

pub from_takes : {X Y A : Type 0} (word : X → List ℕ) (Fits : X → Type 0) (m : Misread) (old new : List (List ℕ)) (Q : Y → A → Type 0) (written : A)
    → Takes word Fits (Err m) old new → ((y : Y) → Q y written → (x : X) × (more : List (List ℕ)) × Fits x × (old ≡ word x ∷ more)) → Reads Q (Err m) written
from_takes word Fits Form old new Q written fails found = λ y is. let f = found y is in fails f.0 f.1 f.2 f.3
from_takes word Fits Memory old new Q written fails found = tt

pub from_end : {Y A : Type 0} (m : Misread) (old : List (List ℕ)) (Q : Y → A → Type 0) (written : A) → Reads IsEnd (Err m) old
    → ((y : Y) → Q y written → old ≡ []) → Reads Q (Err m) written
from_end Form old Q written fails found = λ y is. fails tt (found y is)
from_end Memory old Q written fails found = tt

pub on_ok : {P Q : Type 0} (r : Result (Unit {0}) Misread) → OnOk r P → (P → Q) → OnOk r Q
on_ok (Ok u) p f = f p
on_ok (Err e) p f = tt

pub tail : {a b : List ℕ} {old r s : List (List ℕ)} → old ≡ a ∷ r → old ≡ b ∷ s → r ≡ s
tail e f = cc

-- cells

kinds_differ : kind_word kinds.Presence ≡ kind_word kinds.Field → ⊥
kinds_differ e = let h : slice_index (kind_word kinds.Presence) 0 ≡ slice_index (kind_word kinds.Field) 0 = ap (λ (w : List ℕ). slice_index w 0) e in omega arith

pub presence_parts : (cell : Cell) (parts : List (List ℕ)) → IsCellAfter kinds.Presence cell parts
    → (table : ℕ) × (key : Key) × IsU32 table × FitsKey key × (parts ≡ decimal table ∷ key_word key ∷ [])
presence_parts (Presence table key) parts is = (table, key, is.0.0, is.0.1, cc)
presence_parts (Field table key column) parts is = absurd (kinds_differ (cc))

pub field_parts : (cell : Cell) (parts : List (List ℕ)) → IsCellAfter kinds.Field cell parts
    → (table : ℕ) × (key : Key) × (column : ℕ) × IsU32 table × FitsKey key × IsU32 column × (parts ≡ decimal table ∷ key_word key ∷ decimal column ∷ [])
field_parts (Presence table key) parts is = absurd (kinds_differ (cc))
field_parts (Field table key column) parts is = (table, key, column, is.0.0, is.0.1, is.0.2, cc)

lack_points : (parts : List (List ℕ)) → AllByRecursion Plain parts → AllByRecursion (Lacks 46) parts
lack_points [] all = tt
lack_points (part ∷ parts) all = (plain_lacks_point part all.0, lack_points parts all.1)

pub cell_cut : (cell : Cell) → FitsCell cell → cut_at 46 (cell_word cell) ≡ cell_parts cell
cell_cut (Presence table key) fits = cut_joined 46 (kind_word kinds.Presence) (decimal table ∷ key_word key ∷ [])
    (lack_points (cell_parts (Presence table key)) (parts_plain (Presence table key) fits))
cell_cut (Field table key column) fits = cut_joined 46 (kind_word kinds.Field) (decimal table ∷ key_word key ∷ decimal column ∷ [])
    (lack_points (cell_parts (Field table key column)) (parts_plain (Field table key column) fits))

pub cell_after : (kind : CellKind) (letter : List ℕ) (parts : List (List ℕ)) (word : List ℕ) (r : Result Cell Misread) → cut_at 46 word ≡ letter ∷ parts
    → letter ≡ kind_word kind → Reads (IsCellAfter kind) r parts → Reads IsCell r word
cell_after kind letter parts word (Ok cell) cut is reads = (reads.0, joined_cut 46 word (letter ∷ parts) cut ∙ ap (join_with_byte 46) (ap (λ w. w ∷ parts) is ∙ reads.1))
cell_after kind letter parts word (Err Form) cut is reads = λ cell spelled. reads cell (spelled.0, ap (λ w. w ∷ parts) (sym is) ∙ sym cut ∙ ap (cut_at 46) spelled.1 ∙ cell_cut cell spelled.0)
cell_after kind letter parts word (Err Memory) cut is reads = tt

first_letter : (cell : Cell) (letter : List ℕ) (parts : List (List ℕ)) → letter ∷ parts ≡ cell_parts cell → (kind : CellKind) × (letter ≡ kind_word kind)
first_letter (Presence table key) letter parts e = (kinds.Presence, cc)
first_letter (Field table key column) letter parts e = (kinds.Field, cc)

pub no_kind : (letter : List ℕ) (parts : List (List ℕ)) (word : List ℕ) → cut_at 46 word ≡ letter ∷ parts → ((kind : CellKind) → letter ≡ kind_word kind → ⊥)
    → (cell : Cell) → IsCell cell word → ⊥
no_kind letter parts word cut fails cell is =
    let f = first_letter cell letter parts (sym cut ∙ ap (cut_at 46) is.1 ∙ cell_cut cell is.0) in fails f.0 f.1

pub no_letter : (word : List ℕ) → cut_at 46 word ≡ [] → (cell : Cell) → IsCell cell word → ⊥
no_letter word cut (Presence table key) is = let e = cell_cut (Presence table key) is.0 in let f = ap (cut_at 46) is.1 in cc
no_letter word cut (Field table key column) is = let e = cell_cut (Field table key column) is.0 in let f = ap (cut_at 46) is.1 in cc

-- lists to the end of a line

pub map_push : {X Y : Type 0} (f : X → Y) (xs : List X) (x : X) (ys : List Y) → map f (xs ++ x ∷ []) ++ ys ≡ map f xs ++ f x ∷ ys
map_push f [] x ys = refl
map_push f (y ∷ xs) x ys = ap (λ zs. f y ∷ zs) (map_push f xs x ys)

pub all_push : {X : Type 0} (P : X → Type 0) (xs : List X) (x : X) → AllByRecursion P xs → P x → AllByRecursion P (xs ++ x ∷ [])
all_push P [] x all is = (is, tt)
all_push P (y ∷ xs) x all is = (all.0, all_push P xs x all.1 is)

pub in_mapped : {X : Type 0} (P : X → Type 0) (f : X → List ℕ) (xs ys : List X) (word : List ℕ) (more : List (List ℕ)) → AllByRecursion P ys
    → map f xs ++ word ∷ more ≡ map f ys → (y : X) × P y × (word ≡ f y)
in_mapped P f [] [] word more all e = absurd (cc)
in_mapped P f [] (y ∷ ys) word more all e = (y, all.0, cc)
in_mapped P f (x ∷ xs) [] word more all e = absurd (cc)
in_mapped P f (x ∷ xs) (y ∷ ys) word more all e = in_mapped P f xs ys word more all.1 (cc)

pub no_keys : (m : Misread) (xs : List Key) (word : List ℕ) (more words : List (List ℕ)) → words ≡ map key_word xs ++ word ∷ more → Reads IsKey (Err m) word → Reads IsKeys (Err m) words
no_keys Form xs word more words e fails = λ ys is. let f = in_mapped FitsKey key_word xs ys word more is.0 (sym e ∙ is.1) in fails f.0 (f.1, f.2)
no_keys Memory xs word more words e fails = tt

pub no_numbers : (xs : List ℕ) (word : List ℕ) (more words : List (List ℕ)) → words ≡ map decimal xs ++ word ∷ more → ((n : ℕ) → IsNumber n word → ⊥)
    → (ys : List ℕ) → IsNumbers ys words → ⊥
no_numbers xs word more words e fails ys is = let f = in_mapped IsU32 decimal xs ys word more is.0 (sym e ∙ is.1) in fails f.0 (f.1, f.2)
