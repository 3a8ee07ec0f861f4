-- Which line is of which kind.
use Rattle.std.proofs.Common.{◌≡◌, ℕ, List, [], ◌∷◌, Option, Some, None, ◌==◌, ◌&&◌, cond, refl, sym, ap, ◌∙◌, map, arith, slice_index}
use Rattle.std.specs.Prelude.{codes}
use Rattle.std.specs.Fmt.{decimal}
use Rattle.std.specs.List.{AllByRecursion}
use Rattle.cell_base.specs.declared.cell.Cell.{Cell}
use Rattle.cell_base.specs.declared.key.Key.{Key}
use Rattle.cell_base.specs.declared.level.Level.{Level}
use Rattle.cell_base.specs.declared.value.Value.{Value}
use Rattle.history_core.specs.declared.event.Event.{Event}
use Rattle.history_core.specs.declared.event.Event.TheVariants.{Open, Close, Define, Look, Begin, Scan, Read, Own, Write, Commit, Rollback, Show}
use Rattle.history_log.specs.declared.keyword.Keyword.{Keyword}
use Rattle.history_log.specs.declared.keyword.Keyword.TheVariants as keywords
use Rattle.history_log.specs.declared.version.Version.{Version}
use Rattle.history_log.specs.declared.version.Version.TheVariants.{One, Two, Three}
use Rattle.history_log.specs.Cut.{cut_at, Lacks}
use Rattle.history_log.specs.Spelling.{text_word, key_word, cell_word, value_word, level_word, keyword_word, keyword_of, begin_words, fields, event_line, initial_line, order_line, end_line, line}
use Rattle.history_log.specs.Reading.{IsU32, FitsKey, FitsCell, FitsValue, FitsEvent}
use Rattle.history_log.proofs.Cuts.{cut_joined}
use Rattle.history_log.proofs.Plain.{Ink, Plain, ink, ink_lacks_blank, decimal_plain, text_plain, key_plain, cell_ink, value_plain, level_plain, plain_by_test, test_plain}

-- keywords are told apart by their letters

test : List ℕ → Keyword → Option Keyword → Option Keyword
test word k other = cond ((slice_index word 0 == slice_index (keyword_word k) 0) && (slice_index word 1 == slice_index (keyword_word k) 1)) (Some k) other

named : List ℕ → Option Keyword
named w = test w keywords.Initial (test w keywords.Open (test w keywords.Close (test w keywords.Define (test w keywords.Look (test w keywords.Begin (test w keywords.Scan (test w keywords.Read
    (test w keywords.Own (test w keywords.Write (test w keywords.Commit (test w keywords.Rollback (test w keywords.Show (test w keywords.Order (test w keywords.End None))))))))))))))

named_back : (k : Keyword) → named (keyword_word k) ≡ Some k
unfolding named test
named_back keywords.Initial = refl
named_back keywords.Open = refl
named_back keywords.Close = refl
named_back keywords.Define = refl
named_back keywords.Look = refl
named_back keywords.Begin = refl
named_back keywords.Scan = refl
named_back keywords.Read = refl
named_back keywords.Own = refl
named_back keywords.Write = refl
named_back keywords.Commit = refl
named_back keywords.Rollback = refl
named_back keywords.Show = refl
named_back keywords.Order = refl
named_back keywords.End = refl

pub same_keyword : (a b : Keyword) → keyword_word a ≡ keyword_word b → a ≡ b
same_keyword a b e = some_same a b (sym (named_back a) ∙ ap named e ∙ named_back b) where
  some_same : (a b : Keyword) → Some a ≡ Some b → a ≡ b
  some_same a b e = cc

keyword_plain : (k : Keyword) → Plain (keyword_word k)
unfolding test_plain
keyword_plain keywords.Initial = plain_by_test (codes "initial") refl
keyword_plain keywords.Open = plain_by_test (codes "open") refl
keyword_plain keywords.Close = plain_by_test (codes "close") refl
keyword_plain keywords.Define = plain_by_test (codes "define") refl
keyword_plain keywords.Look = plain_by_test (codes "look") refl
keyword_plain keywords.Begin = plain_by_test (codes "begin") refl
keyword_plain keywords.Scan = plain_by_test (codes "scan") refl
keyword_plain keywords.Read = plain_by_test (codes "read") refl
keyword_plain keywords.Own = plain_by_test (codes "own") refl
keyword_plain keywords.Write = plain_by_test (codes "write") refl
keyword_plain keywords.Commit = plain_by_test (codes "commit") refl
keyword_plain keywords.Rollback = plain_by_test (codes "rollback") refl
keyword_plain keywords.Show = plain_by_test (codes "show") refl
keyword_plain keywords.Order = plain_by_test (codes "order") refl
keyword_plain keywords.End = plain_by_test (codes "end") refl

-- what the words of a line are made of, and what it is cut into

number_ink : (n : ℕ) → IsU32 n → Ink (decimal n)
number_ink n fits = ink (decimal n) (decimal_plain n (omega arith))

begin_ink : (v : Version) (level : Level) → AllByRecursion Ink (begin_words v level)
begin_ink One level = tt
begin_ink Two level = (ink (level_word level) (level_plain level), tt)
begin_ink Three level = (ink (level_word level) (level_plain level), tt)

keys_ink : (listed : List Key) → AllByRecursion FitsKey listed → AllByRecursion Ink (map key_word listed)
keys_ink [] fits = tt
keys_ink (key ∷ listed) fits = (ink (key_word key) (key_plain key fits.0), keys_ink listed fits.1)

numbers_ink : (numbers : List ℕ) → AllByRecursion IsU32 numbers → AllByRecursion Ink (map decimal numbers)
numbers_ink [] fits = tt
numbers_ink (n ∷ numbers) fits = (number_ink n fits.0, numbers_ink numbers fits.1)

value_ink : (value : Value) → FitsValue value → Ink (value_word value)
value_ink value fits = ink (value_word value) (value_plain value fits)

keyword_ink : (k : Keyword) → Ink (keyword_word k)
keyword_ink k = ink (keyword_word k) (keyword_plain k)

fields_ink : (v : Version) (event : Event) → FitsEvent event → AllByRecursion Ink (fields v event)
fields_ink v (Open s) fits = (number_ink s fits, tt)
fields_ink v (Close s) fits = (number_ink s fits, tt)
fields_ink v (Define s name) fits = (number_ink s fits.0, (ink (text_word name) (text_plain name fits.1), tt))
fields_ink v (Look s n) fits = (number_ink s fits.0, (number_ink n fits.1, tt))
fields_ink v (Begin s level) fits = (number_ink s fits, begin_ink v level)
fields_ink v (Scan s table listed) fits = (number_ink s fits.0, (number_ink table fits.1, keys_ink listed fits.2))
fields_ink v (Read s cell source count word value) fits =
    (number_ink s fits.0, (cell_ink cell fits.1, (number_ink source fits.2, (number_ink count fits.3, (number_ink word fits.4, (value_ink value fits.5, tt))))))
fields_ink v (Own s cell value) fits = (number_ink s fits.0, (cell_ink cell fits.1, (value_ink value fits.2, tt)))
fields_ink v (Write s cell value) fits = (number_ink s fits.0, (cell_ink cell fits.1, (value_ink value fits.2, tt)))
fields_ink v (Commit s) fits = (number_ink s fits, tt)
fields_ink v (Rollback s) fits = (number_ink s fits, tt)
fields_ink v (Show s n) fits = (number_ink s fits.0, (number_ink n fits.1, tt))

-- the words of each line
pub event_ink : (v : Version) (event : Event) → FitsEvent event → AllByRecursion Ink (keyword_word (keyword_of event) ∷ fields v event)
event_ink v event fits = (keyword_ink (keyword_of event), fields_ink v event fits)

pub initial_ink : (x : Cell × Value) → FitsCell x.0 → FitsValue x.1 → AllByRecursion Ink (keyword_word keywords.Initial ∷ cell_word x.0 ∷ value_word x.1 ∷ [])
initial_ink x cell value = (keyword_ink keywords.Initial, (cell_ink x.0 cell, (value_ink x.1 value, tt)))

pub order_ink : (order : List ℕ) → AllByRecursion IsU32 order → AllByRecursion Ink (keyword_word keywords.Order ∷ map decimal order)
order_ink order fits = (keyword_ink keywords.Order, numbers_ink order fits)

pub end_ink : AllByRecursion Ink (keyword_word keywords.End ∷ [])
end_ink = (keyword_ink keywords.End, tt)

blanks : (words : List (List ℕ)) → AllByRecursion Ink words → AllByRecursion (Lacks 32) words
blanks [] all = tt
blanks (word ∷ words) all = (ink_lacks_blank word all.0, blanks words all.1)

-- words are a line's
pub line_cut : (word : List ℕ) (words : List (List ℕ)) → AllByRecursion Ink (word ∷ words) → cut_at 32 (line (word ∷ words)) ≡ word ∷ words
line_cut word words inked = cut_joined 32 word words (blanks (word ∷ words) inked)

pub event_cut : (v : Version) (event : Event) → FitsEvent event → cut_at 32 (event_line v event) ≡ keyword_word (keyword_of event) ∷ fields v event
event_cut v event fits = line_cut (keyword_word (keyword_of event)) (fields v event) (event_ink v event fits)

pub initial_cut : (x : Cell × Value) → FitsCell x.0 → FitsValue x.1 → cut_at 32 (initial_line x) ≡ keyword_word keywords.Initial ∷ cell_word x.0 ∷ value_word x.1 ∷ []
initial_cut x cell value = line_cut (keyword_word keywords.Initial) (cell_word x.0 ∷ value_word x.1 ∷ []) (initial_ink x cell value)

pub order_cut : (order : List ℕ) → AllByRecursion IsU32 order → cut_at 32 (order_line order) ≡ keyword_word keywords.Order ∷ map decimal order
order_cut order fits = line_cut (keyword_word keywords.Order) (map decimal order) (order_ink order fits)

pub end_cut : cut_at 32 end_line ≡ keyword_word keywords.End ∷ []
end_cut = line_cut (keyword_word keywords.End) [] end_ink

-- two lines that are one have one keyword
pub same_start : (said : List ℕ) (a b : Keyword) (ws xs : List (List ℕ)) → cut_at 32 said ≡ keyword_word a ∷ ws → cut_at 32 said ≡ keyword_word b ∷ xs → a ≡ b
same_start said a b ws xs e f = same_keyword a b (heads (keyword_word a) (keyword_word b) ws xs (sym e ∙ f)) where
  heads : (u v : List ℕ) (ws xs : List (List ℕ)) → u ∷ ws ≡ v ∷ xs → u ≡ v
  heads u v ws xs e = cc
