-- What events at the front of a text are made of.
use Rattle.std.proofs.Common.{◌≡◌, ◌≢◌, refl, ℕ, ◌+◌, ◌<◌, ◌≤◌, List, [], ◌∷◌, ◌++◌, length, get_or, take, decimal, sym, ap, ◌∙◌, append_assoc}
use Rattle.std.proofs.lemmas.List.{take_more, take_all}
use Rattle.std.specs.Prelude.{codes}
use Rattle.cell_base.specs.declared.cell.Cell.{Cell}
use Rattle.cell_base.specs.declared.level.Level.{Level}
use Rattle.cell_base.specs.declared.value.Value.{Value}
use Rattle.history_core.specs.declared.event.Event.TheVariants.{Begin, Read, Own, Write, Commit}
use Rattle.history_log.specs.declared.version.Version.{Version}
use Rattle.history_log.specs.declared.version.Version.TheVariants.{One, Two, Three}
use Rattle.history_log.specs.Spelling.{cell_word, value_word, level_word}
use Rattle.history_log.specs.Reading.{IsU32, FitsCell, FitsValue}
use Rattle.history_log.specs.Leading.{IsLeading, IsLeadingIn}

-- a text begins with a word as far as its letters have been found

pub word_more : (text word : List ℕ) (at : ℕ) (rest after : List ℕ) → at < length word → text ≡ take at word ++ rest → rest ≡ get_or word at 0 ∷ after → text ≡ take (at + 1) word ++ after
word_more text word at rest after within is next =
    is ∙ ap (λ (t : List ℕ). take at word ++ t) next ∙ sym (append_assoc (take at word) (get_or word at 0 ∷ []) after)
    ∙ ap (λ (t : List ℕ). t ++ after) (sym (take_more word at 0 within))

pub word_whole : (text word : List ℕ) (at : ℕ) (rest : List ℕ) → length word ≤ at → text ≡ take at word ++ rest → text ≡ word ++ rest
word_whole text word at rest end is = is ∙ ap (λ (t : List ℕ). t ++ rest) (take_all at word end)

-- what stands after the last word of a line stands after the line
joined : (word words rest text : List ℕ) → text ≡ words ++ rest → word ++ 32 ∷ text ≡ (word ++ 32 ∷ words) ++ rest
joined word words rest text is = ap (λ (t : List ℕ). word ++ 32 ∷ t) is ∙ sym (append_assoc word (32 ∷ words) rest)

joined_numbers : (a b c : ℕ) (word rest text : List ℕ) → text ≡ word ++ rest
    → decimal a ++ 32 ∷ (decimal b ++ 32 ∷ (decimal c ++ 32 ∷ text)) ≡ (decimal a ++ 32 ∷ (decimal b ++ 32 ∷ (decimal c ++ 32 ∷ word))) ++ rest
joined_numbers a b c word rest text is =
    joined (decimal a) (decimal b ++ 32 ∷ (decimal c ++ 32 ∷ word)) rest (decimal b ++ 32 ∷ (decimal c ++ 32 ∷ text))
    (joined (decimal b) (decimal c ++ 32 ∷ word) rest (decimal c ++ 32 ∷ text) (joined (decimal c) word rest text is))

joined_access : (s : ℕ) (cell words rest text : List ℕ) → text ≡ words ++ rest → decimal s ++ 32 ∷ (cell ++ 32 ∷ text) ≡ (decimal s ++ 32 ∷ (cell ++ 32 ∷ words)) ++ rest
joined_access s cell words rest text is = joined (decimal s) (cell ++ 32 ∷ words) rest (cell ++ 32 ∷ text) (joined cell words rest text is)

pub write_leads : (s : ℕ) (cell : Cell) (value : Value) (text middle rest : List ℕ) → IsU32 s → FitsCell cell → FitsValue value
    → text ≡ decimal s ++ 32 ∷ (cell_word cell ++ 32 ∷ middle) → middle ≡ value_word value ++ 10 ∷ rest → IsLeading (Write s cell value) (codes "write " ++ text) rest
write_leads s cell value text middle rest fs fc fv before after = record {
  fits = (fs, fc, fv);
  anywhere = λ v head. tt;
  line = λ v. ap (λ (t : List ℕ). codes "write " ++ t) (before ∙ joined_access s (cell_word cell) (value_word value) (10 ∷ rest) middle after);
}

pub read_leads : (s : ℕ) (cell : Cell) (source count word : ℕ) (value : Value) (text middle late rest : List ℕ) → IsU32 s → FitsCell cell → IsU32 source → IsU32 count → IsU32 word → FitsValue value
    → text ≡ decimal s ++ 32 ∷ (cell_word cell ++ 32 ∷ middle) → middle ≡ decimal source ++ 32 ∷ (decimal count ++ 32 ∷ (decimal word ++ 32 ∷ late)) → late ≡ value_word value ++ 10 ∷ rest
    → IsLeading (Read s cell source count word value) (codes "read " ++ text) rest
read_leads s cell source count word value text middle late rest fs fc fo fn fw fv before between after = record {
  fits = (fs, fc, fo, fn, fw, fv);
  anywhere = λ v head. tt;
  line = λ v. ap (λ (t : List ℕ). codes "read " ++ t)
      (before ∙ joined_access s (cell_word cell) (decimal source ++ 32 ∷ (decimal count ++ 32 ∷ (decimal word ++ 32 ∷ value_word value))) (10 ∷ rest) middle
      (between ∙ joined_numbers source count word (value_word value) (10 ∷ rest) late after));
}

pub own_leads : (s : ℕ) (cell : Cell) (value : Value) (text middle rest : List ℕ) → IsU32 s → FitsCell cell → FitsValue value
    → text ≡ decimal s ++ 32 ∷ (cell_word cell ++ 32 ∷ middle) → middle ≡ value_word value ++ 10 ∷ rest → IsLeading (Own s cell value) (codes "own " ++ text) rest
own_leads s cell value text middle rest fs fc fv before after = record {
  fits = (fs, fc, fv);
  anywhere = λ v head. tt;
  line = λ v. ap (λ (t : List ℕ). codes "own " ++ t) (before ∙ joined_access s (cell_word cell) (value_word value) (10 ∷ rest) middle after);
}

pub commit_leads : (s : ℕ) (text rest : List ℕ) → IsU32 s → text ≡ decimal s ++ 10 ∷ rest → IsLeading (Commit s) (codes "commit " ++ text) rest
commit_leads s text rest fs is = record {
  fits = fs;
  anywhere = λ v head. tt;
  line = λ v. ap (λ (t : List ℕ). codes "commit " ++ t) is;
}

pub head_begins : (head : Level) (s : ℕ) (text rest : List ℕ) → IsU32 s → text ≡ decimal s ++ 10 ∷ rest → IsLeadingIn One head (Begin s head) (codes "begin " ++ text) rest
head_begins head s text rest fs is = record {
  fits = fs;
  own = refl;
  line = ap (λ (t : List ℕ). codes "begin " ++ t) is;
}

pub level_begins : (v : Version) (head : Level) (s : ℕ) (level : Level) (text middle rest : List ℕ) → v ≢ One → IsU32 s → text ≡ decimal s ++ 32 ∷ middle → middle ≡ level_word level ++ 10 ∷ rest
    → IsLeadingIn v head (Begin s level) (codes "begin " ++ text) rest
level_begins One head s level text middle rest other fs before after = absurd (other refl)
level_begins Two head s level text middle rest other fs before after = record {
  fits = fs;
  own = tt;
  line = ap (λ (t : List ℕ). codes "begin " ++ t) (before ∙ joined (decimal s) (level_word level) (10 ∷ rest) middle after);
}
level_begins Three head s level text middle rest other fs before after = record {
  fits = fs;
  own = tt;
  line = ap (λ (t : List ℕ). codes "begin " ++ t) (before ∙ joined (decimal s) (level_word level) (10 ∷ rest) middle after);
}
