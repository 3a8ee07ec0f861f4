-- What the notes mean, as one comes after the others.
use Rattle.std.proofs.Common.{◌≡◌, ℕ, suc, ◌+◌, ◌<◌, ◌≤◌, ◌^◌, ℤ, pos, negsuc, nat_lt, List, [], ◌∷◌, ◌++◌, Some, length, get_or, set, arith, refl, ap, sym, ◌∙◌, subst, inl, inr}
use Rattle.std.specs.List.{slice_get}
use Rattle.std.specs.Option.{option_map}
use Rattle.std.proofs.lemmas.List.{map_push, length-map, length_push, get_or_append_left, get_or_default, get_or_push, set_at}
use Rattle.std.proofs.lemmas.Option.{slice_get-map, slice_get_read, same_Some, none-some, cond_some}
use Rattle.txn_buffer.proofs.Lists.{slice_get_push_cases}
use Rattle.cell_base.specs.declared.value.Value.{Value}
use Rattle.cell_base.specs.declared.value.Value.TheVariants as values
use Rattle.right_logs.specs.declared.noted_values.NotedValue.{NotedValue}
use Rattle.right_logs.specs.declared.noted_values.NotedValue.TheVariants as notes
use Rattle.right_logs.specs.NotedValues.{means, values_in, AreApart, compact_number, compact_of}

-- one more than the number of a value that is kept apart, 0 for a note that stands by itself
abbrev pub beyond : NotedValue → ℕ
beyond notes.Unset = 0
beyond notes.Null = 0
beyond (notes.Flag flag) = 0
beyond (notes.Compact number) = 0
beyond (notes.Apart number) = number + 1

-- ---- how many there are

-- there are as many notes as values
pub notes_count : (apart : List Value) (noted : List NotedValue) (now : List Value) → values_in apart noted ≡ now → length noted ≡ length now
notes_count apart noted now shows = sym (length-map noted (means apart)) ∙ ap length shows

pub notes_few :
    (apart : List Value) (noted : List NotedValue) (now : List Value) → values_in apart noted ≡ now → length now < 2147483644 → length noted < 2147483644
notes_few apart noted now shows bound =
    let count : length noted ≡ length now = notes_count apart noted now shows in
    omega arith

-- ---- no note

blank_apart : AreApart [] []
blank_apart = record {
  few = omega arith;
  within = λ k number is. absurd (none-some (notes.Apart number) is);
}

pub apart_none : (apart : List Value) (noted : List NotedValue) → apart ≡ [] → noted ≡ [] → AreApart apart noted
apart_none apart noted none blank =
    subst (λ (vs : List Value). AreApart vs noted) (sym none) (subst (λ (ns : List NotedValue). AreApart [] ns) (sym blank) blank_apart)

-- ---- a note that stands by itself comes after the others

compact_pushed :
    (apart : List Value) (noted : List NotedValue) (note : NotedValue) → beyond note ≡ 0 → AreApart apart noted → AreApart apart (noted ++ note ∷ [])
compact_pushed apart noted note low held =
    let long : length (noted ++ note ∷ []) ≡ length noted + 1 = length_push noted note in
    let most : length apart ≤ length noted = held.few in
    record {
      few = omega arith;
      within = λ k number is. elim (slice_get_push_cases noted note k (notes.Apart number) is) [
        | inl old ↦ held.within k number old.1
        | inr new ↦ let one : beyond note ≡ number + 1 = ap beyond new.1 in absurd (omega arith)
      ];
    }

pub apart_push :
    (apart : List Value) (noted pushed : List NotedValue) (note : NotedValue) → pushed ≡ noted ++ note ∷ [] → beyond note ≡ 0 → AreApart apart noted → AreApart apart pushed
apart_push apart noted pushed note is low held = subst (λ (ns : List NotedValue). AreApart apart ns) (sym is) (compact_pushed apart noted note low held)

pub gains_note :
    (apart : List Value) (noted pushed : List NotedValue) (note : NotedValue) (value : Value) (now : List Value) → pushed ≡ noted ++ note ∷ [] → means apart note ≡ value →
    values_in apart noted ≡ now → values_in apart pushed ≡ now ++ value ∷ []
gains_note apart noted pushed note value now is gives shows =
    ap (λ (ns : List NotedValue). values_in apart ns) is
    ∙ (map_push (means apart) noted note
    ∙ (ap (λ (vs : List Value). vs ++ means apart note ∷ []) shows
    ∙ ap (λ (v : Value). now ++ v ∷ []) gives))

-- ---- the note of a compact value

number_means : (apart : List Value) (n : ℤ) (note : NotedValue) → compact_number n ≡ Some note → means apart note ≡ values.Int n
number_means apart (pos n) note is = sym (ap (λ (own : NotedValue). means apart own) (cond_some (nat_lt n (2 ^ 32)) (notes.Compact n) note is).1)
number_means apart (negsuc n) note is = absurd (none-some note is)

number_low : (n : ℤ) (note : NotedValue) → compact_number n ≡ Some note → beyond note ≡ 0
number_low (pos n) note is = sym (ap beyond (cond_some (nat_lt n (2 ^ 32)) (notes.Compact n) note is).1)
number_low (negsuc n) note is = absurd (none-some note is)

told_by : (apart : List Value) (own note : NotedValue) → Some own ≡ Some note → means apart note ≡ means apart own
told_by apart own note is = sym (ap (λ (n : NotedValue). means apart n) (same_Some own note is))

low_by : (own note : NotedValue) → Some own ≡ Some note → beyond note ≡ beyond own
low_by own note is = sym (ap beyond (same_Some own note is))

-- it means the value, whatever is kept apart
pub compact_means : (apart : List Value) (value : Value) (note : NotedValue) → compact_of value ≡ Some note → means apart note ≡ value
compact_means apart values.Unset note is = told_by apart notes.Unset note is
compact_means apart values.Null note is = told_by apart notes.Null note is
compact_means apart (values.Flag flag) note is = told_by apart (notes.Flag flag) note is
compact_means apart (values.Int n) note is = number_means apart n note is
compact_means apart (values.Wide n) note is = absurd (none-some note is)
compact_means apart (values.Text text) note is = absurd (none-some note is)

pub compact_low : (value : Value) (note : NotedValue) → compact_of value ≡ Some note → beyond note ≡ 0
compact_low values.Unset note is = low_by notes.Unset note is
compact_low values.Null note is = low_by notes.Null note is
compact_low (values.Flag flag) note is = low_by (notes.Flag flag) note is
compact_low (values.Int n) note is = number_low n note is
compact_low (values.Wide n) note is = absurd (none-some note is)
compact_low (values.Text text) note is = absurd (none-some note is)

-- so an integer is known by its note
pub integer_is : (value : Value) (note : NotedValue) (number : ℕ) → compact_of value ≡ Some note → note ≡ notes.Compact number → value ≡ values.Int (pos number)
integer_is value note number is same = sym (compact_means [] value note is) ∙ ap (λ (n : NotedValue). means [] n) same

-- ---- a value is kept apart, and its note comes after the others

apart_pushed :
    (apart : List Value) (value : Value) (noted : List NotedValue) → AreApart apart noted → AreApart (apart ++ value ∷ []) (noted ++ notes.Apart (length apart) ∷ [])
apart_pushed apart value noted held =
    let wide : length (apart ++ value ∷ []) ≡ length apart + 1 = length_push apart value in
    let long : length (noted ++ notes.Apart (length apart) ∷ []) ≡ length noted + 1 = length_push noted (notes.Apart (length apart)) in
    let most : length apart ≤ length noted = held.few in
    record {
      few = omega arith;
      within = λ k number is. elim (slice_get_push_cases noted (notes.Apart (length apart)) k (notes.Apart number) is) [
        | inl old ↦ let below : number < length apart = held.within k number old.1 in omega arith
        | inr new ↦ let same : length apart + 1 ≡ number + 1 = ap beyond new.1 in omega arith
      ];
    }

-- the notes before it mean what they meant
note_kept :
    (apart : List Value) (value : Value) (note : NotedValue) → ((number : ℕ) → note ≡ notes.Apart number → number < length apart) →
    means (apart ++ value ∷ []) note ≡ means apart note
note_kept apart value notes.Unset within = refl
note_kept apart value notes.Null within = refl
note_kept apart value (notes.Flag flag) within = refl
note_kept apart value (notes.Compact number) within = refl
note_kept apart value (notes.Apart number) within = get_or_append_left apart (value ∷ []) values.Unset number (within number refl)

values_kept :
    (apart : List Value) (value : Value) (noted : List NotedValue) → ((k number : ℕ) → slice_get noted k ≡ Some (notes.Apart number) → number < length apart) →
    values_in (apart ++ value ∷ []) noted ≡ values_in apart noted
values_kept apart value [] within = refl
values_kept apart value (note ∷ noted) within =
    ap (λ (v : Value). v ∷ values_in (apart ++ value ∷ []) noted) (note_kept apart value note (λ number same. within 0 number (ap Some same)))
    ∙ ap (λ (vs : List Value). means apart note ∷ vs) (values_kept apart value noted (λ k number is. within (suc k) number is))

values_pushed :
    (apart : List Value) (value : Value) (noted : List NotedValue) → AreApart apart noted →
    values_in (apart ++ value ∷ []) (noted ++ notes.Apart (length apart) ∷ []) ≡ values_in apart noted ++ value ∷ []
values_pushed apart value noted held =
    gains_note (apart ++ value ∷ []) noted (noted ++ notes.Apart (length apart) ∷ []) (notes.Apart (length apart)) value (values_in apart noted) refl
    (get_or_push apart value values.Unset (length apart) refl) (values_kept apart value noted held.within)

-- the note is set in the place of one that stood for no value
set_last :
    (noted blank now : List NotedValue) (note : NotedValue) (last : ℕ) → blank ≡ noted ++ notes.Unset ∷ [] → last ≡ length noted → now ≡ set blank last note →
    now ≡ noted ++ note ∷ []
set_last noted blank now note last pushed at is =
    is ∙ (ap (λ (ns : List NotedValue). set ns last note) pushed ∙ set_at noted notes.Unset [] note last (sym at))

-- so the notes are after a value was kept apart
pub record KeepsApart (apart : List Value) (noted : List NotedValue) (value : Value) (wider : List Value) (now : List NotedValue) : Type 0 where
  pub kept : wider ≡ apart ++ value ∷ []
  pub noted_so : now ≡ noted ++ notes.Apart (length apart) ∷ []

pub keeps_apart :
    (apart : List Value) (noted : List NotedValue) (value : Value) (wider : List Value) (blank now : List NotedValue) (last number : ℕ) →
    number ≡ length apart → last ≡ length noted → blank ≡ noted ++ notes.Unset ∷ [] → wider ≡ apart ++ value ∷ [] → now ≡ set blank last (notes.Apart number) →
    KeepsApart apart noted value wider now
keeps_apart apart noted value wider blank now last number count at pushed kept is = record {
  kept = kept;
  noted_so = set_last noted blank now (notes.Apart number) last pushed at is ∙ ap (λ (n : ℕ). noted ++ notes.Apart n ∷ []) count;
}

pub apart_after :
    (apart : List Value) (noted : List NotedValue) (value : Value) (wider : List Value) (now : List NotedValue) → KeepsApart apart noted value wider now →
    AreApart apart noted → AreApart wider now
apart_after apart noted value wider now keeps held =
    subst (λ (vs : List Value). AreApart vs now) (sym keeps.kept)
    (subst (λ (ns : List NotedValue). AreApart (apart ++ value ∷ []) ns) (sym keeps.noted_so) (apart_pushed apart value noted held))

pub values_after :
    (apart : List Value) (noted : List NotedValue) (value : Value) (wider : List Value) (now : List NotedValue) → KeepsApart apart noted value wider now →
    AreApart apart noted → values_in wider now ≡ values_in apart noted ++ value ∷ []
values_after apart noted value wider now keeps held =
    ap (λ (vs : List Value). values_in vs now) keeps.kept
    ∙ (ap (λ (ns : List NotedValue). values_in (apart ++ value ∷ []) ns) keeps.noted_so ∙ values_pushed apart value noted held)

-- where the value couldn't be kept, the note stands for none
pub apart_still :
    (apart wider : List Value) (noted blank : List NotedValue) → wider ≡ apart → blank ≡ noted ++ notes.Unset ∷ [] → AreApart apart noted → AreApart wider blank
apart_still apart wider noted blank same pushed held =
    subst (λ (vs : List Value). AreApart vs blank) (sym same) (apart_push apart noted blank notes.Unset pushed refl held)

-- ---- what stands at a place

pub value_at :
    (apart : List Value) (noted : List NotedValue) (place : ℕ) (note : NotedValue) (value : Value) → place < length noted → note ≡ get_or noted place note →
    means apart note ≡ value → slice_get (values_in apart noted) place ≡ Some value
value_at apart noted place note value below is gives =
    slice_get-map (means apart) noted place
    ∙ (ap (option_map (means apart)) (slice_get_read noted (length noted) place note refl below is) ∙ ap Some gives)

-- a value that is kept apart
pub own_at :
    (apart : List Value) (number : ℕ) (own value : Value) → number < length apart → own ≡ get_or apart number own → own ≡ value →
    means apart (notes.Apart number) ≡ value
own_at apart number own value below is same = get_or_default apart number values.Unset own below ∙ (sym is ∙ same)

-- the same of the lists that stand for the values
pub shown_at :
    (apart seen : List Value) (noted shown : List NotedValue) (now : List Value) (place : ℕ) (value : Value) → seen ≡ apart → shown ≡ noted → values_in apart noted ≡ now →
    slice_get (values_in seen shown) place ≡ Some value → slice_get now place ≡ Some value
shown_at apart seen noted shown now place value seen_is shown_is shows found =
    sym (ap (λ (vs : List Value). slice_get vs place)
    (ap (λ (vs : List Value). values_in vs shown) seen_is ∙ (ap (λ (ns : List NotedValue). values_in apart ns) shown_is ∙ shows)))
    ∙ found
