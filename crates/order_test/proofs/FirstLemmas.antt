-- The keys of presences that the transactions of a session wrote, as they are noted.
use Rattle.std.proofs.Common.{rules, ◌≡◌, cond, ℕ, zero, suc, ◌+◌, ◌<◌, ◌≤◌, List, [], ◌∷◌, ◌++◌, Bool, true, Some, None, length, get_or, arith, refl, ap, sym, ◌∙◌, subst, inl, inr, ◌⊎◌, Option, set, Result, Ok, Err}
use Rattle.std.specs.Prelude.{nat_eq, OnOk, OnErr}
use Rattle.std.specs.List.{Contains, slice_get}
use Rattle.std.specs.HashMap.{get}
use Rattle.std.specs.Map.{lookup}
use Rattle.std.proofs.lemmas.Bool.{cases_eq, cases_lt, cases_Bool}
use Rattle.std.proofs.lemmas.List.{length-set}
use Rattle.std.proofs.lemmas.Map.Views.{exact_unsigned_eq}
use Rattle.std.proofs.lemmas.Option.{slice_get_within, slice_get_cases}
use Rattle.txn_buffer.proofs.Lists.{slice_get-set_same, slice_get-set_other, slice_get_push_cases, at_contains, contains_at}
use Rattle.cell_base.specs.declared.cell.Cell.{Cell}
use Rattle.cell_base.specs.declared.cell.Cell.TheVariants.{Presence, Field}
use Rattle.cell_base.specs.declared.key.Key.{Key}
use Rattle.cell_base.specs.declared.value.Value.{Value}
use Rattle.cell_writers.specs.declared.writers.CellWriters.{CellWriters}
use Rattle.cell_writers.specs.Writers.{numbers_at}
use Rattle.history_core.specs.declared.txn.Txn.{Txn}
use Rattle.history_core.specs.Kept.{ChangesOne}
use Rattle.order_test.specs.declared.firsts.TableFirsts.{TableFirsts}
use Rattle.order_test.specs.Listed.{ListsCommitted, NotesWrites, HasNoLate, listed_at, numbers_in}
use Rattle.order_test.specs.Firsts.{some_pairs, firsts_at, IsRising, IsRisingTo, AreRising, AreAllRising, HasUpTo, KeepsFirsts, AreUpTo, HoldListed, HasWritten, HaveWritten, ListsUpTo, AreIndexes, NotesFirsts, AreWithoutKeys}

-- ---- pairs that rise

pub rising_none : (number : ℕ) → IsRisingTo [] number
rising_none number = record {
  rising = λ i j a b less at_i at_j. cc;
  within = λ k pair at. cc;
}

pub rising_push : (pairs : List (ℕ × Key)) (number : ℕ) (key : Key) → IsRisingTo pairs number → IsRisingTo (pairs ++ (number, key) ∷ []) number
rising_push pairs number key is = record {
  rising = λ i j a b less at_i at_j. elim (slice_get_push_cases pairs (number, key) j b at_j) [
    | inl old ↦ elim (slice_get_push_cases pairs (number, key) i a at_i) [
      | inl before ↦ is.rising i j a b less before.1 old.1
      | inr last ↦ let here = last.0 in let there = old.0 in absurd (omega arith)
    ]
    | inr new ↦ elim (slice_get_push_cases pairs (number, key) i a at_i) [
      | inl before ↦ subst (λ (p : ℕ × Key). a.0 ≤ p.0) new.1 (is.within i a before.1)
      | inr last ↦ let here = last.0 in let there = new.0 in absurd (omega arith)
    ]
  ];
  within = λ k pair at. elim (slice_get_push_cases pairs (number, key) k pair at) [
    | inl old ↦ is.within k pair old.1
    | inr new ↦ subst (λ (p : ℕ × Key). p.0 ≤ number) new.1 (omega arith)
  ];
}

rising_more : (firsts : TableFirsts) (n m : ℕ) → n ≤ m → AreRising firsts n → AreRising firsts m
rising_more firsts n m up is table = record { rising = (is table).rising; within = λ k pair at. let low = (is table).within k pair at in omega arith }

has_push : (pairs : List (ℕ × Key)) (number : ℕ) (key : Key) → HasUpTo (pairs ++ (number, key) ∷ []) key number
has_push pairs number key = record {
  first = number;
  within = omega arith;
  is = contains_at (pairs ++ (number, key) ∷ []) (length pairs) (number, key) (at_end pairs (number, key));
}
  where
    at_end : (xs : List (ℕ × Key)) (x : ℕ × Key) → slice_get (xs ++ x ∷ []) (length xs) ≡ Some x
    at_end [] x = refl
    at_end (z ∷ xs) x = let more : length (z ∷ xs) ≡ suc (length xs) = omega arith in ap (λ (n : ℕ). slice_get (z ∷ (xs ++ x ∷ [])) n) more ∙ at_end xs x

keeps_push : (pairs : List (ℕ × Key)) (last pair : ℕ × Key) → Contains pairs pair → Contains (pairs ++ last ∷ []) pair
keeps_push pairs last pair there =
    let at = at_contains pairs pair there in contains_at (pairs ++ last ∷ []) at.0 pair (front pairs at.0 at.1)
  where
    front : (xs : List (ℕ × Key)) (k : ℕ) → slice_get xs k ≡ Some pair → slice_get (xs ++ last ∷ []) k ≡ Some pair
    front [] k is = cc
    front (z ∷ xs) zero is = is
    front (z ∷ xs) (suc k) is = front xs k is

-- ---- one table's pairs are put in

-- what stands at each table where these pairs were put in at one
module _ (old new : TableFirsts) (table : ℕ) (pairs : List (ℕ × Key))
    (updates : (t : ℕ) → get nat_eq new.tables t ≡ cond (nat_eq table t) (Some pairs) (get nat_eq old.tables t)) where
  pub at_table : (t : ℕ) → ((table ≡ t) × (firsts_at new t ≡ pairs)) ⊎ (firsts_at new t ≡ firsts_at old t)
  at_table t = elim (cases_Bool (nat_eq table t)) [
    | inl same ↦ inl (exact_unsigned_eq table t same, ap some_pairs (updates t ∙ ap (λ (b : Bool). cond b (Some pairs) (get nat_eq old.tables t)) same))
    | inr other ↦ inr (ap some_pairs (updates t ∙ ap (λ (b : Bool). cond b (Some pairs) (get nat_eq old.tables t)) other))
  ]

  pub put_at : firsts_at new table ≡ pairs
  put_at = ap some_pairs (updates table ∙ ap (λ (b : Bool). cond b (Some pairs) (get nat_eq old.tables table)) (nat_same table))
    where
      nat_same : (n : ℕ) → nat_eq n n ≡ true
      nat_same n = search rules

  pub put_rising : (number : ℕ) → AreRising old number → IsRisingTo pairs number → AreRising new number
  put_rising number before here t = elim (at_table t) [
    | inl same ↦ subst (λ (ps : List (ℕ × Key)). IsRisingTo ps number) (sym same.1) here
    | inr other ↦ subst (λ (ps : List (ℕ × Key)). IsRisingTo ps number) (sym other) (before t)
  ]

  pub put_keeps : ((pair : ℕ × Key) → Contains (firsts_at old table) pair → Contains pairs pair) → KeepsFirsts old new
  put_keeps keeps t pair there = elim (at_table t) [
    | inl same ↦
        subst (λ (ps : List (ℕ × Key)). Contains ps pair) (sym same.1)
        (keeps pair (subst (λ (n : ℕ). Contains (firsts_at old n) pair) (sym same.0) there))
    | inr other ↦ subst (λ (ps : List (ℕ × Key)). Contains ps pair) (sym other) there
  ]

  pub put_has : (key : Key) (number : ℕ) → HasUpTo pairs key number → HasUpTo (firsts_at new table) key number
  put_has key number has = subst (λ (ps : List (ℕ × Key)). HasUpTo ps key number) (sym put_at) has

-- where nothing was put in
pub same_pairs : (old new : TableFirsts) → new.tables.entries ≡ old.tables.entries → (t : ℕ) → firsts_at new t ≡ firsts_at old t
same_pairs old new same t = ap (λ (es : List (ℕ × List (ℕ × Key))). some_pairs (lookup (nat_eq t) es)) same

pub same_rising : (old new : TableFirsts) → new.tables.entries ≡ old.tables.entries → (number : ℕ) → AreRising old number → AreRising new number
same_rising old new same number before t = subst (λ (ps : List (ℕ × Key)). IsRisingTo ps number) (sym (same_pairs old new same t)) (before t)

pub same_keeps : (old new : TableFirsts) → new.tables.entries ≡ old.tables.entries → KeepsFirsts old new
same_keeps old new same t pair there = subst (λ (ps : List (ℕ × Key)). Contains ps pair) (sym (same_pairs old new same t)) there

pub found_pairs : (firsts : TableFirsts) (table : ℕ) (pairs : List (ℕ × Key)) → Some pairs ≡ get nat_eq firsts.tables table → firsts_at firsts table ≡ pairs
found_pairs firsts table pairs is = ap some_pairs (sym is)

-- a pair more at a table
pub pushed_rising :
    (old new : TableFirsts) (table : ℕ) (before pairs : List (ℕ × Key)) (key : Key) (number : ℕ) → firsts_at old table ≡ before → pairs ≡ before ++ (number, key) ∷ [] →
    AreRising old number → IsRisingTo pairs number
pushed_rising old new table before pairs key number is pushed rising =
    subst (λ (ps : List (ℕ × Key)). IsRisingTo ps number) (sym pushed) (rising_push before number key (subst (λ (ps : List (ℕ × Key)). IsRisingTo ps number) is (rising table)))

pub pushed_keeps :
    (old : TableFirsts) (table : ℕ) (before pairs : List (ℕ × Key)) (last : ℕ × Key) → firsts_at old table ≡ before → pairs ≡ before ++ last ∷ [] →
    (pair : ℕ × Key) → Contains (firsts_at old table) pair → Contains pairs pair
pushed_keeps old table before pairs last is pushed pair there =
    subst (λ (ps : List (ℕ × Key)). Contains ps pair) (sym pushed) (keeps_push before last pair (subst (λ (ps : List (ℕ × Key)). Contains ps pair) is there))

pub pushed_has : (before pairs : List (ℕ × Key)) (key : Key) (number : ℕ) → pairs ≡ before ++ (number, key) ∷ [] → HasUpTo pairs key number
pushed_has before pairs key number pushed = subst (λ (ps : List (ℕ × Key)). HasUpTo ps key number) (sym pushed) (has_push before number key)

-- what a push leaves, whether there was memory for it or not
pub push_rises :
    {A E : Type 0} (r : Result A E) (firsts : TableFirsts) (table : ℕ) (before after : List (ℕ × Key)) (key : Key) (number : ℕ) → Some before ≡ get nat_eq firsts.tables table →
    OnOk r (after ≡ before ++ (number, key) ∷ []) → OnErr r (after ≡ before) → AreRising firsts number → IsRisingTo after number
push_rises (Ok a) firsts table before after key number is pushed same rising =
    pushed_rising firsts firsts table before after key number (found_pairs firsts table before is) pushed rising
push_rises (Err e) firsts table before after key number is pushed same rising =
    subst (λ (ps : List (ℕ × Key)). IsRisingTo ps number) (found_pairs firsts table before is ∙ sym same) (rising table)

-- the first pair
pub one_rises : (before after : List (ℕ × Key)) (key : Key) (number : ℕ) → before ≡ [] → after ≡ before ++ (number, key) ∷ [] → IsRisingTo after number
one_rises before after key number none pushed =
    subst (λ (ps : List (ℕ × Key)). IsRisingTo ps number) (sym pushed)
    (rising_push before number key (subst (λ (ps : List (ℕ × Key)). IsRisingTo ps number) (sym none) (rising_none number)))

-- ---- the writes of one transaction

pub has_more : (pairs : List (ℕ × Key)) (key : Key) (n m : ℕ) → n ≤ m → HasUpTo pairs key n → HasUpTo pairs key m
has_more pairs key n m up has = record { first = has.first; within = let low = has.within in omega arith; is = has.is }

pub has_kept : (old new : TableFirsts) → KeepsFirsts old new → (table : ℕ) (key : Key) (number : ℕ) → HasUpTo (firsts_at old table) key number → HasUpTo (firsts_at new table) key number
has_kept old new keeps table key number has = record { first = has.first; within = has.within; is = keeps table (has.first, key) has.is }

-- a key that was listed before
pub written_before :
    (writers : CellWriters) (firsts : TableFirsts) (number : ℕ) (table : ℕ) (key : Key) → HoldListed writers firsts → AreUpTo writers number →
    (length (numbers_at writers (Presence table key)) ≡ 0 → ⊥) → HasUpTo (firsts_at firsts table) key number
written_before writers firsts number table key listed up some =
    let numbers = numbers_at writers (Presence table key) in
    let member : Contains numbers (get_or numbers 0 0) = first numbers some in
    has_more (firsts_at firsts table) key (get_or numbers 0 0) number (up (Presence table key) (get_or numbers 0 0) member) (listed table key (get_or numbers 0 0) member)
  where
    first : (ns : List ℕ) → (length ns ≡ 0 → ⊥) → Contains ns (get_or ns 0 0)
    first [] apart = absurd (apart refl)
    first (n ∷ ns) apart = (0, omega arith, refl)

pub held_still : (writers : CellWriters) (old new : TableFirsts) → KeepsFirsts old new → HoldListed writers old → HoldListed writers new
held_still writers old new keeps held table key number there = has_kept old new keeps table key number (held table key number there)

pub keeps_both : (a b c : TableFirsts) → KeepsFirsts a b → KeepsFirsts b c → KeepsFirsts a c
keeps_both a b c first second table pair there = second table pair (first table pair there)

written_still : (old new : TableFirsts) (cell : Cell) (number : ℕ) → KeepsFirsts old new → HasWritten old cell number → HasWritten new cell number
written_still old new (Presence table key) number keeps has = has_kept old new keeps table key number has
written_still old new (Field table key column) number keeps has = tt

pub written_step :
    (old new : TableFirsts) (writes : List (Cell × Value)) (n number : ℕ) (entry : Cell × Value) → slice_get writes n ≡ Some entry → KeepsFirsts old new → HasWritten new entry.0 number →
    HaveWritten old writes n number → HaveWritten new writes (n + 1) number
written_step old new writes n number entry at keeps here before k other below is =
    elim (cases_eq k n) [
      | inr apart ↦ written_still old new other.0 number keeps (before k other (omega arith) is)
      | inl same ↦
          let both : Some other ≡ Some entry = sym is ∙ ap (λ (i : ℕ). slice_get writes i) same ∙ at in
          let one : other ≡ entry = cc in
          subst (λ (e : Cell × Value). HasWritten new e.0 number) (sym one) here
    ]

-- ---- all transactions

-- what stands at a place now is what was changed, or what stood there
changed : {X : Type 0} {Changes : X → X → Type 0} (old new : List X) (place : ℕ) → (c : ChangesOne old new place Changes) → (at : ℕ) (x : X) → slice_get new at ≡ Some x →
    ((at ≡ place) × (c.after ≡ x)) ⊎ ((at ≡ place → ⊥) × (slice_get old at ≡ Some x))
changed {X} old new place c at x is =
    let now : slice_get (set old place c.after) at ≡ Some x = ap (λ (ls : List X). slice_get ls at) (sym c.set_to) ∙ is in
    elim (cases_eq at place) [
      | inl same ↦
          let within = slice_get_within old place c.before c.is in
          let both : Some c.after ≡ Some x =
          sym (slice_get-set_same old place c.after within) ∙ ap (λ (k : ℕ). slice_get (set old place c.after) k) (sym same) ∙ now in
          let one : c.after ≡ x = cc in
          inl (same, one)
      | inr apart ↦ inr (apart, sym (slice_get-set_other old place at c.after apart) ∙ now)
    ]

pub indexes_none : (lists : List CellWriters) (all : List TableFirsts) → length all ≡ length lists →
    ((session : ℕ) (writers : CellWriters) (cell : Cell) → slice_get lists session ≡ Some writers → numbers_at writers cell ≡ []) → AreWithoutKeys all → AreIndexes lists 0 all
indexes_none lists all count empty without = record {
  count = count;
  each = λ session writers firsts in_lists in_all. record {
    rising = λ table. subst (λ (ps : List (ℕ × Key)). IsRisingTo ps 0) (sym (without session firsts table in_all)) (rising_none 0);
    listed = λ table key number there.
        let none = subst (λ (ns : List ℕ). Contains ns number) (empty session writers (Presence table key) in_lists) there in
        let within = none.1 in absurd (omega arith);
  };
}

pub indexes_more : (lists : List CellWriters) (n m : ℕ) (all : List TableFirsts) → n ≤ m → AreIndexes lists n all → AreIndexes lists m all
indexes_more lists n m all up are = record {
  count = are.count;
  each = λ session writers firsts in_lists in_all.
      let one = are.each session writers firsts in_lists in_all in
      record { rising = rising_more firsts n m up one.rising; listed = one.listed };
}

pub listed_up : (txns : List Txn) (n : ℕ) (lists : List CellWriters) → ListsCommitted txns n lists → (session : ℕ) (writers : CellWriters) → slice_get lists session ≡ Some writers →
    (m : ℕ) → n ≤ m → AreUpTo writers m
listed_up txns n lists listed session writers is m up cell other there =
    let of = listed.sound session writers cell other is there in
    let number = of.number_is in let below = of.below in omega arith

pub indexes_note :
    (old_lists new_lists : List CellWriters) (old new : List TableFirsts) (session number : ℕ) (writes : List (Cell × Value)) →
    ChangesOne old new session (NotesFirsts writes number) → ChangesOne old_lists new_lists session (NotesWrites writes number) → AreIndexes old_lists number old →
    AreIndexes new_lists number new
indexes_note old_lists new_lists old new session number writes noted written are = record {
  count = ap length noted.set_to ∙ length-set old session noted.after ∙ are.count ∙ sym (ap length written.set_to ∙ length-set old_lists session written.after);
  each = λ other writers firsts in_lists in_all. elim (changed old_lists new_lists session written other writers in_lists) [
    | inl here ↦ elim (changed old new session noted other firsts in_all) [
      | inl now ↦
          let before = are.each session written.before noted.before written.is noted.is in
          record {
            rising = subst (λ (f : TableFirsts). AreRising f number) now.1 noted.changes.rising;
            listed = λ table key n there.
                subst (λ (f : TableFirsts). HasUpTo (firsts_at f table) key n) now.1
                (elim ((written.changes.gains (Presence table key) n).0 (subst (λ (w : CellWriters). Contains (numbers_at w (Presence table key)) n) (sym here.1) there)) [
                  | inl was ↦ has_kept noted.before noted.after noted.changes.kept table key n (before.listed table key n was)
                  | inr (is, same) ↦
                      let at = at_contains writes (Presence table key, is.0) is.1 in
                      subst (λ (m : ℕ). HasUpTo (firsts_at noted.after table) key m) (sym same)
                      (noted.changes.noted at.0 (Presence table key, is.0) (slice_get_within writes at.0 (Presence table key, is.0) at.1) at.1)
                ]);
          }
      | inr away ↦ absurd (away.0 here.0)
    ]
    | inr there ↦ elim (changed old new session noted other firsts in_all) [
      | inl now ↦ absurd (there.0 now.0)
      | inr away ↦ are.each other writers firsts there.1 away.1
    ]
  ];
}

pub without_push : (all : List TableFirsts) (next : TableFirsts) → ((table : ℕ) → firsts_at next table ≡ []) → AreWithoutKeys all → AreWithoutKeys (all ++ next ∷ [])
without_push all next none before session firsts table is =
    elim (slice_get_push_cases all next session firsts is) [
      | inl old ↦ before session firsts table old.1
      | inr last ↦ subst (λ (f : TableFirsts). firsts_at f table ≡ []) last.1 (none table)
    ]

pub without_none : AreWithoutKeys []
without_none session firsts table is = let none : None ≡ Some firsts = is in cc

-- ---- what a scan lists

pub all_rising : (lists : List CellWriters) (number : ℕ) (all : List TableFirsts) → AreIndexes lists number all → (session : ℕ) (firsts : TableFirsts) → slice_get all session ≡ Some firsts →
    AreAllRising firsts
all_rising lists number all are session firsts is table =
    let within = slice_get_within all session firsts is in
    let count = are.count in
    elim (slice_get_cases lists session).1 [
      | inr beyond ↦ let far = beyond.0 in absurd (omega arith)
      | inl (writers, near, row, value) ↦ ((are.each session writers firsts row is).rising table).rising
    ]

-- keys that were walked over
abbrev pub AreListed : List (ℕ × Key) → List Key → ℕ → Type 0
AreListed pairs keys n = (k : ℕ) (pair : ℕ × Key) → k < n → slice_get pairs k ≡ Some pair → Contains keys pair.1

pub listed_step : (pairs : List (ℕ × Key)) (keys : List Key) (n : ℕ) (pair : ℕ × Key) → slice_get pairs n ≡ Some pair → Contains keys pair.1 → AreListed pairs keys n → AreListed pairs keys (n + 1)
listed_step pairs keys n pair at here before k other below is =
    elim (cases_eq k n) [
      | inr apart ↦ before k other (omega arith) is
      | inl same ↦
          let both : Some other ≡ Some pair = sym is ∙ ap (λ (i : ℕ). slice_get pairs i) same ∙ at in
          let one : other ≡ pair = cc in
          subst (λ (p : ℕ × Key). Contains keys p.1) (sym one) here
    ]

-- the pair at the place is above the top, and so are all after it
pub listed_before : (pairs : List (ℕ × Key)) (keys : List Key) (n top : ℕ) (pair : ℕ × Key) → IsRising pairs → slice_get pairs n ≡ Some pair → top < pair.0 → AreListed pairs keys n →
    ListsUpTo pairs keys top
listed_before pairs keys n top pair rising at above before number key there up =
    let place = at_contains pairs (number, key) there in
    elim (cases_lt place.0 n) [
      | inl earlier ↦ before place.0 (number, key) earlier place.1
      | inr later ↦ elim (cases_eq place.0 n) [
        | inl same ↦
            let both : Some (number, key) ≡ Some pair = sym place.1 ∙ ap (λ (i : ℕ). slice_get pairs i) same ∙ at in
            let one : (number, key) ≡ pair = cc in
            let numbers : number ≡ pair.0 = ap (λ (p : ℕ × Key). p.0) one in
            absurd (omega arith)
        | inr apart ↦ let falls = rising n place.0 pair (number, key) (omega arith) at place.1 in absurd (omega arith)
      ]
    ]

pub listed_whole : (pairs : List (ℕ × Key)) (keys : List Key) (n top : ℕ) → length pairs ≤ n → AreListed pairs keys n → ListsUpTo pairs keys top
listed_whole pairs keys n top all before number key there up =
    let place = at_contains pairs (number, key) there in
    let within = slice_get_within pairs place.0 (number, key) place.1 in
    before place.0 (number, key) (omega arith) place.1

-- a presence that isn't listed has no writer up to the top
pub none_unlisted :
    (places : List ℕ) (lists : List CellWriters) (number : ℕ) (all : List TableFirsts) → AreIndexes lists number all → (session table : ℕ) (keys : List Key) (top from : ℕ) →
    ((firsts : TableFirsts) → slice_get all session ≡ Some firsts → ListsUpTo (firsts_at firsts table) keys top) → (key : Key) → (Contains keys key → ⊥) →
    HasNoLate places (listed_at lists session (Presence table key)) top from
none_unlisted places lists number all are session table keys top from lists_all key unlisted =
    inl (λ other there up. elim (slice_get_cases lists session).1 [
      | inr beyond ↦
          let none = subst (λ (ns : List ℕ). Contains ns other) (ap (λ (o : Option CellWriters). numbers_in o (Presence table key)) beyond.1) there in
          let within = none.1 in absurd (omega arith)
      | inl (writers, near, row, value) ↦ elim (slice_get_cases all session).1 [
        | inr past ↦ let far = past.0 in let count = are.count in absurd (omega arith)
        | inl (firsts, close, is, same) ↦
            let member = subst (λ (ns : List ℕ). Contains ns other) (ap (λ (o : Option CellWriters). numbers_in o (Presence table key)) row) there in
            let has = (are.each session writers firsts row is).listed table key other member in
            let low = has.within in
            unlisted (lists_all firsts is has.first key has.is (omega arith))
      ]
    ])
