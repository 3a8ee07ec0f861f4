-- What a scan lists of the keys that are kept.
use Rattle.std.proofs.Common.{◌≡◌, Bool, true, ℕ, ◌+◌, ◌<◌, List, [], ◌∷◌, ◌++◌, Option, Some, None, length, arith, ap, sym, ◌∙◌, subst, inl, inr, ◌↔◌}
use Rattle.std.specs.Bool.{IsTrue}
use Rattle.std.specs.List.{Contains, Any, slice_get}
use Rattle.std.proofs.lemmas.Option.{slice_get_within}
use Rattle.std.proofs.lemmas.List.{append_assoc, append-nil}
use Rattle.std.proofs.lemmas.List.Elements.{Contains-append_left, Contains-push, Contains-push_cases}
use Rattle.std.proofs.lemmas.Bool.{cases_lt, cases_order}
use Rattle.std.proofs.lemmas.Cmp.{tied_itself}
use Rattle.std.specs.declared.cmp.Ordering.TheVariants.{Less, Equal}
use Rattle.txn_buffer.proofs.Lists.{slice_get_push_cases, contains_at, at_contains}
use Rattle.cell_base.specs.declared.key.Key.{Key}
use Rattle.cell_base.specs.declared.cell.Cell.{Cell}
use Rattle.cell_base.specs.declared.cell.Cell.TheVariants.{Presence}
use Rattle.cell_base.specs.contracts.cell.CellOrd.TheImpl as cell_order
use Rattle.cell_base.specs.contracts.cell.CellOrd.TheImpl.Laws as cell_laws
use Rattle.cell_base.specs.declared.value.Value.{Value}
use Rattle.cell_base.specs.declared.value.Value.TheVariants.{Flag}
use Rattle.history_core.specs.declared.event.Event.{Event}
use Rattle.history_core.specs.Transactions.{IsPending, IsCommitted}
use Rattle.history_core.specs.Relations.{HasWritten}
use Rattle.history_core.specs.Initial.{IsInitialState}
use Rattle.history_core.specs.Legal.{IsKeyBelow, WroteItself, ListsKeys}
use Rattle.history_core.specs.Legal.{IsKeyList}
use Rattle.history_core.proofs.Places.{slice_get-append_left}
use Rattle.history_core.proofs.Prefixes.{slice_get-at_end}
use Rattle.indexed_history.specs.Writers.{ListsWriters}
use Rattle.indexed_history.proofs.RecordLemmas.{Any-from_contains}
use Rattle.indexed_history.specs.Keys.{HoldWritten, AreAscending, IsListed, AreListed, ListsNext}
use Rattle.indexed_history.proofs.KeyLists.{not_below_itself}

-- of the keys, those before the rest were looked at
pub record IsScanPart (initial : List (Cell × Value)) (events : List Event) (session table : ℕ) (whole rest keys : List Key) : Type 0 where
  pub done : List Key
  pub split : whole ≡ done ++ rest
  pub listed : AreListed initial events session table done keys

none_listed : (initial : List (Cell × Value)) (events : List Event) (session table : ℕ) → AreListed initial events session table [] []
none_listed initial events session table = record {
  ascending = λ i j a b less at_i at_j. let within = slice_get_within [] j b at_j in absurd (omega arith);
  exact = λ key. (λ there. let within = there.1 in absurd (omega arith), λ both. both.0);
}

pub scan_start : (initial : List (Cell × Value)) (events : List Event) (session table : ℕ) (whole rest : List Key) → rest ≡ whole → IsScanPart initial events session table whole rest []
scan_start initial events session table whole rest same = record { done = []; split = sym same; listed = none_listed initial events session table }

ascending_push : (keys : List Key) (key : Key) → AreAscending keys → ((a : Key) → Contains keys a → IsKeyBelow a key) → AreAscending (keys ++ key ∷ [])
ascending_push keys key ascending below i j a b less at_i at_j =
    elim (slice_get_push_cases keys key j b at_j) [
      | inl old_j ↦ elim (slice_get_push_cases keys key i a at_i) [
        | inl old_i ↦ ascending i j a b less old_i.1 old_j.1
        | inr new_i ↦ let h = old_j.0 in let e = new_i.0 in absurd (omega arith)
      ]
      | inr new_j ↦ elim (slice_get_push_cases keys key i a at_i) [
        | inl old_i ↦ subst (λ (k : Key). IsKeyBelow a k) new_j.1 (below a (contains_at keys i a old_i.1))
        | inr new_i ↦ let h = new_j.0 in let e = new_i.0 in absurd (omega arith)
      ]
    ]

slice_get-left : {X : Type 0} (xs ys : List X) (k : ℕ) (x : X) → slice_get xs k ≡ Some x → slice_get (xs ++ ys) k ≡ Some x
slice_get-left xs ys k x is = slice_get-append_left xs ys k (slice_get_within xs k x is) ∙ is

slice_get-middle : {X : Type 0} (xs ys : List X) (x : X) → slice_get (xs ++ x ∷ ys) (length xs) ≡ Some x
slice_get-middle {X} xs ys x =
    subst (λ (zs : List X). slice_get zs (length xs) ≡ Some x) (append_assoc xs (x ∷ []) ys)
    (slice_get-left (xs ++ x ∷ []) ys (length xs) x (slice_get-at_end xs x))

-- each key before another one is below it
before_below :
    (whole done rest : List Key) (key a : Key) → AreAscending whole → whole ≡ done ++ key ∷ rest → Contains done a → IsKeyBelow a key
before_below whole done rest key a ascending split there =
    let at = at_contains done a there in
    let within = slice_get_within done at.0 a at.1 in
    ascending at.0 (length done) a key (omega arith)
    (subst (λ (ks : List Key). slice_get ks at.0 ≡ Some a) (sym split) (slice_get-left done (key ∷ rest) at.0 a at.1))
    (subst (λ (ks : List Key). slice_get ks (length done) ≡ Some key) (sym split) (slice_get-middle done rest key))

-- one more key is looked at
pub scan_more :
    (initial : List (Cell × Value)) (events : List Event) (session table : ℕ) (whole rest left : List Key) (key : Key) (old new : List Key) → AreAscending whole → rest ≡ key ∷ left →
    ListsNext initial events session table key old new → IsScanPart initial events session table whole rest old → IsScanPart initial events session table whole left new
scan_more initial events session table whole rest left key old new ascending at next part =
    let split : whole ≡ part.done ++ key ∷ left = part.split ∙ ap (λ (ks : List Key). part.done ++ ks) at in
    record {
      done = part.done ++ key ∷ [];
      split = split ∙ sym (append_assoc part.done (key ∷ []) left);
      listed = elim next [
        | inl gains ↦ subst (λ (ks : List Key). AreListed initial events session table (part.done ++ key ∷ []) ks) (sym gains.1) (record {
          ascending = ascending_push old key part.listed.ascending
              (λ a there. before_below whole part.done left key a ascending split ((part.listed.exact a).0 there).0);
          exact = λ other. (
            λ there. elim (Contains-push_cases old key other there) [
              | inl before ↦
                  let both = (part.listed.exact other).0 before in
                  (Contains-append_left part.done (key ∷ []) other both.0, both.1)
              | inr here ↦
                  subst (λ (k : Key). Contains (part.done ++ key ∷ []) k × IsListed initial events session (Presence table k)) here
                  (Contains-push part.done key, gains.0)
            ],
            λ both. elim (Contains-push_cases part.done key other both.0) [
              | inl before ↦ Contains-append_left old (key ∷ []) other ((part.listed.exact other).1 (before, both.1))
              | inr here ↦ subst (λ (k : Key). Contains (old ++ key ∷ []) k) here (Contains-push old key)
            ],
          );
        })
        | inr skips ↦ subst (λ (ks : List Key). AreListed initial events session table (part.done ++ key ∷ []) ks) (sym skips.1) (record {
          ascending = part.listed.ascending;
          exact = λ other. (
            λ there.
                let both = (part.listed.exact other).0 there in
                (Contains-append_left part.done (key ∷ []) other both.0, both.1),
            λ both. elim (Contains-push_cases part.done key other both.0) [
              | inl before ↦ (part.listed.exact other).1 (before, both.1)
              | inr here ↦ absurd (skips.0 (subst (λ (k : Key). IsListed initial events session (Presence table k)) (sym here) both.1))
            ],
          );
        })
      ];
    }

-- no key is left
pub scan_end :
    (initial : List (Cell × Value)) (events : List Event) (session table : ℕ) (whole rest keys : List Key) → rest ≡ [] → IsScanPart initial events session table whole rest keys →
    AreListed initial events session table whole keys
scan_end initial events session table whole rest keys none part =
    let all : whole ≡ part.done = part.split ∙ ap (λ (ks : List Key). part.done ++ ks) none ∙ append-nil part.done in
    subst (λ (ks : List Key). AreListed initial events session table ks keys) (sym all) part.listed

-- what is listed is among the keys that hold all that was written
held :
    (initial : List (Cell × Value)) (events : List Event) (session table : ℕ) (among : List Key) (key : Key) → HoldWritten initial events table among →
    IsListed initial events session (Presence table key) → Contains among key
held initial events session table among key hold (inl there) = hold.initial_ones key there
held initial events session table among key hold (inr (inl (number, positive, inl first))) = absurd (omega arith)
held initial events session table among key hold (inr (inl (number, positive, inr own))) = hold.written key number own.1
held initial events session table among key hold (inr (inr wrote)) = hold.written key wrote.number wrote.written

pub lists_keys :
    (initial : List (Cell × Value)) (events : List Event) (session table : ℕ) (among keys : List Key) → HoldWritten initial events table among → AreListed initial events session table among keys →
    ListsKeys initial events session table keys
lists_keys initial events session table among keys hold is = record {
  ascending = λ k a b at_a at_b. is.ascending k (k + 1) a b (omega arith) at_a at_b;
  listed = λ key. (λ there. ((is.exact key).0 there).1, λ listed. (is.exact key).1 (held initial events session table among key hold listed, listed));
}

pub lists_none : (initial : List (Cell × Value)) (events : List Event) (session table : ℕ) → HoldWritten initial events table [] → ListsKeys initial events session table []
lists_none initial events session table hold = lists_keys initial events session table [] [] hold (none_listed initial events session table)

pub key_list : (keys : List Key) → AreAscending keys → length keys < 4294967296 → IsKeyList keys
key_list keys ascending few = record {
  ascending = ascending;
  once = λ i j key at_i at_j. elim (cases_lt i j) [
    | inl less ↦ absurd (not_below_itself key (ascending i j key key less at_i at_j))
    | inr more ↦ elim (cases_lt j i) [
      | inl less ↦ absurd (not_below_itself key (ascending j i key key less at_j at_i))
      | inr other ↦ omega arith
    ]
  ];
  few = few;
}

pub key_list_none : IsKeyList []
key_list_none = key_list [] (λ i j a b less at_i at_j. let within = slice_get_within [] j b at_j in absurd (omega arith)) (omega arith)

-- a session has one pending transaction, or none
pub wrote_last :
    (events : List Event) (session : ℕ) (cell : Cell) (number : ℕ) (found : Option ℕ) → found ≡ Some number →
    ((n : ℕ) → (found ≡ Some n) ↔ IsPending events n session) → WroteItself events session cell → HasWritten events number cell
wrote_last events session cell number found is pending wrote =
    let other : found ≡ Some wrote.number = (pending wrote.number).1 wrote.pending in
    let same : wrote.number ≡ number = some_same wrote.number number (sym other ∙ is) in
    subst (λ (n : ℕ). HasWritten events n cell) same wrote.written
  where
    some_same : (n m : ℕ) → Some n ≡ Some m → n ≡ m
    some_same n m same = cc

pub none_pending :
    (events : List Event) (session : ℕ) (cell : Cell) (found : Option ℕ) → found ≡ None → ((n : ℕ) → (found ≡ Some n) ↔ IsPending events n session) →
    WroteItself events session cell → ⊥
none_pending events session cell found is pending wrote = let other : None ≡ Some wrote.number = sym is ∙ (pending wrote.number).1 wrote.pending in cc

-- the initial state has one value of a cell
pub one_value : (initial : List (Cell × Value)) (cell : Cell) (v w : Value) → IsInitialState initial → Contains initial (cell, v) → Contains initial (cell, w) → v ≡ w
one_value initial cell v w is first second =
    let i = at_contains initial (cell, v) first in
    let j = at_contains initial (cell, w) second in
    elim (cases_order i.0 j.0) [
      | inl same ↦
          let both : Some (cell, v) ≡ Some (cell, w) = sym i.1 ∙ ap (λ (k : ℕ). slice_get initial k) same ∙ j.1 in
          ap value_in both
      | inr apart ↦ elim apart [
        | inl less ↦ absurd (not_itself (is.ascending i.0 j.0 (cell, v) (cell, w) less i.1 j.1))
        | inr more ↦ absurd (not_itself (is.ascending j.0 i.0 (cell, w) (cell, v) more j.1 i.1))
      ]
    ]
  where
    value_in : Option (Cell × Value) → Value
    value_in None = v
    value_in (Some entry) = entry.1

    not_itself : (cell_order.ghosts).cmp cell cell ≡ Less → ⊥
    not_itself less = let both : Less ≡ Equal = sym less ∙ tied_itself cell_laws.total-law cell in cc

-- a cell without a committed writer, which isn't true in the initial state, is listed where the own transaction wrote it
pub listed_own :
    (initial : List (Cell × Value)) (events : List Event) (session : ℕ) (cell : Cell) (numbers : List ℕ) (own : Bool) → ListsWriters events cell numbers →
    (Any (λ n. IsCommitted events n) numbers → ⊥) → (Contains initial (cell, Flag true) → ⊥) → (IsTrue own ↔ WroteItself events session cell) →
    IsTrue own ↔ IsListed initial events session cell
listed_own initial events session cell numbers own are none absent is = (
  λ h. inr (inr (is.0 h)),
  λ listed. elim listed [
    | inl there ↦ absurd (absent there)
    | inr written ↦ elim written [
      | inl (number, positive, writes) ↦ elim writes [
        | inl first ↦ absurd (omega arith)
        | inr by ↦ absurd (none (Any-from_contains (λ n. IsCommitted events n) numbers number (are.whole number positive (inr by)) by.0))
      ]
      | inr wrote ↦ is.1 wrote
    ]
  ],
)

-- a cell with a committed writer is listed
pub listed_first :
    (initial : List (Cell × Value)) (events : List Event) (session : ℕ) (cell : Cell) (numbers : List ℕ) → ListsWriters events cell numbers →
    Any (λ n. IsCommitted events n) numbers → IsListed initial events session cell
listed_first initial events session cell numbers are some =
    let all = are.wrote some.1 (some.0, some.2, some.3) in
    inr (inl (some.1, all.0, inr (some.4, all.2)))
