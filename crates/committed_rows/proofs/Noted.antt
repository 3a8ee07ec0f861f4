-- The values that are noted of cells, as further ones come.
use Rattle.std.proofs.Common.{◌≡◌, ◌≢◌, ◌⊎◌, ℕ, ◌+◌, take, Bool, true, false, List, [], ◌∷◌, ◌++◌, Option, Some, None, arith, refl, ap, sym, ◌∙◌, subst, inl, inr}
use Rattle.std.specs.Prelude.{IsSome, is_some}
use Rattle.std.specs.List.{Contains, slice_get}
use Rattle.std.specs.Ordering.{is_eq}
use Rattle.std.specs.declared.cmp.Ordering.{Ordering}
use Rattle.std.specs.declared.cmp.Ordering.TheVariants.{Less, Equal, Greater}
use Rattle.std.specs.BTreeMap.{Updates}
use Rattle.std.proofs.lemmas.Bool.{false≢true, cond-true, cond-false}
use Rattle.std.proofs.lemmas.Cmp.{tied_itself}
use Rattle.std.proofs.lemmas.List.Elements.{Contains-push_cases, Contains-append_left, Contains-push}
use Rattle.std.proofs.lemmas.List.{take_more}
use Rattle.std.proofs.lemmas.Option.{slice_get_within, get_or_from_slice_get}
use Rattle.cell_base.specs.declared.cell.Cell.{Cell}
use Rattle.cell_base.specs.declared.value.Value.{Value}
use Rattle.history_core.proofs.Searches.{cell_total, cell_exact}
use Rattle.committed_rows.specs.declared.newest.Newest.{Newest}
use Rattle.committed_rows.specs.Walk.{cell_cmp, value_at, GainsValue, Fills}

-- ---- options

pub some_or_none : {A : Type 0} (P : Type 0) (found : Option A) → ((a : A) → found ≡ Some a → P) → (found ≡ None → P) → P
some_or_none P (Some a) some none = some a refl
some_or_none P None some none = none refl

pub none_is_not_some : {A : Type 0} (found : Option A) → found ≡ None → IsSome found → ⊥
none_is_not_some (Some a) e there = cc
none_is_not_some None e there = false≢true there

pub some_is : {A : Type 0} (found : Option A) (a : A) → found ≡ Some a → IsSome found
some_is (Some b) a e = refl
some_is None a e = cc

pub some_of : {A : Type 0} (found : Option A) → IsSome found → (a : A) × (found ≡ Some a)
some_of (Some a) there = (a, refl)
some_of None there = absurd (false≢true there)

pub some_from_test : {A : Type 0} (found : Option A) → is_some found ≡ true → IsSome found
some_from_test (Some a) e = refl
some_from_test None e = absurd (false≢true e)

pub none_from_test : {A : Type 0} (found : Option A) → is_some found ≡ false → found ≡ None
none_from_test (Some a) e = absurd (false≢true (sym e))
none_from_test None e = refl

-- ---- lists

pub next_prefix : {X : Type 0} (xs : List X) (k : ℕ) (x : X) → slice_get xs k ≡ Some x → take (k + 1) xs ≡ take k xs ++ x ∷ []
next_prefix xs k x is = take_more xs k x (slice_get_within xs k x is) ∙ ap (λ y. take k xs ++ y ∷ []) (get_or_from_slice_get xs k x x is)

-- ---- one more value

equal_from_test : (o : Ordering) → is_eq o ≡ true → o ≡ Equal
equal_from_test Less e = cc
equal_from_test Equal e = refl
equal_from_test Greater e = cc

gains_by : (old new : Newest) (cell : Cell) (value : Value) → Updates cell_cmp old.values new.values cell (Some value) → (q : Cell) (b : Bool) →
    is_eq (cell_cmp cell q) ≡ b → ((q ≡ cell) × (value_at new q ≡ Some value)) ⊎ ((q ≢ cell) × (value_at new q ≡ value_at old q))
gains_by old new cell value updates q true e =
    inl (sym (cell_exact cell q (equal_from_test (cell_cmp cell q) e)), updates.0 q ∙ cond-true _ _ _ e)
gains_by old new cell value updates q false e = inr (
  λ same. let tied : cell_cmp cell q ≡ Equal = subst (λ (c : Cell). cell_cmp cell c ≡ Equal) (sym same) (tied_itself cell_total cell) in
      false≢true (sym e ∙ ap is_eq tied),
  updates.0 q ∙ cond-false _ _ _ e,
)

gains : (old new : Newest) (cell : Cell) (value : Value) → Updates cell_cmp old.values new.values cell (Some value) → GainsValue old cell value new
gains old new cell value updates q = gains_by old new cell value updates q (is_eq (cell_cmp cell q)) refl

pub gains_copy : (old new : Newest) (cell key : Cell) (value copy : Value) → key ≡ cell → copy ≡ value →
    Updates cell_cmp old.values new.values key (Some copy) → GainsValue old cell value new
gains_copy old new cell key value copy same_key same_value updates =
    subst (λ (c : Cell). GainsValue old c value new) same_key (subst (λ (v : Value). GainsValue old key v new) same_value (gains old new key copy updates))

-- ---- one write after another

pub fills_none : (newest : Newest) → Fills newest [] newest
fills_none newest = record {
  sound = λ q v e. inl e;
  kept = λ q v e. e;
  whole = λ q v there. let within = there.1 in absurd (omega arith);
}

-- the next write is of a cell that has a value
pub fills_over : (old new : Newest) (writes : List (Cell × Value)) (entry : Cell × Value) → Fills old writes new → IsSome (value_at new entry.0) →
    Fills old (writes ++ entry ∷ []) new
fills_over old new writes entry fills there = record {
  sound = λ q v e. elim (fills.sound q v e) [
    | inl before ↦ inl before
    | inr fresh ↦ inr (fresh.0, Contains-append_left writes (entry ∷ []) (q, v) fresh.1)
  ];
  kept = fills.kept;
  whole = λ q v member. elim (Contains-push_cases writes entry (q, v) member) [
    | inl before ↦ fills.whole q v before
    | inr last ↦ subst (λ (c : Cell). IsSome (value_at new c)) (ap (λ (e : Cell × Value). e.0) last) there
  ];
}

-- the next write is of a cell that has none
pub fills_more : (old mid new : Newest) (writes : List (Cell × Value)) (entry : Cell × Value) → Fills old writes mid → value_at mid entry.0 ≡ None →
    GainsValue mid entry.0 entry.1 new → Fills old (writes ++ entry ∷ []) new
fills_more old mid new writes entry fills none gained = record {
  sound = λ q v e. elim (gained q) [
    | inl here ↦
        let both : Some v ≡ Some entry.1 = sym e ∙ here.1 in
        let value_is : v ≡ entry.1 = cc in
        let none_here : value_at mid q ≡ None = subst (λ (c : Cell). value_at mid c ≡ None) (sym here.0) none in
        inr (
          some_or_none (value_at old q ≡ None) (value_at old q)
              (λ w is. let clash : None ≡ Some w = sym none_here ∙ fills.kept q w is in cc)
              (λ is. is),
          subst (λ (c : Cell). Contains (writes ++ entry ∷ []) (c, v)) (sym here.0)
              (subst (λ (x : Value). Contains (writes ++ entry ∷ []) (entry.0, x)) (sym value_is) (Contains-push writes entry)),
        )
    | inr apart ↦ elim (fills.sound q v (sym apart.1 ∙ e)) [
      | inl before ↦ inl before
      | inr fresh ↦ inr (fresh.0, Contains-append_left writes (entry ∷ []) (q, v) fresh.1)
    ]
  ];
  kept = λ q v e. elim (gained q) [
    | inl here ↦
        let none_here : value_at mid q ≡ None = subst (λ (c : Cell). value_at mid c ≡ None) (sym here.0) none in
        let clash : None ≡ Some v = sym none_here ∙ fills.kept q v e in cc
    | inr apart ↦ apart.1 ∙ fills.kept q v e
  ];
  whole = λ q v member. elim (gained q) [
    | inl here ↦ some_is (value_at new q) entry.1 here.1
    | inr apart ↦ elim (Contains-push_cases writes entry (q, v) member) [
      | inl before ↦ subst (λ (o : Option Value). IsSome o) (sym apart.1) (fills.whole q v before)
      | inr last ↦ absurd (apart.0 (sym (ap (λ (e : Cell × Value). e.0) last)))
    ]
  ];
}
