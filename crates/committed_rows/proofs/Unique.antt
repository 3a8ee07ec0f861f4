-- Two lists that ascend and have the same cells are one, so a history has one list of rows.
use Rattle.std.proofs.Common.{◌≡◌, ℕ, zero, suc, List, [], ◌∷◌, Some, arith, refl, ap, sym, ◌∙◌, subst, inl, inr, ◌⊎◌}
use Rattle.std.specs.Prelude.{◌↔◌}
use Rattle.std.specs.List.{Contains, slice_get}
use Rattle.std.specs.declared.cmp.Ordering.TheVariants.{Less, Equal}
use Rattle.std.proofs.lemmas.Cmp.{tied_itself}
use Rattle.cell_base.specs.declared.cell.Cell.{Cell}
use Rattle.cell_base.specs.declared.level.Level.{Level}
use Rattle.cell_base.specs.declared.value.Value.{Value}
use Rattle.txn_buffer.proofs.Lists.{at_contains, contains_at}
use Rattle.history_core.specs.Initial.{IsAscending}
use Rattle.history_core.specs.Chronicle.{Chronicle}
use Rattle.history_core.proofs.Searches.{cell_total}
use Rattle.valid_writes.proofs.SameHistory.{same_chronicle}
use Rattle.committed_rows.specs.Rows.{AreCommittedRows}
use Rattle.committed_rows.specs.Start.{StartsAfter}
use Rattle.committed_rows.specs.Walk.{cell_cmp}

abbrev Cells : Type 0
Cells = List (Cell × Value)

abbrev Same : Cells → Cells → Type 0
Same a b = (e : Cell × Value) → Contains a e ↔ Contains b e

in_cons : (x e : Cell × Value) (xs : Cells) → Contains xs e → Contains (x ∷ xs) e
in_cons x e xs there = let at = at_contains xs e there in contains_at (x ∷ xs) (suc at.0) e at.1

cons_cases : (x e : Cell × Value) (xs : Cells) → Contains (x ∷ xs) e → (e ≡ x) ⊎ Contains xs e
cons_cases x e xs there = by_place (at_contains (x ∷ xs) e there)
  where
    by_place : (k : ℕ) × (slice_get (x ∷ xs) k ≡ Some e) → (e ≡ x) ⊎ Contains xs e
    by_place (zero, is) = inl cc
    by_place (suc k, is) = inr (contains_at xs k e is)

head_in : (x : Cell × Value) (xs : Cells) → Contains (x ∷ xs) x
head_in x xs = contains_at (x ∷ xs) 0 x refl

tail_ascends : (x : Cell × Value) (xs : Cells) → IsAscending (x ∷ xs) → IsAscending xs
tail_ascends x xs ascends i j a b less at_i at_j = ascends (suc i) (suc j) a b (omega arith) at_i at_j

head_below : (x e : Cell × Value) (xs : Cells) → IsAscending (x ∷ xs) → Contains xs e → cell_cmp x.0 e.0 ≡ Less
head_below x e xs ascends there = let at = at_contains xs e there in ascends 0 (suc at.0) x e (omega arith) refl at.1

not_below : (c : Cell) → cell_cmp c c ≡ Less → ⊥
not_below c below = let both : Equal ≡ Less = sym (tied_itself cell_total c) ∙ below in cc

none_in : (e : Cell × Value) → Contains [] e → ⊥
none_in e there = let h = there.1 in omega arith

same_head : (x y : Cell × Value) (xs ys : Cells) → IsAscending (x ∷ xs) → IsAscending (y ∷ ys) → Same (x ∷ xs) (y ∷ ys) → x ≡ y
same_head x y xs ys first second same =
    elim (cons_cases y x ys ((same x).0 (head_in x xs))) [
      | inl is ↦ is
      | inr following ↦ elim (cons_cases x y xs ((same y).1 (head_in y ys))) [
        | inl is ↦ sym is
        | inr also ↦ absurd (not_below x.0 (cell_total.trans x.0 y.0 x.0 (head_below x y xs first also) (head_below y x ys second following)))
      ]
    ]

tail_in : (x y e : Cell × Value) (xs ys : Cells) → IsAscending (x ∷ xs) → x ≡ y → Same (x ∷ xs) (y ∷ ys) → Contains xs e → Contains ys e
tail_in x y e xs ys ascends is same there =
    elim (cons_cases y e ys ((same e).0 (in_cons x e xs there))) [
      | inl at_head ↦
          let heads : e ≡ x = at_head ∙ sym is in
          absurd (not_below x.0 (subst (λ (p : Cell × Value). cell_cmp x.0 p.0 ≡ Less) heads (head_below x e xs ascends there)))
      | inr following ↦ following
    ]

same_list : (a b : Cells) → IsAscending a → IsAscending b → Same a b → a ≡ b
same_list [] [] first second same = refl
same_list [] (y ∷ ys) first second same = absurd (none_in y ((same y).1 (head_in y ys)))
same_list (x ∷ xs) [] first second same = absurd (none_in x ((same x).0 (head_in x xs)))
same_list (x ∷ xs) (y ∷ ys) first second same =
    let heads : x ≡ y = same_head x y xs ys first second same in
    let tails : xs ≡ ys = same_list xs ys (tail_ascends x xs first) (tail_ascends y ys second)
    (λ e. (
      tail_in x y e xs ys first heads same,
      tail_in y x e ys xs second (sym heads) (λ p. ((same p).1, (same p).0)),
    )) in
    ap (λ (p : Cell × Value). p ∷ xs) heads ∙ ap (λ (ps : Cells). y ∷ ps) tails

pub one_list : (history : Chronicle) (a b : Cells) → AreCommittedRows history a → AreCommittedRows history b → a ≡ b
one_list history a b first second =
    same_list a b first.ascending second.ascending
    (λ e. (λ there. (second.exact e.0 e.1).1 ((first.exact e.0 e.1).0 there), λ there. (first.exact e.0 e.1).1 ((second.exact e.0 e.1).0 there)))

pub one_history : (level : Level) (setup a b : Chronicle) → StartsAfter level setup a → StartsAfter level setup b → a ≡ b
one_history level setup a b first second =
    same_chronicle a b (first.level ∙ sym second.level) (one_list setup a.initial b.initial first.rows second.rows) (first.events ∙ sym second.events)
    (first.tables ∙ sym second.tables)
