-- A history has one summary line.
use Rattle.std.proofs.Common.{◌≡◌, ℕ, ◌≤◌, List, ◌++◌, ◌∷◌, [], length, arith, ap, sym, ◌∙◌}
use Rattle.std.specs.List.{Contains}
use Rattle.std.specs.List.Sorted.{IsStrictlyIncreasing}
use Rattle.std.specs.Cmp.{unsigned_Decides}
use Rattle.std.proofs.lemmas.Cmp.{nat_eq_equiv}
use Rattle.std.proofs.lemmas.List.Kept.{AllPairs-from_increasing}
use Rattle.std.proofs.lemmas.Map.Made.{is_member-Decides, IsDistinct-from_AllPairs, length-le_from_is_member}
use Rattle.std.specs.List.{join_with_byte}
use Rattle.cell_base.specs.declared.level.Level.{Level}
use Rattle.history_core.specs.declared.event.Event.{Event}
use Rattle.history_summary.specs.Latest.{HasWeak}
use Rattle.history_summary.specs.Line.{summary_words, IsSummary}

-- numbers that rise, among others
rising_few : (xs ys : List ℕ) → IsStrictlyIncreasing xs → ((n : ℕ) → Contains xs n → Contains ys n) → length xs ≤ length ys
rising_few xs ys rises among =
    length-le_from_is_member nat_eq_equiv xs ys
    (IsDistinct-from_AllPairs unsigned_Decides xs (λ i j d below within same. let h = AllPairs-from_increasing xs rises i j d below within in absurd (omega arith)))
    (λ n member. (is_member-Decides unsigned_Decides ys n).1 (among n ((is_member-Decides unsigned_Decides xs n).0 member)))

one_weak : (events : List Event) (m n : ℕ) → HasWeak events m → HasWeak events n → m ≡ n
one_weak events m n first second =
    let up = rising_few first.places second.places first.ascending (λ p there. (second.exact p).1 ((first.exact p).0 there)) in
    let down = rising_few second.places first.places second.ascending (λ p there. (first.exact p).1 ((second.exact p).0 there)) in
    let a = first.counts in
    let b = second.counts in
    omega arith

pub one_line : (level : Level) (seed : ℕ) (events : List Event) (a b : List ℕ) → IsSummary level seed events a → IsSummary level seed events b → a ≡ b
one_line level seed events a b first second =
    first.is ∙ ap (λ (n : ℕ). join_with_byte 32 (summary_words level seed events n) ++ 10 ∷ []) (one_weak events first.weak second.weak first.has second.has) ∙ sym second.is
