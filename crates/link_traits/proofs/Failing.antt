-- A read fails exactly where it is to fail or doesn't fit.
use Rattle.std.proofs.Common.{◌≡◌, ℕ, ◌+◌, ◌<◌, ◌≤◌, Bool, true, false, length, inl, inr, ◌⊎◌, ◌↔◌, arith, ap, sym, subst, ◌∙◌}
use Rattle.std.proofs.lemmas.Bool.{cases_lt, cases_Bool}
use Rattle.std.specs.Prelude.{IsTrue, if◌then◌else◌}
use Rattle.link_traits.specs.Memory.{MemEnds, FailsNext, ReadFails, read_count}

differ : true ≡ false → ⊥
differ e = let bad : ◌≡◌ {A = ℕ} 1 0 = ap (λ (b : Bool). if b then 1 else 0) e in omega arith

beyond : (fits : Bool) (marks reads read n bytes : ℕ) → IsTrue fits ↔ ((marks < reads) × (read + n ≤ bytes)) → fits ≡ false → (reads ≤ marks) ⊎ (bytes < read + n)
beyond fits marks reads read n bytes room unfit = elim (cases_lt marks reads) [
  | inl some ↦ elim (cases_lt bytes (read + n)) [
    | inl long ↦ inr long
    | inr short ↦ absurd (differ (sym (room.1 (some, short)) ∙ unfit))
  ]
  | inr full ↦ inl full
]

not_both : (marks reads read n bytes : ℕ) → (marks < reads) × (read + n ≤ bytes) → (reads ≤ marks) ⊎ (bytes < read + n) → ⊥
not_both marks reads read n bytes (some, short) (inl full) = omega arith
not_both marks reads read n bytes (some, short) (inr long) = omega arith

-- where it is to fail, or doesn't fit
pub read_fails : (ends : MemEnds) (room n : ℕ) (fits : Bool) → n ≡ read_count ends room
    → IsTrue fits ↔ ((length ends.traffic.marks < ends.reading.reads) × (length ends.traffic.read + n ≤ ends.reading.bytes))
    → FailsNext ends.reading.fails ends.reading.calls ⊎ (fits ≡ false) → ReadFails ends room
read_fails ends room n fits count fitting (inl planned) = inl planned
read_fails ends room n fits count fitting (inr unfit) =
    let over = beyond fits (length ends.traffic.marks) ends.reading.reads (length ends.traffic.read) n ends.reading.bytes fitting unfit in
    inr (subst (λ (k : ℕ). (ends.reading.reads ≤ length ends.traffic.marks) ⊎ (ends.reading.bytes < length ends.traffic.read + k)) count over)

-- and nowhere else
pub read_fits : {P : Type 0} (ends : MemEnds) (room n : ℕ) (fits : Bool) → n ≡ read_count ends room
    → IsTrue fits ↔ ((length ends.traffic.marks < ends.reading.reads) × (length ends.traffic.read + n ≤ ends.reading.bytes))
    → (FailsNext ends.reading.fails ends.reading.calls ⊎ (fits ≡ false) → P) → ReadFails ends room → P
read_fits ends room n fits count fitting none (inl planned) = none (inl planned)
read_fits ends room n fits count fitting none (inr over) = elim (cases_Bool fits) [
  | inl fit ↦
      let same = subst (λ (k : ℕ). (ends.reading.reads ≤ length ends.traffic.marks) ⊎ (ends.reading.bytes < length ends.traffic.read + k)) (sym count) over in
      absurd (not_both (length ends.traffic.marks) ends.reading.reads (length ends.traffic.read) n ends.reading.bytes (fitting.0 fit) same)
  | inr unfit ↦ none (inr unfit)
]
