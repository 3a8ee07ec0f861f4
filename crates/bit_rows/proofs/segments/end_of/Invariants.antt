use Rattle.std.proofs.Common.{◌≡◌, ◌-◌, ◌≤◌, ℕ, get_or, length}
use Rattle.bit_rows.proofs.segments.end_of.Given as goal

abbrev pub invariant-loop-done : goal.invariant-loop-done
invariant-loop-done l = (k : ℕ) → length l.words - l.done ≤ k → get_or {A = ℕ} l.words k 0 ≡ 0
