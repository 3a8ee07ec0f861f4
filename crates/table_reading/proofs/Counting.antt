-- How many answers a reading takes at most.
use Rattle.std.proofs.Common.{ℕ, ◌+◌, ◌*◌, ◌^◌, ◌<◌, ◌≤◌, Result, Ok, Err, IfOk, arith}
use Rattle.std.proofs.Math.Nat.{mul-le-mul_left}

pub if_ok : {A E : Type 0} (P Q : A → Type 0) (r : Result A E) → ((a : A) → P a → Q a) → IfOk r P → IfOk r Q
if_ok P Q (Ok a) f h = f a h
if_ok P Q (Err e) f h = tt

pub fewer_keys : (n row others s : ℕ) → n < 2 ^ 32 → s ≤ n * (1 + row) + others → s < 2 ^ 32 * (1 + row) + others
fewer_keys n row others s few h =
    let within : n + 1 ≤ 2 ^ 32 = omega arith in
    omega (arith, mul-le-mul_left (1 + row) within)
