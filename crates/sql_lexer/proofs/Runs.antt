-- Runs of bytes of one class, and the first byte of a text.
use Rattle.std.proofs.Common.{◌≡◌, ℕ, suc, ◌+◌, Bool, true, false, cond, List, [], ◌∷◌, ◌++◌, length, take, drop, refl, ap, sym, ◌∙◌, arith}
use Rattle.std.specs.Prelude.{slice_index}
use Rattle.std.specs.List.{prefix_len}
use Rattle.std.proofs.lemmas.List.{take-append-drop}
use Rattle.std.proofs.lemmas.List.Folds.{length-prefix_len}
use Rattle.sql_lexer.specs.Bytes.{AllAre, begins}

one_and : (n : ℕ) → 1 + n ≡ suc n
one_and n = omega arith

-- a run before what isn't of the class is the longest
pub run_len : (p : ℕ → Bool) (bytes after : List ℕ) → AllAre p bytes → begins p after ≡ false → prefix_len p (bytes ++ after) ≡ length bytes
run_len p [] [] a s = refl
run_len p [] (b ∷ z) a s = rw s refl
run_len p (b ∷ bytes) after a s = rw a.0 (ap (λ n. 1 + n) (run_len p bytes after a.1 s) ∙ one_and (length bytes))

front_step : (p : ℕ → Bool) (b : ℕ) (z : List ℕ) → AllAre p (take (prefix_len p z) z) → (v : Bool) → p b ≡ v → AllAre p (take (cond v (1 + prefix_len p z) 0) (b ∷ z))
front_step p b z again true e = rw (one_and (prefix_len p z)) (e, again)
front_step p b z again false e = tt

-- the longest run is of the class
pub front_all : (p : ℕ → Bool) (z : List ℕ) → AllAre p (take (prefix_len p z) z)
front_all p [] = tt
front_all p (b ∷ z) = front_step p b z (front_all p z) (p b) refl

rest_step : (p : ℕ → Bool) (b : ℕ) (z : List ℕ) → begins p (drop (prefix_len p z) z) ≡ false → (v : Bool) → p b ≡ v → begins p (drop (cond v (1 + prefix_len p z) 0) (b ∷ z)) ≡ false
rest_step p b z again true e = rw (one_and (prefix_len p z)) again
rest_step p b z again false e = e

-- and what follows it isn't
pub rest_stops : (p : ℕ → Bool) (z : List ℕ) → begins p (drop (prefix_len p z) z) ≡ false
rest_stops p [] = refl
rest_stops p (b ∷ z) = rest_step p b z (rest_stops p z) (p b) refl

-- A text after its first byte, as the longest run of a class and what follows it.
pub record Run (p : ℕ → Bool) (z : List ℕ) (size : ℕ) : Type 0 where
  pub front : List ℕ
  pub after : List ℕ
  pub splits : z ≡ front ++ after
  pub long : size ≡ length front
  pub all : AllAre p front
  pub stops : begins p after ≡ false

pub run_of : (p : ℕ → Bool) (z : List ℕ) → Run p z (prefix_len p z)
run_of p z = record {
  front = take (prefix_len p z) z;
  after = drop (prefix_len p z) z;
  splits = sym (take-append-drop (prefix_len p z) z);
  long = sym (length-prefix_len p z);
  all = front_all p z;
  stops = rest_stops p z;
}

-- the first byte of a text, 0 where there is none, and the class that 0 isn't in
pub begins_first : (p : ℕ → Bool) (z : List ℕ) → p 0 ≡ false → p (slice_index z 0) ≡ begins p z
begins_first p [] e = e
begins_first p (b ∷ z) e = refl
