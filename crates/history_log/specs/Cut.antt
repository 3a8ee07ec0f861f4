-- A list of bytes, cut at one byte.
use Rattle.std.specs.Prelude.{ℕ, List, Contains, ◌==◌}
use Rattle.std.specs.List.{slice_split}

-- what stands before, between and after the places of this byte
unfoldable pub cut_at : ℕ → List ℕ → List (List ℕ)
cut_at separator text = slice_split (λ byte. byte == separator) text

-- this byte doesn't stand in the text
abbrev pub Lacks : ℕ → List ℕ → Type 0
Lacks byte text = ¬ (Contains text byte)
