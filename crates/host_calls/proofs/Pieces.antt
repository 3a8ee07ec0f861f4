-- Pieces read one after another.
use Rattle.std.proofs.Common.{◌≡◌, ℕ, ◌<◌, List, [], ◌++◌, inl, inr, length, refl, sym, ◌∙◌, ap, append_assoc}
use Rattle.std.proofs.lemmas.List.{append-nil}
use Rattle.std.specs.Prelude.{Option, None, Some, IfSome}
use Rattle.link_traits.specs.Traffic.{Traffic, Both}
use Rattle.host_calls.specs.Reading.{ReadSoFar, ReadWhole}

pub none_read : (t : Option Traffic) → Both (ReadSoFar []) t t
none_read None = tt
none_read (Some a) = record { left = refl; read = sym (append-nil a.read) }

so_far_more : (a b c : Traffic) (xs ys : List ℕ) → ReadSoFar xs a b → ReadSoFar ys b c → ReadSoFar (xs ++ ys) a c
so_far_more a b c xs ys h k = record {
  left = h.left ∙ ap (λ (l : List ℕ). xs ++ l) k.left ∙ sym (append_assoc xs ys c.left);
  read = k.read ∙ ap (λ (l : List ℕ). l ++ ys) h.read ∙ append_assoc a.read xs ys;
}

pub more_read : (t u v : Option Traffic) (xs ys : List ℕ) → Both (ReadSoFar xs) t u → Both (ReadSoFar ys) u v → Both (ReadSoFar (xs ++ ys)) t v
more_read None None None xs ys h k = tt
more_read (Some a) (Some b) (Some c) xs ys h k = so_far_more a b c xs ys h k
more_read None (Some b) v xs ys h k = absurd h
more_read (Some a) None v xs ys h k = absurd h
more_read None None (Some c) xs ys h k = absurd k
more_read (Some a) (Some b) None xs ys h k = absurd k

-- all were read
pub whole_at_end : (most : ℕ) (t u : Option Traffic) (bytes : List ℕ) → Both (ReadSoFar bytes) t u → IfSome u (λ told. told.left ≡ []) → Both (ReadWhole most bytes) t u
whole_at_end most None None bytes h k = tt
whole_at_end most (Some a) (Some b) bytes h k = record { so_far = h; whole = inl k }
whole_at_end most None (Some b) bytes h k = absurd h
whole_at_end most (Some a) None bytes h k = absurd h

-- more than enough were read
pub whole_at_most : (most : ℕ) (t u : Option Traffic) (bytes : List ℕ) → Both (ReadSoFar bytes) t u → most < length bytes → Both (ReadWhole most bytes) t u
whole_at_most most None None bytes h k = tt
whole_at_most most (Some a) (Some b) bytes h k = record { so_far = h; whole = inr k }
whole_at_most most None (Some b) bytes h k = absurd h
whole_at_most most (Some a) None bytes h k = absurd h
