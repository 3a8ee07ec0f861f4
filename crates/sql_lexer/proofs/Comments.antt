-- The end of a comment: what ends it is found, and what is found ends it.
use Rattle.std.proofs.Common.{◌≡◌, ℕ, zero, suc, ◌+◌, ◌-◌, true, false, ◌&&◌, cond, List, [], ◌∷◌, ◌++◌, length, Option, Some, None, refl, ap, ◌∙◌, subst, add-one, arith}
use Rattle.std.specs.Prelude.{◌==◌}
use Rattle.std.proofs.lemmas.Bool.{eqb-true, ne_eqb, and_parts, cond_both}
use Rattle.sql_lexer.specs.Scan.{comment_from}
use Rattle.sql_lexer.specs.Lexemes.{EndsComments, is_comment_end, is_comment_start}

inside : (n : ℕ) → (suc n == 0) ≡ false
inside n = ne_eqb (suc n) 0 (λ e. omega arith)

one_less : (n : ℕ) → suc n - 1 ≡ n
one_less n = omega arith

pub comment_found : {n : ℕ} {bytes : List ℕ} → EndsComments n bytes → (at : ℕ) (after : List ℕ) → comment_from n false at (bytes ++ after) ≡ Some (at + length bytes)
comment_found EndsComments.ended at after = refl
comment_found (EndsComments.inner_ended n z e) at after = rw (inside n, one_less n) (comment_found e (at + 1 + 1) after ∙ ap Some (omega arith))
comment_found (EndsComments.inner_begun n z e) at after = rw (add-one n) (comment_found e (at + 1 + 1) after ∙ ap Some (omega arith))
comment_found (EndsComments.other n b c z ends starts e) at after = rw (ends, starts) (comment_found e (at + 1) after ∙ ap Some (omega arith))

-- ---- what is found ends it

-- the bytes of a text up to where its comments end
pub record CommentEnd (n at : ℕ) (z : List ℕ) (end : ℕ) : Type 0 where
  pub bytes : List ℕ
  pub after : List ℕ
  pub splits : z ≡ bytes ++ after
  pub place : end ≡ at + length bytes
  pub ends : EndsComments n bytes

no_bytes : {n : ℕ} {bytes : List ℕ} → EndsComments n bytes → bytes ≡ [] → ⊥
no_bytes EndsComments.ended h = cc
no_bytes (EndsComments.inner_ended n z e) h = cc
no_bytes (EndsComments.inner_begun n z e) h = cc
no_bytes (EndsComments.other n b c z x y e) h = cc

other_more : (n b c : ℕ) (z bytes after : List ℕ) → is_comment_end b c ≡ false → is_comment_start b c ≡ false → EndsComments n bytes → c ∷ z ≡ bytes ++ after → EndsComments n (b ∷ bytes)
other_more n b c z [] after x y e splits = absurd (no_bytes e refl)
other_more n b c z (d ∷ bytes) after x y e splits =
    let same : c ≡ d = cc in
    EndsComments.other n b d bytes (subst (λ (v : ℕ). is_comment_end b v ≡ false) same x) (subst (λ (v : ℕ). is_comment_start b v ≡ false) same y) e

pair_is : (b c x y : ℕ) → (b == x && c == y) ≡ true → (b ≡ x) × (c ≡ y)
pair_is b c x y e = let p = and_parts (b == x) (c == y) e in (eqb-true b x p.0, eqb-true c y p.1)

some_is : (a b : ℕ) → Some a ≡ Some b → b ≡ a
some_is a b e = cc

ended_at : (n at b c : ℕ) (z : List ℕ) (end : ℕ) → ((m k : ℕ) → comment_from m false k z ≡ Some end → CommentEnd m k z end) → b ≡ 42 → c ≡ 47
    → cond (n == 0) (Some (at + 2)) (comment_from (n - 1) false (at + 1 + 1) z) ≡ Some end → CommentEnd n at (b ∷ c ∷ z) end
ended_at zero at b c z end again x y e = record { bytes = b ∷ c ∷ []; after = z; splits = refl; place = some_is (at + 2) end e; ends = rw (x, y) EndsComments.ended }
ended_at (suc n) at b c z end again x y e =
    let r = again n (at + 1 + 1) (rw (inside n, one_less n) at e) in
    record {
      bytes = b ∷ c ∷ r.bytes;
      after = r.after;
      splits = ap (λ y. b ∷ c ∷ y) r.splits;
      place = r.place ∙ omega arith;
      ends = rw (x, y) (EndsComments.inner_ended n r.bytes r.ends);
    }

begun_at : (n at b c : ℕ) (z : List ℕ) (end : ℕ) → ((m k : ℕ) → comment_from m false k z ≡ Some end → CommentEnd m k z end) → b ≡ 47 → c ≡ 42
    → comment_from (n + 1) false (at + 1 + 1) z ≡ Some end → CommentEnd n at (b ∷ c ∷ z) end
begun_at n at b c z end again x y e =
    let r = again (suc n) (at + 1 + 1) (rw (add-one n) at e) in
    record {
      bytes = b ∷ c ∷ r.bytes;
      after = r.after;
      splits = ap (λ y. b ∷ c ∷ y) r.splits;
      place = r.place ∙ omega arith;
      ends = rw (x, y) (EndsComments.inner_begun n r.bytes r.ends);
    }

other_at : (n at b c : ℕ) (z : List ℕ) (end : ℕ) → is_comment_end b c ≡ false → is_comment_start b c ≡ false → CommentEnd n (at + 1) (c ∷ z) end → CommentEnd n at (b ∷ c ∷ z) end
other_at n at b c z end x y r = record {
  bytes = b ∷ r.bytes;
  after = r.after;
  splits = ap (λ y. b ∷ y) r.splits;
  place = r.place ∙ omega arith;
  ends = other_more n b c z r.bytes r.after x y r.ends r.splits;
}

step : (n at b c : ℕ) (z : List ℕ) (end : ℕ) → ((m k : ℕ) → comment_from m false k z ≡ Some end → CommentEnd m k z end) → (comment_from n false (at + 1) (c ∷ z) ≡ Some end → CommentEnd n (at + 1) (c ∷ z) end) → comment_from n false at (b ∷ c ∷ z) ≡ Some end → CommentEnd n at (b ∷ c ∷ z) end
step n at b c z end past next e =
    let P : Option ℕ → Type 0 = λ o. o ≡ Some end → CommentEnd n at (b ∷ c ∷ z) end in
    cond_both (b == 42 && c == 47) (cond (n == 0) (Some (at + 2)) (comment_from (n - 1) false (at + 1 + 1) z))
    (cond (b == 47 && c == 42) (comment_from (n + 1) false (at + 1 + 1) z) (comment_from n false (at + 1) (c ∷ z))) P
    (λ x. let p = pair_is b c 42 47 x in ended_at n at b c z end past p.0 p.1)
    (λ x. cond_both (b == 47 && c == 42) (comment_from (n + 1) false (at + 1 + 1) z) (comment_from n false (at + 1) (c ∷ z)) P
    (λ y. let p = pair_is b c 47 42 y in begun_at n at b c z end past p.0 p.1)
    (λ y f. other_at n at b c z end x y (next f)))
    e

last : (n at b end : ℕ) → comment_from n false at (b ∷ []) ≡ Some end → ⊥
last n at b end e =
    let P : Option ℕ → Type 0 = λ o. o ≡ Some end → ⊥ in
    cond_both (b == 42 && false) (cond (n == 0) (Some (at + 2)) None) (cond (b == 47 && false) None None) P
    (λ x. let p = and_parts (b == 42) false x in λ f. cc)
    (λ x. cond_both (b == 47 && false) None None P (λ y f. cc) (λ y f. cc))
    e

pub comment_ends : (n at : ℕ) (z : List ℕ) (end : ℕ) → comment_from n false at z ≡ Some end → CommentEnd n at z end
comment_ends n at [] end e = absurd (cc)
comment_ends n at (b ∷ []) end e = absurd (last n at b end e)
comment_ends n at (b ∷ c ∷ z) end e = step n at b c z end (λ m k f. comment_ends m k z end f) (λ f. comment_ends n (at + 1) (c ∷ z) end f) e
