-- A quoted part: what is cut is spelled so, and what is spelled so is cut.
use Rattle.std.proofs.Common.{◌≡◌, ℕ, zero, suc, ◌+◌, ◌≤◌, Bool, true, false, not, ◌&&◌, cond, List, [], ◌∷◌, ◌++◌, length, Some, None, refl, ap, sym, ◌∙◌, subst, append_assoc, length-append, arith}
use Rattle.std.specs.Prelude.{◌==◌, slice_index}
use Rattle.std.proofs.lemmas.Bool.{eqb-true, eq-eqb}
use Rattle.std.proofs.Math.Dec.{eqb-zero-suc}
use Rattle.sql_lexer.specs.Scan.{closing, content}
use Rattle.sql_lexer.specs.Bytes.{begins}
use Rattle.sql_lexer.specs.Lexemes.{doubled}

-- no quote stands next
abbrev pub Lacks : ℕ → List ℕ → Type 0
Lacks q after = begins (λ c. c == q) after ≡ false

same : (q : ℕ) → (q == q) ≡ true
same q = eq-eqb q q refl

lacks_next : (q : ℕ) (after : List ℕ) → 1 ≤ q → Lacks q after → (slice_index after 0 == q) ≡ false
lacks_next zero after some h = absurd (omega arith)
lacks_next (suc q) [] some h = eqb-zero-suc q
lacks_next (suc q) (b ∷ after) some h = h

-- ---- what is spelled so is cut

abbrev Closes : ℕ → List ℕ → List ℕ → ℕ → Type 0
Closes q inner after at = closing q false at (inner ++ q ∷ after) ≡ Some (at + length inner + 1)

closes_step : (q b : ℕ) (t after : List ℕ) (at : ℕ) → ((n : ℕ) → Closes q (doubled q t) after n) → (v : Bool) → (b == q) ≡ v → Closes q (cond v (q ∷ q ∷ doubled q t) (b ∷ doubled q t)) after at
closes_step q b t after at again true e = rw (same q) (again (at + 1 + 1) ∙ ap Some (omega arith))
closes_step q b t after at again false e = rw e (again (at + 1) ∙ ap Some (omega arith))

pub closes : (q : ℕ) (t after : List ℕ) (at : ℕ) → 1 ≤ q → Lacks q after → Closes q (doubled q t) after at
closes q [] after at some h = rw (same q, lacks_next q after some h) (ap Some (omega arith))
closes q (b ∷ t) after at some h = closes_step q b t after at (λ n. closes q t after n some h) (b == q) refl

content_step : (q b : ℕ) (t : List ℕ) → content q false (doubled q t) ≡ t → (v : Bool) → (b == q) ≡ v → content q false (cond v (q ∷ q ∷ doubled q t) (b ∷ doubled q t)) ≡ b ∷ t
content_step q b t again true e = rw (same q) (ap (λ z. q ∷ z) again ∙ ap (λ z. z ∷ t) (sym (eqb-true b q e)))
content_step q b t again false e = rw e (ap (λ z. b ∷ z) again)

pub content_doubled : (q : ℕ) (t : List ℕ) → content q false (doubled q t) ≡ t
content_doubled q [] = refl
content_doubled q (b ∷ t) = content_step q b t (content_doubled q t) (b == q) refl

-- ---- what is cut is spelled so

pub record Closed (q at : ℕ) (z : List ℕ) (end : ℕ) : Type 0 where
  pub text : List ℕ
  pub after : List ℕ
  pub splits : z ≡ doubled q text ++ q ∷ after
  pub lacks : Lacks q after
  pub place : end ≡ at + length (doubled q text) + 1

lacks_of : (q : ℕ) (z : List ℕ) → (slice_index z 0 == q) ≡ false → Lacks q z
lacks_of q [] e = refl
lacks_of q (b ∷ z) e = e

more_by : (q b : ℕ) (t : List ℕ) (v : Bool) → cond v (q ∷ q ∷ []) (b ∷ []) ++ doubled q t ≡ cond v (q ∷ q ∷ doubled q t) (b ∷ doubled q t)
more_by q b t true = refl
more_by q b t false = refl

doubled_more : (q b : ℕ) (t : List ℕ) → doubled q (b ∷ []) ++ doubled q t ≡ doubled q (b ∷ t)
doubled_more q b t = more_by q b t (b == q)

longer : (q at end : ℕ) (front z : List ℕ) (b : ℕ) → front ≡ doubled q (b ∷ []) → Closed q (at + length front) z end → Closed q at (front ++ z) end
longer q at end front z b e c =
    let one = doubled q (b ∷ []) in
    let regroup : (one ++ doubled q c.text) ++ q ∷ c.after ≡ one ++ (doubled q c.text ++ q ∷ c.after) = simp append_assoc in
    record {
      text = b ∷ c.text;
      after = c.after;
      lacks = c.lacks;
      splits = ap (λ y. y ++ z) e ∙ ap (λ y. one ++ y) c.splits ∙ sym regroup ∙ ap (λ y. y ++ q ∷ c.after) (doubled_more q b c.text);
      place = c.place ∙ omega (arith, ap length (doubled_more q b c.text), length-append (doubled q (b ∷ [])) (doubled q c.text), ap length e);
    }

single : (q b : ℕ) → (b == q) ≡ false → b ∷ [] ≡ doubled q (b ∷ [])
single q b e = rw e refl

twice : (q b : ℕ) → (b == q) ≡ true → q ∷ q ∷ [] ≡ doubled q (b ∷ [])
twice q b e = rw e refl

two : (at : ℕ) → at + 1 + 1 ≡ at + 2
two at = omega arith

some_is : (at end : ℕ) → Some (at + 1) ≡ Some end → end ≡ at + 0 + 1
some_is at end e = let f : at + 1 ≡ end = cc in omega arith

last_quote : (q at b end : ℕ) (w : Bool) → (0 == q) ≡ w → (b == q) ≡ true → cond (true && not w) (Some (at + 1)) None ≡ Some end → Closed q at (b ∷ []) end
last_quote q at b end true g h e = absurd (cc)
last_quote q at b end false g h e = record { text = []; after = []; splits = ap (λ y. y ∷ []) (eqb-true b q h); lacks = refl; place = some_is at end e }

last : (q at b end : ℕ) (v : Bool) → (b == q) ≡ v → cond (v && not (0 == q)) (Some (at + 1)) (closing q v (at + 1) []) ≡ Some end → Closed q at (b ∷ []) end
last q at b end false h e = absurd (cc)
last q at b end true h e = last_quote q at b end (0 == q) refl h e

step : (q at b c : ℕ) (z : List ℕ) (end : ℕ) → ((n : ℕ) → closing q false n z ≡ Some end → Closed q n z end) → ((n : ℕ) → closing q false n (c ∷ z) ≡ Some end → Closed q n (c ∷ z) end)
    → (v : Bool) → (b == q) ≡ v → (w : Bool) → (c == q) ≡ w → cond (v && not w) (Some (at + 1)) (closing q v (at + 1) (c ∷ z)) ≡ Some end → Closed q at (b ∷ c ∷ z) end
step q at b c z end past next false h w g e = longer q at end (b ∷ []) (c ∷ z) b (single q b h) (next (at + 1) e)
step q at b c z end past next true h true g e =
    let i : Closed q at (q ∷ q ∷ z) end = longer q at end (q ∷ q ∷ []) z b (twice q b h) (rw (← two at) (past (at + 1 + 1) e)) in
    let P : ℕ → ℕ → Type 0 = λ x y. Closed q at (x ∷ y ∷ z) end in
    subst (λ (x : ℕ). P x c) (sym (eqb-true b q h)) (subst (λ (y : ℕ). P q y) (sym (eqb-true c q g)) i)
step q at b c z end past next true h false g e =
    record { text = []; after = c ∷ z; splits = ap (λ y. y ∷ c ∷ z) (eqb-true b q h); lacks = g; place = some_is at end e }

pub closing_sound : (q at : ℕ) (z : List ℕ) (end : ℕ) → closing q false at z ≡ Some end → Closed q at z end
closing_sound q at [] end e = absurd (cc)
closing_sound q at (b ∷ []) end e = last q at b end (b == q) refl e
closing_sound q at (b ∷ c ∷ z) end e = step q at b c z end (λ n f. closing_sound q n z end f) (λ n f. closing_sound q n (c ∷ z) end f) (b == q) refl (c == q) refl e
