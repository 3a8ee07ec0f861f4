-- A line is an order's exactly where its words are.
use Rattle.std.proofs.Common.{◌≡◌, ℕ, List, [], ◌∷◌, Bool, true, false, Result, Ok, Err, sym, ap, ◌∙◌}
use Rattle.std.specs.Prelude.{codes}
use Rattle.history_log.specs.declared.misread.Misread.{Misread}
use Rattle.history_log.specs.declared.misread.Misread.TheVariants.{Form, Memory}
use Rattle.history_log.specs.Cut.{cut_at}
use Rattle.history_log.specs.Spelling.{line}
use Rattle.history_log.specs.Reading.{IsNumbers, IsOrderLine, Reads}
use Rattle.history_log.proofs.Cuts.{joined_cut}
use Rattle.history_log.proofs.LineKinds.{order_cut}

heads : {a b : List ℕ} {xs ys : List (List ℕ)} → a ∷ xs ≡ b ∷ ys → a ≡ b
heads e = cc

tails : {a b : List ℕ} {xs ys : List (List ℕ)} → a ∷ xs ≡ b ∷ ys → xs ≡ ys
tails e = cc

nil : {a : List ℕ} {xs : List (List ℕ)} → [] ≡ a ∷ xs → ⊥
nil e = cc

apart : (b : Bool) → b ≡ false → b ≡ true → ⊥
apart b e f = cc

module _ (text : List ℕ) where
  pub order_from : (word : List ℕ) (words : List (List ℕ)) (r : Result (List ℕ) Misread) → cut_at 32 text ≡ word ∷ words → word ≡ codes "order"
      → Reads IsNumbers r words → Reads IsOrderLine r text
  order_from word words (Ok order) cut is reads =
      (reads.0, joined_cut 32 text (word ∷ words) cut ∙ ap (λ (w : List ℕ). line (w ∷ words)) is ∙ ap (λ (ws : List (List ℕ)). line (codes "order" ∷ ws)) reads.1)
  order_from word words (Err Form) cut is reads = λ order spelled. reads order (spelled.0, tails (sym cut ∙ ap (cut_at 32) spelled.1 ∙ order_cut order spelled.0))
  order_from word words (Err Memory) cut is reads = tt

  pub no_order_word : (word : List ℕ) (words : List (List ℕ)) (b : Bool) → cut_at 32 text ≡ word ∷ words → b ≡ false → (word ≡ codes "order" → b ≡ true)
      → (order : List ℕ) → IsOrderLine order text → ⊥
  no_order_word word words b cut other is order spelled = apart b other (is (heads (sym cut ∙ ap (cut_at 32) spelled.1 ∙ order_cut order spelled.0)))

  pub no_order_words : cut_at 32 text ≡ [] → (order : List ℕ) → IsOrderLine order text → ⊥
  no_order_words cut order spelled = nil (sym cut ∙ ap (cut_at 32) spelled.1 ∙ order_cut order spelled.0)
