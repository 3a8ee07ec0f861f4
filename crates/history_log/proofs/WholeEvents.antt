-- A line is an event's exactly where its words are.
use Rattle.std.proofs.Common.{◌≡◌, ℕ, List, [], ◌∷◌, Result, Ok, Err, sym, ap, ◌∙◌}
use Rattle.cell_base.specs.declared.level.Level.{Level}
use Rattle.history_core.specs.declared.event.Event.{Event}
use Rattle.history_log.specs.declared.keyword.Keyword.{Keyword}
use Rattle.history_log.specs.declared.misread.Misread.{Misread}
use Rattle.history_log.specs.declared.misread.Misread.TheVariants.{Form, Memory}
use Rattle.history_log.specs.declared.version.Version.{Version}
use Rattle.history_log.specs.Cut.{cut_at}
use Rattle.history_log.specs.Spelling.{keyword_word, keyword_of, line}
use Rattle.history_log.specs.Reading.{IsEventAfter, IsEventLine, Reads}
use Rattle.history_log.proofs.Cuts.{joined_cut}
use Rattle.history_log.proofs.LineKinds.{event_cut, same_keyword}

heads : {a b : List ℕ} {xs ys : List (List ℕ)} → a ∷ xs ≡ b ∷ ys → a ≡ b
heads e = cc

tails : {a b : List ℕ} {xs ys : List (List ℕ)} → a ∷ xs ≡ b ∷ ys → xs ≡ ys
tails e = cc

nil : {a : List ℕ} {xs : List (List ℕ)} → [] ≡ a ∷ xs → ⊥
nil e = cc

module _ (v : Version) (head : Level) (text : List ℕ) where
  pub event_from : (k : Keyword) (word : List ℕ) (words : List (List ℕ)) (r : Result Event Misread) → cut_at 32 text ≡ word ∷ words → word ≡ keyword_word k
      → Reads (IsEventAfter v head k) r words → Reads (IsEventLine v head) r text
  event_from k word words (Ok e) cut is reads =
      (reads.0, reads.1, joined_cut 32 text (word ∷ words) cut ∙ ap (λ (w : List ℕ). line (w ∷ words)) (is ∙ ap keyword_word (sym reads.2)) ∙ ap (λ (ws : List (List ℕ)). line (keyword_word (keyword_of e) ∷ ws)) reads.3)
  event_from k word words (Err Form) cut is reads = λ e spelled.
      let same = sym cut ∙ ap (cut_at 32) spelled.2 ∙ event_cut v e spelled.0 in
      reads e (spelled.0, spelled.1, same_keyword (keyword_of e) k (sym (heads same) ∙ is), tails same)
  event_from k word words (Err Memory) cut is reads = tt

  pub no_event_word : (word : List ℕ) (words : List (List ℕ)) → cut_at 32 text ≡ word ∷ words → ((k : Keyword) → word ≡ keyword_word k → ⊥) → (e : Event) → IsEventLine v head e text → ⊥
  no_event_word word words cut fails e spelled = fails (keyword_of e) (heads (sym cut ∙ ap (cut_at 32) spelled.2 ∙ event_cut v e spelled.0))

  pub no_event_words : cut_at 32 text ≡ [] → (e : Event) → IsEventLine v head e text → ⊥
  no_event_words cut e spelled = nil (sym cut ∙ ap (cut_at 32) spelled.2 ∙ event_cut v e spelled.0)
