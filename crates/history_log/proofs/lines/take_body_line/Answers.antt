use Rattle.std.proofs.Common.{◌≡◌, ◌∙◌, ℕ, List, ◌∷◌, sym, ap, refl}
use Rattle.history_log.specs.declared.keyword.Keyword.{Keyword}
use Rattle.history_log.specs.declared.keyword.Keyword.TheVariants as keywords
use Rattle.history_log.specs.Cut.{cut_at}
use Rattle.history_log.specs.Spelling.{keyword_word}
use Rattle.history_log.proofs.Added.{row_ok, event_ok, order_ok}
use Rattle.history_log.proofs.Going.{next_line, no_words, no_keyword, no_row, no_order, no_event}
use Rattle.history_log.proofs.lines.take_body_line.Goals as goal

cut_by : (line word : List ℕ) (parts words : List (List ℕ)) (k j : Keyword) → parts ≡ cut_at 32 line → parts ≡ word ∷ words → word ≡ keyword_word k → k ≡ j → cut_at 32 line ≡ keyword_word j ∷ words
cut_by line word parts words k j e f g h = sym e ∙ f ∙ ap (λ (w : List ℕ). w ∷ words) (g ∙ ap keyword_word h)

pub returns-in_default-clause-form : goal.returns-in_default-clause-form
returns-in_default-clause-form c = λ err g. no_words c.args.draft.now c.args.line.now (sym c.new-words.ensures ∙ c.in_default.ensures.none) (next_line c.args.draft.now c.requires.right c.requires.place c.args.line.now g)

pub returns-in_default-keyword_of-clause-form : goal.returns-in_default-keyword_of-clause-form
returns-in_default-keyword_of-clause-form c = λ err g. no_keyword c.args.draft.now c.args.line.now c.in-Some.word.now c.next.new.self (sym c.new-words.ensures ∙ c.in-Some.ensures.some) c.in_default-keyword_of.ensures
    (next_line c.args.draft.now c.requires.right c.requires.place c.args.line.now g)

pub returns-in-Initial : goal.returns-in-Initial
returns-in-Initial c =
    let cut = cut_by c.args.line.now c.in-Some.word.now _ c.next.new.self _ keywords.Initial c.new-words.ensures c.in-Some.ensures.some c.in-Some-keyword_of.ensures c.in-Initial.is in
    let both = row_ok c.args.draft.now c.take_row.new.draft c.next.new.self c.args.line.now c.take_row.result c.requires.right c.requires.place cut c.take_row.ensures.ok in
    record {
      right = both.0;
      said = both.1;
      form = λ err g. no_row c.args.draft.now c.args.line.now keywords.Initial c.next.new.self cut refl (c.take_row.ensures.form err) (next_line c.args.draft.now c.requires.right c.requires.place c.args.line.now g);
    }

pub returns-in-Order : goal.returns-in-Order
returns-in-Order c =
    let cut = cut_by c.args.line.now c.in-Some.word.now _ c.next.new.self _ keywords.Order c.new-words.ensures c.in-Some.ensures.some c.in-Some-keyword_of.ensures c.in-Order.is in
    let both = order_ok c.args.draft.now c.take_order.new.draft c.next.new.self c.args.line.now c.take_order.result c.requires.right c.requires.place cut c.take_order.ensures.ok in
    record {
      right = both.0;
      said = both.1;
      form = λ err g. no_order c.args.draft.now c.args.line.now keywords.Order c.next.new.self cut refl (c.take_order.ensures.form err) (next_line c.args.draft.now c.requires.right c.requires.place c.args.line.now g);
    }

pub returns-in_default-keyword : goal.returns-in_default-keyword
returns-in_default-keyword c =
    let cut = cut_by c.args.line.now c.in-Some.word.now _ c.next.new.self _ c.in-Some-keyword_of.keyword c.new-words.ensures c.in-Some.ensures.some c.in-Some-keyword_of.ensures refl in
    let both = event_ok c.args.draft.now c.take_event.new.draft c.in-Some-keyword_of.keyword c.next.new.self c.args.line.now c.take_event.result c.requires.right c.requires.place cut c.take_event.ensures.ok in
    record {
      right = both.0;
      said = both.1;
      form = λ err g. no_event c.args.draft.now c.args.line.now c.in-Some-keyword_of.keyword c.next.new.self cut c.in_default-keyword.not-Initial c.in_default-keyword.not-Order (c.take_event.ensures.form err)
          (next_line c.args.draft.now c.requires.right c.requires.place c.args.line.now g);
    }
