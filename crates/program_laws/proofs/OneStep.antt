-- One call has one answer and one event.
use Rattle.std.proofs.Common.{◌≡◌, ℕ, List, ap, sym, ◌∙◌, subst, inl, inr, ◌⊎◌}
use Rattle.cell_base.specs.declared.cell.Cell.{Cell}
use Rattle.cell_base.specs.declared.key.Key.{Key}
use Rattle.cell_base.specs.declared.value.Value.{Value}
use Rattle.sql_tree.specs.declared.table.Table.{Table}
use Rattle.history_core.specs.declared.event.Event.{Event}
use Rattle.history_core.specs.declared.event.Event.TheVariants.{Scan, Read, Own}
use Rattle.history_core.specs.Legal.{IsOffered, ListsKeys}
use Rattle.history_book.specs.Book.{SessionState, session_of}
use Rattle.block_machine.specs.Calls.{Call}
use Rattle.block_machine.specs.Calls as calls
use Rattle.block_machine.specs.declared.call.Answer.{Answer}
use Rattle.block_machine.specs.declared.call.Answer.TheVariants as answers
use Rattle.choice_stream.specs.Choices.{DrawsFirst}
use Rattle.program_laws.proofs.Values.{one_read, one_last_write, one_listing, not_both}
use Rattle.program_laws.proofs.Known.{Known, Back, From, News, Olds}

-- the same answer, event and words
pub record IsOne (a b : Answer) (e f : Event) (u w : List ℕ) : Type 0 where
  pub answers : a ≡ b
  pub events : e ≡ f
  pub words : u ≡ w

both : {X : Type 0} (a b x : X) → a ≡ x → b ≡ x → a ≡ b
both a b x left right = left ∙ sym right

plain : (a b x : Answer) (e f y : Event) (u w v : List ℕ) → (a ≡ x) × (e ≡ y) × (u ≡ v) → (b ≡ x) × (f ≡ y) × (w ≡ v) → IsOne a b e f u w
plain a b x e f y u w v one other = record {
  answers = both a b x one.0 other.0;
  events = both e f y one.1 other.1;
  words = both u w v one.2 other.2;
}

-- one value was found
found_same : (a b : Answer) (value other : Value) → a ≡ answers.Found value → b ≡ answers.Found other → value ≡ other → a ≡ b
found_same a b value other left right same = left ∙ ap (λ (v : Value). answers.Found v) same ∙ sym right

-- what is drawn
one_drawn : (v : List ℕ) (word other : ℕ) (u w : List ℕ) → DrawsFirst v word u → DrawsFirst v other w → (word ≡ other) × (u ≡ w)
one_drawn v word other u w one two = (one.0 ∙ sym two.0, one.1 ∙ sym two.1)

same_read : (s : ℕ) (cell : Cell) (a b m n u w : ℕ) (x y : Value) → a ≡ b → m ≡ n → u ≡ w → x ≡ y → Read s cell a m u x ≡ Read s cell b n w y
same_read s cell a b m n u w x y p q r t =
    ap (λ k. Read s cell k m u x) p ∙ ap (λ k. Read s cell b k u x) q ∙ ap (λ k. Read s cell b n k x) r ∙ ap (λ k. Read s cell b n w k) t

one_from : (initial : List (Cell × Value)) (events : List Event) (state : SessionState) (v : List ℕ) (cell : Cell) (a b : Answer) (value other : Value) (e f : Event) (u w : List ℕ) →
    a ≡ answers.Found value → b ≡ answers.Found other → From initial events state v cell value e u → From initial events state v cell other f w → IsOne a b e f u w
one_from initial events state v cell a b value other e f u w left right one two =
    let s : ℕ = session_of state in
    let drawn = one_drawn v one.word two.word u w one.drawn two.drawn in
    let offered : IsOffered events (Read s cell one.source one.count two.word value) =
    subst (λ (k : ℕ). IsOffered events (Read s cell one.source one.count k value)) drawn.0 one.offered in
    let same = one_read initial events s cell one.source two.source one.count two.count two.word value other one.is_state offered two.offered one.writes two.writes in
    record {
      answers = found_same a b value other left right same.values;
      events = one.event
          ∙ same_read s cell one.source two.source one.count two.count one.word two.word value other same.sources same.counts drawn.0 same.values
          ∙ sym two.event;
      words = drawn.1;
    }

one_touch : (initial : List (Cell × Value)) (events : List Event) (state : SessionState) (v : List ℕ) (cell : Cell) (a b : Answer) (value other : Value) (e f : Event) (u w : List ℕ) →
    a ≡ answers.Found value → b ≡ answers.Found other →
    Back state v cell value e u ⊎ From initial events state v cell value e u → Back state v cell other f w ⊎ From initial events state v cell other f w →
    IsOne a b e f u w
one_touch initial events state v cell a b value other e f u w left right (inl one) (inl two) =
    let same : value ≡ other = one_last_write cell value other state one.last two.last in
    record {
      answers = found_same a b value other left right same;
      events = one.event ∙ ap (λ (x : Value). Own (session_of state) cell x) same ∙ sym two.event;
      words = one.words_are ∙ sym two.words_are;
    }
one_touch initial events state v cell a b value other e f u w left right (inl one) (inr two) = absurd (not_both cell state one.written two.unwritten)
one_touch initial events state v cell a b value other e f u w left right (inr one) (inl two) = absurd (not_both cell state two.written one.unwritten)
one_touch initial events state v cell a b value other e f u w left right (inr one) (inr two) =
    one_from initial events state v cell a b value other e f u w left right one two

one_define : (events : List Event) (state : SessionState) (table : Table) (a b : Answer) (e f : Event) (u w v : List ℕ) → u ≡ v → w ≡ v →
    News events state table a e ⊎ Olds events state table a e → News events state table b f ⊎ Olds events state table b f → IsOne a b e f u w
one_define events state table a b e f u w v left right (inl one) (inl two) =
    record { answers = one.answer ∙ sym two.answer; events = one.event ∙ sym two.event; words = left ∙ sym right }
one_define events state table a b e f u w v left right (inl one) (inr two) = absurd (one.new two.old)
one_define events state table a b e f u w v left right (inr one) (inl two) = absurd (two.new one.old)
one_define events state table a b e f u w v left right (inr one) (inr two) =
    record { answers = one.answer ∙ sym two.answer; events = one.event ∙ sym two.event; words = left ∙ sym right }

one_scan : (initial : List (Cell × Value)) (events : List Event) (s table : ℕ) (a b : Answer) (xs ys : List Key) (e f : Event) (u w v : List ℕ) →
    ListsKeys initial events s table xs → ListsKeys initial events s table ys → a ≡ answers.Listed xs → b ≡ answers.Listed ys →
    e ≡ Scan s table xs → f ≡ Scan s table ys → u ≡ v → w ≡ v → IsOne a b e f u w
one_scan initial events s table a b xs ys e f u w v one two a_is b_is e_is f_is left right =
    let same : xs ≡ ys = one_listing initial events s table xs ys one two in
    record {
      answers = a_is ∙ ap (λ (ks : List Key). answers.Listed ks) same ∙ sym b_is;
      events = e_is ∙ ap (λ (ks : List Key). Scan s table ks) same ∙ sym f_is;
      words = left ∙ sym right;
    }

pub known_one : (initial : List (Cell × Value)) (events : List Event) (state : SessionState) (tables : List Table) (v : List ℕ) (c : Call) (a b : Answer) (e f : Event) (u w : List ℕ) →
    Known initial events state tables v c a e u → Known initial events state tables v c b f w → IsOne a b e f u w
known_one initial events state tables v calls.Open a b e f u w one two = plain a b _ e f _ u w v one two
known_one initial events state tables v calls.Close a b e f u w one two = plain a b _ e f _ u w v one two
known_one initial events state tables v (calls.Look known) a b e f u w one two = plain a b _ e f _ u w v one two
known_one initial events state tables v (calls.Define t) a b e f u w one two = one_define events state t a b e f u w v one.1 two.1 one.0 two.0
known_one initial events state tables v (calls.Begin level) a b e f u w one two = plain a b _ e f _ u w v one two
known_one initial events state tables v (calls.Scan t) a b e f u w one two =
    one_scan initial events (session_of state) t a b one.0 two.0 e f u w v one.1 two.1 one.2 two.2 one.3 two.3 one.4 two.4
known_one initial events state tables v (calls.Touch cell) a b e f u w one two =
    one_touch initial events state v cell a b one.0 two.0 e f u w one.1 two.1 one.2 two.2
known_one initial events state tables v (calls.Write cell value) a b e f u w one two = plain a b _ e f _ u w v one two
known_one initial events state tables v calls.Commit a b e f u w one two = plain a b _ e f _ u w v one two
known_one initial events state tables v calls.Rollback a b e f u w one two = plain a b _ e f _ u w v one two
known_one initial events state tables v calls.Show a b e f u w one two = plain a b _ e f _ u w v one two
