-- The bytes of a message ask for one thing.
use Rattle.std.proofs.Common.{◌≡◌, ℕ, List, inl, inr, ◌⊎◌, refl, ap, sym, ◌∙◌}
use Rattle.std.specs.Str.{IsUtf8}
use Rattle.cell_base.specs.declared.sql_state.SqlState.TheVariants as states
use Rattle.sql_tree.specs.declared.statement.Statement.{Statement}
use Rattle.sql_statements.specs.declared.fault.ParseFault.{ParseFault}
use Rattle.sql_statements.specs.Faults.{AreStatementsOf, IsFaultOfText, state_of}
use Rattle.sql_statements.proofs.Law.{one_list, not_both, one_text_fault}
use Rattle.block_machine.specs.Messages.{IsMessage, no_text, faulty, reads}
use Rattle.block_machine.specs.declared.message.Message.{Message}
use Rattle.block_machine.specs.declared.message.Message.TheVariants as messages

-- no text, or a text that isn't read
abbrev NoText : List ℕ → Message → Type 0
NoText text m = (¬ (IsUtf8 text)) × (m ≡ messages.Unread states.S22021)

abbrev Faulty : List ℕ → Message → Type 0
Faulty text m = (fault : ParseFault) × IsUtf8 text × IsFaultOfText text fault × (m ≡ messages.Unread (state_of fault))

abbrev Reads : List ℕ → Message → Type 0
Reads text m = (xs : List Statement) × IsUtf8 text × AreStatementsOf text xs × (m ≡ messages.Statements xs)

cases_of : (text : List ℕ) (m : Message) → IsMessage text m → NoText text m ⊎ (Faulty text m ⊎ Reads text m)
cases_of text m (no_text bad) = inl (bad, refl)
cases_of text m (faulty fault utf8 has) = inr (inl (fault, utf8, has, refl))
cases_of text m (reads xs utf8 are) = inr (inr (xs, utf8, are, refl))

one_of : (text : List ℕ) (m n : Message) → NoText text m ⊎ (Faulty text m ⊎ Reads text m) → NoText text n ⊎ (Faulty text n ⊎ Reads text n) → m ≡ n
one_of text m n (inl a) (inl b) = a.1 ∙ sym b.1
one_of text m n (inl a) (inr (inl b)) = absurd (a.0 b.1)
one_of text m n (inl a) (inr (inr b)) = absurd (a.0 b.1)
one_of text m n (inr (inl a)) (inl b) = absurd (b.0 a.1)
one_of text m n (inr (inl a)) (inr (inl b)) =
    a.3 ∙ ap (λ (f : ParseFault). messages.Unread (state_of f)) (one_text_fault text a.0 b.0 a.2 b.2) ∙ sym b.3
one_of text m n (inr (inl a)) (inr (inr b)) = absurd (not_both text b.0 a.0 b.2 a.2)
one_of text m n (inr (inr a)) (inl b) = absurd (b.0 a.1)
one_of text m n (inr (inr a)) (inr (inl b)) = absurd (not_both text a.0 b.0 a.2 b.2)
one_of text m n (inr (inr a)) (inr (inr b)) =
    a.3 ∙ ap (λ (xs : List Statement). messages.Statements xs) (one_list text a.0 b.0 a.2 b.2) ∙ sym b.3

pub one_message : (text : List ℕ) (m n : Message) → IsMessage text m → IsMessage text n → m ≡ n
one_message text m n a b = one_of text m n (cases_of text m a) (cases_of text n b)
