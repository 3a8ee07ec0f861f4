-- The statements of a text without a zero byte are sound.
use Rattle.std.proofs.Common.{◌≡◌, ◌≢◌, ℕ, List, refl, sym, subst, All, Result, Ok, Err, IfOk}
use Rattle.std.specs.Prelude.{slice_index_or}
use Rattle.std.specs.List.{Contains}
use Rattle.std.specs.Str.{IsUtf8}
use Rattle.std.proofs.lemmas.List.Elements.{Contains-get_or}
use Rattle.cell_base.specs.declared.memory.Memory.{Memory as Short}
use Rattle.sound_text.proofs.Plain.{built_sound}
use Rattle.described_columns.specs.Described.{HasPlainNames}
use Rattle.described_columns.proofs.Plain.{statements_plain}
use Rattle.cell_base.specs.Texts.{HasNoZero}
use Rattle.sql_statements.specs.declared.fault.ParseFault.{ParseFault}
use Rattle.sql_statements.specs.declared.fault.ParseFault.TheVariants.{Lex, Syntax, Unsupported, TooDeep, TooMany, Memory}
use Rattle.sql_statements.specs.Faults.{AreStatementsOf, IsFaultOfText, UnlessMemory, state_of}
use Rattle.sql_tree.specs.declared.statement.Statement.{Statement}
use Rattle.sql_tree.specs.declared.statement.Statement.TheVariants as tree
use Rattle.block_machine.specs.declared.message.Message.{Message}
use Rattle.block_machine.specs.declared.message.Message.TheVariants.{Unread}
use Rattle.block_machine.specs.Messages.{IsMessage, faulty}
use Rattle.block_machine.specs.Stages.{IsSoundMessage, IsSoundStatement}

-- a fault that is no lack of memory
pub is_fault : (P : ParseFault → Type 0) (f : ParseFault) → f ≢ Memory → UnlessMemory P f → P f
is_fault P (Lex g) other h = h
is_fault P Syntax other h = h
is_fault P Unsupported other h = h
is_fault P TooDeep other h = h
is_fault P TooMany other h = h
is_fault P Memory other h = absurd (other refl)

-- a text with this fault
pub fault_message : (text : List ℕ) (fault : ParseFault) (r : Result Message Short) → IsUtf8 text → UnlessMemory (IsFaultOfText text) fault → IfOk r (λ message. message ≡ Unread (state_of fault)) →
    IfOk r (λ message. fault ≢ Memory) → IfOk r (IsMessage text)
fault_message text fault (Ok message) utf8 has is other = subst (λ (m : Message). IsMessage text m) (sym is) (faulty fault utf8 (is_fault (IsFaultOfText text) fault other has))
fault_message text fault (Err e) utf8 has is other = is

pub fault_sound : (fault : ParseFault) (r : Result Message Short) → IfOk r (λ message. message ≡ Unread (state_of fault)) → IfOk r IsSoundMessage
fault_sound fault (Ok message) is = subst IsSoundMessage (sym is) tt
fault_sound fault (Err e) is = is

one_sound : (text : List ℕ) (xs : List Statement) (x : Statement) → HasNoZero text → AreStatementsOf text xs → Contains xs x → HasPlainNames x → IsSoundStatement x
one_sound text xs (tree.Create create) no_zero are has plain = λ table is. built_sound text xs create table no_zero are has is
one_sound text xs _ no_zero are has plain = plain

pub statements_sound : (text : List ℕ) (xs : List Statement) → HasNoZero text → AreStatementsOf text xs → All IsSoundStatement xs
statements_sound text xs no_zero are = λ i d within.
    one_sound text xs (slice_index_or xs i d) no_zero are (Contains-get_or xs i d within) (statements_plain text xs no_zero are i d within)
