-- The wide grammar's forms: a message with any form of types, and the form of wide types that the next mark leads through. No public clause speaks of them.
use Rattle.std.specs.Prelude.{List, [], ◌∷◌}
use Rattle.sql_tree.specs.declared.token.Sign.TheVariants as s
use Rattle.sql_grammar.specs.declared.mark.Word.{Word}
use Rattle.sql_grammar.specs.declared.mark.Word.TheVariants as w
use Rattle.sql_grammar.specs.declared.mark.Sought.TheVariants as sought
use Rattle.sql_grammar.specs.Steps.{the, a_name, a_number}
use Rattle.sql_grammar.specs.Statements as st
use Rattle.sql_refusal.specs.Forms.{Form, nothing, mark, ◌▸◌, either, many, form, sign}

-- ---- a message with these types

abbrev pub element_with : Form → Form
element_with t = either (mark (a_name [] ∷ []) ▸ t ▸ form (st.constraints 0)) (form (st.table_constraint 0))

abbrev pub create_with : Form → Form
create_with t =
    mark (the (sought.Reserved w.Create) ∷ []) ▸ mark (the (sought.Reserved w.Table) ∷ []) ▸ mark (a_name [] ∷ []) ▸ sign s.Open ▸ (element_with t ▸ many (sign s.Comma ▸ element_with t)) ▸ sign s.Close

abbrev pub statement_with : Form → Form
statement_with t =
    either (form (st.select 0)) (either (form (st.insert 0 0)) (either (form (st.update 0)) (either (form (st.delete 0)) (either (create_with t) (form st.control)))))

abbrev pub piece_with : Form → Form
piece_with t = either (statement_with t) nothing

unfoldable pub with_type : Form → Form
with_type t = piece_with t ▸ many (sign s.Semi ▸ piece_with t)

-- ---- wide types

abbrev pub word : Word → Form
word v = mark (the (sought.Plain v) ∷ [])

-- [ '(' number ')' ]
abbrev pub size : Form
size = either (sign s.Open ▸ mark (a_number ∷ []) ▸ sign s.Close) nothing

-- [ '(' number { ',' number } ')' ]
abbrev pub numbers : Form
numbers = either (sign s.Open ▸ (mark (a_number ∷ []) ▸ many (sign s.Comma ▸ mark (a_number ∷ []))) ▸ sign s.Close) nothing

-- CHARACTER VARYING [ '(' number ')' ] | CHARACTER numbers | another name and numbers
unfoldable pub wide_form : Form
wide_form = either (word w.Character ▸ either (word w.Varying ▸ size) numbers) (mark (a_name (w.Character ∷ []) ∷ []) ▸ numbers)
