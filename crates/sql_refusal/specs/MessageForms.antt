-- Messages of the unlimited and of the wide grammar, as forms. No public clause speaks of them.
use Rattle.std.specs.Prelude.{Bool, true, false, List, [], ◌∷◌}
use Rattle.sql_tree.specs.declared.token.Sign.TheVariants as s
use Rattle.sql_grammar.specs.Statements as st
use Rattle.sql_refusal.specs.Forms.{Form, nothing, ◌▸◌, either, many, form, sign}
use Rattle.sql_refusal.specs.WideForms.{create_with, wide_form}

abbrev pub create_form : Bool → Form
create_form true = create_with wide_form
create_form false = form (st.create 0)

unfoldable pub control_form : Form
control_form = either (form st.begin) (either (form st.commit) (either (form st.rollback) (either (form st.set) (form st.show))))

unfoldable pub statement_form : Bool → Form
statement_form wide = either (form (st.select 0)) (either (form (st.insert 0 0)) (either (form (st.update 0)) (either (form (st.delete 0)) (either (create_form wide) control_form))))

abbrev pub piece_form : Bool → Form
piece_form wide = either (statement_form wide) nothing

abbrev pub next_form : Bool → Form
next_form wide = sign s.Semi ▸ piece_form wide

-- the wide grammar's where true
unfoldable pub message_form : Bool → Form
message_form wide = piece_form wide ▸ many (next_form wide)
