-- The code that the server answers for each fault of a text.
use Rattle.cell_base.specs.declared.sql_state.SqlState.{SqlState}
use Rattle.cell_base.specs.declared.sql_state.SqlState.TheVariants as states
use Rattle.sql_lexer.specs.declared.fault.LexFault.{LexFault}
use Rattle.sql_lexer.specs.declared.fault.LexFault.TheVariants as fault

abbrev pub state_of : LexFault → SqlState
state_of (fault.Unsupported at) = states.S0A000
state_of (fault.TooWide at) = states.S22003
state_of (fault.NameTooLong at) = states.S54000
state_of fault.Memory = states.S53200
state_of _ = states.S42601
