use Rattle.sql_lexer.proofs.Once.{gives, refuses}
use Rattle.sql_lexer.proofs.cut.tokens.Goals as goal

pub returns-clause-only : goal.returns-clause-only
returns-clause-only c = gives (λ v. v.items) c.bytes.result.now c.args.text.now c.cut.result c.bytes.ensures.value c.cut.ensures.found c.cut.ensures.fault

pub returns-clause-refused : goal.returns-clause-refused
returns-clause-refused c = refuses (λ v. v.items) c.bytes.result.now c.args.text.now c.cut.result c.bytes.ensures.value c.cut.ensures.found c.cut.ensures.fault
