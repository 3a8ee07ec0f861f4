use Rattle.std.proofs.Common.{◌≡◌, List, subst}
use Rattle.sql_grammar.specs.declared.mark.Mark.{Mark}
use Rattle.sql_grammar.specs.Statements.{message}
use Rattle.sql_grammar.specs.Steps.{reading}
use Rattle.sql_grammar.specs.Words.{marks}
use Rattle.sql_grammar.specs.Limited.{max_depth, max_rows, max_statements}
use Rattle.sql_parser.specs.Reads.{EndsWith}
use Rattle.sql_parser.proofs.Exact.{found_is, only_is}
use Rattle.sql_parser.proofs.parse.Goals as goal

pub returns : goal.returns
returns c =
    let e : c.as_slice.result.now ≡ marks c.args.tokens.now = cc (c.as_slice.ensures, c.in_ok-found.ensures) in
    let P : List Mark → Type 0 = λ z. EndsWith (reading (message max_depth max_rows max_statements) z) c.whole.result in
    let w = subst P e c.whole.ensures in
    record { found = found_is _ _ w; only = only_is _ _ w }
