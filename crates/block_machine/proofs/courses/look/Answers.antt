use Rattle.std.proofs.Common.{◌≡◌, ◌++◌, length, All, sym, subst, arith}
use Rattle.std.specs.Prelude.{is_ok}
use Rattle.std.proofs.lemmas.List.Elements.{All-append}
use Rattle.sound_table.specs.Sound.{IsSound}
use Rattle.block_machine.specs.Knowledge.{knowledge_in}
use Rattle.block_machine.proofs.Holding.{holding_some}
use Rattle.block_machine.proofs.Pursuing.{appended, appended_not, forgotten, known_tables, look_short}
use Rattle.block_machine.proofs.courses.look.Goals as goal

pub returns-then-is_err-clause-goes : goal.returns-then-is_err-clause-goes
returns-then-is_err-clause-goes c =
    look_short c.args.statement.now c.args.description c.args.block (knowledge_in c.args.known.now) c.args.tables _ c.short.result.stage c.short.result.out_of_memory c.args.built.now.items
    (known_tables (knowledge_in c.args.known.now) c.append.new.self.items
    (appended_not (is_ok c.append.result) c.is_err.result c.append.new.self.items (c.args.known.now.tables.items ++ c.into_vec-tables.result.items) c.args.known.now.tables.items c.append.ensures.items c.is_err.ensures.negation c.if-is_err.true))
    c.short.ensures.goes

pub returns-then-is_err-clause-some : goal.returns-then-is_err-clause-some
returns-then-is_err-clause-some c = holding_some c.args.built.now.items c.short.result.stage c.short.ensures.constant

pub returns-in-Ok-clause-tables : goal.returns-in-Ok-clause-tables
returns-in-Ok-clause-tables c =
    let joined : c.append.new.self.items ≡ c.args.known.now.tables.items ++ c.args.tables =
    appended (is_ok c.append.result) c.is_err.result c.append.new.self.items c.args.known.now.tables.items c.into_vec-tables.result.items c.args.tables c.append.ensures.items c.is_err.ensures.negation c.if-is_err.false c.into_vec-tables.ensures in
    subst (All IsSound) (sym joined) (All-append IsSound c.args.known.now.tables.items c.args.tables c.requires.sound c.requires.more)

pub returns-clause-goes : goal.returns-clause-goes
returns-clause-goes c =
    let joined : c.append.new.self.items ≡ c.args.known.now.tables.items ++ c.args.tables =
    appended (is_ok c.append.result) c.is_err.result c.append.new.self.items c.args.known.now.tables.items c.into_vec-tables.result.items c.args.tables c.append.ensures.items c.is_err.ensures.negation c.if-is_err.false c.into_vec-tables.ensures in
    let same : c.len-before.result ≡ length c.args.known.now.tables.items = omega (arith, c.len-before.ensures, c.args.known.now.tables.ok.0) in
    look_short c.args.statement.now c.args.description c.args.block (knowledge_in c.args.known.now) c.args.tables _ c.short-in-Err.result.stage c.short-in-Err.result.out_of_memory c.judge.new.built.items
    (known_tables (knowledge_in c.args.known.now) c.truncate.new.self.items
    (forgotten c.len-before.result c.truncate.new.self.items c.append.new.self.items c.args.known.now.tables.items c.args.tables c.truncate.ensures.items joined same))
    c.short-in-Err.ensures.goes

pub returns-clause-some : goal.returns-clause-some
returns-clause-some c = holding_some c.judge.new.built.items c.short-in-Err.result.stage c.short-in-Err.ensures.constant
