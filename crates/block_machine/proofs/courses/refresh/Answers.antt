use Rattle.std.proofs.Common.{◌≡◌, ◌++◌, All, sym, subst}
use Rattle.std.specs.Prelude.{is_ok}
use Rattle.std.proofs.lemmas.List.Elements.{All-append}
use Rattle.sound_table.specs.Sound.{IsSound}
use Rattle.block_machine.specs.declared.stage.MessageStage.TheVariants as stages
use Rattle.block_machine.specs.Knowledge.{knowledge_in}
use Rattle.block_machine.proofs.Holding.{holding_some}
use Rattle.block_machine.proofs.Pursuing.{appended, appended_not, at_rest_some, known_tables, refresh_goes, refresh_short, joined_tables}
use Rattle.block_machine.proofs.courses.refresh.Goals as goal

pub returns-then-is_err-clause-goes : goal.returns-then-is_err-clause-goes
returns-then-is_err-clause-goes c = λ built.
    refresh_short c.args.block (knowledge_in c.args.known.now) c.args.tables _ c.short.result.stage c.short.result.out_of_memory built
    (known_tables (knowledge_in c.args.known.now) c.append.new.self.items
    (appended_not (is_ok c.append.result) c.is_err.result c.append.new.self.items (c.args.known.now.tables.items ++ c.into_vec-tables.result.items) c.args.known.now.tables.items c.append.ensures.items c.is_err.ensures.negation c.if-is_err.true))
    c.short.ensures.goes

pub returns-then-is_err-clause-some : goal.returns-then-is_err-clause-some
returns-then-is_err-clause-some c = λ built. holding_some built c.short.result.stage c.short.ensures.constant

pub returns-clause-goes : goal.returns-clause-goes
returns-clause-goes c = λ built.
    refresh_goes c.args.block (knowledge_in c.args.known.now) _ c.args.tables c.at_rest.result built
    (joined_tables (knowledge_in c.args.known.now) c.append.new.self.items c.args.tables
    (appended (is_ok c.append.result) c.is_err.result c.append.new.self.items c.args.known.now.tables.items c.into_vec-tables.result.items c.args.tables c.append.ensures.items c.is_err.ensures.negation c.if-is_err.false c.into_vec-tables.ensures))
    c.at_rest.ensures

pub returns-clause-tables : goal.returns-clause-tables
returns-clause-tables c =
    let joined : c.append.new.self.items ≡ c.args.known.now.tables.items ++ c.args.tables =
    appended (is_ok c.append.result) c.is_err.result c.append.new.self.items c.args.known.now.tables.items c.into_vec-tables.result.items c.args.tables c.append.ensures.items c.is_err.ensures.negation c.if-is_err.false c.into_vec-tables.ensures in
    subst (All IsSound) (sym joined) (All-append IsSound c.args.known.now.tables.items c.args.tables c.requires.sound c.requires.more)

pub returns-clause-some : goal.returns-clause-some
returns-clause-some c = λ built. at_rest_some c.at_rest.result (stages.Resting c.args.block) built c.at_rest.ensures tt
