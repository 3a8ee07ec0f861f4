use Rattle.std.proofs.Common.{◌∙◌, sym, ap}
use Rattle.history_log.specs.declared.cells.CellKind.TheVariants as kinds
use Rattle.history_log.specs.Spelling.{kind_word}
use Rattle.history_log.proofs.Misreads.{cell_after, no_kind, no_letter}
use Rattle.history_log.proofs.cells.cell_of.Goals as goal

pub returns-in_default : goal.returns-in_default
returns-in_default c = no_letter c.args.word.now (sym c.new-parts.ensures ∙ c.in_default.ensures.none)

pub returns-in-Some-Presence : goal.returns-in-Some-Presence
returns-in-Some-Presence c = cell_after kinds.Presence c.in-Some.letter.now c.next.new.self c.args.word.now _ (sym c.new-parts.ensures ∙ c.in-Some.ensures.some)
    (c.in-Some-Presence.ensures ∙ ap kind_word c.in-Some-Presence.field-0-is) c.presence_of.ensures

pub returns-in-Some-Field : goal.returns-in-Some-Field
returns-in-Some-Field c = cell_after kinds.Field c.in-Some.letter.now c.next.new.self c.args.word.now _ (sym c.new-parts.ensures ∙ c.in-Some.ensures.some)
    (c.in-Some-Field.ensures ∙ ap kind_word c.in-Some-Field.field-0-is) c.field_of.ensures

pub returns-in-None : goal.returns-in-None
returns-in-None c = no_kind c.in-Some.letter.now c.next.new.self c.args.word.now (sym c.new-parts.ensures ∙ c.in-Some.ensures.some) c.in-None.ensures
