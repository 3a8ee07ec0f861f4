use Rattle.std.proofs.Common.{◌∙◌, sym}
use Rattle.history_log.proofs.WholeEvents.{event_from, no_event_word, no_event_words}
use Rattle.history_log.proofs.line_event.read_event.Goals as goal

pub returns-in_default : goal.returns-in_default
returns-in_default c = no_event_words c.args.version c.args.head c.args.line.now (sym c.new-words.ensures ∙ c.in_default.ensures.none)

pub returns-in_default-keyword_of : goal.returns-in_default-keyword_of
returns-in_default-keyword_of c = no_event_word c.args.version c.args.head c.args.line.now c.in-Some.word.now c.next.new.self (sym c.new-words.ensures ∙ c.in-Some.ensures.some) c.in_default-keyword_of.ensures

pub returns : goal.returns
returns c = event_from c.args.version c.args.head c.args.line.now c.in-Some-keyword_of.keyword c.in-Some.word.now c.next.new.self _ (sym c.new-words.ensures ∙ c.in-Some.ensures.some)
    c.in-Some-keyword_of.ensures c.event_of.ensures
