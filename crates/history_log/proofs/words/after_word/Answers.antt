use Rattle.history_log.proofs.LeadingLemmas.{word_more, word_whole}
use Rattle.history_log.proofs.words.after_word.Goals as goal

pub loop-byte-preserved : goal.loop-byte-preserved
loop-byte-preserved c = word_more c.args.text.now c.args.word.now c.loop-byte.byte-index c.loop-byte.rest.now c.in_ok-after.after.now c.loop-byte-test.true c.loop-byte.invariant c.in_ok-after.ensures

pub returns : goal.returns
returns c = word_whole c.args.text.now c.args.word.now c.loop-byte.byte-index c.loop-byte.rest.now c.loop-byte-test.false c.loop-byte.invariant
