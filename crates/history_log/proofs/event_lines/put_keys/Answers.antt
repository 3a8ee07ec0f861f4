use Rattle.history_log.specs.Spelling.{key_word}
use Rattle.history_log.specs.Reading.{FitsKey}
use Rattle.history_log.proofs.Said.{all_step}
use Rattle.history_log.proofs.Written.{words_step}
use Rattle.history_log.proofs.event_lines.put_keys.Goals as goal

pub loop-key-preserved : goal.loop-key-preserved
loop-key-preserved c = (
  words_step key_word c.args.keys.now c.loop-key.key-index c.key-item.result c.args.out.now.items c.loop-key.out.items c.put.new.out.items c.put_key.new.out.items
      c.loop-key-test.true c.key-item.is c.loop-key.invariant.0 c.in_ok-put.ensures c.in_ok-put_key.ensures.text,
  all_step FitsKey c.args.keys.now c.loop-key.key-index c.key-item.result c.loop-key-test.true c.key-item.is c.loop-key.invariant.1 c.in_ok-put_key.ensures.fits,
)
