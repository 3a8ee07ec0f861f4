use Rattle.history_core.specs.declared.event.Event.TheVariants.{Begin, Commit}
use Rattle.history_log.specs.Compact.{compact_read, compact_write, compact_own}
use Rattle.right_logs.specs.Endings.{IsTaken}
use Rattle.right_logs.proofs.Texts.{leading_first, begin_first, kept_where}
use Rattle.right_logs.proofs.lines.take_first.Goals as goal

pub returns-in-Some : goal.returns-in-Some
returns-in-Some c =
    kept_where (λ rest. IsTaken c.args.version c.args.level c.args.places.now.at.items c.args.text.now rest.now c.args.pass.now c.take_compact_read.new.pass)
    c.in_ok-goes.goes c.in-Some.rest c.then_some.result c.then_some.ensures
    (λ goes. record {
      event = compact_read c.in-Some.read;
      first = leading_first c.args.version c.args.level (compact_read c.in-Some.read) c.args.text.now c.in-Some.rest.now c.in-Some.ensures;
      goes = c.in_ok-goes.ensures goes;
    })

pub returns-in-Some-leading_write : goal.returns-in-Some-leading_write
returns-in-Some-leading_write c =
    kept_where (λ rest. IsTaken c.args.version c.args.level c.args.places.now.at.items c.args.text.now rest.now c.args.pass.now c.take_compact_write.new.pass)
    c.in_ok-goes-2.goes c.in-Some-leading_write.rest c.then_some-in-Some-leading_write.result c.then_some-in-Some-leading_write.ensures
    (λ goes. record {
      event = compact_write c.in-Some-leading_write.write;
      first = leading_first c.args.version c.args.level (compact_write c.in-Some-leading_write.write) c.args.text.now c.in-Some-leading_write.rest.now c.in-Some-leading_write.ensures;
      goes = c.in_ok-goes-2.ensures goes;
    })

pub returns-in-Some-leading_commit : goal.returns-in-Some-leading_commit
returns-in-Some-leading_commit c =
    kept_where (λ rest. IsTaken c.args.version c.args.level c.args.places.now.at.items c.args.text.now rest.now c.args.pass.now c.take_commit.new.pass)
    c.in_ok-goes-3.goes c.in-Some-leading_commit.rest c.then_some-in-Some-leading_commit.result c.then_some-in-Some-leading_commit.ensures
    (λ goes. record {
      event = Commit c.in-Some-leading_commit.session;
      first = leading_first c.args.version c.args.level (Commit c.in-Some-leading_commit.session) c.args.text.now c.in-Some-leading_commit.rest.now c.in-Some-leading_commit.ensures;
      goes = c.in_ok-goes-3.ensures goes;
    })

pub returns-in-Some-leading_begin : goal.returns-in-Some-leading_begin
returns-in-Some-leading_begin c =
    kept_where (λ rest. IsTaken c.args.version c.args.level c.args.places.now.at.items c.args.text.now rest.now c.args.pass.now c.take_begin.new.pass)
    c.in_ok-goes-4.goes c.in-Some-leading_begin.rest c.then_some-in-Some-leading_begin.result c.then_some-in-Some-leading_begin.ensures
    (λ goes. record {
      event = Begin c.in-Some-leading_begin.session c.in-Some-leading_begin.txn_level;
      first = begin_first c.args.version c.args.level (Begin c.in-Some-leading_begin.session c.in-Some-leading_begin.txn_level) c.args.text.now c.in-Some-leading_begin.rest.now c.in-Some-leading_begin.ensures;
      goes = c.in_ok-goes-4.ensures goes;
    })

pub returns-in-Some-leading_own : goal.returns-in-Some-leading_own
returns-in-Some-leading_own c =
    kept_where (λ rest. IsTaken c.args.version c.args.level c.args.places.now.at.items c.args.text.now rest.now c.args.pass.now c.take_compact_own.new.pass)
    c.in_ok-goes-5.goes c.in-Some-leading_own.rest c.then_some-in-Some-leading_own.result c.then_some-in-Some-leading_own.ensures
    (λ goes. record {
      event = compact_own c.in-Some-leading_own.own;
      first = leading_first c.args.version c.args.level (compact_own c.in-Some-leading_own.own) c.args.text.now c.in-Some-leading_own.rest.now c.in-Some-leading_own.ensures;
      goes = c.in_ok-goes-5.ensures goes;
    })
