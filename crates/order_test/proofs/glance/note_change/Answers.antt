use Rattle.std.proofs.Common.{arith, refl}
use Rattle.std.proofs.lemmas.Result.{on_ok_weaker}
use Rattle.order_test.proofs.PastSteps.{sound_from}
use Rattle.order_test.proofs.Taken.{last_bounded, source_bounded, source_apart}
use Rattle.order_test.proofs.Owners.{owner_pending}
use Rattle.order_test.proofs.GlanceLemmas.{glance_still, glance_begin, last_still, limits_still, limits_read, keeps_still, scans_push}
use Rattle.order_test.proofs.glance.note_change.Goals as goal

pub note_begin-requires-clause-last : goal.note_begin-requires-clause-last
note_begin-requires-clause-last c =
    let h = last_bounded c.args.before.now _ c.args.last c.requires.glance.of in let n = c.requires.glance.limits.count in omega arith

pub returns-in-Begin : goal.returns-in-Begin
returns-in-Begin c =
    on_ok_weaker c.note_begin.result
    (λ adds. rw c.in-Begin.is (glance_begin c.args.before.now (sound_from c.args.before.now c.requires.comes.settled) c.args.order.now c.args.places.now.at.items c.in-Begin.session
    c.in-Begin.level c.args.last c.args.glance.now c.note_begin.new.glance c.requires.places (rw c.in-Begin.is at c.requires.glance) adds))
    c.note_begin.ensures

pub raise_limit-requires-clause-reader : goal.raise_limit-requires-clause-reader
raise_limit-requires-clause-reader c =
    let h = last_bounded c.args.before.now _ c.args.last c.requires.glance.of in let n = c.requires.glance.limits.count in omega arith

pub raise_limit-requires-clause-source : goal.raise_limit-requires-clause-source
raise_limit-requires-clause-source c =
    let h = source_bounded c.args.before.now c.in-Read.source (rw c.in-Read.is at c.requires.comes.source) in let n = c.requires.glance.limits.count in omega arith

pub returns-in-Read : goal.returns-in-Read
returns-in-Read c =
    let sound = sound_from c.args.before.now c.requires.comes.settled in
    let source = rw c.in-Read.is at c.requires.comes.source in
    let noted = rw c.in-Read.is at c.requires.glance in
    let pending = owner_pending c.args.before.now sound c.in-Read.session c.args.last (rw c.in-Read.is at c.requires.comes.reader) noted.of in
    rw c.in-Read.is record {
      last = last_still c.args.before.now _ _ refl noted.within noted.last;
      owners = noted.owners;
      limits =
          limits_read c.args.before.now sound c.in-Read.session c.args.last c.in-Read.cell c.in-Read.source c.in-Read.count c.in-Read.word c.in-Read.value pending
          (source_apart c.args.before.now c.args.last c.in-Read.session c.in-Read.source pending source) (last_bounded c.args.before.now _ c.args.last noted.of)
          (source_bounded c.args.before.now c.in-Read.source source) c.args.glance.now.limits.items c.raise_limit.new.limits.items c.raise_limit.ensures noted.limits;
      keeps = λ h. keeps_still c.args.before.now _ c.args.order.now refl (noted.keeps h);
      scans = scans_push c.args.before.now _ c.args.glance.now.scans (λ scan. absurd scan) noted.scans;
    }

pub returns-in-Open : goal.returns-in-Open
returns-in-Open c = rw c.in-Open.is (glance_still c.args.before.now c.args.order.now _ c.args.last c.args.glance.now tt (λ scan. scan) (rw c.in-Open.is at c.requires.glance))

pub returns-in-Close : goal.returns-in-Close
returns-in-Close c = rw c.in-Close.is (glance_still c.args.before.now c.args.order.now _ c.args.last c.args.glance.now tt (λ scan. scan) (rw c.in-Close.is at c.requires.glance))

pub returns-in-Define : goal.returns-in-Define
returns-in-Define c = rw c.in-Define.is (glance_still c.args.before.now c.args.order.now _ c.args.last c.args.glance.now tt (λ scan. scan) (rw c.in-Define.is at c.requires.glance))

pub returns-in-Look : goal.returns-in-Look
returns-in-Look c = rw c.in-Look.is (glance_still c.args.before.now c.args.order.now _ c.args.last c.args.glance.now tt (λ scan. scan) (rw c.in-Look.is at c.requires.glance))

pub returns-in-Scan : goal.returns-in-Scan
returns-in-Scan c =
    let noted = rw c.in-Scan.is at c.requires.glance in
    rw c.in-Scan.is record {
      last = last_still c.args.before.now _ _ refl noted.within noted.last;
      owners = noted.owners;
      limits = limits_still c.args.before.now _ _ tt noted.limits;
      keeps = λ h. keeps_still c.args.before.now _ c.args.order.now refl (noted.keeps h);
      scans = λ k event at scan. refl;
    }

pub returns-in-Own : goal.returns-in-Own
returns-in-Own c = rw c.in-Own.is (glance_still c.args.before.now c.args.order.now _ c.args.last c.args.glance.now tt (λ scan. scan) (rw c.in-Own.is at c.requires.glance))

pub returns-in-Write : goal.returns-in-Write
returns-in-Write c = rw c.in-Write.is (glance_still c.args.before.now c.args.order.now _ c.args.last c.args.glance.now tt (λ scan. scan) (rw c.in-Write.is at c.requires.glance))

pub returns-in-Commit : goal.returns-in-Commit
returns-in-Commit c = rw c.in-Commit.is (glance_still c.args.before.now c.args.order.now _ c.args.last c.args.glance.now tt (λ scan. scan) (rw c.in-Commit.is at c.requires.glance))

pub returns-in-Rollback : goal.returns-in-Rollback
returns-in-Rollback c = rw c.in-Rollback.is (glance_still c.args.before.now c.args.order.now _ c.args.last c.args.glance.now tt (λ scan. scan) (rw c.in-Rollback.is at c.requires.glance))

pub returns-in-Show : goal.returns-in-Show
returns-in-Show c = rw c.in-Show.is (glance_still c.args.before.now c.args.order.now _ c.args.last c.args.glance.now tt (λ scan. scan) (rw c.in-Show.is at c.requires.glance))
