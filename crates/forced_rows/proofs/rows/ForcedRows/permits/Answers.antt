use Rattle.std.proofs.Common.{◌≤◌, ◌<◌, ℕ, arith, sym, subst}
use Rattle.std.specs.List.{Contains}
use Rattle.forced_rows.proofs.StarLists.{all_from_contains}
use Rattle.history_core.specs.Events.{begun}
use Rattle.history_core.proofs.Offers.{writer_bounded}
use Rattle.history_core.specs.Chronicle.{Chronicle, IsFormedChronicle}
use Rattle.history_core.proofs.Prefixes.{sound_of}
use Rattle.further_reads.specs.Further.{Sees, SeesWith}
use Rattle.forced_rows.proofs.Candidates.{closure_of, plain_decided}
use Rattle.forced_rows.proofs.rows.ForcedRows.permits.Goals as goal

pub brings_news-requires-clause-source : goal.brings_news-requires-clause-source
brings_news-requires-clause-source c =
    let h = writer_bounded c.args.history.now.events c.args.source c.args.cell.now c.requires.writes in
    let small : c.args.source ≤ begun c.args.history.now.events = omega arith in
    subst (λ (h : Chronicle). c.args.source ≤ begun h.events) (sym c.history-2.ensures) small

pub is_overtaken-requires-clause-number : goal.is_overtaken-requires-clause-number
is_overtaken-requires-clause-number c =
    let h = writer_bounded c.args.history.now.events c.args.source c.args.cell.now c.requires.writes in
    let size = c.requires.kept.size in let few = c.size-size.ensures.few in omega arith

pub is_overtaken-requires-clause-seen : goal.is_overtaken-requires-clause-seen
is_overtaken-requires-clause-seen c =
    let size = c.requires.kept.size in
    let below = λ (n : ℕ) (member : Contains c.args.overtaken.now.seen.items n).
    let h = writer_bounded c.args.history.now.events n c.args.cell.now ((c.requires.overtaken.are n).0 member).1 in
    let small : n < c.args.self.now.reach.size = omega arith in small
    in
    all_from_contains (λ m. m < c.args.self.now.reach.size) c.args.overtaken.now.seen.items below

pub returns : goal.returns
returns c =
    let events = c.args.history.now.events in
    let reader = c.args.reader in
    let pairs = c.args.self.now.reach.pairs in
    let formed = (subst IsFormedChronicle c.history.ensures c.events-events.ensures.formed).formed in
    let old = subst (λ (h : Chronicle). (n : ℕ) → SeesWith reader.level h.events reader.number c.args.source n → Sees reader.level h.events reader.number n)
    c.history-2.ensures (c.brings_news.ensures c.if-brings_news.false) in
    plain_decided events reader c.args.cell.now c.args.source pairs c.args.overtaken.now.seen.items c.is_overtaken.result (sound_of c.args.history.now.initial events formed)
    c.requires.reader c.requires.writes (closure_of events c.args.self.now c.requires.kept c.size-size.ensures.in_range) c.size-size.ensures.acyclic
    c.requires.overtaken.are old c.is_overtaken.ensures
