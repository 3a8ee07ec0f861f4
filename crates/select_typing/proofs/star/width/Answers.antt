-- One entry more, and none left.
use Rattle.std.proofs.Common.{◌≡◌, ◌+◌, ◌-◌, ◌^◌, ◌∙◌, ap, min, length, drop, [], arith}
use Rattle.std.proofs.lemmas.List.{drop_all}
use Rattle.expr_typing.specs.Scope.{sources}
use Rattle.typing_rules.specs.Select.{star_outputs}
use Rattle.select_typing.proofs.Stars.{star_width, width_more, many_stars}
use Rattle.select_typing.proofs.star.width.Goals as goal

pub loop-entry-preserved : goal.loop-entry-preserved
loop-entry-preserved c =
    let n : c.len.result ≡ length c.entry-item.result.table.now.columns = c.len.ensures in
    let e : c.saturating_add-width.result ≡ min (c.loop-entry.width + length c.entry-item.result.table.now.columns) (2 ^ 64 - 1) = omega arith in
    record {
      fits = omega arith;
      counted = width_more c.args.scope.now c.loop-entry.entry-index c.entry-item.result c.loop-entry.width c.saturating_add-width.result
          (2 ^ 64 - 1) (omega arith) c.entry-item.is e
          ∙ c.loop-entry.invariant.counted;
    }

pub returns : goal.returns
returns c =
    let none : drop c.loop-entry.entry-index c.args.scope.now ≡ [] = drop_all c.loop-entry.entry-index c.args.scope.now (omega arith) in
    let nothing : star_width (sources (drop c.loop-entry.entry-index c.args.scope.now)) ≡ 0 = ap (λ es. star_width (sources es)) none in
    let all : length (star_outputs 0 (sources c.args.scope.now)) ≡ star_width (sources c.args.scope.now) = many_stars 0 (sources c.args.scope.now) in
    rw all (omega arith)
