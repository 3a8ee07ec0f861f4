-- The first entries are those of the first sources.
use Rattle.std.proofs.Common.{◌≡◌, map, take}
use Rattle.std.proofs.lemmas.List.{take-map}
use Rattle.expr_typing.specs.Scope.{source}
use Rattle.select_typing.proofs.joins.condition.Goals as goal

pub returns : goal.returns
returns c =
    let e : take c.args.seen (map source c.args.scope.now)
    ≡ map source (take c.args.seen c.args.scope.now) = take-map source c.args.seen c.args.scope.now in
    rw e c.typed_flag.ensures.typed
