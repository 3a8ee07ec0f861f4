-- The options of `serve` are inside their ranges.
use Rattle.std.proofs.Common.{◌≤◌, ℕ, List, Option, None, Some, subst, sym, arith}
use Rattle.command_line.specs.declared.serve.ServeOptions.{ServeOptions}
use Rattle.command_line.specs.Numbers.{IsUpTo}
use Rattle.command_line.specs.Commands.{IsOr, IsServe}

up_to : (default most : ℕ) → default ≤ most → (text : Option (List ℕ)) (n : ℕ) → IsOr default (IsUpTo most) text n → n ≤ most
up_to default most least None n is = subst (λ (k : ℕ). k ≤ most) (sym is) least
up_to default most least (Some text) n is = is.within

pub serve_bounded : (args : List (List ℕ)) (options : ServeOptions) → IsServe args options → options.workers ≤ 64
serve_bounded args options is = up_to 16 64 (omega arith) _ options.workers is.2.numbers.workers_are
