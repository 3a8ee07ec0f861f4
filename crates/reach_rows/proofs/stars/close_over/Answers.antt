use Rattle.std.proofs.Common.{◌≡◌, ◌<◌, ℕ, List, [], length, get_or, refl, sym, ◌∙◌, subst, arith}
use Rattle.std.specs.List.{Contains}
use Rattle.std.proofs.lemmas.Bool.{false≢true}
use Rattle.std.proofs.lemmas.List.{get_or_default}
use Rattle.reach_rows.specs.declared.Star.{Star}
use Rattle.reach_rows.specs.Rows.{row_at}
use Rattle.reach_rows.proofs.Several.{trying_start, trying_more, trying_found, trying_none}
use Rattle.reach_rows.proofs.stars.close_over.Goals as goal

pub loop-k-init : goal.loop-k-init
loop-k-init c = trying_start c.args.stars.now c.args.befores.now c.requires.size

pub loop-k-preserved : goal.loop-k-preserved
loop-k-preserved c =
    let k : ℕ = c.loop-k.k in
    let befores : List (List ℕ) = c.loop-k.befores in
    let star : Star = get_or c.args.stars.now k c.index-stars-k.result in
    let size = c.loop-k.invariant.size in
    let within : k < length c.args.stars.now = c.loop-k-test.true in
    let is : star ≡ get_or c.args.stars.now k star = get_or_default c.args.stars.now k c.index-stars-k.result star within in
    let tested : get_or befores k c.index-befores-k.result ≡ row_at befores k =
    get_or_default befores k c.index-befores-k.result [] (omega arith) in
    let copied : get_or befores k c.index-befores-k-in-loop-k.result ≡ row_at befores k =
    get_or_default befores k c.index-befores-k-in-loop-k.result [] (omega arith) in
    let apart : Contains (row_at befores k) star.target → ⊥ = λ has.
    false≢true (sym c.if-has.false ∙ c.has.ensures.1 (subst (λ (r : List ℕ). Contains r star.target) (sym tested) has)) in
    trying_more c.args.stars.now c.args.befores.now befores c.carry_all.new.rows k star c.copy_from.new.self within is
    apart (c.copy_from.ensures ∙ copied) c.carry_all.ensures c.loop-k.invariant

pub returns-then-has : goal.returns-then-has
returns-then-has c =
    let k : ℕ = c.loop-k.k in
    let befores : List (List ℕ) = c.loop-k.befores in
    let star : Star = get_or c.args.stars.now k c.index-stars-k.result in
    let size = c.loop-k.invariant.size in
    let within : k < length c.args.stars.now = c.loop-k-test.true in
    let is : star ≡ get_or c.args.stars.now k star = get_or_default c.args.stars.now k c.index-stars-k.result star within in
    let tested : get_or befores k c.index-befores-k.result ≡ row_at befores k =
    get_or_default befores k c.index-befores-k.result [] (omega arith) in
    let back : Contains (row_at befores k) star.target =
    subst (λ (r : List ℕ). Contains r star.target) tested (c.has.ensures.0 c.if-has.true) in
    λ edges are acyclic. (
      λ _. trying_found c.args.stars.now c.args.befores.now befores k star within is back c.loop-k.invariant edges are acyclic,
      λ _. refl,
    )

pub returns : goal.returns
returns c = λ edges are acyclic. (
  λ is. absurd (false≢true is),
  λ cycle. absurd (trying_none c.args.stars.now c.args.befores.now c.loop-k.befores c.loop-k.k c.loop-k-test.false c.loop-k.invariant
      edges are acyclic cycle),
)
