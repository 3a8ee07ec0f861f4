use Rattle.std.proofs.Common.{◌≡◌, drop, [], arith, refl, sym, ◌∙◌, false, true}
use Rattle.std.proofs.lemmas.List.{drop_all}
use Rattle.link_traits.proofs.Files.{has_path, has_other_path}
use Rattle.link_traits.proofs.host_file.file_at.Goals as goal

pub returns-then-is_same-clause-some : goal.returns-then-is_same-clause-some
returns-then-is_same-clause-some c =
    rw (c.as_slice.ensures) (c.loop-file.invariant ∙ has_path c.args.files.now c.args.path.now c.loop-file.file-index c.file-item.result c.loop-file-test.true (sym c.file-item.is) (c.if-is_same.ensures.0 refl))

pub loop-file-preserved : goal.loop-file-preserved
loop-file-preserved c =
    c.loop-file.invariant ∙ has_other_path c.args.files.now c.args.path.now c.loop-file.file-index c.file-item.result c.loop-file-test.true (sym c.file-item.is)
    (λ same. let bad : false ≡ true = c.if-is_same.ensures.1 same in absurd (cc))

pub returns-clause-none : goal.returns-clause-none
returns-clause-none c =
    let e : drop c.loop-file.file-index c.args.files.now ≡ [] = drop_all c.loop-file.file-index c.args.files.now (omega arith) in
    λ _. c.loop-file.invariant ∙ rw e refl
