use Rattle.std.proofs.Common.{◌≡◌, ℕ, List, [], ◌∷◌, ◌++◌, length, refl, ap, ◌∙◌}
use Rattle.reach_rows.specs.Rows.{pairs_of}
use Rattle.reach_rows.proofs.Pairs.{pairs_of-one}
use Rattle.reach_rows.proofs.Closing.{same_ancestry}
use Rattle.reach_rows.proofs.reach.Reach.new.Goals as goal

pub returns : goal.returns
returns c =
    let rows : c.push.new.self ≡ [] ∷ [] =
    c.in_ok-push.ensures.ok ∙ ap (λ (rows : List (List ℕ)). rows ++ [] ∷ []) c.new-rows.ensures in
    same_ancestry c.push.new.self 1 [] (ap length rows) (ap pairs_of rows ∙ pairs_of-one [] refl)
