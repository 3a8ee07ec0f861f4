use Rattle.std.proofs.Common.{rules, ◌≡◌, ◌%◌, ◌+◌, ◌++◌, ◌<◌, List, ℕ, length, get_or, take, drop, refl, sym, ◌∙◌, ap, subst, Some}
use Rattle.std.specs.List.{slice_get, remove}
use Rattle.std.proofs.Math.Nat.{mod-lt}
use Rattle.std.proofs.lemmas.Option.{slice_get-get_or}
use Rattle.session_hall.specs.declared.client.Stepped.{Stepped}
use Rattle.session_hall.specs.declared.client.Stepped.TheVariants.{Called, Ended}
use Rattle.sim_command.specs.Playing.{Goes, IsStepOf, IsPicked}
use Rattle.sim_command.proofs.Plays.{plays_less}
use Rattle.sim_command.proofs.playing.step_picked.Goals as goal

pub returns-in-Called-clause-ok : goal.returns-in-Called-clause-ok
returns-in-Called-clause-ok c =
    let k : ℕ = c.index.result.now in
    let going : List ℕ = c.args.going.now.items in
    let at : ℕ = c.args.word % length going in
    let picked : slice_get going at ≡ Some k =
    slice_get-get_or going at k (mod-lt c.args.word c.requires.some)
    ∙ ap (λ (n : ℕ). Some n) (ap (λ (n : ℕ). get_or going (c.args.word % n) k) (sym (c.len.ensures ∙ c.args.going.now.ok.0)) ∙ sym c.index.ensures) in
    let ok = subst (λ (s : Stepped). Goes (IsStepOf k s) c.args.left.now c.args.hall.now c.step.new.left c.step.new.hall) c.in-Called.is c.in_ok-step.ensures.ok in
    plays_less (IsStepOf k Called) (IsPicked c.args.word going going)
    (λ picks is. record { pick = record { client = k; stepped = Called }; is = is; picked = picked; left_is = refl })
    c.args.left.now c.step.new.left c.args.hall.now c.step.new.hall ok

pub returns-in-Ended-clause-ok : goal.returns-in-Ended-clause-ok
returns-in-Ended-clause-ok c =
    let k : ℕ = c.index.result.now in
    let going : List ℕ = c.args.going.now.items in
    let at : ℕ = c.args.word % length going in
    let picked : slice_get going at ≡ Some k =
    slice_get-get_or going at k (mod-lt c.args.word c.requires.some)
    ∙ ap (λ (n : ℕ). Some n) (ap (λ (n : ℕ). get_or going (c.args.word % n) k) (sym (c.len.ensures ∙ c.args.going.now.ok.0)) ∙ sym c.index.ensures) in
    let ok = subst (λ (s : Stepped). Goes (IsStepOf k s) c.args.left.now c.args.hall.now c.step.new.left c.step.new.hall) c.in-Ended.is c.in_ok-step.ensures.ok in
    plays_less (IsStepOf k Ended) (IsPicked c.args.word going c.remove.new.self.items)
    (λ picks is. record { pick = record { client = k; stepped = Ended }; is = is; picked = picked; left_is = c.remove.ensures.items ∙ ap (λ (n : ℕ). remove going (c.args.word % n)) (c.len.ensures ∙ c.args.going.now.ok.0) })
    c.args.left.now c.step.new.left c.args.hall.now c.step.new.hall ok
