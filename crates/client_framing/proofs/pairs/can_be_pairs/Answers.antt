use Rattle.std.proofs.Common.{◌≡◌, ◌≢◌, ℕ, List, [], length, ap, ◌∙◌, ◌==◌, true, false, refl}
use Rattle.client_framing.proofs.Bodies.{after_same, empty_tells, name_tells, value_tells, end_tells, nothing_tells, reads_pair}
use Rattle.client_framing.proofs.pairs.can_be_pairs.Goals as goal

is_some : (xs : List ℕ) → false ≡ (length xs == 0) → xs ≢ []
is_some xs h e = let f : false ≡ true = h ∙ ap (λ (x : List ℕ). length x == 0) e in cc

pub returns-then-is_empty : goal.returns-then-is_empty
returns-then-is_empty c =
    let at = c.loop-name.invariant in
    after_same (end_tells c.loop-name.room c.loop-name.rest.now c.in-Some.name.now c.in-Some.after.now c.in-Some.ensures.some (empty_tells c.in-Some.name.now c.if-is_empty.ensures) at.fits) at.same

pub returns-in_default-text_of : goal.returns-in_default-text_of
returns-in_default-text_of c =
    let at = c.loop-name.invariant in
    after_same
    (value_tells c.loop-name.room c.loop-name.rest.now c.in-Some.name.now c.in-Some.after.now c.in-Some.ensures.some (is_some c.in-Some.name.now c.if-is_empty.ensures) c.in-Some.ensures.no_zero
    (c.in_default-text_of.ensures.none refl) at.fits)
    at.same

pub loop-name-preserved : goal.loop-name-preserved
loop-name-preserved c =
    let at = c.loop-name.invariant in
    let r = reads_pair c.loop-name.room c.loop-name.rest.now c.in-Some.name.now c.in-Some-text_of.field-0-0.now c.in-Some.after.now c.in-Some-text_of.following.now c.in-Some.ensures.some
    c.in-Some-text_of.ensures.some (is_some c.in-Some.name.now c.if-is_empty.ensures) c.in-Some.ensures.no_zero c.in-Some-text_of.ensures.no_zero at.fits in
    record { fits = r.fits; same = after_same r.same at.same }

pub returns-then-is_empty-2 : goal.returns-then-is_empty-2
returns-then-is_empty-2 c =
    let at = c.loop-name.invariant in
    after_same (nothing_tells c.loop-name.room c.loop-name.rest.now _ (empty_tells c.loop-name.rest.now c.if-is_empty-2.ensures) c.has_room_for_end.ensures) at.same

pub returns : goal.returns
returns c =
    let at = c.loop-name.invariant in
    after_same (name_tells c.loop-name.room c.loop-name.rest.now (is_some c.loop-name.rest.now c.if-is_empty-2.ensures) (c.in_default.ensures.none refl) at.fits) at.same
