use Rattle.std.proofs.Common.{◌≡◌, Some, length, refl, sym, ◌∙◌, ap}
use Rattle.std.proofs.lemmas.Option.{slice_get_read, slice_get_within}
use Rattle.history_core.specs.declared.event.Event.TheVariants.{Write}
use Rattle.history_core.specs.declared.event.Event.{Event}
use Rattle.history_core.specs.Relations.{LastWrites}
use Rattle.history_check.proofs.WriteLemmas.{last_is, last_unique}
use Rattle.history_check.proofs.sources.writes_value.Goals as goal

pub returns : goal.returns
returns c =
    let within = slice_get_within c.args.before.now c.args.place _ c.requires.write.is in
    let at = slice_get_read c.args.before.now (length c.args.before.now) c.args.place c.index-before-place.result refl within c.index-before-place.is in
    let both : Some (Write c.in-Write.session c.in-Write.cell c.in-Write.written) ≡ Some (Write c.requires.session c.args.cell.now c.requires.value) =
    ap (λ (e : Event). Some e) (sym c.in-Write.is) ∙ sym at ∙ c.requires.write.is
    in
    let value : c.in-Write.written ≡ c.requires.value = cc in
    let last : LastWrites c.args.before.now c.args.number c.args.cell.now c.requires.value =
    record { place = c.args.place; session = c.requires.session; write = c.requires.write; last = c.requires.last }
    in (
      λ h. last_is c.args.before.now c.args.number c.args.cell.now _ _ (sym value ∙ c.is_same.ensures.0 h) last,
      λ other. c.is_same.ensures.1 (value ∙ last_unique c.args.before.now c.args.number c.args.cell.now _ _ last other),
    )
