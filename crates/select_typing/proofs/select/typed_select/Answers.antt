-- The entries of FROM are as many and as narrow as the parts ask, and the typed SELECT is the one of the parts.
use Rattle.std.proofs.Common.{◌≡◌, ◌∙◌, sym, ap, map, Ok, Err, subst, rules, arith}
use Rattle.std.proofs.lemmas.Grind.{common_steps}
use Rattle.typing_rules.specs.declared.place.Place.{Place}
use Rattle.typing_rules.specs.Select.{entry_sources, has_aggregate}
use Rattle.expr_typing.specs.Scope.{sources}
use Rattle.select_typing.specs.Entries.{entries, seen}
use Rattle.typing_rules.specs.Gives.{GivesBy}
use Rattle.select_typing.specs.Parts.{select_parts, parts_of, whole, is_group}
use Rattle.select_typing.proofs.NarrowEntries.{scope_many, scope_narrow, sources_seen}
use Rattle.select_typing.proofs.Whole.{select_ok, select_failed, group_is}
use Rattle.select_typing.proofs.select.typed_select.Goals as goal

pub parts_of-requires-clause-as_many : goal.parts_of-requires-clause-as_many
parts_of-requires-clause-as_many c =
    let scope : c.as_slice-3.result.now ≡ map seen c.as_slice-2.result.now = c.as_slice-3.ensures ∙ c.in_ok-scope.ensures in
    let es : c.as_slice-2.result.now ≡ c.in_ok-entries.entries = c.as_slice-2.ensures in
    rw (scope, es) (scope_many c.args.tables.now c.args.select.now.from c.in_ok-entries.entries c.requires
    (rw c.as_slice.ensures at c.in_ok-entries.ensures))

pub parts_of-requires-clause-narrow : goal.parts_of-requires-clause-narrow
parts_of-requires-clause-narrow c =
    let scope : c.as_slice-3.result.now ≡ map seen c.as_slice-2.result.now = c.as_slice-3.ensures ∙ c.in_ok-scope.ensures in
    let es : c.as_slice-2.result.now ≡ c.in_ok-entries.entries = c.as_slice-2.ensures in
    rw (scope, es) (scope_narrow c.args.tables.now c.args.select.now.from c.in_ok-entries.entries c.requires
    (rw c.as_slice.ensures at c.in_ok-entries.ensures))

pub whole-requires : goal.whole-requires
whole-requires c =
    let es : c.as_slice-4.result.now ≡ c.in_ok-entries.entries = c.as_slice-4.ensures in
    rw es (scope_narrow c.args.tables.now c.args.select.now.from c.in_ok-entries.entries c.requires
    (rw c.as_slice.ensures at c.in_ok-entries.ensures))

pub returns-in_err-parts : goal.returns-in_err-parts
returns-in_err-parts c =
    let scope : c.as_slice-3.result.now ≡ map seen c.in_ok-entries.entries = c.as_slice-3.ensures ∙ c.in_ok-scope.ensures
    ∙ ap (map seen) c.as_slice-2.ensures in
    let shown : sources c.as_slice-3.result.now ≡ entry_sources (entries c.in_ok-entries.entries) = ap sources scope
    ∙ sources_seen c.in_ok-entries.entries in
    let e = select_failed c.args.tables.now c.args.select.now (entries c.in_ok-entries.entries) (sources c.as_slice-3.result.now)
    c.in_err-parts.field-0.0
    (rw c.as_slice.ensures at c.in_ok-entries.ensures) shown
    (subst (λ (at : Place). GivesBy select_parts (parts_of (sources c.as_slice-3.result.now) c.args.select.now at) (Err c.in_err-parts.field-0.0))
    c.place_of-place.ensures c.in_err-parts.ensures) in
    first_of (search (rules, e), grind (arith, common_steps, e))

pub returns : goal.returns
returns c =
    let scope : c.as_slice-3.result.now ≡ map seen c.in_ok-entries.entries = c.as_slice-3.ensures ∙ c.in_ok-scope.ensures
    ∙ ap (map seen) c.as_slice-2.ensures in
    let shown : sources c.as_slice-3.result.now ≡ entry_sources (entries c.in_ok-entries.entries) = ap sources scope
    ∙ sources_seen c.in_ok-entries.entries in
    let e = select_ok c.args.tables.now c.args.select.now (entries c.in_ok-entries.entries) (sources c.as_slice-3.result.now)
    (select_parts c.in_ok-parts.parts)
    (rw c.as_slice.ensures at c.in_ok-entries.ensures) shown (rw c.place_of-place.ensures at c.in_ok-parts.ensures) in
    let w : c.in_ok-whole.field-0
    ≡ whole (entries c.as_slice-4.result.now) c.args.select.now (is_group c.place_of-place.result) (select_parts c.in_ok-parts.parts) = c.in_ok-whole.ensures in
    let grouped : is_group c.place_of-place.result ≡ has_aggregate c.args.select.now = ap is_group c.place_of-place.ensures ∙ group_is (has_aggregate c.args.select.now) in
    e ∙ sym (ap Ok (rw (c.as_slice-4.ensures, grouped) at w))
