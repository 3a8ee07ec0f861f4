-- What the totals stand for, row by row.
use Rattle.std.proofs.Common.{◌≡◌, List, [], ◌∷◌, ◌++◌, map, fold, Ok, Err, Result, refl, sym, ap, ◌∙◌, subst}
use Rattle.std.proofs.lemmas.List.Sums.{fold-append}
use Rattle.cell_base.specs.declared.sql_fault.SqlFault.{SqlFault}
use Rattle.cell_base.specs.declared.sql_fault.SqlFault.TheVariants.{State, Memory}
use Rattle.cell_base.specs.declared.sql_state.SqlState.{SqlState}
use Rattle.cell_base.specs.declared.value.Value.{Value}
use Rattle.sql_tree.specs.declared.typed_expr.TypedExpr.{TypedExpr}
use Rattle.typing_rules.specs.Outcome.{Outcome, and_then, all_of}
use Rattle.expr_eval.specs.Values.{Row}
use Rattle.row_meaning.specs.Groups as groups
use Rattle.row_meaning.specs.Groups.{calls_of, call_value, group_value, operand_values, group_values, total, not_null}
use Rattle.row_totals.specs.declared.calls.Call.{Call}
use Rattle.row_totals.specs.declared.tally.Tally.{Tally}
use Rattle.row_totals.specs.declared.totals.Totals.{Totals}
use Rattle.row_totals.specs.Tallies.{started, with_value, told}
use Rattle.row_totals.specs.Calls.{operand_value, meant, at_start, added_to, Leaves}
use Rattle.row_totals.specs.Filling.{all_filled}
use Rattle.row_totals.specs.Standing.{after, AreTallied, Stands, Adds}
use Rattle.row_totals.proofs.Rest.{all_snoc, all_fault}
use Rattle.row_totals.proofs.Told.{told_is}
use Rattle.row_totals.proofs.Fillings.{in_front, all_filled_is}

-- ---- before the first row

pub none_added : (cs : List Call) (calls : List groups.Call) → map meant cs ≡ map at_start calls → AreTallied [] cs calls
none_added [] [] h = tt
none_added [] (call ∷ calls) h = cc
none_added (c ∷ cs) [] h = cc
none_added (c ∷ cs) (call ∷ calls) h =
    let first : meant c ≡ at_start call = cc in
    let rest : map meant cs ≡ map at_start calls = cc in
    (ap (λ p. p.0) first, ap Ok (sym (ap (λ p. p.1) first)), none_added cs calls rest)

pub stands_first : (totals : Totals) (exprs : List TypedExpr) → map meant totals.calls.items ≡ map at_start (calls_of exprs) → Stands totals exprs []
stands_first totals exprs h = record { evaluated = ([], refl); tallied = none_added totals.calls.items (calls_of exprs) h }

-- ---- one row more

after_more : (call : groups.Call) (rows : List Row) (row : Row) (t : Tally) (v : Value) → after call rows ≡ Ok t → call.operand row ≡ Ok v → after call (rows ++ row ∷ []) ≡ Ok (with_value t v)
after_more call rows row t v h e = by (all_of (map call.operand rows)) refl h
  where
    by : (o : Outcome (List Value)) → all_of (map call.operand rows) ≡ o → and_then o (λ values. Ok (fold with_value (started call.kind call.function) values)) ≡ Ok t → after call (rows ++ row ∷ []) ≡ Ok (with_value t v)
    by (Err code) k g = cc
    by (Ok vs) k g =
        let kept : fold with_value (started call.kind call.function) vs ≡ t = cc in
        ap (λ o. and_then o (λ values. Ok (fold with_value (started call.kind call.function) values))) (all_snoc call.operand rows row vs v k e)
        ∙ ap Ok (fold-append with_value (started call.kind call.function) vs (v ∷ []) ∙ ap (λ s. with_value s v) kept)

-- a call with one row more, given what its operand comes to
abbrev with_operand : Call → Outcome Value → Outcome Call
with_operand c o = and_then o (λ v. Ok (record { operand = c.operand; tally = with_value c.tally v }))

-- what one row more makes of the calls, and what their operands come to in it
pub record OneMore (rows : List Row) (row : Row) (cs : List Call) (calls : List groups.Call) (new : Outcome (List Call)) (values : Outcome (List Value)) : Type 0 where
  pub ok : (ds : List Call) → new ≡ Ok ds → AreTallied (rows ++ row ∷ []) ds calls × ((vs : List Value) × (values ≡ Ok vs))
  pub fault : (code : SqlState) → new ≡ Err code → values ≡ Err code

more_by : (rows : List Row) (row : Row) (c : Call) (call : groups.Call) (cs : List Call) (calls : List groups.Call) → operand_value c.operand ≡ call.operand → after call rows ≡ Ok c.tally
    → (new : Outcome (List Call)) (values : Outcome (List Value)) → OneMore rows row cs calls new values → (o : Outcome Value) → call.operand row ≡ o
    → OneMore rows row (c ∷ cs) (call ∷ calls) (and_then (with_operand c o) (λ d. and_then new (λ ds. Ok (d ∷ ds)))) (and_then o (λ v. and_then values (λ vs. Ok (v ∷ vs))))
more_by rows row c call cs calls same kept new values more (Err code) e = record { ok = λ ds h. cc; fault = λ other h. cc }
more_by rows row c call cs calls same kept (Err code) values more (Ok v) e =
    let none : values ≡ Err code = more.fault code refl in
    record { ok = λ ds h. cc; fault = λ other h. ap (λ os. and_then os (λ vs. Ok (v ∷ vs))) none ∙ cc }
more_by rows row c call cs calls same kept (Ok ds) values more (Ok v) e =
    let rest = more.ok ds refl in
    record {
      ok = λ all h.
          let is : record { operand = c.operand; tally = with_value c.tally v } ∷ ds ≡ all = cc in (
            subst (λ all. AreTallied (rows ++ row ∷ []) all (call ∷ calls)) is (same, after_more call rows row c.tally v kept e, rest.0),
            (v ∷ rest.1.0, ap (λ os. and_then os (λ vs. Ok (v ∷ vs))) rest.1.1),
          );
      fault = λ other h. cc;
    }

pub one_more : (rows : List Row) (row : Row) (cs : List Call) (calls : List groups.Call) → AreTallied rows cs calls → OneMore rows row cs calls (all_of (map (added_to row) cs)) (operand_values calls row)
one_more rows row [] [] h = record { ok = λ ds g. let none : [] ≡ ds = cc in (subst (λ es. AreTallied (rows ++ row ∷ []) es []) none tt, ([], refl)); fault = λ code g. cc }
one_more rows row [] (call ∷ calls) h = absurd h
one_more rows row (c ∷ cs) [] h = absurd h
one_more rows row (c ∷ cs) (call ∷ calls) h =
    subst (λ o. OneMore rows row (c ∷ cs) (call ∷ calls) (and_then (with_operand c o) (λ d. and_then (all_of (map (added_to row) cs)) (λ ds. Ok (d ∷ ds)))) (operand_values (call ∷ calls) row))
    (sym (ap (λ (f : Row → Outcome Value). f row) h.0))
    (more_by rows row c call cs calls h.0 h.1 (all_of (map (added_to row) cs)) (operand_values calls row) (one_more rows row cs calls h.2) (call.operand row) refl)

evaluated_fault : (exprs : List TypedExpr) (rows more : List Row) (row : Row) (values : List (List Value)) (code : SqlState)
    → all_of (map (operand_values (calls_of exprs)) rows) ≡ Ok values → operand_values (calls_of exprs) row ≡ Err code → group_values exprs (rows ++ row ∷ more) ≡ Err code
evaluated_fault exprs rows more row values code h e =
    ap (λ o. and_then o (λ evaluated.
    and_then (all_of (map (λ call. call_value call (rows ++ row ∷ more)) (calls_of exprs))) (λ totals. all_of (map (λ e. group_value e (rows ++ row ∷ more)) exprs))))
    (all_fault (operand_values (calls_of exprs)) rows row more values code h e)

pub adds : (r : Result (Unit {0}) SqlFault) (old new : Totals) (exprs : List TypedExpr) (rows : List Row) (row : Row) → Stands old exprs rows → Leaves r new.calls.items (all_of (map (added_to row) old.calls.items)) → Adds r new exprs rows row
adds (Ok u) old new exprs rows row s h =
    let all = (one_more rows row old.calls.items (calls_of exprs) s.tallied).ok new.calls.items h in
    record {
      evaluated = (s.evaluated.0 ++ all.1.0 ∷ [], all_snoc (operand_values (calls_of exprs)) rows row s.evaluated.0 all.1.0 s.evaluated.1 all.1.1);
      tallied = all.0;
    }
adds (Err (State code)) old new exprs rows row s h =
    λ more. evaluated_fault exprs rows more row s.evaluated.0 code s.evaluated.1 ((one_more rows row old.calls.items (calls_of exprs) s.tallied).fault code h)
adds (Err Memory) old new exprs rows row s h = tt

-- ---- after the last row

told_call : (call : groups.Call) (rows : List Row) (t : Tally) → after call rows ≡ Ok t → told t ≡ call_value call rows
told_call call rows t h = by (all_of (map call.operand rows)) h
  where
    by : (o : Outcome (List Value)) → and_then o (λ values. Ok (fold with_value (started call.kind call.function) values)) ≡ Ok t → told t ≡ and_then o (λ values. total call.kind call.function (not_null values))
    by (Err code) g = cc
    by (Ok vs) g =
        let kept : fold with_value (started call.kind call.function) vs ≡ t = cc in
        ap told (sym kept) ∙ told_is call.kind call.function vs

pub told_calls : (rows : List Row) (cs : List Call) (calls : List groups.Call) → AreTallied rows cs calls → map (λ c. told c.tally) cs ≡ map (λ call. call_value call rows) calls
told_calls rows [] [] h = refl
told_calls rows [] (call ∷ calls) h = absurd h
told_calls rows (c ∷ cs) [] h = absurd h
told_calls rows (c ∷ cs) (call ∷ calls) h = λ i. told_call call rows c.tally h.1 i ∷ told_calls rows cs calls h.2 i

-- all have a value: they are these values
values_are : (os : List (Outcome Value)) (vs : List Value) → all_of os ≡ Ok vs → map Ok vs ≡ os
values_are [] [] h = refl
values_are [] (v ∷ vs) h = cc
values_are (o ∷ os) vs h = by (values_are os) o (all_of os) refl h
  where
    by : ((vs : List Value) → all_of os ≡ Ok vs → map Ok vs ≡ os) → (p : Outcome Value) (ps : Outcome (List Value)) → all_of os ≡ ps → and_then p (λ w. and_then ps (λ ws. Ok (w ∷ ws))) ≡ Ok vs → map Ok vs ≡ p ∷ os
    by more (Err code) ps k g = cc
    by more (Ok w) (Err code) k g = cc
    by more (Ok w) (Ok ws) k g =
        let is : w ∷ ws ≡ vs = cc in
        ap (map Ok) (sym is) ∙ ap (λ us. Ok w ∷ us) (more ws k)

nothing_after : (os : List (Outcome Value)) → os ++ [] ≡ os
nothing_after [] = refl
nothing_after (o ∷ os) = ap (λ us. o ∷ us) (nothing_after os)

finished : (exprs : List TypedExpr) (rows : List Row) (totals : Totals) (vs : List Value) → Stands totals exprs rows → all_of (map (λ c. told c.tally) totals.calls.items) ≡ Ok vs → all_filled exprs (map Ok vs) ≡ group_values exprs rows
finished exprs rows totals vs s h =
    let calls : map (λ c. told c.tally) totals.calls.items ≡ map (λ call. call_value call rows) (calls_of exprs) = told_calls rows totals.calls.items (calls_of exprs) s.tallied in
    let all : all_of (map (λ call. call_value call rows) (calls_of exprs)) ≡ Ok vs = ap all_of (sym calls) ∙ h in
    let front : map Ok vs ≡ in_front rows (calls_of exprs) [] = values_are _ vs all ∙ sym (nothing_after (map (λ call. call_value call rows) (calls_of exprs))) in
    ap (all_filled exprs) front ∙ all_filled_is rows exprs []
    ∙ sym (ap (λ o. and_then o (λ evaluated. and_then (all_of (map (λ call. call_value call rows) (calls_of exprs))) (λ totals. all_of (map (λ e. group_value e rows) exprs)))) s.evaluated.1
    ∙ ap (λ o. and_then o (λ totals. all_of (map (λ e. group_value e rows) exprs))) all)

finished_fault : (exprs : List TypedExpr) (rows : List Row) (totals : Totals) (code : SqlState) → Stands totals exprs rows → all_of (map (λ c. told c.tally) totals.calls.items) ≡ Err code → group_values exprs rows ≡ Err code
finished_fault exprs rows totals code s h =
    let calls : map (λ c. told c.tally) totals.calls.items ≡ map (λ call. call_value call rows) (calls_of exprs) = told_calls rows totals.calls.items (calls_of exprs) s.tallied in
    ap (λ o. and_then o (λ evaluated. and_then (all_of (map (λ call. call_value call rows) (calls_of exprs))) (λ totals. all_of (map (λ e. group_value e rows) exprs)))) s.evaluated.1
    ∙ ap (λ o. and_then o (λ totals. all_of (map (λ e. group_value e rows) exprs))) (ap all_of (sym calls) ∙ h)

pub finish_is : (exprs : List TypedExpr) (rows : List Row) (totals : Totals) → Stands totals exprs rows → and_then (all_of (map (λ c. told c.tally) totals.calls.items)) (λ vs. all_filled exprs (map Ok vs)) ≡ group_values exprs rows
finish_is exprs rows totals s = by (all_of (map (λ (c : Call). told c.tally) totals.calls.items)) refl
  where
    by : (o : Outcome (List Value)) → all_of (map (λ (c : Call). told c.tally) totals.calls.items) ≡ o → and_then o (λ vs. all_filled exprs (map Ok vs)) ≡ group_values exprs rows
    by (Ok vs) h = finished exprs rows totals vs s h
    by (Err code) h = sym (finished_fault exprs rows totals code s h)
