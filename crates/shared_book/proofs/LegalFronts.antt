-- A front of a legal history is legal.
use Rattle.std.proofs.Common.{◌≡◌, ℕ, List, [], ◌∷◌, ◌++◌, length, map, take, refl, ap, sym, ◌∙◌, subst}
use Rattle.std.specs.List.{All}
use Rattle.std.proofs.lemmas.List.{map-append, length-map}
use Rattle.std.proofs.lemmas.List.Elements.{All-nil, All-cons, All-head, All-tail, filter_map-append}
use Rattle.cell_base.specs.declared.cell.Cell.{Cell}
use Rattle.cell_base.specs.declared.value.Value.{Value}
use Rattle.sql_tree.specs.declared.table.Table.{Table}
use Rattle.sound_table.specs.Sound.{IsSound}
use Rattle.history_core.specs.Events.{names, defined_name}
use Rattle.history_core.specs.Initial.{IsInitialState}
use Rattle.history_core.specs.Legal.{IsLegal}
use Rattle.history_core.specs.Chronicle.{Chronicle, IsLegalChronicle}
use Rattle.history_core.proofs.Taken.{legal_take}
use Rattle.shared_book.specs.Fronts.{IsFrontOf}

front_all : {X : Type 0} (P : X → Type 0) (xs ys : List X) → All P (xs ++ ys) → All P xs
front_all P [] ys all = All-nil P
front_all P (x ∷ xs) ys all = All-cons P x xs (All-head P x (xs ++ ys) all) (front_all P xs ys (All-tail P x (xs ++ ys) all))

take_front : {X : Type 0} (xs ys : List X) → take (length xs) (xs ++ ys) ≡ xs
take_front [] ys = refl
take_front (x ∷ xs) ys = ap (λ l. x ∷ l) (take_front xs ys)

-- two fronts of one length
same_fronts : {X : Type 0} (xs ys zs ws : List X) → xs ++ ys ≡ zs ++ ws → length xs ≡ length zs → xs ≡ zs
same_fronts xs ys zs ws is same =
    sym (take_front xs ys) ∙ ap (take (length xs)) is ∙ ap (λ (n : ℕ). take n (zs ++ ws)) same ∙ take_front zs ws

abbrev name_of : Table → List ℕ
name_of t = t.name

pub front_legal : (seen history : Chronicle) → IsFrontOf seen history → IsLegalChronicle history → IsLegalChronicle seen
front_legal seen history front legal = record {
  initial = subst IsInitialState (sym front.initial) legal.initial;
  legal = subst (λ (initial : List (Cell × Value)). IsLegal initial seen.events) (sym front.initial)
      (subst (IsLegal history.initial) (ap (take (length seen.events)) front.events ∙ take_front seen.events front.later)
      (legal_take history.initial history.events (length seen.events) legal.legal));
  tables = record {
    named = same_fronts (map name_of seen.tables) (map name_of front.more) (names seen.events) (names front.later)
        (sym (map-append name_of seen.tables front.more) ∙ ap (map name_of) (sym front.tables) ∙ legal.tables.named ∙ ap names front.events
        ∙ filter_map-append defined_name seen.events front.later)
        (length-map seen.tables name_of ∙ front.defined);
    sound = front_all IsSound seen.tables front.more (subst (All IsSound) front.tables legal.tables.sound);
  };
}
