-- What a book sees once others have added to its history, and what it then adds itself.
use Rattle.std.proofs.Common.{◌≡◌, ◌≢◌, ℕ, List, [], ◌∷◌, ◌++◌, refl, sym, ◌∙◌, ap, subst, append_assoc}
use Rattle.std.specs.Prelude.{All}
use Rattle.std.proofs.lemmas.List.{append-nil}
use Rattle.std.proofs.lemmas.List.Elements.{All-nil, All-append}
use Rattle.sql_tree.specs.declared.table.Table.{Table}
use Rattle.history_core.specs.declared.event.Event.{Event}
use Rattle.history_core.specs.Events.{session_in}
use Rattle.history_core.specs.Chronicle.{Chronicle}
use Rattle.history_book.specs.Book.{Past, SessionState, session_of, GoesOn, Adds}

-- nothing has gone on
pub goes_same : (p : Past) → GoesOn p p
goes_same p = record {
  level = refl;
  initial = refl;
  others = [];
  seen = sym (append-nil p.seen.events);
  foreign = All-nil (λ (e : Event). session_in e ≢ session_of p.state);
  more = [];
  tables = sym (append-nil p.seen.tables);
  own = refl;
  state = refl;
}

-- others go on, and go on again
pub goes_later : (p m q : Past) → GoesOn p m → GoesOn m q → GoesOn p q
goes_later p m q g h = record {
  level = h.level ∙ g.level;
  initial = h.initial ∙ g.initial;
  others = g.others ++ h.others;
  seen = h.seen ∙ ap (λ (x : List Event). x ++ h.others) g.seen ∙ append_assoc p.seen.events g.others h.others;
  foreign = All-append (λ (x : Event). session_in x ≢ session_of p.state) g.others h.others g.foreign
      (subst (λ (s : SessionState). All (λ (x : Event). session_in x ≢ session_of s) h.others) g.state h.foreign);
  more = g.more ++ h.more;
  tables = h.tables ∙ ap (λ (x : List Table). x ++ h.more) g.tables ∙ append_assoc p.seen.tables g.more h.more;
  own = h.own ∙ g.own;
  state = h.state ∙ g.state;
}

-- others go on, none of them in the session of the event that is then added
pub adds_later : (p m q : Past) (e : Event) (g : GoesOn p m) → All (λ (x : Event). session_in x ≢ session_in e) g.others → Adds m e q → Adds p e q
adds_later p m q e g foreign h = record {
  level = h.level ∙ g.level;
  initial = h.initial ∙ g.initial;
  others = g.others ++ h.others;
  seen = h.seen ∙ ap (λ (x : List Event). x ++ h.others ++ e ∷ []) g.seen
      ∙ ap (λ (x : List Event). x ++ e ∷ []) (append_assoc p.seen.events g.others h.others);
  foreign = All-append (λ (x : Event). session_in x ≢ session_in e) g.others h.others foreign h.foreign;
  more = g.more ++ h.more;
  tables = h.tables ∙ ap (λ (x : List Table). x ++ h.more) g.tables ∙ append_assoc p.seen.tables g.more h.more;
  own = h.own ∙ ap (λ (x : List Event). x ++ e ∷ []) g.own;
}

-- the past that sees this
pub past_is : (p : Past) (seen : Chronicle) (own : List Event) (state : SessionState) → p.seen ≡ seen → p.own ≡ own → p.state ≡ state →
    p ≡ (record { seen = seen; own = own; state = state })
past_is p seen own state seen_is own_is state_is =
    ap (λ (x : Chronicle). record { seen = x; own = p.own; state = p.state }) seen_is
    ∙ ap (λ (x : List Event). record { seen = seen; own = x; state = p.state }) own_is
    ∙ ap (λ (x : SessionState). record { seen = seen; own = own; state = x }) state_is

-- the event's session is that of the book
pub adds_in : (p m q : Past) (e : Event) (g : GoesOn p m) → session_in e ≡ session_of m.state → Adds m e q → Adds p e q
adds_in p m q e g same h =
    adds_later p m q e g
    (subst (λ (n : ℕ). All (λ (x : Event). session_in x ≢ n) g.others) (sym (same ∙ ap session_of g.state)) g.foreign) h
