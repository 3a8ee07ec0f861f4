-- An account that grew, and grew again.
use Rattle.std.proofs.Common.{◌≡◌, ℕ, ◌+◌, ◌<◌, ◌≤◌, List, [], ◌++◌, length, refl, sym, ◌∙◌, ap, subst, arith, append_assoc, length-append, Option, Some, None}
use Rattle.std.specs.Prelude.{All, IfSome}
use Rattle.std.proofs.lemmas.List.{append-nil}
use Rattle.std.proofs.lemmas.List.Elements.{All-nil, All-append}
use Rattle.sql_tree.specs.declared.table.Table.{Table}
use Rattle.history_core.specs.declared.event.Event.{Event}
use Rattle.history_core.specs.Events.{session_in, opened, is_open_event}
use Rattle.history_core.specs.Chronicle.{Chronicle}
use Rattle.history_core.proofs.Prefixes.{along}
use Rattle.graph_base.proofs.Places.{count_by-push}
use Rattle.block_machine.specs.Calls.{Call}
use Rattle.block_machine.specs.Script.{Entry}
use Rattle.session_core.specs.Told.{opened_in}
use Rattle.session_core.specs.Record.{events_of}
use Rattle.session_core.specs.Serve.{Account}
use Rattle.session_core.proofs.Flags.{opened-append}
use Rattle.session_hall.specs.Accounts.{Comes, KeepsNumber, Grew}
use Rattle.session_hall.proofs.Entries.{events-append, IsAlone}

pub comes_none : (history : Chronicle) → Comes history [] history
comes_none history = record {
  level = refl;
  initial = refl;
  seen = sym (append-nil history.events);
  more = [];
  tables = sym (append-nil history.tables);
}

comes_then : (a b c : Chronicle) (xs ys : List Event) → Comes a xs b → Comes b ys c → Comes a (xs ++ ys) c
comes_then a b c xs ys first second = record {
  level = second.level ∙ first.level;
  initial = second.initial ∙ first.initial;
  seen = second.seen ∙ ap (λ (es : List Event). es ++ ys) first.seen ∙ append_assoc a.events xs ys;
  more = first.more ++ second.more;
  tables = second.tables ∙ ap (λ (ts : List Table). ts ++ second.more) first.tables ∙ append_assoc a.tables first.more second.more;
}

opened_rises : (events es : List Event) → opened events ≤ opened (events ++ es)
opened_rises events es =
    along (λ (x : List Event). opened events ≤ opened x) (λ x e le. let more = count_by-push is_open_event x e in omega (arith, le, more)) events es
    (omega arith)

pub keeps_some : (n m : Option ℕ) (history : Chronicle) (s : ℕ) → n ≡ Some s → KeepsNumber n history m → m ≡ Some s
keeps_some (Some t) m history s is keeps = keeps ∙ is
keeps_some None m history s is keeps = absurd (cc is)

pub keeps_same : (n m : Option ℕ) (history : Chronicle) → m ≡ n → KeepsNumber n history m
keeps_same (Some s) m history same = same
keeps_same None m history same = subst (λ (o : Option ℕ). IfSome o (λ s. opened history.events < s)) (sym same) tt

above_later : (m : Option ℕ) (low high : ℕ) → low ≤ high → IfSome m (λ s. high < s) → IfSome m (λ s. low < s)
above_later None low high le above = tt
above_later (Some s) low high le above = omega (arith, le, above)

keeps_then : (l m n : Option ℕ) (a b : Chronicle) → opened a.events ≤ opened b.events → KeepsNumber l a m → KeepsNumber m b n → KeepsNumber l a n
keeps_then (Some s) m n a b le first second = keeps_some m n b s first second
keeps_then None None n a b le first second = above_later n (opened a.events) (opened b.events) le second
keeps_then None (Some s) n a b le first second = subst (λ (o : Option ℕ). IfSome o (λ t. opened a.events < t)) (sym second) first

owns_later : (m n : Option ℕ) (history : Chronicle) (es : List Event) → KeepsNumber m history n → All (λ (e : Event). m ≡ Some (session_in e)) es →
    All (λ (e : Event). n ≡ Some (session_in e)) es
owns_later m n history es keeps own k d within = keeps_some m n history _ (own k d within) keeps

pub grew_then : (a : Account) (h : Chronicle) (m : ℕ) (b : Account) (i : Chronicle) (n : ℕ) (c : Account) (j : Chronicle) → Grew a h m b i →
    Grew b i n c j → Grew a h (m + n) c j
grew_then a h m b i n c j first second =
    let events : events_of (first.added ++ second.added) ≡ events_of first.added ++ events_of second.added = events-append first.added second.added in
    let rises : opened h.events ≤ opened i.events =
    subst (λ (x : List Event). opened h.events ≤ opened x) (sym first.comes.seen) (opened_rises h.events (events_of first.added)) in
    record {
      heard = first.heard ++ second.heard;
      asked = first.asked ++ second.asked;
      added = first.added ++ second.added;
      said = first.said ++ second.said;
      taken = second.taken ∙ ap (λ (x : List ℕ). x ++ second.heard) first.taken ∙ append_assoc a.taken first.heard second.heard;
      calls = second.calls ∙ ap (λ (x : List Call). x ++ second.asked) first.calls ∙ append_assoc a.calls first.asked second.asked;
      count = omega (arith, length-append first.asked second.asked, first.count, second.count);
      entries = second.entries ∙ ap (λ (x : List Entry). x ++ second.added) first.entries ∙ append_assoc a.entries first.added second.added;
      sent = second.sent ∙ ap (λ (x : List ℕ). x ++ second.said) first.sent ∙ append_assoc a.sent first.said second.said;
      comes = subst (λ (x : List Event). Comes h x j) (sym events)
          (comes_then h i j (events_of first.added) (events_of second.added) first.comes second.comes);
      few = omega (arith, ap length events, length-append (events_of first.added) (events_of second.added), first.few, second.few);
      own = subst (λ (x : List Event). All (λ (e : Event). opened_in c.entries ≡ Some (session_in e)) x) (sym events)
          (All-append (λ (e : Event). opened_in c.entries ≡ Some (session_in e)) (events_of first.added) (events_of second.added)
          (owns_later (opened_in b.entries) (opened_in c.entries) i (events_of first.added) second.number first.own) second.own);
      number = keeps_then (opened_in a.entries) (opened_in b.entries) (opened_in c.entries) h i rises first.number second.number;
    }

-- no call was made
pub grew_alone : (a b : Account) (history : Chronicle) (heard : List ℕ) (added : List Entry) (said : List ℕ) → b.taken ≡ a.taken ++ heard →
    b.calls ≡ a.calls → b.entries ≡ a.entries ++ added → b.sent ≡ a.sent ++ said → IsAlone added → Grew a history 0 b history
grew_alone a b history heard added said taken calls entries sent alone = record {
  heard = heard;
  asked = [];
  added = added;
  said = said;
  taken = taken;
  calls = calls ∙ sym (append-nil a.calls);
  count = refl;
  entries = entries;
  sent = sent;
  comes = subst (λ (x : List Event). Comes history x history) (sym alone.no_events) (comes_none history);
  few = omega (arith, ap length alone.no_events);
  own = subst (λ (x : List Event). All (λ (e : Event). opened_in b.entries ≡ Some (session_in e)) x) (sym alone.no_events)
      (All-nil (λ (e : Event). opened_in b.entries ≡ Some (session_in e)));
  number = keeps_same (opened_in a.entries) (opened_in b.entries) history
      (ap opened_in entries ∙ opened-append None a.entries added ∙ alone.same_number (opened_in a.entries));
}
