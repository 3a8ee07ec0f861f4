-- A seat goes on without a call: what it then stands for.
use Rattle.std.proofs.Common.{◌≡◌, ◌≢◌, ℕ, ◌+◌, ◌<◌, ◌≤◌, List, [], ◌∷◌, ◌++◌, length, take, drop, get_or, refl, sym, ◌∙◌, ap, subst, arith, length-append, Option, Some, None, inl, inr}
use Rattle.std.specs.Prelude.{All, drop}
use Rattle.std.proofs.Math.Seq.{take-add}
use Rattle.std.proofs.lemmas.List.{append-nil, take_all, length-take-le}
use Rattle.std.proofs.lemmas.List.Elements.{All-nil, All-cons, All-append, Contains-append_left, Contains-push}
use Rattle.cell_base.specs.declared.level.Level.{Level}
use Rattle.choice_stream.specs.Choices.{DrawsFirst}
use Rattle.history_core.specs.Chronicle.{Chronicle}
use Rattle.history_book.specs.Book.{Past}
use Rattle.block_machine.specs.Calls.{Call}
use Rattle.block_machine.specs.Script.{Entry, did, refused, short, unsent, stop}
use Rattle.block_machine.specs.declared.end.End.{End}
use Rattle.block_machine.specs.declared.end.End.TheVariants as ends
use Rattle.block_machine.specs.declared.end.Stop.TheVariants as stops
use Rattle.session_core.specs.declared.session.Session.{Session}
use Rattle.session_core.specs.declared.stage.SessionStage.{SessionStage}
use Rattle.session_core.specs.Told.{opened_in}
use Rattle.session_core.specs.Record.{IsValidRecord}
use Rattle.session_core.specs.Wants as wishes
use Rattle.session_core.specs.Stands.{IsHolding, IsLast, IsStopped, Lacks, outer, served_of, wants}
use Rattle.session_core.specs.Sessions.{Stands, StandsShort}
use Rattle.session_core.specs.Serve.{Account}
use Rattle.session_core.specs.Running.{Sits}
use Rattle.session_core.proofs.Flags.{opened-append}
use Rattle.session_core.proofs.Serving.{stage_waiting, stage_taking, Lacks-holding}
use Rattle.valid_writes.specs.Beginnings.{no_past}
use Rattle.session_hall.specs.declared.client.Client.{Client}
use Rattle.session_hall.specs.declared.seat.Seat.{Seat}
use Rattle.session_hall.specs.Seats.{Lives, IsLaid, IsFrom, Follows, Carries, Attends, Grows, GrowsAlone, Keeps}
use Rattle.session_hall.proofs.Entries.{IsAlone, alone_short, alone_unsent, alone_stop, short_from}
use Rattle.session_hall.proofs.Growing.{grew_alone, grew_then}

pub grows_then : (a : Seat) (m : ℕ) (b : Seat) (n : ℕ) (c : Seat) (h i j : Chronicle) → Grows h a m i b → Grows i b n j c → Grows h a (m + n) j c
grows_then a m b n c h i j first second level client account attends =
    let one = first level client account attends in
    let two = second level client one.0 one.2 in
    (two.0, grew_then account h m one.0 i n two.0 j one.1 two.1, two.2)

pub alone_then : (a b c : Seat) → GrowsAlone a b → GrowsAlone b c → GrowsAlone a c
alone_then a b c first second history = grows_then a 0 b 0 c history history history (first history) (second history)

pub alone_same : (a : Seat) → GrowsAlone a a
alone_same a history level client account attends = (
  account,
  grew_alone account account history [] [] [] (sym (append-nil account.taken)) refl (sym (append-nil account.entries)) (sym (append-nil account.sent))
      (alone_short [] [] tt),
  attends,
)

pub keeps_then : (a b c : Seat) → Keeps a b → Keeps b c → Keeps a c
keeps_then a b c first second =
    record { at = second.at ∙ first.at; stream = second.stream ∙ first.stream; end = second.end ∙ first.end }

-- the session's part
follows_on : (level : Level) (history : Chronicle) (words : List ℕ) (a b : Account) (s r : Session) (left : List ℕ) (added : List Entry) →
    Follows level history words a s left → Stands r b.taken b.entries b.calls b.sent → b.calls ≡ a.calls → b.entries ≡ a.entries ++ added →
    IsAlone added → served_of r.runner ≡ served_of s.runner → ((p : Past) → Sits s p → Sits r p) → (IsLast s.stage → IsLast r.stage) →
    Follows level history words b r left
follows_on level history words a b s r left added follows stands calls entries alone served sits last =
    let number : opened_in b.entries ≡ opened_in a.entries =
    ap opened_in entries ∙ opened-append None a.entries added ∙ alone.same_number (opened_in a.entries) in
    record {
      stands = stands;
      served_level = served ∙ follows.served_level;
      past = follows.past;
      valid = subst (λ (cs : List Call). IsValidRecord DrawsFirst (no_past level) words cs b.entries follows.past left) (sym calls)
          (subst (λ (es : List Entry). IsValidRecord DrawsFirst (no_past level) words a.calls es follows.past left) (sym entries)
          (alone.stays_valid (no_past level) words a.calls a.entries follows.past left follows.valid));
      lives = subst (λ (o : Option ℕ). Lives history follows.past o) (sym number) follows.lives;
      sits = sits follows.past follows.sits;
      away = λ none. elim (follows.away none) [ inl never ↦ inl (number ∙ never) | inr over ↦ inr (last over) ];
    }

-- the causes of entries, where more is known
from_more : (stream taken more : List ℕ) (laid after : Option End) (x : Entry) → (taken ≡ stream → more ≡ stream) →
    (laid ≡ Some ends.WriteFault → after ≡ Some ends.WriteFault) → IsFrom stream taken laid x → IsFrom stream more after x
from_more stream taken more laid after (stop cause) whole fault is = (is.0, whole is.1)
from_more stream taken more laid after (unsent n) whole fault is = fault is
from_more stream taken more laid after (did a e) whole fault is = tt
from_more stream taken more laid after (refused why) whole fault is = tt
from_more stream taken more laid after (short final n) whole fault is = tt

pub all_from_more : (stream taken more : List ℕ) (laid after : Option End) (es : List Entry) → (taken ≡ stream → more ≡ stream) →
    (laid ≡ Some ends.WriteFault → after ≡ Some ends.WriteFault) → All (IsFrom stream taken laid) es → All (IsFrom stream more after) es
all_from_more stream taken more laid after es whole fault all k d within =
    from_more stream taken more laid after (get_or es k d) whole fault (all k d within)

pub none_fault : (o : Option End) → o ≡ None → o ≡ Some ends.WriteFault → ⊥
none_fault o none fault = cc (sym none ∙ fault)

pub laid_same : (stream taken : List ℕ) (a b : Option End) → b ≡ a → IsLaid a stream taken → IsLaid b stream taken
laid_same stream taken a b same laid = subst (λ (o : Option End). IsLaid o stream taken) (sym same) laid

pub laid_none : (stream taken : List ℕ) (o : Option End) → o ≡ None → IsLaid o stream taken
laid_none stream taken o none = subst (λ (x : Option End). IsLaid x stream taken) (sym none) tt

-- the words and the stream stay
pub record IsBeside (s t : Seat) : Type 0 where
  pub words : t.words ≡ s.words
  pub stream : t.stream.items ≡ s.stream.items

attends_by : (level : Level) (history : Chronicle) (client : Client) (b : Account) (s t : Seat) → IsBeside s t →
    Follows level history client.words.items b t.session s.words → Carries client.stream.items b t → Attends level history client b t
attends_by level history client b s t beside follows carries = record {
  follows = subst (λ (w : List ℕ). Follows level history client.words.items b t.session w) (sym beside.words) follows;
  carries = carries;
}

-- ---- a message is looked at

pub turn_taken : (s t : Seat) → IsBeside s t → t.at ≡ s.at → t.sent.items ≡ s.sent.items → wants s.session.stage s.session.runner ≡ wishes.Message →
    ((taken : List ℕ) (es : List Entry) (asked : List Call) (sent : List ℕ) → Stands s.session taken es asked sent →
    StandsShort t.session taken es asked sent) → served_of t.session.runner ≡ served_of s.session.runner →
    ((p : Past) → Sits s.session p → Sits t.session p) → outer t.session.stage ≡ None → Lacks t.session.stage [] → GrowsAlone s t
turn_taken s t beside at_is sent_is wanted grown served sits outer_is lacks history level client a attends =
    let (phase, taking) = stage_taking s.session.stage s.session.runner wanted in
    let none_lost : a.lost ≡ [] = subst (λ (x : SessionStage). Lacks x a.lost) taking attends.carries.lacks in
    let (added, is_short, stands) = grown a.taken a.entries a.calls a.sent attends.follows.stands in
    let alone : IsAlone added = alone_short a.sent added is_short in
    let b : Account = record a { entries = a.entries ++ added } in (
      b,
      grew_alone a b history [] added [] (sym (append-nil a.taken)) refl refl (sym (append-nil a.sent)) alone,
      attends_by level history client b s t beside
          (follows_on level history client.words.items a b s.session t.session s.words added attends.follows stands refl refl alone served sits
          (λ last. absurd (subst IsLast taking last)))
          (record {
            stream_is = beside.stream ∙ attends.carries.stream_is;
            taken = attends.carries.taken ∙ ap (λ (k : ℕ). take k client.stream.items) (sym at_is);
            sent = attends.carries.sent ∙ ap (λ (x : List ℕ). x ++ a.lost) (sym sent_is);
            lacks = subst (λ (x : List ℕ). Lacks t.session.stage x) (sym none_lost) lacks;
            last = inl none_lost;
            laid = laid_none client.stream.items a.taken (outer t.session.stage) outer_is;
            causes = All-append (IsFrom client.stream.items a.taken (outer t.session.stage)) a.entries added
                (all_from_more client.stream.items a.taken a.taken (outer s.session.stage) (outer t.session.stage) a.entries (λ whole. whole)
                (λ fault. absurd (none_fault (outer s.session.stage) (ap outer taking) fault)) attends.carries.causes)
                (short_from client.stream.items a.taken a.sent (outer t.session.stage) added is_short);
            unsent_is = λ fault. absurd (none_fault (outer t.session.stage) outer_is fault);
          }),
    )

-- ---- a reply is sent, or isn't

pub turn_sent : (s t : Seat) (reply : List ℕ) → IsBeside s t → t.at ≡ s.at → t.sent.items ≡ s.sent.items ++ reply →
    IsHolding s.session.stage s.session.runner →
    ((taken : List ℕ) (es : List Entry) (asked : List Call) (sent : List ℕ) → Stands s.session taken es asked sent →
    StandsShort t.session taken es asked (sent ++ reply)) → served_of t.session.runner ≡ served_of s.session.runner →
    ((p : Past) → Sits s.session p → Sits t.session p) → outer t.session.stage ≡ outer s.session.stage → Lacks t.session.stage [] →
    (IsLast s.session.stage → IsLast t.session.stage) → GrowsAlone s t
turn_sent s t reply beside at_is sent_is holds grown served sits outer_is lacks last history level client a attends =
    let none_lost : a.lost ≡ [] = Lacks-holding s.session.stage s.session.runner a.lost holds attends.carries.lacks in
    let (added, is_short, stands) = grown a.taken a.entries a.calls a.sent attends.follows.stands in
    let alone : IsAlone added = alone_short (a.sent ++ reply) added is_short in
    let b : Account = record a { entries = a.entries ++ added; sent = a.sent ++ reply; lost = [] } in (
      b,
      grew_alone a b history [] added reply (sym (append-nil a.taken)) refl refl refl alone,
      attends_by level history client b s t beside
          (follows_on level history client.words.items a b s.session t.session s.words added attends.follows stands refl refl alone served sits last)
          (record {
            stream_is = beside.stream ∙ attends.carries.stream_is;
            taken = attends.carries.taken ∙ ap (λ (k : ℕ). take k client.stream.items) (sym at_is);
            sent = ap (λ (x : List ℕ). x ++ reply)
                (attends.carries.sent ∙ ap (λ (x : List ℕ). s.sent.items ++ x) none_lost ∙ append-nil s.sent.items)
                ∙ sym sent_is ∙ sym (append-nil t.sent.items);
            lacks = lacks;
            last = inl refl;
            laid = laid_same client.stream.items a.taken (outer s.session.stage) (outer t.session.stage) outer_is attends.carries.laid;
            causes = All-append (IsFrom client.stream.items a.taken (outer t.session.stage)) a.entries added
                (all_from_more client.stream.items a.taken a.taken (outer s.session.stage) (outer t.session.stage) a.entries (λ whole. whole)
                (λ fault. outer_is ∙ fault) attends.carries.causes)
                (short_from client.stream.items a.taken (a.sent ++ reply) (outer t.session.stage) added is_short);
            unsent_is = λ fault.
                let (n, has) = attends.carries.unsent_is (sym outer_is ∙ fault) in
                (n, Contains-append_left a.entries added (unsent n) has);
          }),
    )

pub turn_unsent : (s t : Seat) (reply : List ℕ) → IsBeside s t → t.at ≡ s.at → t.sent.items ≡ s.sent.items →
    IsHolding s.session.stage s.session.runner →
    ((taken : List ℕ) (es : List Entry) (asked : List Call) (sent : List ℕ) → Stands s.session taken es asked sent →
    Stands t.session taken (es ++ unsent (length sent) ∷ []) asked (sent ++ reply)) → served_of t.session.runner ≡ served_of s.session.runner →
    ((p : Past) → Sits s.session p → Sits t.session p) → outer t.session.stage ≡ Some ends.WriteFault →
    ((lost : List ℕ) → Lacks t.session.stage lost) → IsLast t.session.stage → GrowsAlone s t
turn_unsent s t reply beside at_is sent_is holds grown served sits outer_is lacks last history level client a attends =
    let none_lost : a.lost ≡ [] = Lacks-holding s.session.stage s.session.runner a.lost holds attends.carries.lacks in
    let added : List Entry = unsent (length a.sent) ∷ [] in
    let alone : IsAlone added = alone_unsent (length a.sent) in
    let b : Account = record a { entries = a.entries ++ added; sent = a.sent ++ reply; lost = reply } in (
      b,
      grew_alone a b history [] added reply (sym (append-nil a.taken)) refl refl refl alone,
      attends_by level history client b s t beside
          (follows_on level history client.words.items a b s.session t.session s.words added attends.follows
          (grown a.taken a.entries a.calls a.sent attends.follows.stands) refl refl alone served sits (λ _. last))
          (record {
            stream_is = beside.stream ∙ attends.carries.stream_is;
            taken = attends.carries.taken ∙ ap (λ (k : ℕ). take k client.stream.items) (sym at_is);
            sent = ap (λ (x : List ℕ). x ++ reply)
                (attends.carries.sent ∙ ap (λ (x : List ℕ). s.sent.items ++ x) none_lost ∙ append-nil s.sent.items ∙ sym sent_is);
            lacks = lacks reply;
            last = inr (length a.sent, Contains-push a.entries (unsent (length a.sent)), omega (arith, length-append a.sent reply));
            laid = laid_same client.stream.items a.taken (Some ends.WriteFault) (outer t.session.stage) outer_is tt;
            causes = All-append (IsFrom client.stream.items a.taken (outer t.session.stage)) a.entries added
                (all_from_more client.stream.items a.taken a.taken (outer s.session.stage) (outer t.session.stage) a.entries (λ whole. whole)
                (λ fault. outer_is) attends.carries.causes)
                (All-cons (IsFrom client.stream.items a.taken (outer t.session.stage)) (unsent (length a.sent)) [] outer_is
                (All-nil (IsFrom client.stream.items a.taken (outer t.session.stage))));
            unsent_is = λ fault. (length a.sent, Contains-push a.entries (unsent (length a.sent)));
          }),
    )

-- ---- a piece is taken, or the stream is at its end

pub turn_fed : (s t : Seat) (n : ℕ) (piece : List ℕ) → piece ≡ take n (drop s.at s.stream.items) → IsBeside s t → t.at ≡ s.at + n → t.sent.items ≡ s.sent.items → 0 < n → s.at + n ≤ length s.stream.items →
    wants s.session.stage s.session.runner ≡ wishes.Bytes →
    ((taken : List ℕ) (es : List Entry) (asked : List Call) (sent : List ℕ) → Stands s.session taken es asked sent →
    StandsShort t.session (taken ++ piece) es asked sent) → t.session.runner ≡ s.session.runner →
    ((p : Past) → Sits s.session p → Sits t.session p) → outer t.session.stage ≡ None → Lacks t.session.stage [] → GrowsAlone s t
turn_fed s t n piece piece_is beside at_is sent_is some within wanted grown runner sits outer_is lacks history level client a attends =
    let (phase, waiting) = stage_waiting s.session.stage s.session.runner wanted in
    let none_lost : a.lost ≡ [] = subst (λ (x : SessionStage). Lacks x a.lost) waiting attends.carries.lacks in
    let (added, is_short, stands) = grown a.taken a.entries a.calls a.sent attends.follows.stands in
    let alone : IsAlone added = alone_short a.sent added is_short in
    let b : Account = record a { taken = a.taken ++ piece; entries = a.entries ++ added } in
    let size : length client.stream.items ≡ length s.stream.items = ap length (sym attends.carries.stream_is) in
    let short_of : a.taken ≡ client.stream.items → ⊥ = λ whole.
    absurd (omega (
      arith,
      some,
      within,
      size,
      ap length whole,
      ap length attends.carries.taken,
      length-take-le s.at client.stream.items (omega (arith, within, size)),
    )) in (
      b,
      grew_alone a b history piece added [] refl refl refl (sym (append-nil a.sent)) alone,
      attends_by level history client b s t beside
          (follows_on level history client.words.items a b s.session t.session s.words added attends.follows stands refl refl alone (ap served_of runner)
          sits (λ last. absurd (subst IsLast waiting last)))
          (record {
            stream_is = beside.stream ∙ attends.carries.stream_is;
            taken = ap (λ (x : List ℕ). x ++ piece) attends.carries.taken
                ∙ ap (λ (x : List ℕ). take s.at client.stream.items ++ x) piece_is
                ∙ ap (λ (x : List ℕ). take s.at client.stream.items ++ take n (drop s.at x)) attends.carries.stream_is
                ∙ sym (take-add s.at n client.stream.items) ∙ ap (λ (k : ℕ). take k client.stream.items) (sym at_is);
            sent = attends.carries.sent ∙ ap (λ (x : List ℕ). x ++ a.lost) (sym sent_is);
            lacks = subst (λ (x : List ℕ). Lacks t.session.stage x) (sym none_lost) lacks;
            last = inl none_lost;
            laid = laid_none client.stream.items (a.taken ++ piece) (outer t.session.stage) outer_is;
            causes = All-append (IsFrom client.stream.items (a.taken ++ piece) (outer t.session.stage)) a.entries added
                (all_from_more client.stream.items a.taken (a.taken ++ piece) (outer s.session.stage) (outer t.session.stage) a.entries
                (λ whole. absurd (short_of whole))
                (λ fault. absurd (none_fault (outer s.session.stage) (ap outer waiting) fault)) attends.carries.causes)
                (short_from client.stream.items (a.taken ++ piece) a.sent (outer t.session.stage) added is_short);
            unsent_is = λ fault. absurd (none_fault (outer t.session.stage) outer_is fault);
          }),
    )

stopped_laid : (o : Option End) (stream taken : List ℕ) → IsStopped stops.EndOfInput o → taken ≡ stream → IsLaid o stream taken
stopped_laid (Some ends.Closed) stream taken is whole = whole
stopped_laid (Some ends.Cut) stream taken is whole = whole
stopped_laid _ stream taken is whole = absurd is

pub stopped_resting : (o : Option End) → IsStopped stops.EndOfInput o → o ≢ Some ends.WriteFault
stopped_resting (Some ends.Closed) is = λ same. cc same
stopped_resting (Some ends.Cut) is = λ same. cc same
stopped_resting _ is = absurd is

pub turn_stopped : (s t : Seat) → IsBeside s t → t.at ≡ s.at → t.sent.items ≡ s.sent.items → length s.stream.items ≤ s.at →
    wants s.session.stage s.session.runner ≡ wishes.Bytes →
    ((taken : List ℕ) (es : List Entry) (asked : List Call) (sent : List ℕ) → Stands s.session taken es asked sent →
    Stands t.session taken (es ++ stop stops.EndOfInput ∷ []) asked sent) → t.session.runner ≡ s.session.runner →
    ((p : Past) → Sits s.session p → Sits t.session p) → IsStopped stops.EndOfInput (outer t.session.stage) → Lacks t.session.stage [] →
    IsLast t.session.stage → GrowsAlone s t
turn_stopped s t beside at_is sent_is at_end wanted grown runner sits outer_is lacks last history level client a attends =
    let (phase, waiting) = stage_waiting s.session.stage s.session.runner wanted in
    let none_lost : a.lost ≡ [] = subst (λ (x : SessionStage). Lacks x a.lost) waiting attends.carries.lacks in
    let added : List Entry = stop stops.EndOfInput ∷ [] in
    let b : Account = record a { entries = a.entries ++ added } in
    let whole : a.taken ≡ client.stream.items =
    attends.carries.taken ∙ take_all s.at client.stream.items (omega (arith, at_end, ap length attends.carries.stream_is)) in (
      b,
      grew_alone a b history [] added [] (sym (append-nil a.taken)) refl refl (sym (append-nil a.sent)) alone_stop,
      attends_by level history client b s t beside
          (follows_on level history client.words.items a b s.session t.session s.words added attends.follows
          (grown a.taken a.entries a.calls a.sent attends.follows.stands) refl refl alone_stop (ap served_of runner) sits (λ _. last))
          (record {
            stream_is = beside.stream ∙ attends.carries.stream_is;
            taken = attends.carries.taken ∙ ap (λ (k : ℕ). take k client.stream.items) (sym at_is);
            sent = attends.carries.sent ∙ ap (λ (x : List ℕ). x ++ a.lost) (sym sent_is);
            lacks = subst (λ (x : List ℕ). Lacks t.session.stage x) (sym none_lost) lacks;
            last = inl none_lost;
            laid = stopped_laid (outer t.session.stage) client.stream.items a.taken outer_is whole;
            causes = All-append (IsFrom client.stream.items a.taken (outer t.session.stage)) a.entries added
                (all_from_more client.stream.items a.taken a.taken (outer s.session.stage) (outer t.session.stage) a.entries (λ is. is)
                (λ fault. absurd (none_fault (outer s.session.stage) (ap outer waiting) fault)) attends.carries.causes)
                (All-cons (IsFrom client.stream.items a.taken (outer t.session.stage)) (stop stops.EndOfInput) [] (refl, whole)
                (All-nil (IsFrom client.stream.items a.taken (outer t.session.stage))));
            unsent_is = λ fault. absurd (stopped_resting (outer t.session.stage) outer_is fault);
          }),
    )

-- the end is noted
pub turn_noted : (s t : Seat) → IsBeside s t → t.at ≡ s.at → t.sent.items ≡ s.sent.items → t.session ≡ s.session → GrowsAlone s t
turn_noted s t beside at_is sent_is session_is history level client a attends = (
  a,
  grew_alone a a history [] [] [] (sym (append-nil a.taken)) refl (sym (append-nil a.entries)) (sym (append-nil a.sent)) (alone_short [] [] tt),
  attends_by level history client a s t beside
      (subst (λ (x : Session). Follows level history client.words.items a x s.words) (sym session_is) attends.follows)
      (record {
        stream_is = beside.stream ∙ attends.carries.stream_is;
        taken = attends.carries.taken ∙ ap (λ (k : ℕ). take k client.stream.items) (sym at_is);
        sent = attends.carries.sent ∙ ap (λ (x : List ℕ). x ++ a.lost) (sym sent_is);
        lacks = subst (λ (x : Session). Lacks x.stage a.lost) (sym session_is) attends.carries.lacks;
        last = attends.carries.last;
        laid = subst (λ (x : Session). IsLaid (outer x.stage) client.stream.items a.taken) (sym session_is) attends.carries.laid;
        causes = subst (λ (x : Session). All (IsFrom client.stream.items a.taken (outer x.stage)) a.entries) (sym session_is) attends.carries.causes;
        unsent_is = λ fault. attends.carries.unsent_is (ap (λ (x : Session). outer x.stage) (sym session_is) ∙ fault);
      }),
)
