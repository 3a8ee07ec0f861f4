-- What goes over a link goes on.
use Rattle.std.proofs.Common.{◌≡◌, false, ℕ, ◌+◌, ◌≤◌, List, [], ◌∷◌, ◌++◌, length, take, drop, sym, ◌∙◌, ap, subst, append_assoc, arith, Option, Some, None, length-append}
use Rattle.std.proofs.lemmas.List.{append-nil, take-append-drop}
use Rattle.link_traits.specs.Traffic.{Traffic, Took, Wrote, WrotePart, Both, Sight}
use Rattle.cell_base.specs.declared.level.Level.{Level}
use Rattle.block_machine.specs.declared.end.End.{End}
use Rattle.block_machine.specs.declared.end.End.TheVariants as ends
use Rattle.session_core.specs.Requests.{Requests, AreRequests}
use Rattle.block_machine.specs.Script.{Entry, more}
use Rattle.session_core.specs.Told.{told}
use Rattle.session_core.specs.Serve.{Account, IsMark, AreMarks, TakeAtMost, Carries, IsAtEnd, Blames, most_at_once}

-- an account that has gone on by these lists
pub record Extends (old new : Account) : Type 0 where
  pub more_taken : List ℕ
  pub more_entries : List Entry
  pub more_sent : List ℕ
  pub taken : new.taken ≡ old.taken ++ more_taken
  pub entries : new.entries ≡ old.entries ++ more_entries
  pub sent : new.sent ≡ old.sent ++ more_sent

IsMark-more : (level : Level) (old new : Account) (t : Traffic) (m : ℕ × ℕ) → Extends old new → IsMark level old t m → IsMark level new t m
IsMark-more level old new t m on k = record {
  front = k.front;
  rest = k.rest ++ on.more_taken;
  early = k.early;
  late = k.late ++ on.more_entries;
  asked = k.asked;
  said = k.said;
  unsaid = k.unsaid ++ on.more_sent;
  requests = k.requests;
  taken_is = on.taken ∙ ap (λ x. x ++ on.more_taken) k.taken_is ∙ append_assoc k.front k.rest on.more_taken;
  entries_are = on.entries ∙ ap (λ x. x ++ on.more_entries) k.entries_are ∙ append_assoc k.early k.late on.more_entries;
  sent_is = on.sent ∙ ap (λ x. x ++ on.more_sent) k.sent_is ∙ append_assoc k.said k.unsaid on.more_sent;
  mark_is = k.mark_is;
  requests_are = k.requests_are;
  told_is = k.told_is;
}

pub AreMarks-more : (level : Level) (old new : Account) (t : Traffic) (ms : List (ℕ × ℕ)) → Extends old new → AreMarks level old t ms →
    AreMarks level new t ms
AreMarks-more level old new t [] on k = tt
AreMarks-more level old new t (m ∷ ms) on k = (IsMark-more level old new t m on k.0, AreMarks-more level old new t ms on k.1)

AreMarks-one : (level : Level) (account : Account) (t : Traffic) (ms : List (ℕ × ℕ)) (m : ℕ × ℕ) → AreMarks level account t ms →
    IsMark level account t m → AreMarks level account t (ms ++ m ∷ [])
AreMarks-one level account t [] m k h = (h, tt)
AreMarks-one level account t (x ∷ ms) m k h = (k.0, AreMarks-one level account t ms m k.1 h)

-- one read more
TakeAtMost-one : (most : ℕ) (ms : List (ℕ × ℕ)) (m : ℕ × ℕ) (all : ℕ) → TakeAtMost most ms m.0 → all ≤ m.0 + most →
    TakeAtMost most (ms ++ m ∷ []) all
TakeAtMost-one most [] m all k h = (h, tt)
TakeAtMost-one most (x ∷ []) m all k h = (k.0, TakeAtMost-one most [] m all tt h)
TakeAtMost-one most (x ∷ y ∷ ms) m all k h = (k.0, TakeAtMost-one most (y ∷ ms) m all k.1 h)

-- a longer record alone
pub Carries-record : (level : Level) (old new : Account) (b : List Entry) (t u : Traffic) → new.taken ≡ old.taken → new.sent ≡ old.sent →
    new.lost ≡ old.lost → new.entries ≡ old.entries ++ b → Carries level old t u → Carries level new t u
Carries-record level old new b t u taken sent lost entries k = record {
  left = k.left ∙ ap (λ (x : List ℕ). x ++ u.left) (sym taken);
  read_is = k.read_is ∙ ap (λ (x : List ℕ). t.read ++ x) (sym taken);
  written_is = ap (λ (x : List ℕ). u.written ++ x) lost ∙ k.written_is ∙ ap (λ (x : List ℕ). t.written ++ x) (sym sent);
  marks = (
    k.marks.0,
    k.marks.1,
    AreMarks-more level old new t k.marks.0 (record {
      more_taken = [];
      more_entries = b;
      more_sent = [];
      taken = taken ∙ sym (append-nil old.taken);
      entries = entries;
      sent = sent ∙ sym (append-nil old.sent);
    }) k.marks.2,
    k.marks.3,
  );
}

-- a write, whole or in part
pub Carries-wrote : (level : Level) (old new : Account) (b : List Entry) (reply part : List ℕ) (t u r : Traffic) → new.taken ≡ old.taken →
    new.entries ≡ old.entries ++ b → new.sent ≡ old.sent ++ reply → old.lost ≡ [] → reply ≡ part ++ new.lost → Carries level old t u →
    Wrote part u r → Carries level new t r
Carries-wrote level old new b reply part t u r taken entries sent none_lost e k w = record {
  left = k.left ∙ ap (λ x. old.taken ++ x) (sym w.left) ∙ ap (λ (x : List ℕ). x ++ r.left) (sym taken);
  read_is = w.read ∙ k.read_is ∙ ap (λ (x : List ℕ). t.read ++ x) (sym taken);
  written_is = ap (λ x. x ++ new.lost) w.written ∙ append_assoc u.written part new.lost ∙ ap (λ x. u.written ++ x) (sym e)
      ∙ ap (λ x. x ++ reply) (sym (append-nil u.written) ∙ ap (λ (x : List ℕ). u.written ++ x) (sym none_lost) ∙ k.written_is)
      ∙ append_assoc t.written old.sent reply ∙ ap (λ (x : List ℕ). t.written ++ x) (sym sent);
  marks = (
    k.marks.0,
    w.marks ∙ k.marks.1,
    AreMarks-more level old new t k.marks.0 (record {
      more_taken = [];
      more_entries = b;
      more_sent = reply;
      taken = taken ∙ sym (append-nil old.taken);
      entries = entries;
      sent = sent;
    }) k.marks.2,
    subst (λ (x : List ℕ). TakeAtMost most_at_once k.marks.0 (length x)) (sym w.read) k.marks.3,
  );
}

-- a read, where nothing was held back
pub Carries-took : (level : Level) (old new : Account) (piece : List ℕ) (b : List Entry) (t u r : Traffic) (requests : Requests) →
    new.taken ≡ old.taken ++ piece → new.entries ≡ old.entries ++ b → new.sent ≡ old.sent → old.lost ≡ [] → new.lost ≡ [] →
    AreRequests false old.taken requests →
    told level requests old.entries ≡ (record { bytes = old.sent; calls = old.calls }, more) → length piece ≤ most_at_once →
    Carries level old t u → Took piece u r → Carries level new t r
Carries-took level old new piece b t u r requests taken entries sent none_lost none is shows few k w =
    let all_written : u.written ≡ t.written ++ old.sent =
    sym (append-nil u.written) ∙ ap (λ (x : List ℕ). u.written ++ x) (sym none_lost) ∙ k.written_is in
    let all_read : u.read ≡ t.read ++ old.taken = k.read_is in
    record {
      left = k.left ∙ ap (λ x. old.taken ++ x) w.left ∙ sym (append_assoc old.taken piece r.left)
          ∙ ap (λ (x : List ℕ). x ++ r.left) (sym taken);
      read_is = w.read ∙ ap (λ x. x ++ piece) k.read_is ∙ append_assoc t.read old.taken piece ∙ ap (λ (x : List ℕ). t.read ++ x) (sym taken);
      written_is = ap (λ x. x ++ new.lost) w.written ∙ ap (λ (x : List ℕ). u.written ++ x) none ∙ append-nil u.written ∙ all_written
          ∙ ap (λ (x : List ℕ). t.written ++ x) (sym sent);
      marks = (
        k.marks.0 ++ (length u.read, length u.written) ∷ [],
        w.marks ∙ ap (λ x. x ++ (length u.read, length u.written) ∷ []) k.marks.1
            ∙ append_assoc t.marks k.marks.0 ((length u.read, length u.written) ∷ []),
        AreMarks-more level old new t (k.marks.0 ++ (length u.read, length u.written) ∷ []) (record {
          more_taken = piece;
          more_entries = b;
          more_sent = [];
          taken = taken;
          entries = entries;
          sent = sent ∙ sym (append-nil old.sent);
        }) (AreMarks-one level old t k.marks.0 (length u.read, length u.written) k.marks.2 (record {
          front = old.taken;
          rest = [];
          early = old.entries;
          late = [];
          asked = old.calls;
          said = old.sent;
          unsaid = [];
          requests = requests;
          taken_is = sym (append-nil old.taken);
          entries_are = sym (append-nil old.entries);
          sent_is = sym (append-nil old.sent);
          mark_is = ap (λ x. (length x, length u.written)) all_read ∙ ap (λ x. (x, length u.written)) (length-append t.read old.taken)
              ∙ ap (λ x. (length t.read + length old.taken, length x)) all_written
              ∙ ap (λ x. (length t.read + length old.taken, x)) (length-append t.written old.sent);
          requests_are = is;
          told_is = shows;
        })),
        TakeAtMost-one most_at_once k.marks.0 (length u.read, length u.written) (length r.read) k.marks.3
            (omega (arith, ap length w.read, length-append u.read piece, few)),
      );
    }

-- a fact of a link that follows from two
pub Both-then : {P Q R : Traffic → Traffic → Type 0} (a b c : Option Traffic) → ((t u r : Traffic) → P t u → Q u r → R t r) → Both P a b →
    Both Q b c → Both R a c
Both-then None None None f h k = tt
Both-then None None (Some c) f h k = absurd k
Both-then None (Some b) c f h k = absurd h
Both-then (Some a) None c f h k = absurd h
Both-then (Some a) (Some b) None f h k = absurd k
Both-then (Some a) (Some b) (Some c) f h k = f a b c h k

pub Both-weaker : {P Q : Traffic → Traffic → Type 0} (a b : Option Traffic) → ((t u : Traffic) → P t u → Q t u) → Both P a b → Both Q a b
Both-weaker None None f h = tt
Both-weaker None (Some b) f h = absurd h
Both-weaker (Some a) None f h = absurd h
Both-weaker (Some a) (Some b) f h = f a b h

-- a part of what was to be written, and what it left
pub Both-part : (bytes : List ℕ) (a b : Option Traffic) → Both (WrotePart bytes) a b → (part : List ℕ) × (lost : List ℕ) ×
    (bytes ≡ part ++ lost) × Both (Wrote part) a b
Both-part bytes None None h = (bytes, [], sym (append-nil bytes), tt)
Both-part bytes None (Some b) h = absurd h
Both-part bytes (Some a) None h = absurd h
Both-part bytes (Some a) (Some b) h = (take h.0 bytes, drop h.0 bytes, sym (take-append-drop h.0 bytes), h.2)

-- the blame stays where the link is left alone
pub Blames-same : (x y : Option End) (f g : Sight) (taken : List ℕ) → y ≡ x → Blames x f g taken → Blames y f g taken
Blames-same x y f g taken e h = subst (λ (z : Option End). Blames z f g taken) (sym e) h

pub Blames-none : (y : Option End) (f g : Sight) (taken : List ℕ) → y ≡ None → Blames y f g taken
Blames-none y f g taken e = subst (λ (z : Option End). Blames z f g taken) (sym e) tt

still_at_end : (part : List ℕ) (a b : Option Traffic) → Both (Wrote part) a b → IsAtEnd a → IsAtEnd b
still_at_end part None None h k = tt
still_at_end part None (Some b) h k = absurd h
still_at_end part (Some a) None h k = absurd h
still_at_end part (Some a) (Some b) h k = h.left ∙ k

-- the blame where the writing side alone moved
pub Blames-wrote : (x : Option End) (f g h : Sight) (taken part : List ℕ) → Both (Wrote part) g.traffic h.traffic →
    h.read_faults ≡ g.read_faults → g.write_faults ≤ h.write_faults → Blames x f g taken → Blames x f h taken
Blames-wrote None f g h taken part b e l k = tt
Blames-wrote (Some ends.Closed) f g h taken part b e l k = (k.0, still_at_end part g.traffic h.traffic b k.1)
Blames-wrote (Some ends.Cut) f g h taken part b e l k = (k.0, still_at_end part g.traffic h.traffic b k.1)
Blames-wrote (Some ends.ReadFault) f g h taken part b e l k = (k.0, omega (arith, e, k.1))
Blames-wrote (Some ends.WriteFault) f g h taken part b e l k = omega (arith, l, k)
Blames-wrote (Some ends.Spent) f g h taken part b e l k = k
Blames-wrote (Some ends.Terminated) f g h taken part b e l k = tt
Blames-wrote (Some (ends.Protocol x)) f g h taken part b e l k = tt
Blames-wrote (Some (ends.Refused x)) f g h taken part b e l k = tt
Blames-wrote (Some ends.Memory) f g h taken part b e l k = tt
Blames-wrote (Some ends.Cancelled) f g h taken part b e l k = tt
