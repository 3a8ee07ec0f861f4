-- Workers that have ended: each is as it was manned, and did its part.
use Rattle.std.proofs.Common.{◌≡◌, ◌≤◌, ◌+◌, ℕ, suc, List, [], ◌∷◌, length, map, refl, sym, ◌∙◌, ap, subst, arith, vec_len, vec_capacity}
use Rattle.std.specs.Prelude.{All}
use Rattle.std.proofs.lemmas.List.Elements.{All-push, All-head, All-tail, All-nil}
use Rattle.cell_base.specs.declared.level.Level.{Level}
use Rattle.rand_chacha.specs.ChaCha.{ChaCha}
use Rattle.choice_stream.specs.Seeds.{Draws}
use Rattle.turn_lock.specs.Passes.{PassValue}
use Rattle.doors.specs.Passage.{Passage, IsUnused}
use Rattle.door_workers.specs.Workers.{Post, Worked, IsReady, post_of}
use Rattle.door_workers.specs.Pairs.{EachPair}
use Rattle.door_workers.specs.declared.worker.Worker.{Worker}
use Rattle.shared_book.specs.declared.entry.Entry.{Entry}
use Rattle.shared_book.specs.Books.{BookValue, past_of, Stays}
use Rattle.serve_command.specs.Manning.{Begins, AreManned, HasEnded, HaveEnded, MayLeave}
use Rattle.serve_command.proofs.Pairs.{last_pair}

module _ {D : Type 0} (passage : D → Passage) (level : Level) (pass : PassValue Entry) (seed accept : ℕ) where
  abbrev pub post : Worker BookValue D ChaCha → Post BookValue ChaCha
  post worker = post_of past_of passage worker

  abbrev pub WorkedTo : Worker BookValue D ChaCha → Worker BookValue D ChaCha → Type 0
  WorkedTo before after = Worked Stays Draws level (post before) (post after)

  -- workers that were manned and have worked have ended
  pub ended : (stream : ℕ) (doors : List D) (workers after : List (Worker BookValue D ChaCha)) → AreManned pass seed accept stream doors workers →
      EachPair WorkedTo workers after → HaveEnded passage level pass seed accept stream (map passage doors) after
  ended stream [] workers [] manned pairs = refl
  ended stream [] workers (w ∷ after) manned pairs =
      absurd (omega (arith, pairs.0, ap (λ (l : List (Worker BookValue D ChaCha)). length l) manned))
  ended stream (door ∷ doors) workers after manned pairs =
      let (front, worker, is, begins, rest) = manned in
      let last = last_pair WorkedTo front worker after (subst (λ (l : List (Worker BookValue D ChaCha)). EachPair WorkedTo l after) is pairs) in (
        last.before,
        last.last,
        last.is,
        record { began = worker; door = door; begins = begins; before_is = refl; worked = last.related },
        ended (suc stream) doors front last.before rest last.rest,
      )

  -- a worker that begins may work
  begins_ready : (stream : ℕ) (door : D) (worker : Worker BookValue D ChaCha) → IsUnused (passage door) → Begins pass seed accept stream door worker →
      IsReady (post worker)
  begins_ready stream door worker unused begins = record {
    fault = begins.fault;
    no_session = ap (λ (b : BookValue). (past_of b).state) begins.book;
    balance = subst (λ (d : D). length (passage d).back ≤ (passage d).accepted) (sym begins.door_is)
        (subst (λ (n : ℕ). n ≤ (passage door).accepted) (sym (ap length unused.back)) (omega arith));
  }

  pub are_ready : (stream : ℕ) (doors : List D) (workers : List (Worker BookValue D ChaCha)) → All (λ door. IsUnused (passage door)) doors →
      AreManned pass seed accept stream doors workers → All (λ worker. IsReady (post worker)) workers
  are_ready stream [] workers unused manned =
      subst (λ (l : List (Worker BookValue D ChaCha)). All (λ worker. IsReady (post worker)) l) (sym manned) (All-nil (λ worker. IsReady (post worker)))
  are_ready stream (door ∷ doors) workers unused manned =
      let (front, worker, is, begins, rest) = manned in
      subst (λ (l : List (Worker BookValue D ChaCha)). All (λ worker. IsReady (post worker)) l) (sym is)
      (All-push (λ worker. IsReady (post worker)) front worker
      (are_ready (suc stream) doors front (All-tail (λ d. IsUnused (passage d)) door doors unused) rest)
      (begins_ready stream door worker (All-head (λ d. IsUnused (passage d)) door doors unused) begins))

  pub have_room : (stream : ℕ) (doors : List D) (workers : List (Worker BookValue D ChaCha)) → AreManned pass seed accept stream doors workers →
      All (λ worker. vec_len worker.served + worker.accept ≤ vec_capacity worker.served) workers
  have_room stream [] workers manned =
      subst (λ (l : List (Worker BookValue D ChaCha)). All (λ worker. vec_len worker.served + worker.accept ≤ vec_capacity worker.served) l) (sym manned)
      (All-nil (λ worker. vec_len worker.served + worker.accept ≤ vec_capacity worker.served))
  have_room stream (door ∷ doors) workers manned =
      let (front, worker, is, begins, rest) = manned in
      subst (λ (l : List (Worker BookValue D ChaCha)). All (λ worker. vec_len worker.served + worker.accept ≤ vec_capacity worker.served) l) (sym is)
      (All-push (λ worker. vec_len worker.served + worker.accept ≤ vec_capacity worker.served) front worker (have_room (suc stream) doors front rest) begins.room)

  -- a worker that has ended may leave
  may_leave : (stream : ℕ) (before : Passage) (worker : Worker BookValue D ChaCha) → pass.parts ≡ 1 →
      HasEnded passage level pass seed accept stream before worker → MayLeave pass.lock worker
  may_leave stream before worker one has_ended = record {
    lock_is = has_ended.worked.attended.stays.lock ∙ ap (λ (b : BookValue). b.pass.lock) has_ended.begins.book;
    parts = has_ended.worked.attended.stays.parts ∙ ap (λ (b : BookValue). b.pass.parts) has_ended.begins.book ∙ one;
    no_session = has_ended.worked.attended.no_session;
  }

  pub may_all_leave : (stream : ℕ) (befores : List Passage) (workers : List (Worker BookValue D ChaCha)) → pass.parts ≡ 1 →
      HaveEnded passage level pass seed accept stream befores workers → All (MayLeave pass.lock) workers
  may_all_leave stream [] workers one have_ended =
      subst (λ (l : List (Worker BookValue D ChaCha)). All (MayLeave pass.lock) l) (sym have_ended) (All-nil (MayLeave pass.lock))
  may_all_leave stream (before ∷ befores) workers one have_ended =
      let (front, worker, is, has_ended, rest) = have_ended in
      subst (λ (l : List (Worker BookValue D ChaCha)). All (MayLeave pass.lock) l) (sym is)
      (All-push (MayLeave pass.lock) front worker (may_all_leave (suc stream) befores front one rest) (may_leave stream before worker one has_ended))
