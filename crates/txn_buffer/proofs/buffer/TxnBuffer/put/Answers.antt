use Rattle.std.proofs.Common.{◌≡◌, ◌≢◌, ℕ, ◌+◌, ◌≤◌, List, [], ◌∷◌, ◌++◌, length, vec_capacity, arith, ap, ◌∙◌, subst, length-append}
use Rattle.std.specs.HashMap.{spare}
use Rattle.txn_buffer.specs.Buffer.{StandsAt}
use Rattle.txn_buffer.specs.Index.{last_of, hash_of, IsIndexed}
use Rattle.txn_buffer.proofs.IndexLemmas.{indexed_push, indexed_set}
use Rattle.txn_buffer.proofs.buffer.TxnBuffer.put.Goals as goal

pub append-requires-clause-absent : goal.append-requires-clause-absent
append-requires-clause-absent c = rw (← c.deref.ensures.value) c.in-None.ensures.absent

pub returns-in-Some-clause-value : goal.returns-in-Some-clause-value
returns-in-Some-clause-value c = rw (← c.self.view_is) c.replace.ensures.value

pub returns-in-None-clause-value : goal.returns-in-None-clause-value
returns-in-None-clause-value c = rw (← c.self.view_is) c.append.ensures.value

pub invariant_of-self : goal.invariant_of-self
invariant_of-self c =
    let inside = c.self.inside in
    let held = c.self.invariant in
    let there : StandsAt inside.entries.items c.args.cell c.in-Some.at = rw (← c.deref.ensures.value) c.in-Some.ensures.found in
    let indexed : IsIndexed c.replace.new.entries.items (last_of inside.index.last) inside.index.before.items =
    rw c.replace.ensures.items
    (indexed_set inside.entries.items c.args.cell c.args.value c.in-Some.at (last_of inside.index.last) inside.index.before.items there held.1) in
    let room : length inside.entries.items + inside.room ≤ vec_capacity inside.entries = held.2 in
    let long : length c.replace.new.entries.items ≡ length inside.entries.items = c.replace.ensures.length in
    let capacity : vec_capacity c.replace.new.entries ≡ vec_capacity inside.entries = c.replace.ensures.capacity in
    (c.replace.ensures.map, indexed, omega arith, held.3, held.4)

pub invariant_of-self-in-None : goal.invariant_of-self-in-None
invariant_of-self-in-None c =
    let inside = c.self.inside in
    let held = c.self.invariant in
    let cell = c.args.cell in
    let old : ℕ → ℕ = last_of inside.index.last in
    let new : ℕ → ℕ = last_of c.push.new.self.last in
    let before : List ℕ = inside.index.before.items in
    let hash : c.hash-hash.result ≡ hash_of cell = c.hash-hash.ensures in
    let here : new (hash_of cell) ≡ length before + 1 = subst (λ (h : ℕ). last_of c.push.new.self.last h ≡ length inside.index.before.items + 1) hash c.push.ensures.last.here in
    let others : (other : ℕ) → other ≢ hash_of cell → new other ≡ old other = λ other apart. c.push.ensures.last.others other (λ same. apart (same ∙ hash)) in
    let places : c.push.new.self.before.items ≡ before ++ old (hash_of cell) ∷ [] =
    c.push.ensures.before ∙ ap (λ (h : ℕ). inside.index.before.items ++ last_of inside.index.last h ∷ []) hash in
    let indexed : IsIndexed c.append.new.entries.items new c.push.new.self.before.items =
    rw (c.append.ensures.items, places) (indexed_push inside.entries.items cell c.args.value old new before held.1 here others) in
    let room : length inside.entries.items + inside.room ≤ vec_capacity inside.entries = held.2 in
    let places_room : length before + inside.room ≤ vec_capacity inside.index.before = held.3 in
    let last_room : inside.room ≤ spare inside.index.last = held.4 in
    let some = c.requires in
    let long : length c.append.new.entries.items ≡ length inside.entries.items + 1 = c.append.ensures.length in
    let capacity : vec_capacity inside.entries ≤ vec_capacity c.append.new.entries = c.append.ensures.capacity in
    let places_long : length c.push.new.self.before.items ≡ length before + 1 = ap length places ∙ length-append before (old (hash_of cell) ∷ []) in
    let places_capacity : vec_capacity inside.index.before ≤ vec_capacity c.push.new.self.before = c.push.ensures.capacity in
    let last_spare : spare inside.index.last ≤ spare c.push.new.self.last + 1 = c.push.ensures.spare in
    (c.append.ensures.map, indexed, omega arith, omega arith, omega arith)
