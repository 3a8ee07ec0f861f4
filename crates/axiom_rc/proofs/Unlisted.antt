-- There is always a key that a scan doesn't list, so it reads from the initial transaction.
use Rattle.std.proofs.Common.{◌≡◌, ℕ, ◌+◌, ◌≤◌, zero, suc, List, [], ◌∷◌, Some, length, replicate, arith, refl, ap}
use Rattle.std.specs.List.{Contains, slice_get}
use Rattle.std.proofs.lemmas.List.{length-replicate}
use Rattle.std.proofs.lemmas.Option.{slice_get_within}
use Rattle.txn_buffer.proofs.Lists.{at_contains}
use Rattle.cell_base.specs.declared.key.Key.{Key}
use Rattle.cell_base.specs.declared.key.Key.TheVariants.{Text}
use Rattle.cell_base.specs.declared.cell.Cell.{Cell}
use Rattle.cell_base.specs.declared.cell.Cell.TheVariants.{Presence}
use Rattle.history_core.specs.declared.event.Event.{Event}
use Rattle.history_core.specs.declared.event.Event.TheVariants.{Open, Close, Define, Look, Begin, Scan, Read, Own, Write, Commit, Rollback, Show}
use Rattle.history_core.specs.declared.txn.Seen.{Seen}
use Rattle.history_core.specs.declared.txn.Seen.TheVariants.{Read as SeenRead, Scan as SeenScan}
use Rattle.history_core.specs.Events.{key_bytes}
use Rattle.history_core.specs.Relations.{Gives}
use Rattle.history_core.specs.Records.{seen_of}
use Rattle.saturation.specs.Views.{source_of}

abbrev pub all_bytes : List Key → ℕ
all_bytes [] = 0
all_bytes (key ∷ keys) = key_bytes key + all_bytes keys

none_listed : (k : ℕ) (key : Key) → slice_get [] k ≡ Some key → key_bytes key ≤ 0
none_listed k key at = let h = slice_get_within [] k key at in absurd (omega arith)

listed_short : (keys : List Key) (k : ℕ) (key : Key) → slice_get keys k ≡ Some key → key_bytes key ≤ all_bytes keys
listed_short [] k key at = none_listed k key at
listed_short (first ∷ keys) zero key at =
    let both : Some first ≡ Some key = at in
    let is : first ≡ key = cc in
    let same : key_bytes first ≡ key_bytes key = ap key_bytes is in omega arith
listed_short (first ∷ keys) (suc k) key at = let h = listed_short keys k key at in omega arith

-- a text longer than all of them together
abbrev pub longer : List Key → Key
longer keys = Text (replicate (all_bytes keys + 1) 0)

pub is_unlisted : (keys : List Key) → Contains keys (longer keys) → ⊥
is_unlisted keys member =
    let at = at_contains keys (longer keys) member in
    let short = listed_short keys at.0 (longer keys) at.1 in
    let long : length (replicate {A = ℕ} (all_bytes keys + 1) 0) ≡ all_bytes keys + 1 = length-replicate (all_bytes keys + 1) 0 in
    let bytes : key_bytes (longer keys) ≡ all_bytes keys + 1 = long in
    absurd (omega arith)

-- each event that shows something gives a cell from its source
pub gives_some : (event : Event) (n : ℕ) (seen : Seen) → seen_of n event ≡ Some seen → (cell : Cell) × Gives event cell (source_of seen)
gives_some (Read s x w c u v) n seen shown =
    let both : Some (SeenRead n x w) ≡ Some seen = shown in
    let is : SeenRead n x w ≡ seen = cc in
    (x, (refl, ap source_of is))
gives_some (Scan s table keys) n seen shown =
    let both : Some (SeenScan n table keys) ≡ Some seen = shown in
    let is : seen ≡ SeenScan n table keys = cc in
    (Presence table (longer keys), (refl, is_unlisted keys, ap source_of is))
gives_some (Open s) n seen shown = cc
gives_some (Close s) n seen shown = cc
gives_some (Define s name) n seen shown = cc
gives_some (Look s count) n seen shown = cc
gives_some (Begin s level) n seen shown = cc
gives_some (Own s x v) n seen shown = cc
gives_some (Write s x v) n seen shown = cc
gives_some (Commit s) n seen shown = cc
gives_some (Rollback s) n seen shown = cc
gives_some (Show s number) n seen shown = cc
