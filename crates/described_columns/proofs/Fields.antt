-- The fields of few columns with names of few bytes make a body that fits a message.
use Rattle.std.proofs.Common.{◌≡◌, ℕ, ◌*◌, ◌≤◌, List, [], ◌∷◌, ◌++◌, length, length-append, map, All, arith}
use Rattle.std.specs.Prelude.{flat_map}
use Rattle.std.proofs.lemmas.List.{length-map}
use Rattle.std.proofs.lemmas.List.Elements.{All-head, All-tail, All-map}
use Rattle.typing_rules.specs.Select.{Output, field_of}
use Rattle.pg_framing.specs.Replies.{two_bytes, field_bytes, IsField, FitsMessage}
use Rattle.pg_framing.proofs.Lengths.{length-two_bytes, length-field_bytes}
use Rattle.described_columns.specs.Described.{AreDescribed}
use Rattle.described_columns.proofs.Outputs.{IsOutput, AreFew}

-- the description of a column has 19 bytes beside its name
bytes_few : (os : List Output) → All IsOutput os → length (flat_map field_bytes (map field_of os)) ≤ length os * 82
bytes_few [] h = omega arith
bytes_few (o ∷ os) h =
    let here = All-head IsOutput o os h in
    let fits = here.named.fits in
    let rest = bytes_few os (All-tail IsOutput o os h) in
    omega (arith, length-append (field_bytes (field_of o)) (flat_map field_bytes (map field_of os)), length-field_bytes (field_of o), fits, rest)

body_fits : (n : ℕ) (bytes : List ℕ) → n ≤ 1664 → length bytes ≤ n * 82 → FitsMessage (two_bytes n ++ bytes)
body_fits n bytes few h = omega (arith, length-append (two_bytes n) bytes, length-two_bytes n, few, h)

fields_fits : (n : ℕ) (os : List Output) → n ≡ length os → AreFew os → FitsMessage (two_bytes n ++ flat_map field_bytes (map field_of os))
fields_fits n os same h =
    let bytes = bytes_few os h.each in
    let few = h.few in
    body_fits n (flat_map field_bytes (map field_of os)) (omega (arith, few, same)) (omega (arith, bytes, same))

pub fields_described : (os : List Output) → AreFew os → AreDescribed (map field_of os)
fields_described os h =
    let same = length-map os field_of in
    let few = h.few in
    record {
      few = omega (arith, same, few);
      each = All-map IsField field_of os (λ k d within. record { no_zero = (h.each k d within).named.no_zero; fits = (h.each k d within).fits });
      fits = fields_fits (length (map field_of os)) os same h;
    }
