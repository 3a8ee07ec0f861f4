-- The files of a host, one after another.
use Rattle.std.proofs.Common.{◌≡◌, ◌≢◌, ℕ, ◌+◌, ◌<◌, List, ◌∷◌, length, drop, get_or, Some, Bool, true, false, refl, ◌∙◌, ap}
use Rattle.std.specs.Str.{bytes_eq}
use Rattle.std.proofs.lemmas.Bool.{cond-true, cond-false}
use Rattle.std.proofs.lemmas.List.{drop_more}
use Rattle.std.proofs.lemmas.Slice.Eq.{bytes_eq-Decides}
use Rattle.link_traits.specs.Host.{bytes_at}
use Rattle.link_traits.specs.declared.host_file.HostFile.{HostFile}

is_false : (b : Bool) → (b ≡ true → ⊥) → b ≡ false
is_false true never = absurd (never refl)
is_false false never = refl

-- the first file has the path
first_has : (file : HostFile) (files : List HostFile) (path : List ℕ) → file.path ≡ path → bytes_at (file ∷ files) path ≡ Some file.bytes
first_has file files path is = rw (cond-true (bytes_eq file.path path) (Some file) _ ((bytes_eq-Decides file.path path).1 is)) refl

-- the first file has another path
first_differs : (file : HostFile) (files : List HostFile) (path : List ℕ) → file.path ≢ path → bytes_at (file ∷ files) path ≡ bytes_at files path
first_differs file files path other =
    let differs : bytes_eq file.path path ≡ false = is_false (bytes_eq file.path path) (λ same. other ((bytes_eq-Decides file.path path).0 same)) in
    rw (cond-false (bytes_eq file.path path) (Some file) _ differs) refl

-- the file of this number has the path
pub has_path : (files : List HostFile) (path : List ℕ) (i : ℕ) (file : HostFile) → i < length files → get_or files i file ≡ file → file.path ≡ path
    → bytes_at (drop i files) path ≡ Some file.bytes
has_path files path i file lt at is =
    let left : drop i files ≡ file ∷ drop (i + 1) files = drop_more files i file lt ∙ ap (λ (f : HostFile). f ∷ drop (i + 1) files) at in
    ap (λ (fs : List HostFile). bytes_at fs path) left ∙ first_has file (drop (i + 1) files) path is

-- the file of this number has another path
pub has_other_path : (files : List HostFile) (path : List ℕ) (i : ℕ) (file : HostFile) → i < length files → get_or files i file ≡ file → file.path ≢ path
    → bytes_at (drop i files) path ≡ bytes_at (drop (i + 1) files) path
has_other_path files path i file lt at other =
    let left : drop i files ≡ file ∷ drop (i + 1) files = drop_more files i file lt ∙ ap (λ (f : HostFile). f ∷ drop (i + 1) files) at in
    ap (λ (fs : List HostFile). bytes_at fs path) left ∙ first_differs file (drop (i + 1) files) path other
