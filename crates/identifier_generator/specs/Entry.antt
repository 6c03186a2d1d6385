-- The entries of a text as the code finds them: how many bytes the first takes, and where one stands. Assumes nothing.
use Rattle.std.specs.Prelude.{ℕ, zero, suc, ◌+◌, ◌-◌, ◌≡◌, true, false, List, [], ltb, length, get_or, Option, Some, None}
use Rattle.std.proofs.Math.Option as math
use Rattle.std.proofs.Math.Option.{none, some}
use Rattle.std.specs.Borrow.{Bor}
use Rattle.theory.specs.NameText.{cut_entry, names_in, lookup}

-- its length byte and its bytes, unless it is cut or missing
abbrev pub size_in : math.Option (List ℕ × List ℕ) → Option ℕ
size_in none = None
size_in (some p) = Some (suc (length p.0))

unfoldable pub entry_size : List ℕ → Option ℕ
entry_size text = size_in (cut_entry text)

-- from where to where entry k stands, in a text that starts `at` bytes after the whole one
unfoldable pub entry_from : ℕ → ℕ → List ℕ → Option (ℕ × ℕ)
entry_from at zero text = elim (cut_entry text) [ none ↦ None | some p ↦ Some (at + 1, at + suc (length p.0)) ]
entry_from at (suc k) text = elim (cut_entry text) [ none ↦ None | some p ↦ entry_from (at + suc (length p.0)) k p.1 ]

-- where its part starts: so many bytes after the text's start, or at the front of the assumption text
abbrev pub start_of : ℕ × ℕ → ℕ × ℕ → Option (ℕ × ℕ) → ℕ × ℕ
start_of text assumed (Some p) = (text.0, p.0 + text.1)
start_of text assumed None = assumed

-- r is entry k of the text, and a part of it
pub record EntryPart (text : Bor (List ℕ)) (k : ℕ) (assumed r : Bor (List ℕ)) : Type 0 where
  pub bytes : r.now ≡ get_or (names_in text.now) k []
  pub start : r.ref_ptr ≡ start_of text.ref_ptr assumed.ref_ptr (entry_from 0 k text.now)

-- r is name x, and a part of the text that holds it
pub record NamePart (assumed generated : Bor (List ℕ)) (x : ℕ) (r : Bor (List ℕ)) : Type 0 where
  pub bytes : r.now ≡ lookup assumed.now generated.now x
  pub start : r.ref_ptr ≡ elim (ltb x 64) [
    | true ↦ start_of assumed.ref_ptr assumed.ref_ptr (entry_from 0 x assumed.now)
    | false ↦ start_of generated.ref_ptr assumed.ref_ptr (entry_from 0 (x - 64) generated.now)
  ]
