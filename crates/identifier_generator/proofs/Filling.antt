-- A buffer that is filled one byte after the other. Assumes nothing.
use Prim.Native.Nat.{ℕ, ◌+◌, ◌≤◌, ◌<◌}
use mathlib.Core.Path.{◌≡◌, sym, ap, ◌∙◌}
use mathlib.Core.List.{List}
use mathlib.Core.Logic.{◌⊎◌, ⊎_elim}
use native.Mathlib.Nat.{eq-or-lt_of_le}
use native.Mathlib.Omega.{arith}
use lib.ListN.{length, get_or, set, length-set}
use lib.Seq.{get_or-set_same, get_or-set_other, ext_get_or}

-- a buffer of that room, in which every byte before j is the wanted one
pub record Filled (wanted : List ℕ) (room j : ℕ) (buf : List ℕ) : Type 0 where
  pub long : length buf ≡ room
  pub bytes : (k : ℕ) → k < j → get_or buf k 0 ≡ get_or wanted k 0

pub byte_filled : (wanted buf : List ℕ) (room j v : ℕ) → Filled wanted room j buf → j < room → v ≡ get_or wanted j 0 →
    Filled wanted room (j + 1) (set buf j v)
byte_filled wanted buf room j v f h e =
    record {
      long = length-set buf j v ∙ f.long;
      bytes = λ k l. ⊎_elim
          (λ p. ap (λ (m : ℕ). get_or (set buf j v) m 0) p ∙ get_or-set_same buf j v 0 (omega (arith, f.long))
          ∙ e ∙ ap (λ (m : ℕ). get_or wanted m 0) (sym p))
          (λ m. get_or-set_other buf j k v 0 (λ p. omega arith) ∙ f.bytes k m)
          (last_or_before k l);
    }
  where
    last_or_before : (k : ℕ) → k < j + 1 → (k ≡ j) ⊎ (k < j)
    last_or_before k l =
        let least : k ≤ j = omega arith in
        eq-or-lt_of_le least

pub all_filled : (wanted buf : List ℕ) (room j : ℕ) → Filled wanted room j buf → room ≤ j → length wanted ≡ room → buf ≡ wanted
all_filled wanted buf room j f h e = ext_get_or 0 buf wanted (f.long ∙ sym e) (λ k l. f.bytes k (omega (arith, f.long)))
