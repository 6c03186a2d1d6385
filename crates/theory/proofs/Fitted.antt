-- What a writer hands back: a text that fits is the front of its buffer, and a name asked for alone falls under one of
-- three cases. Assumes nothing.
use Prim.Native.Nat.{ℕ, zero, suc, ◌-◌, ◌≤◌, ◌<◌}
use mathlib.Core.Path.{◌≡◌, refl, ap, ◌∙◌}
use mathlib.Core.Bool.{Bool, true, false}
use mathlib.Core.List.{List, [], ◌∷◌, ◌++◌}
use native.Mathlib.Omega.{arith}
use borrow.Author.Tests.{le-leb, lt-leb, leb-true}
use lib.Dec.{leb}
use lib.ListN.{length, get_or, take, replicate, length-append, length-replicate}
use lib.Seq.{take-append_seam}
use Rattle.theory.specs.Names.{spell}
use Rattle.theory.specs.NameText.{padded, Written, emptied, fitted, last_index, name_alone}

-- past a text that zeros follow, as past its end, stands 0
zeros_follow : (text : List ℕ) (n k : ℕ) → get_or (text ++ replicate n 0) k 0 ≡ get_or text k 0
zeros_follow [] zero k = refl
zeros_follow [] (suc n) zero = refl
zeros_follow [] (suc n) (suc k) = zeros_follow [] n k
zeros_follow (b ∷ bs) n zero = refl
zeros_follow (b ∷ bs) n (suc k) = zeros_follow bs n k

module _ (text : List ℕ) (room : ℕ) where
  pub padded_byte : (k : ℕ) → get_or (padded room text) k 0 ≡ get_or text k 0
  unfolding padded
  padded_byte k = zeros_follow text (room - length text) k

  pub padded_length : length text ≤ room → length (padded room text) ≡ room
  unfolding padded
  padded_length h =
      omega (arith, length-append text (replicate (room - length text) 0), length-replicate {A = ℕ} (room - length text) 0)

  pub padded_front : take (length text) (padded room text) ≡ text
  unfolding padded
  padded_front = take-append_seam text (replicate (room - length text) 0)

-- the written part is the front of the buffer
pub record Front (w : Written) : Type 0 where
  pub long : length w.part ≤ length w.buffer
  pub front : take (length w.part) w.buffer ≡ w.part

pub emptied_front : (number room : ℕ) → Front (emptied number room)
unfolding emptied
emptied_front number room = record { long = omega arith; front = refl }

abbrev pub whole : List ℕ → ℕ → Written
whole text room = record { number = 0; place = 0; part = text; buffer = padded room text }

pub whole_front : (text : List ℕ) (room : ℕ) → length text ≤ room → Front (whole text room)
whole_front text room h = record { long = omega (arith, padded_length text room h); front = padded_front text room }

module _ (i room : ℕ) where
  abbrev by_room : Bool → Written
  by_room b = elim b [ true ↦ whole (spell i) room | false ↦ emptied 12 room ]

  abbrev by_index : Bool → Written
  by_index b = elim b [ true ↦ fitted (spell i) room | false ↦ emptied 7 room ]

  pub alone_late : last_index < i → name_alone i room ≡ emptied 7 room
  unfolding name_alone
  alone_late h = ap by_index (lt-leb i last_index h)

  pub alone_no_room : i ≤ last_index → room < length (spell i) → name_alone i room ≡ emptied 12 room
  unfolding name_alone fitted
  alone_no_room h l = ap by_index (le-leb i last_index h) ∙ ap by_room (lt-leb (length (spell i)) room l)

  pub alone_fits : i ≤ last_index → length (spell i) ≤ room → name_alone i room ≡ whole (spell i) room
  unfolding name_alone fitted
  alone_fits h l = ap by_index (le-leb i last_index h) ∙ ap by_room (le-leb (length (spell i)) room l)

  pub alone_front : Front (name_alone i room)
  unfolding name_alone fitted
  alone_front = index (leb i last_index)
    where
      fits : (b : Bool) → leb (length (spell i)) room ≡ b → Front (by_room b)
      fits true e = whole_front (spell i) room (leb-true (length (spell i)) room e)
      fits false e = emptied_front 12 room

      index : (b : Bool) → Front (by_index b)
      index true = fits (leb (length (spell i)) room) refl
      index false = emptied_front 7 room
