-- Names as bytes in a text: how a text splits into entries, refusal 4, the lookup of a name, and a name asked for alone. Assumes nothing.
use Rattle.std.specs.Prelude.{ℕ, zero, suc, ◌-◌, Bool, true, false, ◌&&◌, ◌||◌, not, List, [], ◌∷◌, ◌++◌, length, get_or}
use Rattle.std.specs.Prelude.{take, drop, replicate, leb, ltb, eqb}
use Rattle.std.proofs.Math.Option.{Option, none, some}
use Rattle.theory.specs.Names.{among, skipped, spell}

-- "their names stand in one text, each after a length byte": the first entry's bytes and the text after it; none where it is cut or missing
unfoldable pub cut_entry : List ℕ → Option (List ℕ × List ℕ)
cut_entry [] = none
cut_entry (n ∷ text) = elim (leb n (length text)) [ true ↦ some (take n text, drop n text) | false ↦ none ]

-- the entries of a text up to the first that is cut or missing, at most k of them
unfoldable pub entries_up_to : ℕ → List ℕ → List (List ℕ)
entries_up_to zero text = []
entries_up_to (suc k) text = elim (cut_entry text) [ none ↦ [] | some p ↦ p.0 ∷ entries_up_to k p.1 ]

-- all of them: each entry takes a byte at least
unfoldable pub names_in : List ℕ → List (List ℕ)
names_in text = entries_up_to (length text) text

unfoldable pub between : ℕ → ℕ → ℕ → Bool
between low high b = leb low b && leb b high

-- "from A-Z, a-z, 0-9, _"
unfoldable pub name_byte : ℕ → Bool
name_byte b = between 65 90 b || (between 97 122 b || (between 48 57 b || eqb b 95))

unfoldable pub name_bytes : List ℕ → Bool
name_bytes [] = true
name_bytes (b ∷ bs) = name_byte b && name_bytes bs

-- "names of 1 to 32 bytes"
unfoldable pub well_spelled : List ℕ → Bool
well_spelled x = between 1 32 (length x) && name_bytes x

-- "or a name repeats an earlier one": it may be none that is skipped when the earlier ones are the assumptions' names
unfoldable pub lawful_after : List (List ℕ) → List ℕ → Bool
lawful_after earlier x = well_spelled x && not (among x (skipped earlier))

-- the first faulty name of k more after the earlier ones; "surplus name text after the last name faults at the place equal to the count"
unfoldable pub bad_name_from : List (List ℕ) → ℕ → List ℕ → Option ℕ
bad_name_from earlier zero [] = none
bad_name_from earlier zero (b ∷ bs) = some (length earlier)
bad_name_from earlier (suc k) text =
    elim (cut_entry text) [
      | none ↦ some (length earlier)
      | some p ↦ elim (lawful_after earlier p.0) [
        | true ↦ bad_name_from (earlier ++ (p.0 ∷ [])) k p.1
        | false ↦ some (length earlier)
      ]
    ]

-- 4: "text doesn't split exactly into that many names ..": the place of the first faulty one
unfoldable pub bad_name : ℕ → List ℕ → Option ℕ
bad_name count text = bad_name_from [] count text

-- "Entry i of the first is name i below 64, entry g of the second name 64+g; a cut or missing entry gives the empty front"
unfoldable pub lookup : List ℕ → List ℕ → ℕ → List ℕ
lookup assumed generated x = elim (ltb x 64) [ true ↦ get_or (names_in assumed) x [] | false ↦ get_or (names_in generated) (x - 64) [] ]

-- "The written text comes back as the front part of the lent buffer; the rest is zero"
unfoldable pub padded : ℕ → List ℕ → List ℕ
padded n xs = xs ++ replicate (n - length xs) 0

-- what a writer hands back: a refusal's number (0: written) and place, the written part, and what its buffer holds then
pub record Written : Type 0 where
  pub number : ℕ
  pub place : ℕ
  pub part : List ℕ
  pub buffer : List ℕ

-- a text without room, or one that is no text, leaves its buffer zero
unfoldable pub emptied : ℕ → ℕ → Written
emptied number room = record { number = number; place = 0; part = []; buffer = replicate room 0 }

-- a text in a buffer of that room, or 12
unfoldable pub fitted : List ℕ → ℕ → Written
fitted text room =
    elim (leb (length text) room) [
      | true ↦ record { number = 0; place = 0; part = text; buffer = padded room text }
      | false ↦ emptied 12 room
    ]

-- generated indices are at most 4,095
abbrev pub last_index : ℕ
last_index = 4095

-- "Asked for alone, an index over 4,095 is 7, before 12, and its buffer zero"
unfoldable pub name_alone : ℕ → ℕ → Written
name_alone i room = elim (leb i last_index) [ true ↦ fitted (spell i) room | false ↦ emptied 7 room ]
