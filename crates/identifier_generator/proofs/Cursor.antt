-- The entry at a place of a text, where the code sees the text from that place on. Assumes nothing.
use Prim.Native.Nat.{ℕ, suc, ◌+◌, ◌-◌, ◌≤◌, ◌<◌}
use mathlib.Core.Path.{◌≡◌, ap, ap₂, ◌∙◌}
use mathlib.Core.Option.{Option, none, some}
use mathlib.Core.List.{List}
use native.Mathlib.Omega.{arith}
use lib.ListN.{length, take, drop, length-drop}
use lib.Seq.{take_all, drop-drop}
use Rattle.std.proofs.Common.{Some, None}
use Rattle.theory.specs.NameText.{cut_entry}
use Rattle.identifier_generator.specs.Entry.{entry_size}
use Rattle.identifier_generator.proofs.Sizes.{no_entry, size_positive, size_within, first_entry, size_of}

-- the bytes after the length byte of an entry of that size
abbrev pub bytes_at : List ℕ → ℕ → ℕ → List ℕ
bytes_at text at s = take (at + s - (at + 1)) (drop (at + 1) text)

module _ (text : List ℕ) (at : ℕ) where
  rest_is : take (length text - at) (drop at text) ≡ drop at text
  rest_is = take_all (length text - at) (drop at text) (omega (arith, length-drop at text))

  pub none_at : None ≡ entry_size (take (length text - at) (drop at text)) → cut_entry (drop at text) ≡ none
  none_at e = no_entry (drop at text) (e ∙ ap entry_size rest_is)

  module _ (s : ℕ) (e : Some s ≡ entry_size (take (length text - at) (drop at text))) where
    sized : Some s ≡ entry_size (drop at text)
    sized = e ∙ ap entry_size rest_is

    pub some_at : 0 < s
    some_at = size_positive (drop at text) s sized

    pub end_inside : at ≤ length text → at + s ≤ length text
    end_inside h = omega (arith, size_within (drop at text) s sized, length-drop at text)

    pub entry_at : cut_entry (drop at text) ≡ some (bytes_at text at s, drop (at + s) text)
    entry_at =
        let back : s - 1 ≡ at + s - (at + 1) = omega (arith, some_at) in
        first_entry (drop at text) s sized
        ∙ ap₂ {C = Option (List ℕ × List ℕ)} (λ u v. some (u, v)) (ap₂ take back (drop-drop 1 at text)) (drop-drop s at text)

    pub size_at : s ≡ suc (length (bytes_at text at s))
    size_at =
        let size = size_of (drop at text) (bytes_at text at s, drop (at + s) text) entry_at in
        let same = sized in
        cc
