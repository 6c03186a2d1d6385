-- From what was written to what a writer hands back. Assumes nothing.
use Prim.Native.Nat.{ℕ, ◌≤◌}
use mathlib.Core.Path.{◌≡◌, refl, sym, ap, ap₂, ◌∙◌, subst}
use mathlib.Core.List.{List}
use native.Mathlib.Omega.{arith}
use lib.ListN.{length, take, replicate}
use lib.Seq.{length-take-le}
use Rattle.theory.specs.NameText.{padded, Written, emptied}
use Rattle.theory.proofs.Fitted.{Front, whole}
use Rattle.identifier_generator.specs.Handed.{Hands}

-- a refusal hands back nothing but its number and a buffer of zeros
pub hands_nothing : (number room : ℕ) {buffer : List ℕ} {w : Written} → w ≡ emptied number room → buffer ≡ replicate room 0 →
    Hands w 0 number buffer
unfolding emptied
hands_nothing number room {buffer} e z =
    subst (λ (w : Written). Hands w 0 number buffer) (sym e) (record { size_is = refl; number_is = refl; buffer_is = z })

-- a text that fits hands back its size and itself with zeros after it
pub hands_text : (text : List ℕ) (room : ℕ) {size : ℕ} {buffer : List ℕ} {w : Written} → w ≡ whole text room → size ≡ length text →
    buffer ≡ padded room text → Hands w size 0 buffer
hands_text text room {size} {buffer} e l z =
    subst (λ (w : Written). Hands w size 0 buffer) (sym e) (record { size_is = l; number_is = refl; buffer_is = z })

module _ {w : Written} {size number : ℕ} {buffer : List ℕ} (f : Front w) (h : Hands w size number buffer) where
  -- the front of that size is the written part
  pub front_is_part : take size buffer ≡ w.part
  front_is_part = ap₂ take h.size_is h.buffer_is ∙ f.front

  pub part_inside : size ≡ length (take size buffer)
  part_inside =
      let inside : size ≤ length buffer = omega (arith, f.long, h.size_is, ap length h.buffer_is) in
      sym (length-take-le size buffer inside)
