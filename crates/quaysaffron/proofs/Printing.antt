-- The lines that are printed are the front part of their buffer. Assumes nothing.
use Rattle.std.proofs.Common.{ℕ, ◌≡◌, ◌≤◌, ◌-◌, ◌∙◌, ap, ap₂, List, length, take, replicate, arith, length-append}
use Rattle.std.proofs.Math.Seq.{take-append_seam}
use Rattle.theory.specs.NameText.{padded}

-- a text at the front of a buffer that is padded behind it
module _ (room : ℕ) (text : List ℕ) {buffer : List ℕ} {n : ℕ} (e : buffer ≡ padded room text) (s : n ≡ length text) where
  pub padded_inside : n ≤ length buffer
  unfolding padded
  padded_inside = omega (arith, s, ap length e, length-append text (replicate (room - length text) 0))

  pub padded_front : take n buffer ≡ text
  unfolding padded
  padded_front = ap₂ take s e ∙ take-append_seam text (replicate (room - length text) 0)
