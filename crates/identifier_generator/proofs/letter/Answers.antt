-- `letter` is the digit that stands so far from the end. Assumes nothing.
use Prim.Native.Nat.{ℕ, suc, ◌+◌, ◌-◌, ◌/◌}
use mathlib.Core.Path.{◌≡◌, sym, ap, ◌∙◌}
use native.Mathlib.Omega.{arith}
use Rattle.theory.proofs.Spelling.{spell_length, spell_letter}
use Rattle.identifier_generator.proofs.letter.Goals as goal

pub returns : goal.returns
returns c =
    let place : c.args.j + suc (c.letter_count-count.result - 1 - c.args.j) ≡ c.args.i / 26 + 1 =
    omega (arith, spell_length c.args.i) in
    ap (λ (d : ℕ). 97 + d) c.digit.ensures
    ∙ sym (spell_letter c.args.i c.args.j (c.letter_count-count.result - 1 - c.args.j) place)
