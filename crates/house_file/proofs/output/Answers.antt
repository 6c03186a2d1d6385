-- `output` tests the file and prints 14, or lays the lines of its goal. Assumes nothing.
use native.Mathlib.Omega.{arith}
use Prim.Native.Nat.{ℕ, ◌≤◌}
use mathlib.Core.Path.{◌≡◌, sym, ap, ap₂, ◌∙◌}
use lib.ListN.{length}
use Rattle.theory.specs.NameText.{padded}
use Rattle.theory.specs.File.{refused_line, printed}
use Rattle.theory.proofs.Printed.{refused_length}
use Rattle.house_file.proofs.Whole.{printed_bad, is_decoded}
use Rattle.house_file.proofs.output.Goals as goal

-- the line of a refusal is short, whatever its number
refusal-fits : (n : ℕ) {room : ℕ} → 16 ≤ room → length (refused_line n) ≤ room
refusal-fits n h = omega (arith, refused_length n, h)

pub refused-requires-clause-room : goal.refused-requires-clause-room
refused-requires-clause-room c = refusal-fits _ (omega arith)

pub held_output-requires : goal.held_output-requires
held_output-requires c =
    record {
      tested = is_decoded c.in-Some.sections c.args.file.now c.in-Some.ensures.held;
      seen = c.in-Some.ensures.fits;
      room = omega arith;
    }

pub returns-in-None : goal.returns-in-None
returns-in-None c =
    let bad = printed_bad c.args.file.now c.in-None.ensures.held in
    let room : length c.args.out.now ≡ 32835 = omega arith in record {
      out = c.refused.ensures.out ∙ ap₂ padded room (sym bad);
      length = c.refused.ensures.length ∙ ap length (sym bad);
    }

pub returns-in-Some : goal.returns-in-Some
returns-in-Some c =
    let room : length c.args.out.now ≡ 32835 = omega arith in record {
      out = c.held_output.ensures.out ∙ ap (λ (n : ℕ). padded n (printed c.args.file.now)) room;
      length = c.held_output.ensures.length;
    }
