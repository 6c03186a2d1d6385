-- What the program makes of a tested file: the search's answer, and the lines of it. Assumes nothing.
use Rattle.std.specs.Prelude.{ℕ, ◌≡◌, List, replicate, Ok, Err}
use Rattle.theory.specs.Call.{Claim, called}
use Rattle.theory.specs.Writer.{written}
use Rattle.theory.specs.File.{refused_line, unprovable_lines, proved_lines}
use Rattle.call.specs.declared.Verdict.TheVariants.{Proved, Unprovable}
use Rattle.call.specs.Outcomes.{Outcome, outcome_of, numbers_of}
use Rattle.house_text.specs.Drafted.{draft}
use Rattle.house_lines.specs.Lines.{Printable}

-- o is the outcome of the claim x, and f and t are its words and term numbers afterwards
pub record Answers (x : Claim) (o : Outcome) (f t : List ℕ) : Type 0 where
  pub outcome : outcome_of o ≡ (called x).outcome
  pub words : f ≡ (called x).words
  pub terms : t ≡ (called x).terms

-- the lines of an answer, from what the search left and the assumptions' names
unfoldable pub lines_for : Outcome → List ℕ → List ℕ → ℕ → List ℕ → List ℕ
lines_for (Ok (Proved r s)) words terms assumptions text =
    proved_lines s.steps s.indices s.formulas s.terms
    (written (draft words s.formulas assumptions text terms s.terms r (replicate 32768 0)))
lines_for (Ok (Unprovable s)) words terms assumptions text = unprovable_lines s.steps
lines_for (Err missing) words terms assumptions text = refused_line (numbers_of (Err missing)).number

-- the numbers that are printed have at most seven digits
abbrev pub Printables : Outcome → Type 0
Printables (Ok (Proved r s)) = Printable s.steps × Printable s.indices × Printable s.formulas × Printable s.terms
Printables (Ok (Unprovable s)) = Printable s.steps
Printables (Err missing) = Printable (numbers_of (Err missing)).number
