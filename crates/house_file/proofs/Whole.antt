-- The whole output: the lines of the one goal of a file that decodes, or the refusal 14. Assumes nothing.
use Prim.Native.Nat.{ℕ, ◌+◌, ◌*◌, ◌≤◌}
use mathlib.Core.Path.{◌≡◌, sym, ap, ap₂, ◌∙◌, subst}
use mathlib.Core.Option.{Option, none, some}
use mathlib.Core.List.{List, append-nil}
use native.Mathlib.Omega.{arith}
use lib.ListN.{length, take, drop, replicate, length-replicate}
use Rattle.theory.specs.Refusal.{BadFile, fault_number}
use Rattle.theory.specs.Call.{Claim, called}
use Rattle.theory.specs.File as F
use Rattle.theory.specs.File.{File, decoded, refused_line, answer_lines, goal_lines, all_lines, printed}
use Rattle.theory.specs.Owed.{FitIn}
use Rattle.theory.proofs.CallClaims.{numbers_fit, printed_length}
use Rattle.theory.proofs.Fitted.{padded_length}
use Rattle.std.specs.Prelude.{None, Some}
use Rattle.call.specs.Outcomes.{Outcome}
use Rattle.call.specs.Lent.{claim_of}
use Rattle.house_sections.specs.Held.{numbers_from, indices_from, text_from, laid_over, file_in, held_by, Seen}
use Rattle.house_sections.specs.declared.Sections.{Sections}
use Rattle.house_file.specs.Output.{Answers, lines_for, Printables}
use Rattle.house_file.proofs.Lines.{lines_of, printables}
use Rattle.house_file.proofs.Filled.{words_many, indices_many, laid_front, claim_is}

-- what is printed, by what the file decodes to
abbrev printed_by : Option File → List ℕ
printed_by o = elim o [ none ↦ refused_line (fault_number BadFile) | some x ↦ all_lines x x.goals ]

pub printed_bad : (bs : List ℕ) → held_by None bs ≡ decoded bs → printed bs ≡ refused_line 14
unfolding printed held_by fault_number
printed_bad bs e = ap printed_by (sym e)

pub is_decoded : (s : Sections) (bs : List ℕ) → held_by (Some s) bs ≡ decoded bs → decoded bs ≡ some (file_in s bs)
unfolding held_by
is_decoded s bs e = sym e

module _ (s : Sections) (bs : List ℕ) (e : decoded bs ≡ some (file_in s bs)) where
  pub printed_goal : printed bs ≡ goal_lines (file_in s bs) s.goal
  unfolding printed all_lines
  printed_goal = ap printed_by e ∙ append-nil (goal_lines (file_in s bs) s.goal)

  pub goal_room : length (goal_lines (file_in s bs) s.goal) ≤ 32835
  goal_room = subst (λ (xs : List ℕ). length xs ≤ 32835) printed_goal (printed_length bs)

-- the search's answer to theory's claim of the file
module _ (s : Sections) (bs : List ℕ) (o : Outcome) (f t text : List ℕ) where
  abbrev file : File
  file = file_in s bs

  module _ (a : Answers (F.claim_of file s.goal) o f t) where
    pub lines_are : text ≡ file.text → lines_for o f t s.assumptions text ≡ goal_lines file s.goal
    unfolding goal_lines F.claim_of
    lines_are e =
        let x = F.claim_of file s.goal in
        ap₂ (λ (w k : List ℕ). lines_for o w k s.assumptions text) a.words a.terms
        ∙ ap₂ (λ (k : ℕ) (v : List ℕ). lines_for o (called x).words (called x).terms k v)
        (sym (indices_many s.assumptions (drop (4 + 4 * s.formulas) bs))) e
        ∙ lines_of x o
        ∙ ap (answer_lines x) a.outcome

    pub all_printable : Seen s bs → Printables o
    unfolding F.claim_of
    all_printable seen =
        let x = F.claim_of file s.goal in
        let few : length file.words ≤ 4096 = omega (arith, words_many 4 s.formulas (drop 2 bs), seen.few_formulas) in
        printables x o (subst (FitIn x) (sym a.outcome) (numbers_fit x)) (omega arith)
        (omega (arith, padded_length file.words 4096 few)) (omega (arith, length-replicate {A = ℕ} 24576 0))

-- what the search's answer settles: the lines, and that their numbers can be printed
pub record Settled (s : Sections) (bs : List ℕ) (o : Outcome) (f t text : List ℕ) : Type 0 where
  pub lines : lines_for o f t s.assumptions text ≡ goal_lines (file_in s bs) s.goal
  pub printable : Printables o

-- the arrays as the sections filled them, and the answer to the claim that they make
module _ (s : Sections) (bs : List ℕ) (zeros words indices₀ indices names₀ names : List ℕ) (size : ℕ) (terms f t : List ℕ) (o : Outcome)
    (seen : Seen s bs) (empty : zeros ≡ replicate 4096 0) (none_yet : terms ≡ replicate 24576 0)
    (laid_words : words ≡ laid_over (numbers_from 4 s.formulas (drop 2 bs)) zeros)
    (laid_indices : indices ≡ laid_over (indices_from s.assumptions (drop (4 + 4 * s.formulas) bs)) indices₀)
    (laid_names : names ≡ laid_over (text_from s.assumptions (drop (4 + 4 * s.formulas) bs)) names₀)
    (sized : size ≡ length (text_from s.assumptions (drop (4 + 4 * s.formulas) bs))) where
  pub settled : Answers (claim_of words s.formulas (take s.assumptions indices) (take size names) s.goal terms 16384 1000000) o f t →
      Settled s bs o f t (take size names)
  settled a =
      let entries = drop (4 + 4 * s.formulas) bs in
      let text = laid_front size (text_from s.assumptions entries) names₀ names laid_names sized in
      let same = claim_is s bs words (take s.assumptions indices) (take size names) terms zeros laid_words empty
      (laid_front s.assumptions (indices_from s.assumptions entries) indices₀ indices laid_indices
      (sym (indices_many s.assumptions entries)))
      text none_yet in
      let b = subst (λ (x : Claim). Answers x o f t) same a in
      record {
        lines = lines_are s bs o f t (take size names) b text;
        printable = all_printable s bs o f t (take size names) b seen;
      }
