-- The lines of an answer against theory's, and what printing them asks for. Assumes nothing.
use Prim.Native.Nat.{ℕ, ◌≤◌, ◌<◌}
use mathlib.Core.Path.{◌≡◌, refl, sym, ap, ap₂, ◌∙◌, subst}
use mathlib.Core.Bool.{Bool, true, false}
use mathlib.Core.Option.{Option, none, some}
use mathlib.Core.List.{List}
use native.Mathlib.Omega.{arith}
use borrow.Author.Tests.{eq-eqb, ne_eqb}
use lib.Dec.{leb}
use lib.ListN.{length, take}
use Rattle.theory.specs.NameText.{Written, emptied, fitted}
use Rattle.theory.specs.Refusal as R
use Rattle.theory.specs.Refusal.{Fault, fault_number, lack_number}
use Rattle.theory.specs.Meter as M
use Rattle.theory.specs.Meter.{Lack}
use Rattle.theory.specs.Call as C
use Rattle.theory.specs.Call.{Claim, Numbers, numbers, called}
use Rattle.theory.specs.Term.{Term}
use Rattle.theory.specs.Writer.{Draft, draft_after, writer_refusal, drafted, term_depth, text_fitted, not_written, written}
use Rattle.theory.specs.Text.{term_text}
use Rattle.theory.specs.File.{refused_line, proved_with, proved_lines, answer_lines}
use Rattle.theory.specs.NameText.{names_in, padded}
use Rattle.theory.specs.Owed.{FitIn}
use Rattle.theory.proofs.CallClaims.{written_front}
use Rattle.std.specs.Prelude.{Ok, Err}
use Rattle.call.specs.declared.Verdict.TheVariants.{Proved, Unprovable}
use Rattle.call.specs.declared.NoAnswer.TheVariants as OfSearch
use Rattle.call.specs.Outcomes.{Outcome, outcome_of}
use Rattle.call.proofs.Whole.{numbers_of_lem}
use Rattle.identifier_generator.specs.Handed.{Hands}
use Rattle.house_text.specs.declared.TextRefusal.{TextRefusal}
use Rattle.house_text.specs.declared.TextRefusal.TheVariants.{Refused, NoRoom}
use Rattle.house_text.specs.Drafted.{number_of}
use Rattle.house_lines.specs.Lines.{Printable}
use Rattle.house_file.specs.Output.{lines_for, Printables}

-- each answer's lines are theory's
pub lines_of : (x : Claim) (o : Outcome) →
    lines_for o (called x).words (called x).terms (length x.assumed) x.text ≡ answer_lines x (outcome_of o)
unfolding lines_for outcome_of answer_lines draft_after numbers
lines_of x (Ok (Proved r s)) = refl
lines_of x (Ok (Unprovable s)) = refl
lines_of x (Err (OfSearch.Short l n)) = ap (λ (v : Numbers). refused_line v.number) (numbers_of_lem (Err (OfSearch.Short l n)))
lines_of x (Err (OfSearch.Refused r)) = ap (λ (v : Numbers). refused_line v.number) (numbers_of_lem (Err (OfSearch.Refused r)))

-- the table's numbers have at most two digits, and none is 0
fault_small : (f : Fault) → (0 < fault_number f) × Printable (fault_number f)
unfolding fault_number
fault_small R.Sizes = (omega arith, omega arith)
fault_small R.BadFormula = (omega arith, omega arith)
fault_small R.BadAssumption = (omega arith, omega arith)
fault_small R.BadNames = (omega arith, omega arith)
fault_small R.BadGoal = (omega arith, omega arith)
fault_small R.NoRoom = (omega arith, omega arith)
fault_small R.BadTerm = (omega arith, omega arith)
fault_small R.BadFile = (omega arith, omega arith)

lack_small : (l : Lack) → Printable (lack_number l)
unfolding lack_number
lack_small M.Steps = omega arith
lack_small M.Names = omega arith
lack_small M.Formulas = omega arith
lack_small M.Terms = omega arith
lack_small M.Contexts = omega arith
lack_small M.Levels = omega arith

outcome_small : (o : C.Outcome) → Printable (numbers o).number
unfolding numbers
outcome_small (C.proved r n u f t) = omega arith
outcome_small (C.unprovable n u f t) = omega arith
outcome_small (C.shortage l n) = lack_small l
outcome_small (C.refused f i) = (fault_small f).1

-- an outcome's numbers are within what the program lends
pub printables : (x : Claim) (o : Outcome) → FitIn x (outcome_of o) → x.step_limit ≤ 1000000 → length x.words ≤ 4096 →
    length x.terms ≤ 24576 → Printables o
unfolding outcome_of
printables x (Ok (Proved r used)) h s w k =
    (omega (arith, h.0), omega (arith, h.1), omega (arith, h.3), omega (arith, h.5))
printables x (Ok (Unprovable used)) h s w k = omega (arith, h.0)
printables x (Err missing) h s w k =
    subst (λ (v : Numbers). Printable v.number) (sym (numbers_of_lem (Err missing))) (outcome_small (outcome_of (Err missing)))

-- the writer's numbers too
fitted_small : (text : List ℕ) (room : ℕ) → Printable (fitted text room).number
unfolding fitted emptied
fitted_small text room = go (leb (length text) room)
  where
    go : (b : Bool) → Printable (elim b as (λ c. Written) [
      | true ↦ record { number = 0; place = 0; part = text; buffer = padded room text }
      | false ↦ emptied 12 room
    ]).number
    go true = omega arith
    go false = omega arith

text_small : (names : List (List ℕ)) (t : Term) (room : ℕ) → Printable (text_fitted names t room).number
unfolding text_fitted emptied
text_small names t room = go (leb (term_depth t) 1024)
  where
    go : (b : Bool) → Printable (elim b as (λ c. Written) [ true ↦ fitted (term_text names t) room | false ↦ emptied 12 room ]).number
    go true = fitted_small (term_text names t) room
    go false = omega arith

pub number_small : (x : Draft) → Printable (written x).number
unfolding written not_written
number_small x = go (writer_refusal x)
  where
    go : (o : Option R.Refused) → Printable (elim o as (λ c. Written) [
      | none ↦ text_fitted (names_in x.text) (drafted x) (length x.buffer)
      | some r ↦ not_written x r
    ]).number
    go none = text_small (names_in x.text) (drafted x) (length x.buffer)
    go (some r) = (fault_small r.fault).1

-- no refusal of the writer has the number 0
told_why : (e : TextRefusal) → 0 < number_of e
told_why (Refused r) = (fault_small _).0
told_why NoRoom = omega arith

-- what the writer handed back: a text
module _ (x : Draft) (n u f t : ℕ) where
  abbrev by_number : Bool → List ℕ
  by_number b = elim b [ true ↦ proved_with n u f t (written x).part | false ↦ refused_line (written x).number ]

  pub lines_written : {size : ℕ} {buffer : List ℕ} → Hands (written x) size 0 buffer →
      proved_lines n u f t (written x) ≡ proved_with n u f t (take size buffer)
  unfolding proved_lines
  lines_written h =
      ap by_number (eq-eqb (written x).number 0 (sym h.number_is))
      ∙ ap (proved_with n u f t) (sym (ap₂ take h.size_is h.buffer_is ∙ (written_front x).1))

  -- or a refusal
  pub lines_refused : (e : TextRefusal) {buffer : List ℕ} → Hands (written x) 0 (number_of e) buffer →
      proved_lines n u f t (written x) ≡ refused_line (number_of e)
  unfolding proved_lines
  lines_refused e h =
      ap by_number (ne_eqb (written x).number 0 (λ p. omega (arith, told_why e, h.number_is))) ∙ ap refused_line (sym h.number_is)

pub size_inside : (x : Draft) {size : ℕ} {buffer : List ℕ} → Hands (written x) size 0 buffer → size ≤ length buffer
size_inside x h = omega (arith, h.size_is, ap length h.buffer_is, (written_front x).0)

pub refused_small : (x : Draft) (e : TextRefusal) {buffer : List ℕ} → Hands (written x) 0 (number_of e) buffer → Printable (number_of e)
refused_small x e h = subst Printable (sym h.number_is) (number_small x)
