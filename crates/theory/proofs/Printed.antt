-- What the program prints: it has room in a buffer of a fixed size, and is never 1. Assumes nothing.
use Prim.Native.Nat.{ℕ, zero, suc, ◌+◌, ◌*◌, ◌/◌, ◌%◌, ◌≤◌}
use mathlib.Core.Path.{◌≡◌, refl, ap, ◌∙◌, subst}
use mathlib.Core.Bool.{Bool, true, false}
use mathlib.Core.Option.{Option, none, some}
use mathlib.Core.Logic.{◌≢◌}
use mathlib.Core.List.{List, [], ◌∷◌, ◌++◌, append-nil}
use native.Mathlib.Nat.{le_trans}
use native.Mathlib.Omega.{arith}
use lib.Dec.{T, ltb, eqb}
use lib.ListN.{length, replicate, length-append, length-replicate}
use Rattle.theory.specs.Form.{bad_word}
use Rattle.theory.specs.NameText.{Written}
use Rattle.theory.specs.Text.{bytes, digits}
use Rattle.theory.specs.Refusal.{Sizes, BadFormula, BadFile, fault_number, lack_number}
use Rattle.theory.specs.Call.{Claim, right_sizes, given_words, refusal, Outcome, proved, unprovable, shortage, refused}
use Rattle.theory.specs.Call.{After, unchanged, called}
use Rattle.theory.specs.Writer.{draft_after, written}
use Rattle.theory.specs.File.{File, decoded, claim_of, line, counted, refused_line, unprovable_lines, proved_with, proved_lines}
use Rattle.theory.specs.File.{answer_lines, goal_lines, all_lines, printed}
use Rattle.theory.proofs.Writes.{written_front, buffer_length}
use Rattle.theory.proofs.FileRead.{file_bounded, file_sizes}
use Rattle.theory.proofs.Faults.{word_refused, refused_says}
use Rattle.theory.proofs.Called.{is_refused, refused_call}

digits_length : (k n : ℕ) → length (digits k n) ≤ k
unfolding digits
digits_length zero n = omega arith
digits_length (suc k) n = go (ltb n 10) (digits_length k (n / 10))
  where
    go : (b : Bool) → length (digits k (n / 10)) ≤ k →
        length {A = ℕ} (elim b [ true ↦ (48 + n) ∷ [] | false ↦ digits k (n / 10) ++ ((48 + n % 10) ∷ []) ]) ≤ suc k
    go true h = omega arith
    go false h = omega (arith, length-append (digits k (n / 10)) ((48 + n % 10) ∷ []))

line_length : (bs : List ℕ) → length (line bs) ≡ length bs + 1
unfolding line
line_length bs = length-append bs (10 ∷ [])

-- a line with a number of at most seven digits
counted_length : (what : List ℕ) (n : ℕ) → length (counted what n) ≤ length what + 8
unfolding counted
counted_length what n = omega (arith, line_length (what ++ digits 7 n), length-append what (digits 7 n), digits_length 7 n)

pub refused_length : (n : ℕ) → length (refused_line n) ≤ 16
unfolding refused_line bytes
refused_length n = counted_length (bytes "refused ") n

proved_length : (n u f t : ℕ) (w : Written) → length w.part ≤ 32768 → length (proved_lines n u f t w) ≤ 32835
unfolding proved_lines proved_with bytes
proved_length n u f t w h = go (eqb w.number 0)
  where
    text : List ℕ
    text = line w.part

    terms : List ℕ
    terms = counted (bytes "terms ") t ++ text

    formulas : List ℕ
    formulas = counted (bytes "formulas ") f ++ terms

    names : List ℕ
    names = counted (bytes "names ") u ++ formulas

    steps : List ℕ
    steps = counted (bytes "steps ") n ++ names

    go : (b : Bool) → length {A = ℕ} (elim b [ true ↦ line (bytes "proved") ++ steps | false ↦ refused_line w.number ]) ≤ 32835
    go false = le_trans (refused_length w.number) (omega arith)
    go true =
        omega (
          arith,
          length-append (line (bytes "proved")) steps,
          line_length (bytes "proved"),
          length-append (counted (bytes "steps ") n) names,
          counted_length (bytes "steps ") n,
          length-append (counted (bytes "names ") u) formulas,
          counted_length (bytes "names ") u,
          length-append (counted (bytes "formulas ") f) terms,
          counted_length (bytes "formulas ") f,
          length-append (counted (bytes "terms ") t) text,
          counted_length (bytes "terms ") t,
          line_length w.part,
        )

-- the lines of one answer
answer_length : (x : Claim) (o : Outcome) → length (answer_lines x o) ≤ 32835
unfolding answer_lines draft_after unprovable_lines bytes
answer_length x (proved r n u f t) =
    let d = draft_after x r f t (replicate 32768 0) in
    proved_length n u f t (written d) (omega (arith, (written_front d).long, buffer_length d, length-replicate {A = ℕ} 32768 0))
answer_length x (unprovable n u f t) =
    omega (
      arith,
      length-append (line (bytes "unprovable")) (counted (bytes "steps ") n),
      line_length (bytes "unprovable"),
      counted_length (bytes "steps ") n,
    )
answer_length x (shortage l n) = le_trans (refused_length (lack_number l)) (omega arith)
answer_length x (refused f i) = le_trans (refused_length (fault_number f)) (omega arith)

-- of all goals together
lines_length : (x : File) (gs : List ℕ) → length (all_lines x gs) ≤ length gs * 32835
unfolding all_lines goal_lines
lines_length x [] = omega arith
lines_length x (g ∷ gs) =
    omega (
      arith,
      length-append (goal_lines x g) (all_lines x gs),
      answer_length (claim_of x g) (called (claim_of x g)).outcome,
      lines_length x gs,
    )

-- the program's output has room in 32,835 bytes
pub printed_length : (bs : List ℕ) → length (printed bs) ≤ 32835
unfolding printed
printed_length bs = go (decoded bs) refl
  where
    go : (o : Option File) → decoded bs ≡ o →
        length {A = ℕ} (elim o [ none ↦ refused_line (fault_number BadFile) | some x ↦ all_lines x x.goals ]) ≤ 32835
    go none e = le_trans (refused_length (fault_number BadFile)) (omega arith)
    go (some x) e = omega (arith, lines_length x x.goals, (file_bounded bs x e).goals)

-- the program never answers 1
pub program_sizes : (bs : List ℕ) (x : File) → decoded bs ≡ some x → (goal i : ℕ) → (called (claim_of x goal)).outcome ≢ refused Sizes i
program_sizes bs x e goal i q =
    let says = refused_says (claim_of x goal) (record { fault = Sizes; place = i }) (is_refused (claim_of x goal) q).is in
    subst T says.0 (file_sizes x goal (file_bounded bs x e))

-- a file with a faulty word
module _ (bs : List ℕ) (x : File) (d : decoded bs ≡ some x) (goal : ℕ) {i : ℕ} (e : bad_word (given_words (claim_of x goal)) ≡ some i) where
  refused_there : (called (claim_of x goal)).outcome ≡ refused BadFormula i
  unfolding refusal unchanged
  refused_there =
      ap (λ (a : After). a.outcome)
      (refused_call (claim_of x goal) (word_refused (right_sizes (claim_of x goal)) _ (file_sizes x goal (file_bounded bs x d)) e))

  pub word_printed : x.goals ≡ goal ∷ [] → printed bs ≡ refused_line 2
  unfolding printed all_lines goal_lines answer_lines fault_number
  word_printed g =
      ap (λ (o : Option File). elim o [ none ↦ refused_line (fault_number BadFile) | some x ↦ all_lines x x.goals ]) d
      ∙ ap (all_lines x) g ∙ ap (λ (l : List ℕ). l ++ []) (ap (answer_lines (claim_of x goal)) refused_there) ∙ append-nil (refused_line 2)
