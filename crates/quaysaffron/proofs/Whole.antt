-- What the program reads of a file is enough: all of it, or a byte more than a house file may have. Assumes nothing.
use Rattle.std.proofs.Common.{ℕ, ◌≡◌, ◌≤◌, ◌<◌, ◌++◌, ◌∙◌, refl, sym, ap, subst, Bool, true, false, List, [], length, take}
use Rattle.std.proofs.Common.{slice_range, arith, append-nil, length-append}
use Rattle.std.specs.Prelude.{Some, None, IfSome, nat_lt}
use Rattle.std.specs.declared.option.Option.{Option}
use Rattle.std.specs.Io.KnownBytes.{Appends, Consumes, IsAtEnd}
use Rattle.std.proofs.Math.Option.{none}
use Rattle.std.proofs.lemmas.List.{length-take-le}
use native.Mathlib.Nat.{sub-zero}
use borrow.Author.Tests.{lt-leb, ltb-true, ltb-false}
use Rattle.theory.specs.Refusal.{BadFile, fault_number}
use Rattle.theory.specs.File.{decoded, printed, refused_line}

too_long : (bs : List ℕ) → 32768 < length bs → decoded bs ≡ none
unfolding decoded
too_long bs h = rw (lt-leb (length bs) 32768 h, decoded)

long_printed : (bs : List ℕ) → 32768 < length bs → printed bs ≡ refused_line (fault_number BadFile)
unfolding printed
long_printed bs h = rw (too_long bs h, printed)

same_lines : (front rest : List ℕ) → length front ≤ 32769 → (length front < 32769 → rest ≡ []) →
    printed front ≡ printed (front ++ rest)
same_lines front rest short end = go (nat_lt (length front) 32769) refl
  where
    go : (t : Bool) → nat_lt (length front) 32769 ≡ t → printed front ≡ printed (front ++ rest)
    go true e =
        ap printed (sym (append-nil front)) ∙ ap (λ (l : List ℕ). printed (front ++ l)) (sym (end (ltb-true _ _ e)))
    go false e =
        let long : 32768 < length front = omega (arith, ltb-false _ _ e) in
        long_printed front long ∙ sym (long_printed (front ++ rest) (omega (arith, length-append front rest)))

-- the lines of what was read are those of the reader's whole file
pub whole_written : (had left : Option (List ℕ)) (n : ℕ) (buf : List ℕ) (before after : Option (List ℕ)) →
    length buf ≡ 32769 → n ≤ length buf →
    Consumes had left (slice_range buf 0 n) → (n < length buf → IsAtEnd left) →
    Appends before after (printed (take n buf)) →
    IfSome had (λ file. Appends before after (printed file))
whole_written None left n buf before after long inside taken end w = tt
whole_written (Some xs) None n buf before after long inside taken end w = absurd taken
whole_written (Some xs) (Some ys) n buf before after long inside taken end w =
    let is : length (take n buf) ≡ n = length-take-le n buf inside in
    let front : slice_range buf 0 n ≡ take n buf = ap (λ (k : ℕ). take k buf) (sub-zero n) in
    let whole : xs ≡ take n buf ++ ys = taken ∙ ap (λ (l : List ℕ). l ++ ys) front in
    subst (λ (l : List ℕ). Appends before after l)
    (same_lines (take n buf) ys (omega arith) (λ (h : length (take n buf) < 32769). end (omega arith)) ∙ ap printed (sym whole))
    w
