-- What a table of marks says after a mark was put into it, and how a word is held against it. Assumes nothing.
use Prim.Native.Nat.{ℕ, ◌+◌, ◌-◌, ◌*◌, ◌%◌, ◌^◌, ◌<◌}
use mathlib.Core.Path.{◌≡◌, sym, subst}
use mathlib.Core.Bool.{true, false}
use mathlib.Core.Logic.{◌≢◌}
use mathlib.Core.List.{List}
use native.Mathlib.Omega.{arith}
use borrow.Author.Tests.{eq-eqb, ne_eqb}
use lib.Dec.{eqb}
use lib.ListN.{get_or, set}
use lib.Pow.{shl_exact}
use Rattle.theory.specs.Form.{kind_of, left_of}
use Rattle.formula.specs.declared.Kind.{Kind}
use Rattle.formula.specs.declared.Kind.TheVariants.{True, False, Atom, And, Or, Impl, ForAll, Exists, Unknown}
use Rattle.formula.specs.Kinds.{kind_named}
use Rattle.formula.specs.Leaves.{leaf_kind}
use Rattle.refusal.specs.Marks.{mark_of, byte_of, shift_of, mark_at, marked, follows, agrees, noted}
use Rattle.refusal.proofs.MarkBits.{put_fits}

pub mark_small : (k : Kind) → mark_of k < 4
mark_small True = omega arith
mark_small False = omega arith
mark_small Atom = omega arith
mark_small And = omega arith
mark_small Or = omega arith
mark_small Impl = omega arith
mark_small ForAll = omega arith
mark_small Exists = omega arith
mark_small (Unknown k) = omega arith

module _ (ms : List ℕ) (s : ℕ) (k : Kind) (h : s < 16384) (free : mark_at ms s ≡ 0) where
  -- a mark that is shifted to its place loses no bit
  shifted : mark_of k * 2 ^ shift_of s % 2 ^ 8 ≡ mark_of k * 2 ^ shift_of s
  shifted = shl_exact 2 (shift_of s) 8 (mark_small k) (omega arith)

  -- so the sum that puts it is a byte
  pub sum_fits : get_or ms (byte_of s) 0 < 256 → get_or ms (byte_of s) 0 + mark_of k * 2 ^ shift_of s % 2 ^ 8 < 256
  unfolding mark_at
  sum_fits b =
      let byte : ℕ = get_or ms (byte_of s) 0 in
      let width : shift_of s + (2 + (6 - shift_of s)) ≡ 8 = omega arith in
      let fits = put_fits byte (mark_of k) (mark_small k) (shift_of s) free (6 - shift_of s)
      (subst (λ (w : ℕ). byte < 2 ^ w) (sym width) b) in
      rw shifted (subst (λ (w : ℕ). byte + mark_of k * 2 ^ shift_of s < 2 ^ w) width fits)

  pub sum_is : set ms (byte_of s) (get_or ms (byte_of s) 0 + mark_of k * 2 ^ shift_of s % 2 ^ 8) ≡ marked ms s (mark_of k)
  unfolding marked
  sum_is = rw shifted

-- a word that is no leaf's; a leaf's; one whose symbol has no mark; one whose symbol has one
module _ (ms : List ℕ) (w : ℕ) where
  pub no_leaf : leaf_kind (kind_of w) ≡ false → (true ≡ agrees ms w) × (ms ≡ noted ms w)
  unfolding agrees noted
  no_leaf e = (rw (e, agrees), rw (e, noted))

  pub of_leaf : leaf_kind (kind_of w) ≡ true → agrees ms w ≡ follows (mark_at ms (left_of w)) (kind_of w)
  unfolding agrees
  of_leaf e = rw (e, agrees)

  pub first_time : leaf_kind (kind_of w) ≡ true → mark_at ms (left_of w) ≡ 0 →
      (true ≡ agrees ms w) × (marked ms (left_of w) (mark_of (kind_named (kind_of w))) ≡ noted ms w)
  unfolding agrees noted
  first_time e z = (rw (e, agrees, eq-eqb _ 0 z), rw (e, noted, eq-eqb _ 0 z))

  pub stood_before : leaf_kind (kind_of w) ≡ true → mark_at ms (left_of w) ≢ 0 →
      (eqb (mark_at ms (left_of w)) (mark_of (kind_named (kind_of w))) ≡ agrees ms w) × (ms ≡ noted ms w)
  unfolding agrees noted
  stood_before e n = (rw (e, agrees, ne_eqb _ 0 n), rw (e, noted, ne_eqb _ 0 n))
