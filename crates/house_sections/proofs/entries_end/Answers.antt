-- `entries_end` has passed whole assumptions up to `at`. Assumes nothing.
use native.Mathlib.Omega.{arith}
use Prim.Native.Nat.{ℕ, ◌+◌, ◌-◌, ◌<◌}
use mathlib.Core.Path.{◌≡◌, sym, ap, ◌∙◌}
use borrow.Author.Tests.{ltb-true, ltb-false}
use lib.ListN.{drop, length}
use Rattle.std.proofs.lemmas.List.{get_or_default}
use Rattle.house_sections.specs.Held.{entries_end}
use Rattle.house_sections.proofs.Cursor.{size_at, index_missing, name_missing, entry_passed}
use Rattle.house_sections.proofs.entries_end.Goals as goal
use Rattle.house_sections.proofs.entries_end.Goals.{In_ok-get}

-- the length byte is there, and it is the one that was read
byte_inside : (c : In_ok-get) → c.loop.at + 2 < length c.args.file.now
byte_inside c = ltb-true (c.loop.at + 2) (length c.args.file.now) (sym c.in_ok-get.ensures.lookup.0)

size_read : (c : In_ok-get) → c.in_ok-get.field-0.now + 3 ≡ size_at c.args.file.now c.loop.at
size_read c =
    let byte = c.in_ok-get.field-0.now in
    ap (λ (b : ℕ). b + 3)
    (c.in_ok-get.ensures.lookup.1 ∙ get_or_default c.args.file.now (c.loop.at + 2) byte 0 (byte_inside c))

pub returns-in_err-get : goal.returns-in_err-get
returns-in_err-get c =
    let short = ltb-false (c.loop.at + 2) (length c.args.file.now) (sym c.in_err-get.ensures.lookup.0) in
    c.from_residual.ensures ∙ sym (c.loop.invariant.1
    ∙ index_missing c.args.file.now c.loop.at (c.args.count - c.loop.counter) (omega arith) (omega arith))

pub returns-then-file-at : goal.returns-then-file-at
returns-then-file-at c =
    let inside = byte_inside (goal.at.returns-then-file-at c).In_ok-get in
    let size = size_read (goal.at.returns-then-file-at c).In_ok-get in
    let read = c.from-size.ensures in
    sym (c.loop.invariant.1
    ∙ name_missing c.args.file.now c.loop.at (c.args.count - c.loop.counter) (omega arith) (omega arith) (omega arith))

pub loop-preserved : goal.loop-preserved
loop-preserved c =
    let inside = byte_inside (goal.at.loop-preserved c).In_ok-get in
    let size = size_read (goal.at.loop-preserved c).In_ok-get in
    let read = c.from-size.ensures in
    let fewer : c.args.count - c.loop.counter - 1 ≡ c.args.count - (c.loop.counter + 1) = omega arith in (
      omega arith,
      c.loop.invariant.1
          ∙ entry_passed c.args.file.now c.loop.at (c.args.count - c.loop.counter) (omega arith) (omega arith) (omega arith)
          ∙ simp (fewer, read, size),
    )

pub returns : goal.returns
unfolding entries_end
returns c =
    let none : c.args.count - c.loop.counter ≡ 0 = omega arith in
    sym (c.loop.invariant.1 ∙ ap (λ (n : ℕ). entries_end c.loop.at n (drop c.loop.at c.args.file.now)) none)
