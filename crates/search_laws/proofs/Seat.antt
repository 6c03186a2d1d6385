-- The contexts that a stretch holds after each move of the work area: pop, push, append, copy up, take out. Each law takes what the
-- code's function says of its exit. Assumes nothing.
use Prim.Native.Nat.{ℕ, ◌+◌, ◌-◌, ◌*◌, ◌<◌, ◌≤◌}
use mathlib.Core.Path.{◌≡◌, refl, sym, ap, ap₂, ◌∙◌, subst}
use mathlib.Core.List.{List, [], ◌∷◌, ◌++◌}
use native.Mathlib.Omega.{arith}
use native.Mathlib.Nat.{mod-eq_of_lt}
use native.Mathlib.Numerals.{add-one}
use borrow.Author.Count.{below_more}
use lib.ListN.{length, get_or, set}
use lib.Seq.{get_or-set_same, get_or-set_other}
use Rattle.theory.specs.Meter.{Entry}
use Rattle.theory.specs.Search.{entry}
use Rattle.meter.specs.declared.Sequent.{Sequent}
use Rattle.meter.specs.declared.Limits.{Limits}
use Rattle.context.specs.Moves.{stretch, pushed, popped, appended}
use Rattle.context.specs.Area.{Rec, zeroed, rec, record_of, push_place, append_place, top_place}
use Rattle.search_laws.specs.Tables.{upto, downto}
use Rattle.search_laws.specs.Reading.{entry_at, unordered_in, ordered_in}
use Rattle.search_laws.specs.Keeping.{Inside, Seats}
use Rattle.search_laws.proofs.Tables.{upto_length, downto_length}
use Rattle.search_laws.proofs.Same.{unordered_same, ordered_same, inside_same}

pub unordered_length : (w : List Rec) (l n : ℕ) → length (unordered_in w l n) ≡ n
unfolding unordered_in
unordered_length w l n = upto_length (λ i. entry_at w (l * stretch + i)) n

pub ordered_length : (w : List Rec) (l n : ℕ) → length (ordered_in w l n) ≡ n
unfolding ordered_in
ordered_length w l n = downto_length (λ i. entry_at w (l * stretch + stretch - 1 - i)) n

unordered_snoc : (w : List Rec) (l n : ℕ) → unordered_in w l (n + 1) ≡ unordered_in w l n ++ (entry_at w (l * stretch + n) ∷ [])
unfolding unordered_in upto
unordered_snoc w l n = ap (upto (λ i. entry_at w (l * stretch + i))) (add-one n)

ordered_cons : (w : List Rec) (l n : ℕ) → ordered_in w l (n + 1) ≡ entry_at w (l * stretch + stretch - 1 - n) ∷ ordered_in w l n
unfolding ordered_in downto
ordered_cons w l n = ap (downto (λ i. entry_at w (l * stretch + stretch - 1 - i))) (add-one n)

-- the last ordered record, and the others
pub ordered_pop : (w : List Rec) (q : Sequent) → 0 < q.ordered → q.ordered ≤ stretch →
    ordered_in w q.level q.ordered ≡ entry_at w (top_place q) ∷ ordered_in w q.level (q.ordered - 1)
ordered_pop w q h k =
    ap (ordered_in w q.level) (let p : q.ordered ≡ q.ordered - 1 + 1 = omega arith in p)
    ∙ ordered_cons w q.level (q.ordered - 1)
    ∙ ap (λ (i : ℕ). entry_at w i ∷ ordered_in w q.level (q.ordered - 1))
    (let p : q.level * stretch + stretch - 1 - (q.ordered - 1) ≡ top_place q = omega arith in p)

module _ {m : Limits} {nf nt : ℕ} {w : List Rec} {q : Sequent} {us os : List Entry} (x : Seats m nf nt w q us os) where
  -- higher fills
  pub seats_more : {nf1 nt1 : ℕ} → nf ≤ nf1 → nt ≤ nt1 → Seats m nf1 nt1 w q us os
  seats_more {nf1} {nt1} hf ht = record {
    level_in = x.level_in;
    fits = x.fits;
    goal_in = omega (arith, x.goal_in);
    unordered_inside = λ i k. up (x.unordered_inside i k);
    ordered_inside = λ i k. up (x.ordered_inside i k);
    unordered_is = x.unordered_is;
    ordered_is = x.ordered_is;
  }
    where
      up : {i : ℕ} → Inside nf nt w i → Inside nf1 nt1 w i
      up y = record { formula_in = omega (arith, y.formula_in); term_in = omega (arith, y.term_in) }

  -- the contexts as they are read off
  pub seats_own : Seats m nf nt w q (unordered_in w q.level q.unordered) (ordered_in w q.level q.ordered)
  seats_own = record {
    level_in = x.level_in;
    fits = x.fits;
    goal_in = x.goal_in;
    unordered_inside = x.unordered_inside;
    ordered_inside = x.ordered_inside;
    unordered_is = refl;
    ordered_is = refl;
  }

  -- the last ordered record is in use
  pub top_in : 0 < q.ordered → Inside nf nt w (top_place q)
  top_in h = subst (Inside nf nt w) (let p : q.level * stretch + stretch - 1 - (q.ordered - 1) ≡ top_place q = omega (arith, x.fits) in p)
      (x.ordered_inside (q.ordered - 1) (omega arith))

  pub seats_pop : {q1 : Sequent} → q1 ≡ popped q → Seats m nf nt w q1 us (ordered_in w q.level (q.ordered - 1))
  seats_pop e = subst (λ (v : Sequent). Seats m nf nt w v us (ordered_in w q.level (q.ordered - 1))) (sym e) (record {
    level_in = x.level_in;
    fits = omega (arith, x.fits);
    goal_in = x.goal_in;
    unordered_inside = x.unordered_inside;
    ordered_inside = λ i k. x.ordered_inside i (omega arith);
    unordered_is = x.unordered_is;
    ordered_is = refl;
  })

  module _ (room : (m.levels + 1) * stretch ≤ length w) where
    -- a record written at place i of the stretch
    module _ (a t : ℕ) (a_in : a < nf) (t_in : t < nt) (few : (nf ≤ 65536) × (nt ≤ 65536)) where
      written : (i : ℕ) → i < length w → get_or (set w i (rec a t)) i zeroed ≡ record_of a t
      written i h = get_or-set_same w i (rec a t) zeroed h
          ∙ ap₂ record_of (mod-eq_of_lt (let p : a < 65536 = omega arith in p))
          (mod-eq_of_lt (let p : t < 65536 = omega arith in p))

      entry_written : (i : ℕ) → i < length w → entry_at (set w i (rec a t)) i ≡ entry a t
      unfolding entry_at entry
      entry_written i h = ap (λ (r : Rec). entry r.formula r.term) (written i h)

      inside_written : (i : ℕ) → i < length w → Inside nf nt (set w i (rec a t)) i
      inside_written i h = record {
        formula_in = subst (λ (r : Rec). r.formula < nf) (sym (written i h)) a_in;
        term_in = subst (λ (r : Rec). r.term < nt) (sym (written i h)) t_in;
      }

      other : (p i : ℕ) → (i ≡ p → ⊥) → get_or (set w p (rec a t)) i zeroed ≡ get_or w i zeroed
      other p i n = get_or-set_other w p i (rec a t) zeroed (omega arith)

      module _ (free : q.unordered + q.ordered < stretch) where
        pushed_at : List Rec
        pushed_at = set w (push_place q) (rec a t)

        push_seats : Seats m nf nt pushed_at (pushed q) us (entry a t ∷ os)
        unfolding pushed_at
        push_seats = record {
          level_in = x.level_in;
          fits = omega arith;
          goal_in = x.goal_in;
          unordered_inside = λ i k. inside_same (other (push_place q) (q.level * stretch + i) (omega arith)) (x.unordered_inside i k);
          ordered_inside = below_more (λ (i : ℕ). Inside nf nt pushed_at (q.level * stretch + stretch - 1 - i)) q.ordered
              (λ i k. inside_same (other (push_place q) (q.level * stretch + stretch - 1 - i) (omega arith)) (x.ordered_inside i k))
              (inside_written (push_place q) here);
          unordered_is = unordered_same w pushed_at q.level q.unordered
              (λ i k. other (push_place q) (q.level * stretch + i) (omega arith)) ∙ x.unordered_is;
          ordered_is = ordered_cons pushed_at q.level q.ordered
              ∙ ap₂ (λ (e : Entry) (es : List Entry). e ∷ es) (entry_written (push_place q) here)
              (ordered_same w pushed_at q.level q.ordered
              (λ i k. other (push_place q) (q.level * stretch + stretch - 1 - i) (omega arith)) ∙ x.ordered_is);
        }
          where
            here : push_place q < length w
            here = omega (arith, x.level_in)

        pub seats_push : {w1 : List Rec} {q1 : Sequent} → w1 ≡ set w (push_place q) (rec a t) → q1 ≡ pushed q →
            Seats m nf nt w1 q1 us (entry a t ∷ os)
        unfolding pushed_at
        seats_push {w1} {q1} ew eq =
            subst (λ (v : List Rec). Seats m nf nt v q1 us (entry a t ∷ os)) (sym ew)
            (subst (λ (v : Sequent). Seats m nf nt pushed_at v us (entry a t ∷ os)) (sym eq) push_seats)

        appended_at : List Rec
        appended_at = set w (append_place q) (rec a t)

        append_seats : Seats m nf nt appended_at (appended q) (us ++ (entry a t ∷ [])) os
        unfolding appended_at
        append_seats = record {
          level_in = x.level_in;
          fits = omega arith;
          goal_in = x.goal_in;
          unordered_inside = below_more (λ (i : ℕ). Inside nf nt appended_at (q.level * stretch + i)) q.unordered
              (λ i k. inside_same (other (append_place q) (q.level * stretch + i) (omega arith)) (x.unordered_inside i k))
              (inside_written (append_place q) here);
          ordered_inside = λ i k. inside_same (other (append_place q) (q.level * stretch + stretch - 1 - i) (omega arith))
              (x.ordered_inside i k);
          unordered_is = unordered_snoc appended_at q.level q.unordered
              ∙ ap₂ (λ (es : List Entry) (e : Entry). es ++ (e ∷ []))
              (unordered_same w appended_at q.level q.unordered
              (λ i k. other (append_place q) (q.level * stretch + i) (omega arith)) ∙ x.unordered_is)
              (entry_written (append_place q) here);
          ordered_is = ordered_same w appended_at q.level q.ordered
              (λ i k. other (append_place q) (q.level * stretch + stretch - 1 - i) (omega arith)) ∙ x.ordered_is;
        }
          where
            here : append_place q < length w
            here = omega (arith, x.level_in)

        pub seats_append : {w1 : List Rec} {q1 : Sequent} → w1 ≡ set w (append_place q) (rec a t) → q1 ≡ appended q →
            Seats m nf nt w1 q1 (us ++ (entry a t ∷ [])) os
        unfolding appended_at
        seats_append {w1} {q1} ew eq =
            subst (λ (v : List Rec). Seats m nf nt v q1 (us ++ (entry a t ∷ [])) os) (sym ew)
            (subst (λ (v : Sequent). Seats m nf nt appended_at v (us ++ (entry a t ∷ [])) os) (sym eq) append_seats)
