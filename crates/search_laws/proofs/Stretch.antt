-- The contexts after the records in use were copied a level up, and after one unordered record was taken out. Assumes nothing.
use Prim.Native.Nat.{ℕ, suc, ◌+◌, ◌-◌, ◌*◌, ◌<◌, ◌≤◌}
use mathlib.Core.Path.{◌≡◌, refl, sym, ap, ap₂, ◌∙◌, subst}
use mathlib.Core.Bool.{Bool, true, false}
use mathlib.Core.List.{List, ◌∷◌, ◌++◌}
use native.Mathlib.Omega.{arith}
use lib.ListN.{length, get_or, length-append}
use lib.Dec.{ltb}
use borrow.Author.Tests.{ltb-true, ltb-false}
use Rattle.theory.specs.Meter.{Entry}
use Rattle.meter.specs.declared.Sequent.{Sequent}
use Rattle.meter.specs.declared.Limits.{Limits}
use Rattle.context.specs.Moves.{stretch, upped, without}
use Rattle.context.specs.Area.{Rec, zeroed, copies, shifts, raised, removed}
use Rattle.search_laws.specs.Tables.{upto, from}
use Rattle.search_laws.specs.Reading.{entry_at, unordered_in, ordered_in}
use Rattle.search_laws.specs.Keeping.{Same, Inside, Seats}
use Rattle.search_laws.proofs.Tables.{upto_ext, downto_ext, upto_split, from_ext, upto_length, parts_same}
use Rattle.search_laws.proofs.Same.{entry_by, ordered_same, inside_same}
use Rattle.search_laws.proofs.Seat.{unordered_length}
use Rattle.context.proofs.Copies.{copies_length, copies_below, copies_at}
use Rattle.context.proofs.Copies.{shifts_length, shifts_below, shifts_above, shifts_at}

module _ {m : Limits} {nf nt : ℕ} {w : List Rec} {q : Sequent} {us os : List Entry} (x : Seats m nf nt w q us os) where
  module _ (lv : q.level < m.levels) (room : (m.levels + 1) * stretch ≤ length w) where
    -- the unordered records are copied, then the ordered ones
    once : List Rec
    once = copies q.unordered (q.level * stretch) w

    last : ℕ
    last = q.level * stretch + stretch - q.ordered

    once_room : (q.unordered ≤ stretch) × (q.level * stretch + stretch + q.unordered ≤ length w)
    once_room = (omega (arith, x.fits), omega (arith, x.fits))

    once_length : length once ≡ length w
    unfolding once
    once_length = copies_length q.unordered (q.level * stretch) w once_room.0 once_room.1

    last_room : (q.ordered ≤ stretch) × (last + stretch + q.ordered ≤ length once)
    unfolding last
    last_room = (omega (arith, x.fits), omega (arith, x.fits, once_length))

    -- the levels up to this one are left alone
    pub same_raised : Same zeroed ((q.level + 1) * stretch) w (raised w q)
    unfolding raised once last
    same_raised = record {
      long = copies_length q.ordered last once last_room.0 last_room.1 ∙ once_length;
      at = λ i h. copies_below q.ordered last once last_room.0 last_room.1 i (omega (arith, x.fits))
          ∙ copies_below q.unordered (q.level * stretch) w once_room.0 once_room.1 i (omega arith);
    }

    raised_front : (i : ℕ) → i < q.unordered →
        get_or (raised w q) ((q.level + 1) * stretch + i) zeroed ≡ get_or w (q.level * stretch + i) zeroed
    unfolding raised once last
    raised_front i h =
        copies_below q.ordered last once last_room.0 last_room.1 ((q.level + 1) * stretch + i) (omega (arith, x.fits))
        ∙ ap (λ (z : ℕ). get_or once z zeroed) (let p : (q.level + 1) * stretch + i ≡ q.level * stretch + stretch + i = omega arith in p)
        ∙ copies_at q.unordered (q.level * stretch) w once_room.0 once_room.1 i h

    raised_back : (i : ℕ) → i < q.ordered →
        get_or (raised w q) ((q.level + 1) * stretch + stretch - 1 - i) zeroed ≡ get_or w (q.level * stretch + stretch - 1 - i) zeroed
    unfolding raised once last
    raised_back i h =
        let k : ℕ = q.ordered - 1 - i in
        ap (λ (z : ℕ). get_or (copies q.ordered last once) z zeroed)
        (let p : (q.level + 1) * stretch + stretch - 1 - i ≡ last + stretch + k = omega (arith, x.fits) in p)
        ∙ copies_at q.ordered last once last_room.0 last_room.1 k (omega arith)
        ∙ copies_below q.unordered (q.level * stretch) w once_room.0 once_room.1 (last + k) (omega (arith, x.fits))
        ∙ ap (λ (z : ℕ). get_or w z zeroed) (let p : last + k ≡ q.level * stretch + stretch - 1 - i = omega (arith, x.fits) in p)

    up_seats : (g : ℕ) → g < nf → Seats m nf nt (raised w q) (upped q g) us os
    unfolding unordered_in ordered_in
    up_seats g h = record {
      level_in = omega arith;
      fits = x.fits;
      goal_in = h;
      unordered_inside = λ i k. inside_same (raised_front i k) (x.unordered_inside i k);
      ordered_inside = λ i k. inside_same (raised_back i k) (x.ordered_inside i k);
      unordered_is = upto_ext q.unordered
          (λ i k. entry_by w (raised w q) (q.level * stretch + i) ((q.level + 1) * stretch + i) (raised_front i k)) ∙ x.unordered_is;
      ordered_is = downto_ext q.ordered
          (λ i k. entry_by w (raised w q) (q.level * stretch + stretch - 1 - i) ((q.level + 1) * stretch + stretch - 1 - i)
          (raised_back i k)) ∙ x.ordered_is;
    }

    -- the same contexts a level up, with another goal
    pub seats_up : {w1 : List Rec} {q1 : Sequent} (g : ℕ) → g < nf → w1 ≡ raised w q → q1 ≡ upped q g → Seats m nf nt w1 q1 us os
    seats_up {w1} {q1} g h ew eq =
        subst (λ (v : List Rec). Seats m nf nt v q1 us os) (sym ew)
        (subst (λ (v : Sequent). Seats m nf nt (raised w q) v us os) (sym eq) (up_seats g h))

  module _ (room : (m.levels + 1) * stretch ≤ length w) where
    -- one unordered record e taken out
    module _ (before : List Entry) (e : Entry) (after : List Entry) (is : us ≡ before ++ (e ∷ after)) where
      i : ℕ
      i = length before

      k : ℕ
      k = length after

      many : q.unordered ≡ i + suc k
      unfolding i k
      many = sym (unordered_length w q.level q.unordered) ∙ ap length (x.unordered_is ∙ is) ∙ length-append before (e ∷ after)

      at : ℕ → Entry
      at j = entry_at w (q.level * stretch + j)

      -- the two parts of the context, as they are read off
      parts : (upto at i ≡ before) × (from at i (suc k) ≡ e ∷ after)
      unfolding i k at unordered_in
      parts = parts_same (upto at i) before (from at i (suc k)) (e ∷ after) (upto_length at i)
          (sym (upto_split at i (suc k)) ∙ ap (upto at) (sym many) ∙ x.unordered_is ∙ is)

      gone : List Rec
      gone = shifts k (q.level * stretch + i) w

      gone_room : q.level * stretch + i + k < length w
      gone_room = omega (arith, x.fits, x.level_in, many)

      gone_front : (j : ℕ) → j < i → get_or gone (q.level * stretch + j) zeroed ≡ get_or w (q.level * stretch + j) zeroed
      unfolding gone
      gone_front j h = shifts_below k (q.level * stretch + i) w gone_room (q.level * stretch + j) (omega arith)

      gone_next : (j : ℕ) → i ≤ j → j < i + k → get_or gone (q.level * stretch + j) zeroed ≡ get_or w (q.level * stretch + suc j) zeroed
      unfolding gone
      gone_next j h l =
          ap (λ (z : ℕ). get_or gone z zeroed)
          (let p : q.level * stretch + j ≡ q.level * stretch + i + (j - i) = omega arith in p)
          ∙ shifts_at k (q.level * stretch + i) w gone_room (j - i) (omega arith)
          ∙ ap (λ (z : ℕ). get_or w z zeroed)
          (let p : q.level * stretch + i + 1 + (j - i) ≡ q.level * stretch + suc j = omega arith in p)

      gone_back : (j : ℕ) → j < q.ordered → get_or gone (q.level * stretch + stretch - 1 - j) zeroed ≡
          get_or w (q.level * stretch + stretch - 1 - j) zeroed
      unfolding gone
      gone_back j h = shifts_above k (q.level * stretch + i) w gone_room (q.level * stretch + stretch - 1 - j)
          (omega (arith, x.fits, many))

      gone_unordered : unordered_in gone q.level (i + k) ≡ before ++ after
      unfolding unordered_in from at
      gone_unordered =
          upto_split (λ j. entry_at gone (q.level * stretch + j)) i k
          ∙ ap₂ (λ (a b : List Entry). a ++ b)
          (upto_ext i (λ j h. entry_by w gone (q.level * stretch + j) (q.level * stretch + j) (gone_front j h)) ∙ parts.0)
          (from_ext (λ j. entry_at gone (q.level * stretch + j)) at i (suc i) k
          (λ j h. entry_by w gone (q.level * stretch + suc (i + j)) (q.level * stretch + (i + j))
          (gone_next (i + j) (omega arith) (omega arith)) ∙ ap at (let p : suc (i + j) ≡ suc i + j = omega arith in p)) ∙ last)
        where
          last : from at (suc i) k ≡ after
          last = let p : from at i (suc k) ≡ e ∷ after = parts.1 in cc

      out_seats : Seats m nf nt gone (record { level = q.level; unordered = i + k; ordered = q.ordered; goal = q.goal })
          (before ++ after) os
      out_seats = record {
        level_in = x.level_in;
        fits = omega (arith, x.fits, many);
        goal_in = x.goal_in;
        unordered_inside = ins;
        ordered_inside = λ j h. inside_same (gone_back j h) (x.ordered_inside j h);
        unordered_is = gone_unordered;
        ordered_is = ordered_same w gone q.level q.ordered gone_back ∙ x.ordered_is;
      }
        where
          ins : (j : ℕ) → j < i + k → Inside nf nt gone (q.level * stretch + j)
          ins j h = go (ltb j i) refl
            where
              go : (b : Bool) → ltb j i ≡ b → Inside nf nt gone (q.level * stretch + j)
              go true l = inside_same (gone_front j (ltb-true j i l)) (x.unordered_inside j (omega (arith, many)))
              go false l =
                  inside_same (gone_next j (ltb-false j i l) h) (x.unordered_inside (suc j) (omega (arith, many)))

      -- those before it and those after it
      pub seats_out : {w1 : List Rec} {q1 : Sequent} → w1 ≡ removed w q (length before) → q1 ≡ without q →
          Seats m nf nt w1 q1 (before ++ after) os
      unfolding removed gone i k
      seats_out {w1} {q1} ew eq =
          let n : q.unordered - 1 ≡ i + k = omega (arith, many) in
          let j : q.unordered - 1 - length before ≡ k = omega (arith, many) in
          subst (λ (v : List Rec). Seats m nf nt v q1 (before ++ after) os)
          (sym (ew ∙ ap (λ (c : ℕ). shifts c (q.level * stretch + length before) w) j))
          (subst (λ (v : Sequent). Seats m nf nt gone v (before ++ after) os)
          (sym (eq ∙ ap (λ (c : ℕ). record { level = q.level; unordered = c; ordered = q.ordered; goal = q.goal }) n)) out_seats)

      pub same_out : Same zeroed (q.level * stretch) w (removed w q (length before))
      unfolding removed i k
      same_out =
          let n : ℕ = q.unordered - 1 - length before in
          let r : q.level * stretch + length before + n < length w = omega (arith, gone_room, many) in
          record {
            long = shifts_length n (q.level * stretch + length before) w r;
            at = λ j h. shifts_below n (q.level * stretch + length before) w r j (omega arith);
          }
