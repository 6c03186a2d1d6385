-- Going down from a marked formula, whether a marked one is open stays the same: what is passed has handed its marks to its parts.
-- Assumes nothing.
use Prim.Native.Nat.{ℕ, zero, suc, ◌-◌, ◌≤◌, ◌<◌}
use mathlib.Core.Path.{◌≡◌, refl, sym, ap, ap₂, ◌∙◌, subst}
use mathlib.Core.Bool.{Bool, true, false, ◌&&◌, ◌||◌, not}
use mathlib.Core.List.{List, map}
use native.Mathlib.Nat.{zero-add}
use native.Mathlib.Omega.{arith}
use borrow.Author.Tests.{eq-eqb, ne_eqb, eqb-true, eqb-false}
use lib.Dec.{eqb}
use lib.ListN.{get_or-map, length, get_or, set, take, replicate, length-set, length-map, length-replicate}
use lib.Seq.{length-take-le, get_or-take, get_or-set_same, get_or-set_other}
use Rattle.theory.specs.Form.{Shape, is_top, is_bot, is_leaf, is_and, is_or, is_imp, Book, look, shape_of, shape, tree_of, trees, form}
use Rattle.theory.specs.Form.{Below, Good}
use Rattle.theory.specs.Status.{open_form}
use Rattle.theory.proofs.Forms.{form_at, good_from}
use Rattle.context.specs.Area.{Rec, zeroed, formula_at}
use Rattle.status.specs.Marks.{open_by_itself, mark, parts_marked, open_here, some_open}

-- the order of three tests does not matter, nor that one is asked twice
swapped : (a b c : Bool) → a || (b || c) ≡ b || (a || c)
swapped true true c = refl
swapped true false c = refl
swapped false b c = refl

turned : (a b c : Bool) → b || (a || c) ≡ (a || b) || c
turned true true c = refl
turned true false c = refl
turned false b c = refl

asked_twice : (m a c : Bool) → a || c ≡ a || ((m && a) || c)
asked_twice m true c = refl
asked_twice true false c = refl
asked_twice false false c = refl

or-false : (a : Bool) → a || false ≡ a
or-false true = refl
or-false false = refl

-- a record of zeros has no mark
unmarked : (k i : ℕ) → formula_at (replicate k zeroed) i ≡ 0
unmarked zero i = refl
unmarked (suc k) zero = refl
unmarked (suc k) (suc i) = unmarked k i

module _ (b : Book) where
  -- is formula i open
  abbrev is_open : ℕ → Bool
  is_open i = open_form (form b i)

  -- a mark at n or above it is not looked at
  mark_above : (w : List Rec) (l n : ℕ) → n ≤ l → some_open b (set w l mark) n ≡ some_open b w n
  unfolding some_open open_here
  mark_above w l zero h = refl
  mark_above w l (suc n) h = ap₂ (λ (x : Rec) (o : Bool). (not (eqb x.formula 0) && is_open n) || o)
      (get_or-set_other w l n mark zeroed (λ e. omega arith)) (mark_above w l n (omega arith))

  -- a mark below n asks for its formula too
  mark_below : (w : List Rec) (l n : ℕ) → l < n → n ≤ length w → some_open b (set w l mark) n ≡ is_open l || some_open b w n
  unfolding some_open open_here
  mark_below w l zero h k = absurd (omega arith)
  mark_below w l (suc n) h k = go (eqb l n) refl (λ p. mark_below w l n p (omega arith))
    where
      go : (e : Bool) → eqb l n ≡ e → (l < n → some_open b (set w l mark) n ≡ is_open l || some_open b w n) →
          open_here b (set w l mark) n || some_open b (set w l mark) n ≡ is_open l || (open_here b w n || some_open b w n)
      go true e ih =
          let p : l ≡ n = eqb-true l n e in
          subst (λ (i : ℕ). open_here b (set w i mark) n || some_open b (set w i mark) n ≡ is_open i ||
          (open_here b w n || some_open b w n))
          (sym p)
          (ap₂ (λ (x : Rec) (o : Bool). (not (eqb x.formula 0) && is_open n) || o)
          (get_or-set_same w n mark zeroed (omega arith)) (mark_above w n n (omega arith))
          ∙ asked_twice (not (eqb (formula_at w n) 0)) (is_open n) (some_open b w n))
      go false e ih =
          let q : ¬ (l ≡ n) = eqb-false l n e in
          ap₂ (λ (x : Rec) (o : Bool). (not (eqb x.formula 0) && is_open n) || o)
          (get_or-set_other w l n mark zeroed (λ p. q (sym p))) (ih (omega arith))
          ∙ swapped (open_here b w n) (is_open l) (some_open b w n)

  -- a formula that is not marked is passed over
  pub past_unmarked : (w : List Rec) (n : ℕ) → formula_at w n ≡ 0 → some_open b w n ≡ some_open b w (suc n)
  unfolding some_open open_here
  past_unmarked w n e = ap (λ (m : Bool). (not m && is_open n) || some_open b w n) (sym (eq-eqb (formula_at w n) 0 e))

  -- both parts marked
  both : (w : List Rec) (l r n : ℕ) → l < n → r < n → n ≤ length w →
      some_open b (set (set w l mark) r mark) n ≡ (is_open l || is_open r) || some_open b w n
  both w l r n p q k =
      mark_below (set w l mark) r n q (omega (arith, length-set w l mark))
      ∙ ap (λ (o : Bool). is_open r || o) (mark_below w l n p k)
      ∙ turned (is_open l) (is_open r) (some_open b w n)

  -- no formula is open by itself and has parts too
  open_tree : (s : Shape) → open_by_itself s ≡ true → open_form (tree_of (trees b) s) ≡ true
  unfolding open_by_itself open_form tree_of
  open_tree is_top e = e
  open_tree is_bot e = e
  open_tree (is_leaf k s) e = e
  open_tree (is_and l r) e = absurd (let z : ◌≡◌ {A = ℕ} 0 1 = cc in omega arith)
  open_tree (is_or l r) e = absurd (let z : ◌≡◌ {A = ℕ} 0 1 = cc in omega arith)
  open_tree (is_imp l r) e = absurd (let z : ◌≡◌ {A = ℕ} 0 1 = cc in omega arith)

  -- one that is not hands its mark to its parts
  handed : (w : List Rec) (n : ℕ) → n ≤ length w → (s : Shape) → Below n s → open_by_itself s ≡ false →
      some_open b (parts_marked s w) n ≡ open_form (tree_of (trees b) s) || some_open b w n
  unfolding open_by_itself open_form tree_of parts_marked form
  handed w n k is_top h e = refl
  handed w n k is_bot h e = refl
  handed w n k (is_leaf j s) h e = ap (λ (a : Bool). a || some_open b w n) (sym e)
  handed w n k (is_and l r) h e = both w l r n h.0 h.1 k
  handed w n k (is_or l r) h e = both w l r n h.0 h.1 k
  handed w n k (is_imp l r) h e = both w l r n h.0 h.1 k

  module _ (g : Good b) (w : List Rec) (n : ℕ) (inside : n < length b) (marked : formula_at w n ≡ 0 → ⊥) {s : Shape}
      (is : look b n ≡ s) where
    -- a marked formula counts, and by its shape
    counts : open_form (tree_of (trees b) s) || some_open b w n ≡ some_open b w (suc n)
    unfolding some_open open_here
    counts =
        ap (λ (a : Bool). a || some_open b w n)
        (ap (λ (v : Shape). open_form (tree_of (trees b) v)) (sym is) ∙ sym (ap open_form (form_at b g n inside)))
        ∙ ap (λ (m : Bool). (not m && is_open n) || some_open b w n) (sym (ne_eqb (formula_at w n) 0 marked))

    -- an open leaf settles it
    pub at_open_leaf : open_by_itself s ≡ true → true ≡ some_open b w (suc n)
    at_open_leaf o = ap (λ (a : Bool). a || some_open b w n) (sym (open_tree s o)) ∙ counts

    -- else its parts are asked in its place
    pub past_marked : n ≤ length w → open_by_itself s ≡ false → some_open b (parts_marked s w) n ≡ some_open b w (suc n)
    past_marked k o =
        handed w n k s
        (subst (Below n) is (subst (λ (i : ℕ). Below i (look b n)) (zero-add n) (good_from b 0 g n inside))) o
        ∙ counts

  -- with no record marked, zeroed is open
  none_open : (k n : ℕ) → some_open b (replicate k zeroed) n ≡ false
  unfolding some_open open_here
  none_open k zero = refl
  none_open k (suc n) = sym (past_unmarked (replicate k zeroed) n (unmarked k n)) ∙ none_open k n

  -- with the goal alone marked, the goal tells
  pub goal_marked : (k goal : ℕ) → goal < k → some_open b (set (replicate k zeroed) goal mark) (suc goal) ≡ is_open goal
  goal_marked k goal h =
      mark_below (replicate k zeroed) goal (suc goal) (omega arith) (omega (arith, length-replicate {A = Rec} k zeroed))
      ∙ ap (λ (o : Bool). is_open goal || o) (none_open k (suc goal)) ∙ or-false (is_open goal)

-- the shape that a place of the given words has
pub given_shape : (f : List ℕ) (count i : ℕ) → i < count → look (map shape (take count f)) i ≡ shape (get_or f i 0)
unfolding shape shape_of
given_shape f count i h = get_or-map shape (take count f) i 0 ∙ ap shape (get_or-take count f i 0 h)

pub given_long : (f : List ℕ) (count : ℕ) → count ≤ length f → length (map shape (take count f)) ≡ count
given_long f count h = length-map (take count f) shape ∙ length-take-le count f h

-- what the loop keeps, on its way down from `from` at i: as many records, and the same answer
pub record Going (f : List ℕ) (count from : ℕ) (w₀ w : List Rec) (i : ℕ) : Type 0 where
  pub long : length w ≡ length w₀
  pub low : i ≤ from
  pub same : some_open (map shape (take count f)) w i ≡ some_open (map shape (take count f)) w₀ from

module _ (f : List ℕ) (count from : ℕ) (w₀ : List Rec) (room : (from ≤ count) × (count ≤ length f) × (count ≤ length w₀))
    (g : Good (map shape (take count f))) where
  pub going_starts : Going f count from w₀ w₀ from
  going_starts = record { long = refl; low = omega arith; same = refl }

  module _ {w : List Rec} {i : ℕ} (at : Going f count from w₀ w i) (more : 0 < i) where
    next : suc (i - 1) ≡ i
    next = omega arith

    -- the answer before this turn
    before : some_open (map shape (take count f)) w (suc (i - 1)) ≡ some_open (map shape (take count f)) w₀ from
    before = ap (some_open (map shape (take count f)) w) next ∙ at.same

    pub going_past : formula_at w (i - 1) ≡ 0 → Going f count from w₀ w (i - 1)
    going_past e = record {
      long = at.long;
      low = omega (arith, at.low);
      same = past_unmarked (map shape (take count f)) w (i - 1) e ∙ before;
    }

    module _ (marked : formula_at w (i - 1) ≡ 0 → ⊥) where
      below : i - 1 < count
      below = omega (arith, at.low, room.0)

      inside : i - 1 < length (map shape (take count f))
      inside = omega (arith, below, given_long f count room.1)

      pub going_stops : true ≡ open_by_itself (shape (get_or f (i - 1) 0)) → true ≡ some_open (map shape (take count f)) w₀ from
      going_stops o =
          at_open_leaf (map shape (take count f)) g w (i - 1) inside marked (given_shape f count (i - 1) below) (sym o) ∙ before

      pub going_on : {w1 : List Rec} → false ≡ open_by_itself (shape (get_or f (i - 1) 0)) → length w1 ≡ length w →
          w1 ≡ parts_marked (shape (get_or f (i - 1) 0)) w → Going f count from w₀ w1 (i - 1)
      going_on {w1} o k e = record {
        long = k ∙ at.long;
        low = omega (arith, at.low);
        same = ap (λ (v : List Rec). some_open (map shape (take count f)) v (i - 1)) e
            ∙ past_marked (map shape (take count f)) g w (i - 1) inside marked (given_shape f count (i - 1) below)
            (omega (arith, below, at.long, room.2)) (sym o)
            ∙ before;
      }

  -- with nothing left below, no marked formula was open
  pub going_ends : {w : List Rec} {i : ℕ} → Going f count from w₀ w i → i ≤ 0 → false ≡ some_open (map shape (take count f)) w₀ from
  unfolding some_open
  going_ends {w} {i} at e =
      ap (some_open (map shape (take count f)) w) (let z : 0 ≡ i = omega arith in z) ∙ at.same
