-- The walks over the unordered records, one record on. Assumes nothing.
use Prim.Native.Nat.{ℕ, zero, suc, ◌+◌, ◌*◌, ◌≤◌, ◌<◌}
use mathlib.Core.Path.{◌≡◌, refl, sym, ap, ap₂, ◌∙◌, subst}
use mathlib.Core.Bool.{Bool, true, false, not, cond}
use mathlib.Core.List.{List}
use native.Mathlib.Omega.{arith}
use native.Mathlib.Numerals.{add-one}
use lib.ListN.{length, get_or, set}
use lib.Dec.{ltb, eqb}
use borrow.Author.Tests.{ltb-true, ltb-false, le-ltb, eq-eqb, ne_eqb}
use Rattle.std.specs.Prelude.{Some, None, is_some}
use Rattle.std.specs.declared.option.Option.{Option}
use Rattle.std.specs.List.{position_or_len, range_with_len, count_by, sum_by}
use Rattle.std.proofs.lemmas.List.FromFn.{length-range_with_len, sum_by-map-range_with_len_more}
use Rattle.std.proofs.lemmas.List.Sums.{sum-map}
use Rattle.theory.specs.Term.{app, six_of}
use Rattle.proof_term.specs.Put.{put_node}
use Rattle.formula.specs.declared.Kind.{Kind}
use Rattle.formula.specs.declared.Kind.TheVariants.{Impl}
use Rattle.formula.specs.Kinds.{kind_named}
use Rattle.formula.specs.Leaves.{equal_leaves}
use Rattle.formula.proofs.KindLaws.{is_kind, not_kind}
use Rattle.meter.specs.declared.Sequent.{Sequent}
use Rattle.context.specs.Moves.{stretch, without}
use Rattle.context.specs.Area.{Rec, rec, formula_at, removed, push_place}
use Rattle.search_laws.specs.Reading.{kind_at, left_at, right_at}
use Rattle.search_laws.specs.Leaves.{word_in, leaf_from, leaf_place, fires_by, firing_in}
use Rattle.search_leaves.specs.Found.{below}

-- a place that is found is below n, and one that is not is n
pub below_some : {n r j : ℕ} → below n r ≡ Some j → (j ≡ r) × (j < n)
unfolding below
below_some {n} {r} {j} e = go (ltb r n) refl e
  where
    go : (b : Bool) → ltb r n ≡ b → cond b (Some r) None ≡ Some j → (j ≡ r) × (j < n)
    go true p e = let same : j ≡ r = cc in (same, omega (arith, ltb-true r n p))
    go false p e = cc

pub below_none : {n r : ℕ} → below n r ≡ None → n ≤ r
unfolding below
below_none {n} {r} e = go (ltb r n) refl e
  where
    go : (b : Bool) → ltb r n ≡ b → cond b (Some r) None ≡ None → n ≤ r
    go true p e = cc
    go false p e = ltb-false r n p

pub nowhere : {n r : ℕ} → r ≡ n → None ≡ below n r
unfolding below
nowhere {n} {r} e = sym (ap (λ (b : Bool). cond b (Some r) None) (le-ltb r n (omega arith)))

-- unordered record i of level l is the leaf with word v
abbrev pub stands : List ℕ → List Rec → ℕ → ℕ → ℕ → Bool
stands f w l v i = equal_leaves v (word_in f w l i)

-- a leaf's place is the first record that is this leaf
module _ (f : List ℕ) (w : List Rec) (l v : ℕ) where
  first_of : (i k : ℕ) → leaf_from f w l v i k ≡ i + position_or_len (stands f w l v) (range_with_len i k)
  unfolding leaf_from
  first_of i zero = omega arith
  first_of i (suc k) =
      go (stands f w l v i) (ap (λ (j : ℕ). leaf_from f w l v j k) (sym (add-one i)) ∙ first_of (i + 1) k)
    where
      go : (b : Bool) → leaf_from f w l v (suc i) k ≡ i + 1 + position_or_len (stands f w l v) (range_with_len (i + 1) k) →
          elim b [ true ↦ i | false ↦ leaf_from f w l v (suc i) k ] ≡
          i + cond (not b) (1 + position_or_len (stands f w l v) (range_with_len (i + 1) k)) 0
      go true e = omega arith
      go false e = omega arith

  pub found_at : (n : ℕ) → cond (ltb (position_or_len (stands f w l v) (range_with_len 0 n)) (length (range_with_len 0 n)))
      (Some (position_or_len (stands f w l v) (range_with_len 0 n))) None ≡ below n (leaf_place f w l n v)
  unfolding below leaf_place
  found_at n =
      let e : leaf_from f w l v 0 n ≡ position_or_len (stands f w l v) (range_with_len 0 n) = omega (arith, first_of 0 n) in
      rw (length-range_with_len, e)

-- whether record i fires, by the kind of its formula and of what that goes from
module _ (f : List ℕ) (w : List Rec) (l n i : ℕ) {a : ℕ} {k : Kind} (ea : a ≡ formula_at w (l * stretch + i))
    (ek : k ≡ kind_named (kind_at f a)) where
  by_kind : (b : Bool) → eqb (kind_at f a) 5 ≡ b → fires_by f w l n i ≡
      elim b [ true ↦ leaf_place f w l n (get_or f (left_at f a) 0) | false ↦ n ]
  unfolding fires_by
  by_kind b e =
      ap (λ (c : ℕ). elim (eqb (kind_at f c) 5) [ true ↦ leaf_place f w l n (get_or f (left_at f c) 0) | false ↦ n ]) (sym ea)
      ∙ ap (λ (b : Bool). elim b [ true ↦ leaf_place f w l n (get_or f (left_at f a) 0) | false ↦ n ]) e

  pub no_implication : (k ≡ Impl → ⊥) → None ≡ below n (fires_by f w l n i)
  unfolding kind_named
  no_implication h = nowhere (by_kind false (ne_eqb _ 5 (not_kind 5 (λ e. h (ek ∙ e)))))

  pub by_leaf : {v : ℕ} {r : Option ℕ} → k ≡ Impl → v ≡ get_or f (left_at f a) 0 → r ≡ below n (leaf_place f w l n v) →
      r ≡ below n (fires_by f w l n i)
  by_leaf h ev er =
      er ∙ ap (λ (v : ℕ). below n (leaf_place f w l n v)) ev
      ∙ ap (below n) (sym (by_kind true (eq-eqb _ 5 (is_kind (sym ek ∙ h)))))

-- what the code tests of each
pub is_below : (n r : ℕ) → is_some (below n r) ≡ ltb r n
unfolding below
is_below n r = go (ltb r n)
  where
    go : (b : Bool) → is_some (cond b (Some r) None) ≡ b
    go true = refl
    go false = refl

-- as many fire as the code counts
pub counted : (f : List ℕ) (w : List Rec) (l n k : ℕ) → count_by (λ i. ltb (fires_by f w l n i) n) (range_with_len 0 k) ≡
    firing_in f w l n k
unfolding firing_in
counted f w l n zero = refl
counted f w l n (suc k) =
    ap (λ (j : ℕ). sum_by one (range_with_len 0 j)) (sym (add-one k))
    ∙ sym (sum-map one (range_with_len 0 (k + 1)))
    ∙ sum_by-map-range_with_len_more (λ x. x) one 0 k k (omega arith)
    ∙ ap (λ (c : ℕ). c + one k) (sum-map one (range_with_len 0 k) ∙ counted f w l n k)
    ∙ go (ltb (fires_by f w l n k) n)
  where
    one : ℕ → ℕ
    one i = cond (ltb (fires_by f w l n i) n) 1 0

    go : (b : Bool) → firing_in f w l n k + cond b 1 0 ≡ elim b [ true ↦ suc (firing_in f w l n k) | false ↦ firing_in f w l n k ]
    go true = omega arith
    go false = omega arith

-- a record taken out leaves room for one
pub room_without : {q r : Sequent} {i j : ℕ} → r ≡ without q →
    (q.level < 256) × (i < q.unordered) × (j < q.unordered) × (q.unordered + q.ordered ≤ stretch) →
    (r.level < 256) × (r.unordered + r.ordered < stretch)
room_without {q} e h = subst (λ (v : Sequent). (v.level < 256) × (v.unordered + v.ordered < stretch)) (sym e) (omega arith)

-- the node and the area after one record fired
pub node_fired : (t : List ℕ) (n : ℕ) {t1 : List ℕ} {x y X Y : ℕ} → t1 ≡ put_node t n (six_of (app x y)) → x ≡ X → y ≡ Y →
    t1 ≡ put_node t n (six_of (app X Y))
node_fired t n e ex ey = e ∙ ap₂ (λ (x y : ℕ). put_node t n (six_of (app x y))) ex ey

pub area_fired : (w : List Rec) (q : Sequent) (i n : ℕ) (f : List ℕ) (a : ℕ) {w1 w2 : List Rec} {q1 : Sequent} {b A : ℕ} → q1 ≡ without q →
    w1 ≡ removed w q i → w2 ≡ set w1 (push_place q1) (rec b n) → b ≡ right_at f a → a ≡ A →
    w2 ≡ set (removed w q i) (push_place (without q)) (rec (right_at f A) n)
area_fired w q i n f a {b = b} eq ew e eb ea =
    e
    ∙ ap₂ (λ (v : List Rec) (p : Sequent). set v (push_place p) (rec b n)) ew eq
    ∙ ap (λ (c : ℕ). set (removed w q i) (push_place (without q)) (rec c n)) (eb ∙ ap (right_at f) ea)

-- no more fire than there are
pub firing_few : (f : List ℕ) (w : List Rec) (l n k : ℕ) → firing_in f w l n k ≤ k
unfolding firing_in
firing_few f w l n zero = omega arith
firing_few f w l n (suc k) = go (ltb (fires_by f w l n k) n) (firing_few f w l n k)
  where
    go : (b : Bool) → firing_in f w l n k ≤ k → elim b [ true ↦ suc (firing_in f w l n k) | false ↦ firing_in f w l n k ] ≤ suc k
    go true h = omega arith
    go false h = omega arith
