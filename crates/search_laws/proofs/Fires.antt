-- Whether an unordered record fires, as the code finds it and as the search as written says it. Assumes nothing.
use Prim.Native.Nat.{ℕ, zero, suc, ◌+◌, ◌*◌, ◌≤◌, ◌<◌}
use mathlib.Core.Path.{◌≡◌, refl, sym, ap, ◌∙◌, subst}
use mathlib.Core.Bool.{Bool, true, false}
use mathlib.Core.Option.{Option, none, some}
use mathlib.Core.List.{List, [], ◌∷◌}
use native.Mathlib.Omega.{arith}
use lib.ListN.{length, get_or, take}
use lib.Seq.{length-take-le}
use lib.Dec.{eqb, ltb}
use borrow.Author.Tests.{eqb-true, eqb-false, ltb-true, ltb-false}
use Rattle.theory.specs.Form.{Book, Shape, is_top, is_bot, is_leaf, is_and, is_or, is_imp, shape, shape_of, look, Below}
use Rattle.theory.specs.Meter.{Entry}
use Rattle.theory.specs.Search.{fire_leaf, fire_shape}
use Rattle.theory.proofs.Words.{word_below}
use Rattle.theory.proofs.Falling.{firing, firing_none, firing_some, firing_append}
use Rattle.context.specs.Moves.{stretch}
use Rattle.context.specs.Area.{Rec, formula_at, term_at}
use Rattle.search_laws.specs.Tables.{upto}
use Rattle.search_laws.specs.Reading.{kind_at, left_at, right_at, shape_at, book, entry_at, unordered_in}
use Rattle.search_laws.specs.Keeping.{Laid}
use Rattle.search_laws.specs.Leaves.{leaf_place, fires_by, firing_in}
use Rattle.search_laws.proofs.Look.{shape_as, book_at, by_kind}
use Rattle.search_laws.proofs.Leaf.{leaf_of, term_in, leaf_place_lem, term_in_lem, term_out}

-- what a record yields when its leaf's term is found
abbrev pub yields : ℕ → Option ℕ → Option (ℕ × ℕ)
yields b o = elim o [ none ↦ none | some t ↦ some (t, b) ]

-- only an implication fires
other_kind_lem : (ws : Book) (us : List Entry) (k l r : ℕ) → (k ≡ 5 → ⊥) → fire_shape ws us (shape_of k l r) ≡ none
unfolding fire_shape
other_kind_lem ws us k l r h =
    by_kind (λ sh. fire_shape ws us sh ≡ none) k l r (λ z. refl) (λ z. refl) (λ z. refl) (λ z. refl) (λ z. absurd (h z)) (λ n. refl)

-- and it fires by the leaf that it goes from
by_leaf : (ws : Book) (us : List Entry) (b : ℕ) (s : Shape) → fire_leaf ws us b s ≡ yields b (leaf_of ws us s)
unfolding fire_leaf leaf_of
by_leaf ws us b is_top = refl
by_leaf ws us b is_bot = refl
by_leaf ws us b (is_leaf k y) = refl
by_leaf ws us b (is_and l r) = refl
by_leaf ws us b (is_or l r) = refl
by_leaf ws us b (is_imp l r) = refl

module _ (f : List ℕ) (nf : ℕ) (laid : Laid f nf) (long : nf ≤ length f) where
  -- an implication's parts stand before it
  pub parts_in : (a : ℕ) → a < nf → kind_at f a ≡ 5 → (left_at f a < a) × (right_at f a < a)
  unfolding shape_at shape_of
  parts_in a h five =
      subst (λ (n : ℕ). Below n (is_imp (left_at f a) (right_at f a))) (length-take-le a f (omega arith))
      (subst (Below (length (take a f))) (shape_as f a five) (word_below (take a f) (get_or f a 0) (laid a h)))

  module _ (w : List Rec) (l n : ℕ) (inside : (i : ℕ) → i < n → formula_at w (l * stretch + i) < nf) (i : ℕ) (in_i : i < n) where
    pub fires_as : fire_shape (book f nf) (unordered_in w l n) (look (book f nf) (formula_at w (l * stretch + i))) ≡
        yields (right_at f (formula_at w (l * stretch + i))) (term_in w l n (fires_by f w l n i))
    unfolding fires_by shape_of fire_shape shape_at shape
    fires_as = go (eqb (kind_at f a) 5) refl
      where
        a : ℕ
        a = formula_at w (l * stretch + i)

        ws : Book
        ws = book f nf

        us : List Entry
        us = unordered_in w l n

        go : (t : Bool) → eqb (kind_at f a) 5 ≡ t → fire_shape ws us (look ws a) ≡
            yields (right_at f a) (term_in w l n (elim t [ true ↦ leaf_place f w l n (get_or f (left_at f a) 0) | false ↦ n ]))
        go true p =
            let five : kind_at f a ≡ 5 = eqb-true (kind_at f a) 5 p in
            let small : left_at f a < nf = omega (arith, parts_in a (inside i in_i) five, inside i in_i) in
            ap (fire_shape ws us) (book_at f nf a (inside i in_i) ∙ shape_as f a five)
            ∙ ap (fire_leaf ws us (right_at f a)) (book_at f nf (left_at f a) small)
            ∙ by_leaf ws us (right_at f a) (shape (get_or f (left_at f a) 0))
            ∙ ap (yields (right_at f a))
            (leaf_place_lem f nf laid w l n inside (take (left_at f a) f) (get_or f (left_at f a) 0) (laid (left_at f a) small))
        go false p =
            ap (fire_shape ws us) (book_at f nf a (inside i in_i) ∙ shape_as f a refl)
            ∙ other_kind_lem ws us (kind_at f a) (left_at f a) (right_at f a) (eqb-false (kind_at f a) 5 p)
            ∙ ap (yields (right_at f a)) (sym (term_out w l n n (omega arith)))

    -- it fires by the leaf at r, or not
    pub does_fire : {r : ℕ} → r ≡ fires_by f w l n i → r < n →
        fire_shape (book f nf) (unordered_in w l n) (look (book f nf) (formula_at w (l * stretch + i))) ≡
        some (term_at w (l * stretch + r), right_at f (formula_at w (l * stretch + i)))
    does_fire {r} e h =
        fires_as
        ∙ ap (yields (right_at f (formula_at w (l * stretch + i)))) (ap (term_in w l n) (sym e) ∙ term_in_lem w l n r h)

    pub does_not_fire : {r : ℕ} → r ≡ fires_by f w l n i → n ≤ r →
        fire_shape (book f nf) (unordered_in w l n) (look (book f nf) (formula_at w (l * stretch + i))) ≡ none
    does_not_fire {r} e h =
        fires_as
        ∙ ap (yields (right_at f (formula_at w (l * stretch + i)))) (ap (term_in w l n) (sym e) ∙ term_out w l n r h)

    -- only an implication does
    pub fires_five : {r : ℕ} → r ≡ fires_by f w l n i → r < n → kind_at f (formula_at w (l * stretch + i)) ≡ 5
    unfolding fires_by
    fires_five {r} e h = go (eqb (kind_at f (formula_at w (l * stretch + i))) 5) refl e
      where
        go : (t : Bool) → eqb (kind_at f (formula_at w (l * stretch + i))) 5 ≡ t →
            r ≡ elim t [ true ↦ leaf_place f w l n (get_or f (left_at f (formula_at w (l * stretch + i))) 0) | false ↦ n ] →
            kind_at f (formula_at w (l * stretch + i)) ≡ 5
        go true p e = eqb-true (kind_at f (formula_at w (l * stretch + i))) 5 p
        go false p e = absurd (omega arith)

  -- as many as the code counts
  pub firing_counted : (w : List Rec) (l n : ℕ) → ((i : ℕ) → i < n → formula_at w (l * stretch + i) < nf) → (k : ℕ) → k ≤ n →
      firing_in f w l n k ≡ firing (book f nf) (unordered_in w l n) (upto (λ i. entry_at w (l * stretch + i)) k)
  unfolding firing_in firing upto entry_at
  firing_counted w l n inside zero h = refl
  firing_counted w l n inside (suc k) h =
      go (ltb (fires_by f w l n k) n) refl (firing_counted w l n inside k (omega arith))
      ∙ sym (firing_append (book f nf) us (upto at k) (at k ∷ []))
    where
      us : List Entry
      us = unordered_in w l n

      at : ℕ → Entry
      at i = entry_at w (l * stretch + i)

      here : {o : Option (ℕ × ℕ)} → fire_shape (book f nf) us (look (book f nf) (formula_at w (l * stretch + k))) ≡ o →
          fire_shape (book f nf) us (look (book f nf) (at k).formula) ≡ o
      here e = e

      go : (b : Bool) → ltb (fires_by f w l n k) n ≡ b → firing_in f w l n k ≡ firing (book f nf) us (upto at k) →
          elim b [ true ↦ suc (firing_in f w l n k) | false ↦ firing_in f w l n k ] ≡
          firing (book f nf) us (upto at k) + firing (book f nf) us (at k ∷ [])
      go true p ih =
          omega (
            arith,
            firing_some (book f nf) us (at k) [] (term_at w (l * stretch + fires_by f w l n k), right_at f (formula_at w (l * stretch + k)))
                (here (does_fire w l n inside k (omega arith) refl (ltb-true (fires_by f w l n k) n p))),
          )
      go false p ih =
          omega (
            arith,
            firing_none (book f nf) us (at k) []
                (here (does_not_fire w l n inside k (omega arith) refl (ltb-false (fires_by f w l n k) n p))),
          )
