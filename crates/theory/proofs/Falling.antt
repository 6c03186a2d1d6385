-- Rule 2 by falling position. A record that fires is no leaf, so taking it out does not change which leaf another record finds: the records
-- may fire one after another, the last one first, and come to what `fire` says by rising position. Assumes nothing.
use Prim.Native.Nat.{ℕ, suc, ◌+◌}
use mathlib.Core.Path.{◌≡◌, refl, sym, ap, ◌∙◌}
use mathlib.Core.Bool.{Bool, true, false}
use mathlib.Core.Option.{Option, none, some}
use mathlib.Core.List.{List, [], ◌∷◌, ◌++◌}
use native.Mathlib.Omega.{arith}
use native.Mathlib.Nat.{suc-add}
use lib.ListN.{length}
use Rattle.theory.specs.Form.{Book, Shape, is_top, is_bot, is_leaf, is_and, is_or, is_imp, look}
use Rattle.theory.specs.Term.{node, app, search2}
use Rattle.theory.specs.Meter.{Entry}
use Rattle.theory.specs.Search.{is_leaf?, first_leaf, fire_leaf, fire_shape, Fired, fire_at, fire, entry}

module _ (ws : Book) where
  -- what fires is an implication
  fires_no_leaf : (us : List Entry) (k y : ℕ) (s : Shape) {p : ℕ × ℕ} → fire_shape ws us s ≡ some p → is_leaf? k y s ≡ false
  unfolding fire_shape is_leaf?
  fires_no_leaf us k y is_top e = refl
  fires_no_leaf us k y is_bot e = refl
  fires_no_leaf us k y (is_leaf k' y') e = absurd (let z : ◌≡◌ {A = ℕ} 0 1 = cc in omega arith)
  fires_no_leaf us k y (is_and l r) e = refl
  fires_no_leaf us k y (is_or l r) e = refl
  fires_no_leaf us k y (is_imp l r) e = refl

  -- the same record in front of two lists with the same first leaf
  leaf_step : (k y : ℕ) (e : Entry) (xs ys : List Entry) → first_leaf ws k y xs ≡ first_leaf ws k y ys →
      first_leaf ws k y (e ∷ xs) ≡ first_leaf ws k y (e ∷ ys)
  unfolding first_leaf
  leaf_step k y e xs ys h = ap (λ (r : Option ℕ). elim (is_leaf? k y (look ws e.formula)) [ true ↦ some e.proof | false ↦ r ]) h

  -- a record that is no leaf is passed over
  pub leaf_over : (k y : ℕ) (e : Entry) (xs : List Entry) → is_leaf? k y (look ws e.formula) ≡ false →
      first_leaf ws k y (e ∷ xs) ≡ first_leaf ws k y xs
  unfolding first_leaf
  leaf_over k y e xs h = ap (λ (b : Bool). elim b [ true ↦ some e.proof | false ↦ first_leaf ws k y xs ]) h

  -- a record that is the leaf is found
  pub leaf_here : (k y : ℕ) (e : Entry) (xs : List Entry) → is_leaf? k y (look ws e.formula) ≡ true →
      first_leaf ws k y (e ∷ xs) ≡ some e.proof
  unfolding first_leaf
  leaf_here k y e xs h = ap (λ (b : Bool). elim b [ true ↦ some e.proof | false ↦ first_leaf ws k y xs ]) h

  -- one record, kept or fired, is passed over or found alike
  leaf_at : (us : List Entry) (k y n : ℕ) (e : Entry) (es : List Entry) (o : Option (ℕ × ℕ)) → fire_shape ws us (look ws e.formula) ≡ o →
      ((m : ℕ) → first_leaf ws k y (fire ws us m es).kept ≡ first_leaf ws k y es) →
      first_leaf ws k y (fire_at e n (λ m. fire ws us m es) o).kept ≡ first_leaf ws k y (e ∷ es)
  unfolding fire_at
  leaf_at us k y n e es none h rest = leaf_step k y e (fire ws us n es).kept es (rest n)
  leaf_at us k y n e es (some p) h rest = rest (suc n) ∙ sym (leaf_over k y e es (fires_no_leaf us k y (look ws e.formula) h))

  -- the leaves that are kept are the leaves that there were
  pub kept_leaf : (us : List Entry) (k y n : ℕ) (es : List Entry) → first_leaf ws k y (fire ws us n es).kept ≡ first_leaf ws k y es
  unfolding fire
  kept_leaf us k y n [] = refl
  kept_leaf us k y n (e ∷ es) =
      leaf_at us k y n e es (fire_shape ws us (look ws e.formula)) refl (λ m. kept_leaf us k y m es)

  -- the first leaf of two lists with the same front
  pub front_leaf : (k y : ℕ) (xs ys zs : List Entry) → first_leaf ws k y ys ≡ first_leaf ws k y zs →
      first_leaf ws k y (xs ++ ys) ≡ first_leaf ws k y (xs ++ zs)
  front_leaf k y [] ys zs h = h
  front_leaf k y (x ∷ xs) ys zs h = leaf_step k y x (xs ++ ys) (xs ++ zs) (front_leaf k y xs ys zs h)

  -- a record fires by the leaves that are present, and by nothing else of the unordered context
  pub fires_by_leaves : (us vs : List Entry) → ((k y : ℕ) → first_leaf ws k y us ≡ first_leaf ws k y vs) → (s : Shape) →
      fire_shape ws us s ≡ fire_shape ws vs s
  unfolding fire_shape fire_leaf
  fires_by_leaves us vs h is_top = refl
  fires_by_leaves us vs h is_bot = refl
  fires_by_leaves us vs h (is_leaf k y) = refl
  fires_by_leaves us vs h (is_and l r) = refl
  fires_by_leaves us vs h (is_or l r) = refl
  fires_by_leaves us vs h (is_imp a b) = by_premise (look ws a)
    where
      by_premise : (s : Shape) → fire_leaf ws us b s ≡ fire_leaf ws vs b s
      by_premise is_top = refl
      by_premise is_bot = refl
      by_premise (is_leaf k y) = ap (λ (o : Option ℕ). elim o [ none ↦ none | some t ↦ some (t, b) ]) (h k y)
      by_premise (is_and l r) = refl
      by_premise (is_or l r) = refl
      by_premise (is_imp l r) = refl

  -- after those behind it have fired, a record fires as it would have fired at first
  pub fires_still : (xs : List Entry) (e : Entry) (ys : List Entry) (n : ℕ) (us : List Entry) → us ≡ xs ++ (e ∷ ys) → (s : Shape) →
      fire_shape ws (xs ++ (e ∷ (fire ws us n ys).kept)) s ≡ fire_shape ws us s
  fires_still xs e ys n us h s =
      fires_by_leaves (xs ++ (e ∷ (fire ws us n ys).kept)) us
      (λ k y.
      front_leaf k y xs (e ∷ (fire ws us n ys).kept) (e ∷ ys) (leaf_step k y e (fire ws us n ys).kept ys (kept_leaf us k y n ys))
      ∙ ap (first_leaf ws k y) (sym h)) s

  -- how many of the records fire
  unfoldable pub firing : List Entry → List Entry → ℕ
  firing us [] = 0
  firing us (e ∷ es) = elim (fire_shape ws us (look ws e.formula)) [ none ↦ firing us es | some p ↦ suc (firing us es) ]

  pub firing_none : (us : List Entry) (e : Entry) (es : List Entry) → fire_shape ws us (look ws e.formula) ≡ none →
      firing us (e ∷ es) ≡ firing us es
  unfolding firing
  firing_none us e es h = ap (λ (o : Option (ℕ × ℕ)). elim o [ none ↦ firing us es | some p ↦ suc (firing us es) ]) h

  pub firing_some : (us : List Entry) (e : Entry) (es : List Entry) (p : ℕ × ℕ) → fire_shape ws us (look ws e.formula) ≡ some p →
      firing us (e ∷ es) ≡ suc (firing us es)
  unfolding firing
  firing_some us e es p h = ap (λ (o : Option (ℕ × ℕ)). elim o [ none ↦ firing us es | some p ↦ suc (firing us es) ]) h

  pub firing_append : (us xs ys : List Entry) → firing us (xs ++ ys) ≡ firing us xs + firing us ys
  unfolding firing
  firing_append us [] ys = omega arith
  firing_append us (x ∷ xs) ys = go (firing_append us xs ys) (fire_shape ws us (look ws x.formula))
    where
      go : firing us (xs ++ ys) ≡ firing us xs + firing us ys → (o : Option (ℕ × ℕ)) →
          elim o [ none ↦ firing us (xs ++ ys) | some p ↦ suc (firing us (xs ++ ys)) ] ≡
          elim o [ none ↦ firing us xs | some p ↦ suc (firing us xs) ] + firing us ys
      go h none = h
      go h (some p) = ap suc h ∙ sym (suc-add (firing us xs) (firing us ys))

  -- as many nodes and new records as fire
  pub record Counts (us es : List Entry) (r : Fired) : Type 0 where
    pub nodes : length r.nodes ≡ firing us es
    pub new : length r.new ≡ firing us es

  count_at : (us : List Entry) (e : Entry) (es : List Entry) (n : ℕ) (o : Option (ℕ × ℕ)) → fire_shape ws us (look ws e.formula) ≡ o →
      ((m : ℕ) → Counts us es (fire ws us m es)) → Counts us (e ∷ es) (fire_at e n (λ m. fire ws us m es) o)
  unfolding fire_at
  count_at us e es n none h rest =
      let c : firing us (e ∷ es) ≡ firing us es = firing_none us e es h in
      record { nodes = (rest n).nodes ∙ sym c; new = (rest n).new ∙ sym c }
  count_at us e es n (some p) h rest =
      let c : firing us (e ∷ es) ≡ suc (firing us es) = firing_some us e es p h in
      record { nodes = ap suc (rest (suc n)).nodes ∙ sym c; new = ap suc (rest (suc n)).new ∙ sym c }

  pub firing_counts : (us es : List Entry) (n : ℕ) → Counts us es (fire ws us n es)
  unfolding fire firing
  firing_counts us [] n = record { nodes = refl; new = refl }
  firing_counts us (e ∷ es) n = count_at us e es n (fire_shape ws us (look ws e.formula)) refl (λ m. firing_counts us es m)

  -- one step of the walk: a record that does not fire is kept, one that fires leaves its node and what it yields
  pub fire_kept : (us : List Entry) (n : ℕ) (e : Entry) (es : List Entry) → fire_shape ws us (look ws e.formula) ≡ none →
      fire ws us n (e ∷ es) ≡ record { kept = e ∷ (fire ws us n es).kept; nodes = (fire ws us n es).nodes; new = (fire ws us n es).new }
  unfolding fire fire_at
  fire_kept us n e es h = ap (λ (o : Option (ℕ × ℕ)). fire_at e n (λ m. fire ws us m es) o) h

  pub fire_fired : (us : List Entry) (n : ℕ) (e : Entry) (es : List Entry) (t b : ℕ) →
      fire_shape ws us (look ws e.formula) ≡ some (t, b) →
      fire ws us n (e ∷ es) ≡ record {
        kept = (fire ws us (suc n) es).kept;
        nodes = node search2 (app e.proof t) ∷ (fire ws us (suc n) es).nodes;
        new = entry b n ∷ (fire ws us (suc n) es).new;
      }
  unfolding fire fire_at
  fire_fired us n e es t b h = ap (λ (o : Option (ℕ × ℕ)). fire_at e n (λ m. fire ws us m es) o) h

  -- each record is kept or fires
  pub fire_splits : (us : List Entry) (n : ℕ) (es : List Entry) → length (fire ws us n es).kept + length (fire ws us n es).new ≡ length es
  unfolding fire fire_at
  fire_splits us n [] = refl
  fire_splits us n (e ∷ es) = go (fire_shape ws us (look ws e.formula)) (λ m. fire_splits us m es)
    where
      go : (o : Option (ℕ × ℕ)) → ((m : ℕ) → length (fire ws us m es).kept + length (fire ws us m es).new ≡ length es) →
          length (fire_at e n (λ m. fire ws us m es) o).kept + length (fire_at e n (λ m. fire ws us m es) o).new ≡ suc (length es)
      go none rest = omega (arith, rest n)
      go (some p) rest = omega (arith, rest (suc n))
