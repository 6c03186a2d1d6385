-- Search's rules 1 and 2 beside the Rust's: the leaf that is found, what fires, and that removing what fired by falling position leaves
-- what is kept. Assumes nothing.
use Prim.Native.Nat.{ℕ, zero, suc, ◌+◌, ◌≤◌, ◌<◌, zero-le, suc-le-suc}
use mathlib.Core.Path.{◌≡◌, refl, sym, ap, ap₂, ◌∙◌, subst}
use mathlib.Core.Bool.{Bool, true, false, ◌&&◌}
use mathlib.Core.Option.{Option, none, some}
use mathlib.Core.List.{List, [], ◌∷◌, ◌++◌, append_assoc, append-nil, reverse, reverse-cons}
use native.Mathlib.Nat.{le_trans, le-suc, zero-add, suc-add, add-suc}
use lib.ListN.{length, get_or}
use lib.Dec.{eqb, eqb-zero-suc, eqb-suc-zero, eqb-suc-suc}
use Rattle.theory.specs.Form.{Form, leaf, Shape, is_top, is_bot, is_leaf, is_and, is_or, is_imp, look, tree_of, trees, form, Below}
use Rattle.theory.specs.Term.{blank, app, NodesFrom}
use Rattle.theory.specs.Meter.{Entry, State}
use Rattle.theory.specs.Search.{entry, is_leaf?, first_leaf, fire_leaf, fire_shape, Fired, fire_at, fire}
use Rattle.theory.specs.RustTerm.{ProofTerm, Application, equal, TypeJudgment, judgment, Sequent, removed, find}
use Rattle.theory.specs.RustProver.{atom_change, change, changes, changed}
use Rattle.theory.proofs.Forms.{snoc_length, At, at_ext, at_form, form_at, good_at}
use Rattle.theory.proofs.Derive.{Sane, Grows, Read}
use Rattle.theory.proofs.RustSame.{Stands, stands_grows, stands_app, Mirror, mirror_none, mirror_more}

eqb_turned : (m n : ℕ) → eqb m n ≡ eqb n m
eqb_turned zero zero = refl
eqb_turned zero (suc n) = eqb-zero-suc n ∙ sym (eqb-suc-zero n)
eqb_turned (suc m) zero = eqb-suc-zero m ∙ sym (eqb-zero-suc m)
eqb_turned (suc m) (suc n) = eqb-suc-suc m n ∙ eqb_turned m n ∙ sym (eqb-suc-suc n m)

-- a leaf's words are equal exactly where the Rust's props are
leaf_test : (ts : List Form) (k y : ℕ) (sh : Shape) → equal (tree_of ts sh) (leaf k y) ≡ is_leaf? k y sh
unfolding tree_of equal is_leaf?
leaf_test ts k y is_top = refl
leaf_test ts k y is_bot = refl
leaf_test ts k y (is_leaf k' y') = ap₂ ◌&&◌ (eqb_turned k' k) (eqb_turned y' y)
leaf_test ts k y (is_and l r) = refl
leaf_test ts k y (is_or l r) = refl
leaf_test ts k y (is_imp l r) = refl

-- an element taken out at its position
pub removed_at : (before : List TypeJudgment) (e : TypeJudgment) (es : List TypeJudgment) →
    removed (length before) (before ++ (e ∷ es)) ≡ before ++ es
unfolding removed
removed_at [] e es = refl
removed_at (b ∷ before) e es = ap (λ (js : List TypeJudgment). b ∷ js) (removed_at before e es)

-- changes one after the other
changed_append : (xs ys : List (ℕ × TypeJudgment)) (q : Sequent) → changed (xs ++ ys) q ≡ changed ys (changed xs q)
unfolding changed
changed_append [] ys q = refl
changed_append (x ∷ xs) ys q = changed_append xs ys _

module _ (ctx : List TypeJudgment) where
  -- of the elements those that stay, and the new judgments of those that fire
  pub kept : List TypeJudgment → List TypeJudgment
  kept [] = []
  kept (e ∷ es) = elim (change ctx e.proof_term e.prop) [ none ↦ e ∷ kept es | some n ↦ kept es ]

  pub news : List TypeJudgment → List TypeJudgment
  news [] = []
  news (e ∷ es) = elim (change ctx e.proof_term e.prop) [ none ↦ news es | some n ↦ n ∷ news es ]

  module _ (O : List TypeJudgment) (G : Form) where
    abbrev at : List TypeJudgment → List TypeJudgment → Sequent
    at us os = record { unordered_ctx = us; ordered_ctx = os; goal = G }

    -- the changes by falling position: each removal leaves the positions before it as they were
    fall : (js before : List TypeJudgment) (i : ℕ) → i ≡ length before →
        changed (reverse (changes ctx i js)) (at (before ++ js) O) ≡ at (before ++ kept js) (news js ++ O)
    unfolding changed changes kept news
    fall [] before i p = refl
    fall (e ∷ es) before i p = go (change ctx e.proof_term e.prop)
        (ap (λ (us : List TypeJudgment). changed (reverse (changes ctx (suc i) es)) (at us O)) (sym (append_assoc before (e ∷ []) es))
        ∙ fall es (before ++ (e ∷ [])) (suc i) (ap suc p ∙ sym (snoc_length before e))
        ∙ ap (λ (us : List TypeJudgment). at us (news es ++ O)) (append_assoc before (e ∷ []) (kept es)))
      where
        go : (o : Option TypeJudgment) →
            changed (reverse (changes ctx (suc i) es)) (at (before ++ (e ∷ es)) O) ≡ at (before ++ (e ∷ kept es)) (news es ++ O) →
            changed (reverse (elim o as (λ z. List (ℕ × TypeJudgment))
            [ none ↦ changes ctx (suc i) es | some n ↦ (i, n) ∷ changes ctx (suc i) es ])) (at (before ++ (e ∷ es)) O) ≡
            at (before ++ (elim o as (λ z. List TypeJudgment) [ none ↦ e ∷ kept es | some n ↦ kept es ]))
            ((elim o as (λ z. List TypeJudgment) [ none ↦ news es | some n ↦ n ∷ news es ]) ++ O)
        go none ih = ih
        go (some n) ih =
            ap (λ (cs : List (ℕ × TypeJudgment)). changed cs (at (before ++ (e ∷ es)) O)) (reverse-cons (i, n) (changes ctx (suc i) es))
            ∙ changed_append (reverse (changes ctx (suc i) es)) ((i, n) ∷ []) (at (before ++ (e ∷ es)) O)
            ∙ ap (changed ((i, n) ∷ [])) ih
            ∙ ap (λ (us : List TypeJudgment). at us (n ∷ (news es ++ O)))
            (ap (λ (k : ℕ). removed k (before ++ (e ∷ kept es))) p ∙ removed_at before e (kept es))

-- two lists that are both empty or both not
pub data Both {A B : Type 0} : List A → List B → Type 0 where
  both_empty : Both [] []
  both_more : {x : A} {xs : List A} {y : B} {ys : List B} → Both (x ∷ xs) (y ∷ ys)

module _ (names : List (List ℕ)) (s : State) (sane : Sane s) where
  -- a leaf's term beside the Rust's
  pub data FoundAs : Option ℕ → Option ProofTerm → Type 0 where
    found_none : FoundAs none none
    found_some : {t : ℕ} {T : ProofTerm} → Stands names s t T → FoundAs (some t) (some T)

  -- rule 1: the first record that is the leaf is the element that is found
  pub find_same : (k y : ℕ) {us : List Entry} {U : List TypeJudgment} → Mirror names s us U →
      FoundAs (first_leaf s.words k y us) (find (leaf k y) U)
  unfolding first_leaf find
  find_same k y mirror_none = found_none
  find_same k y (mirror_more {e} {es} {j} {js} m r) =
      let p : equal j.prop (leaf k y) ≡ is_leaf? k y (look s.words e.formula) =
      ap (λ (X : Form). equal X (leaf k y)) (sym m.formula.tree ∙ form_at s.words sane.words e.formula m.formula.there)
      ∙ leaf_test (trees s.words) k y (look s.words e.formula) in
      subst (λ (c : Bool). FoundAs (first_leaf s.words k y (e ∷ es))
      (elim c as (λ z. Option ProofTerm) [ true ↦ some j.proof_term | false ↦ find (leaf k y) js ])) (sym p)
      (go (is_leaf? k y (look s.words e.formula)) (find_same k y r))
    where
      go : (b : Bool) → FoundAs (first_leaf s.words k y es) (find (leaf k y) js) →
          FoundAs (elim b as (λ z. Option ℕ) [ true ↦ some e.proof | false ↦ first_leaf s.words k y es ])
          (elim b as (λ z. Option ProofTerm) [ true ↦ some j.proof_term | false ↦ find (leaf k y) js ])
      go true ih = found_some m.proof
      go false ih = ih

  -- what a record of term T fires beside the Rust's new judgment
  data FiresAs (T : ProofTerm) : Option (ℕ × ℕ) → Option TypeJudgment → Type 0 where
    fires_none : FiresAs T none none
    fires_some : {t b : ℕ} {X : ProofTerm} {B : Form} → Stands names s t X → At s.words b B →
        FiresAs T (some (t, b)) (some (judgment B (Application T X)))

  module _ (us : List Entry) (U : List TypeJudgment) (un : Mirror names s us U) where
    -- rule 2 at one record, by the shape of its left side and by its own
    leaf_fires : (T : ProofTerm) (b : ℕ) → b < length s.words → (sh : Shape) →
        FiresAs T (fire_leaf s.words us b sh) (atom_change U T (form s.words b) (tree_of (trees s.words) sh))
    unfolding fire_leaf atom_change tree_of
    leaf_fires T b h is_top = fires_none
    leaf_fires T b h is_bot = fires_none
    leaf_fires T b h (is_and l r) = fires_none
    leaf_fires T b h (is_or l r) = fires_none
    leaf_fires T b h (is_imp l r) = fires_none
    leaf_fires T b h (is_leaf k y) = go (find_same k y un)
      where
        go : {o : Option ℕ} {o' : Option ProofTerm} → FoundAs o o' →
            FiresAs T (elim o as (λ z. Option (ℕ × ℕ)) [ none ↦ none | some t ↦ some (t, b) ])
            (elim o' as (λ z. Option TypeJudgment) [ none ↦ none | some X ↦ some (judgment (form s.words b) (Application T X)) ])
        go found_none = fires_none
        go (found_some d) = fires_some d (at_form s.words b h)

    shape_fires : (T : ProofTerm) (sh : Shape) → Below (length s.words) sh →
        FiresAs T (fire_shape s.words us sh) (change U T (tree_of (trees s.words) sh))
    unfolding fire_shape change tree_of form
    shape_fires T is_top h = fires_none
    shape_fires T is_bot h = fires_none
    shape_fires T (is_leaf k y) h = fires_none
    shape_fires T (is_and l r) h = fires_none
    shape_fires T (is_or l r) h = fires_none
    shape_fires T (is_imp a b) h =
        subst (λ (X : Form). FiresAs T (fire_leaf s.words us b (look s.words a)) (atom_change U T (form s.words b) X))
        (sym (form_at s.words sane.words a h.0)) (leaf_fires T b h.1 (look s.words a))

    -- what rule 2 keeps and makes beside what the Rust's loops leave, push and list
    pub record FiredSame (n : ℕ) (r : Fired) (K N : List TypeJudgment) (C : ℕ → List (ℕ × TypeJudgment)) : Type 0 where
      pub keeps : Mirror names s r.kept K
      pub fits : (m : ℕ) → NodesFrom m n r.nodes
      pub new : (s₁ : State) → Grows s s₁ → ((j : ℕ) → j < length r.nodes → Read s₁ (j + n) (get_or r.nodes j blank).piece) →
          Mirror names s₁ r.new N
      pub both : (i : ℕ) → Both r.new (C i)

    pub fired_same : {es : List Entry} {js : List TypeJudgment} → Mirror names s es js → (n : ℕ) → length s.nodes ≤ n →
        FiredSame n (fire s.words us n es) (kept U js) (news U js) (λ i. changes U i js)
    unfolding fire fire_at entry kept news changes
    fired_same mirror_none n l = record { keeps = mirror_none; fits = λ m. tt; new = λ s₁ g f. mirror_none; both = λ i. both_empty }
    fired_same (mirror_more {e} {es} {j} {js} k r) n l =
        go (subst (λ (X : Form). FiresAs j.proof_term (fire_shape s.words us (look s.words e.formula))
        (change U j.proof_term X))
        (sym (form_at s.words sane.words e.formula k.formula.there) ∙ k.formula.tree)
        (shape_fires j.proof_term (look s.words e.formula) (good_at s.words sane.words e.formula k.formula.there)))
        (fired_same r n l) (fired_same r (suc n) (le_trans l (le-suc n)))
      where
        go : {o : Option (ℕ × ℕ)} {o' : Option TypeJudgment} → FiresAs j.proof_term o o' →
            FiredSame n (fire s.words us n es) (kept U js) (news U js) (λ i. changes U i js) →
            FiredSame (suc n) (fire s.words us (suc n) es) (kept U js) (news U js) (λ i. changes U i js) →
            FiredSame n (fire_at e n (λ m. fire s.words us m es) o)
            (elim o' as (λ z. List TypeJudgment) [ none ↦ j ∷ kept U js | some x ↦ kept U js ])
            (elim o' as (λ z. List TypeJudgment) [ none ↦ news U js | some x ↦ x ∷ news U js ])
            (λ i. elim o' as (λ z. List (ℕ × TypeJudgment)) [ none ↦ changes U (suc i) js | some x ↦ (i, x) ∷ changes U (suc i) js ])
        go fires_none f g = record { keeps = mirror_more k f.keeps; fits = f.fits; new = f.new; both = λ i. f.both (suc i) }
        go (fires_some {t} {b} d a) f g = record {
          keeps = g.keeps;
          fits = λ m. ((le_trans k.proof.inside l, le_trans d.inside l), g.fits m);
          new = λ s₁ x f₁.
              mirror_more
              (record {
                formula = at_ext x.words a;
                proof = stands_app names x.sane
                    (subst (λ (v : ℕ). Read s₁ v (app e.proof t)) (zero-add n) (f₁ 0 (suc-le-suc zero-le)))
                    (stands_grows names sane x k.proof) (stands_grows names sane x d);
              })
              (g.new s₁ x (λ j j<. subst (λ (v : ℕ). Read s₁ v (get_or (fire s.words us (suc n) es).nodes j blank).piece)
              (suc-add j n ∙ sym (add-suc j n)) (f₁ (suc j) (suc-le-suc j<))));
          both = λ i. both_more;
        }

-- rule 2 as the Rust runs it: the changes, reversed, over the whole unordered context with none ordered
pub all_fall : (U : List TypeJudgment) (G : Form) →
    changed (reverse (changes U 0 U)) (record { unordered_ctx = U; ordered_ctx = []; goal = G }) ≡
    record { unordered_ctx = kept U U; ordered_ctx = news U U; goal = G }
all_fall U G =
    fall U [] G U [] 0 refl ∙ ap (λ (os : List TypeJudgment). record { unordered_ctx = kept U U; ordered_ctx = os; goal = G })
    (append-nil (news U U))
