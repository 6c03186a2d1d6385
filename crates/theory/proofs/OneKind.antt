-- "One symbol, one kind": in words that pass, two leaves of one symbol have one kind; and where a word that is laid out is refused, its
-- symbol does stand before it under another kind. Assumes nothing.
use Prim.Native.Nat.{ℕ, zero, suc, ◌≤◌, ◌<◌}
use mathlib.Core.Path.{◌≡◌, refl, sym, ap, ◌∙◌, subst}
use mathlib.Core.Bool.{Bool, true, false, not, ◌&&◌, ◌||◌}
use mathlib.Core.Option.{Option, none, some}
use mathlib.Core.Logic.{◌≢◌, ◌⊎◌, ◌↔◌, inl, inr, ⊎_elim}
use mathlib.Core.List.{List, [], ◌∷◌}
use native.Mathlib.Nat.{le_of_suc-le-suc}
use native.Mathlib.Omega.{arith}
use native.Mathlib.Decide.{dec_lt}
use borrow.Author.Tests.{eqb-true, eqb-false, not-true}
use lib.Dec.{T, eqb, eqb→eq}
use lib.ListN.{length, get_or, take}
use lib.Seq.{get_or-take, length-take-le}
use Rattle.theory.specs.Form.{Shape, is_top, is_bot, is_leaf, is_and, is_or, is_imp, shape}
use Rattle.theory.specs.Form.{laid_out, other_kind, stands_otherwise, clashes, good_word, bad_word}
use Rattle.theory.specs.Places.{LowestWord, Mixed, BadUpTo}
use Rattle.theory.proofs.Tests.{and_left, and_right, or_cases, true_of}
use Rattle.theory.proofs.Words.{each_passes, word_laid}
use Rattle.theory.proofs.TreesPass.{laid_leaf}
use Rattle.theory.proofs.FirstFaults.{lowest_word}

-- one of these words is a leaf of symbol s under another kind than k
record Stands (k s : ℕ) (vs : List ℕ) : Type 0 where
  at : ℕ
  other : ℕ
  inside : at < length vs
  is : shape (get_or vs at 0) ≡ is_leaf other s
  differ : k ≢ other

here : (k s v : ℕ) (vs : List ℕ) (u : Shape) → shape v ≡ u → T (other_kind k s u) → Stands k s (v ∷ vs)
unfolding other_kind
here k s v vs is_top e t = absurd t
here k s v vs is_bot e t = absurd t
here k s v vs (is_leaf k' s') e t =
    let same : s ≡ s' = eqb→eq s s' (and_left (eqb s s') (not (eqb k k')) t) in
    let apart : eqb k k' ≡ false = not-true (eqb k k') (true_of _ (and_right (eqb s s') (not (eqb k k')) t)) in
    record {
      at = 0;
      other = k';
      inside = omega arith;
      is = e ∙ ap (is_leaf k') (sym same);
      differ = eqb-false k k' apart;
    }
here k s v vs (is_and l r) e t = absurd t
here k s v vs (is_or l r) e t = absurd t
here k s v vs (is_imp l r) e t = absurd t

later : {k s v : ℕ} {vs : List ℕ} → Stands k s vs → Stands k s (v ∷ vs)
later x = record { at = suc x.at; other = x.other; inside = omega (arith, x.inside); is = x.is; differ = x.differ }

-- a symbol that stands otherwise among words does so at one of them
stands_at : (k s : ℕ) (vs : List ℕ) → T (stands_otherwise k s vs) → Stands k s vs
unfolding stands_otherwise
stands_at k s [] t = absurd t
stands_at k s (v ∷ vs) t =
    ⊎_elim (here k s v vs (shape v) refl) (λ t. later (stands_at k s vs t))
    (or_cases (other_kind k s (shape v)) (stands_otherwise k s vs) t)

-- and a symbol that does not has this kind at each
kind_at : (k s : ℕ) (vs : List ℕ) → stands_otherwise k s vs ≡ false → (i k' : ℕ) → i < length vs → shape (get_or vs i 0) ≡ is_leaf
    k' s → k ≡ k'
unfolding stands_otherwise other_kind
kind_at k s [] e i k' h q = absurd (omega arith)
kind_at k s (v ∷ vs) e i k' h q = go (other_kind k s (shape v)) refl e i h q (λ e i. kind_at k s vs e i k')
  where
    first : (a b : Bool) → eqb s s ≡ a → eqb k k' ≡ b → (a && not b) ≡ false → k ≡ k'
    first a true o p f = eqb-true k k' p
    first true false o p f = absurd (subst T f tt)
    first false false o p f = absurd (eqb-false s s o refl)

    go : (b : Bool) → other_kind k s (shape v) ≡ b → (b || stands_otherwise k s vs) ≡ false → (i : ℕ) → i < length (v ∷ vs) →
        shape (get_or (v ∷ vs) i 0) ≡ is_leaf k' s →
        (stands_otherwise k s vs ≡ false → (j : ℕ) → j < length vs → shape (get_or vs j 0) ≡ is_leaf k' s → k ≡ k') → k ≡ k'
    go true p e i h q ih = absurd (subst T e tt)
    go false p e zero h q ih = first (eqb s s) (eqb k k') refl refl (ap (other_kind k s) (sym q) ∙ p)
    go false p e (suc i) h q ih = ih e i (le_of_suc-le-suc h) q

module _ (ws : List ℕ) {s : ℕ} where
  -- a word that passes does not clash with those before it
  lower_kind : {k k' : ℕ} (i j : ℕ) → T (good_word (take j ws) (get_or ws j 0)) → i < j → j < length ws →
      shape (get_or ws i 0) ≡ is_leaf k s → shape (get_or ws j 0) ≡ is_leaf k' s → k' ≡ k
  unfolding good_word clashes
  lower_kind {k} {k'} i j t h inside at_i at_j =
      let apart : clashes (take j ws) (shape (get_or ws j 0)) ≡ false =
      not-true _ (true_of _ (and_right (laid_out (length (take j ws)) (get_or ws j 0)) _ t)) in
      kind_at k' s (take j ws) (ap (clashes (take j ws)) (sym at_j) ∙ apart) i k
      (omega (arith, h, inside, length-take-le j ws (omega (arith, inside))))
      (ap shape (get_or-take j ws i 0 h) ∙ at_i)

  -- two leaf words of one symbol in words that pass have one kind
  pub one_kind : bad_word ws ≡ none → {k k' : ℕ} (i j : ℕ) → i < length ws → j < length ws →
      shape (get_or ws i 0) ≡ is_leaf k s → shape (get_or ws j 0) ≡ is_leaf k' s → k ≡ k'
  unfolding bad_word
  one_kind passed {k} {k'} i j in_i in_j at_i at_j = go (dec_lt i j) (dec_lt j i)
    where
      go : Dec (i < j) → Dec (j < i) → k ≡ k'
      go (yes h) d = sym (lower_kind i j (each_passes [] ws passed j in_j) h in_j at_i at_j)
      go (no n) (yes h) = lower_kind j i (each_passes [] ws passed i in_i) h in_i at_j at_i
      go (no n) (no m) = let same : i ≡ j = omega arith in let at : is_leaf k s ≡ is_leaf k' s = cc in cc

module _ (ws : List ℕ) (i : ℕ) (low : LowestWord ws i) where
  -- the lowest faulty word, if it is laid out, is a leaf whose symbol stands lower under another kind
  clash_at : (u : Shape) → shape (get_or ws i 0) ≡ u → T (laid_out i (get_or ws i 0)) → T (clashes (take i ws) u) → Mixed ws i
  unfolding clashes
  clash_at is_top e laid t = absurd t
  clash_at is_bot e laid t = absurd t
  clash_at (is_leaf k s) e laid t =
      let x = stands_at k s (take i ws) t in
      let below : x.at < i = omega (arith, x.inside, length-take-le i ws (omega (arith, low.inside))) in
      let there : shape (get_or ws x.at 0) ≡ is_leaf x.other s = ap shape (sym (get_or-take i ws x.at 0 below)) ∙ x.is in
      record {
        lower = x.at;
        symbol = s;
        kind = k;
        other = x.other;
        inside = low.inside;
        below = below;
        here = e;
        there = there;
        leaf = laid_leaf i (get_or ws i 0) laid e;
        leaf_there = laid_leaf _ (get_or ws x.at 0) (word_laid _ _ (low.before x.at below)) there;
        differ = x.differ;
      }
  clash_at (is_and l r) e laid t = absurd t
  clash_at (is_or l r) e laid t = absurd t
  clash_at (is_imp l r) e laid t = absurd t

  clashing : (b c : Bool) → (b && not c) ≡ false → T b → T c
  clashing true true e t = tt
  clashing true false e t = absurd (subst T e tt)
  clashing false c e t = absurd t

  -- the index of a word is the number of words before it
  if_laid : T (laid_out i (get_or ws i 0)) → Mixed ws i
  unfolding good_word
  if_laid laid =
      let index : length (take i ws) ≡ i = length-take-le i ws (omega (arith, low.inside)) in
      clash_at (shape (get_or ws i 0)) refl laid
      (clashing (laid_out (length (take i ws)) (get_or ws i 0)) (clashes (take i ws) (shape (get_or ws i 0))) low.breaks
      (subst (λ (n : ℕ). T (laid_out n (get_or ws i 0))) (sym index) laid))

  broken_or_mixed : (b : Bool) → laid_out i (get_or ws i 0) ≡ b → (laid_out i (get_or ws i 0) ≡ false) ⊎ Mixed ws i
  broken_or_mixed false p = inl p
  broken_or_mixed true p = inr (if_laid (subst T (sym p) tt))

-- a word that 2 refuses breaks the layout, or its symbol does stand at a lower index under another leaf kind
pub clash_found : (ws : List ℕ) (i : ℕ) → bad_word ws ≡ some i → (laid_out i (get_or ws i 0) ≡ false) ⊎ Mixed ws i
clash_found ws i e = broken_or_mixed ws i (lowest_word ws i e) (laid_out i (get_or ws i 0)) refl

module _ (ws : List ℕ) (i : ℕ) (m : Mixed ws i) where
  -- the later of two words of one symbol and two kinds does not pass
  mixed_fails : T (good_word (take i ws) (get_or ws i 0)) → ⊥
  mixed_fails t = m.differ (lower_kind ws m.lower i t m.below m.inside m.there m.here)

  not_above : (j : ℕ) → LowestWord ws j → Dec (i < j) → j ≤ i
  not_above j low (yes h) = absurd (mixed_fails (low.before i h))
  not_above j low (no n) = omega arith

  -- so a symbol under two kinds is refused, at that word or lower
  pub mixed_refused : BadUpTo ws i
  mixed_refused = go (bad_word ws) refl
    where
      go : (o : Option ℕ) → bad_word ws ≡ o → BadUpTo ws i
      go none e =
          absurd (m.differ (one_kind ws e i m.lower m.inside (omega (arith, m.inside, m.below)) m.here m.there))
      go (some j) e = record { place = j; not_above = not_above j (lowest_word ws j e) (dec_lt i j); is = e }

  -- and at that word, if those below it pass
  pub mixed_at : ((j : ℕ) → j < i → T (good_word (take j ws) (get_or ws j 0))) → bad_word ws ≡ some i
  mixed_at passed = go mixed_refused
    where
      same : (j : ℕ) → j ≤ i → LowestWord ws j → Dec (j < i) → j ≡ i
      same j h low (yes k) = absurd (subst T low.breaks (passed j k))
      same j h low (no n) = omega arith

      go : BadUpTo ws i → bad_word ws ≡ some i
      go r = r.is ∙ ap some (same r.place r.not_above (lowest_word ws r.place r.is) (dec_lt r.place i))

-- words pass exactly if each is laid out and no symbol stands under two kinds
pub passes_exactly : (ws : List ℕ) →
    (bad_word ws ≡ none) ↔ (((i : ℕ) → i < length ws → T (laid_out i (get_or ws i 0))) × ((i : ℕ) → Mixed ws i → ⊥))
unfolding bad_word
passes_exactly ws = (λ e. (laid e, none_mixed e), λ h. back (bad_word ws) refl h.0 h.1)
  where
    laid : bad_word ws ≡ none → (i : ℕ) → i < length ws → T (laid_out i (get_or ws i 0))
    laid e i h =
        subst (λ (n : ℕ). T (laid_out n (get_or ws i 0))) (length-take-le i ws (omega arith))
        (word_laid (take i ws) (get_or ws i 0) (each_passes [] ws e i h))

    none_mixed : bad_word ws ≡ none → (i : ℕ) → Mixed ws i → ⊥
    none_mixed e i m = mixed_fails ws i m (each_passes [] ws e i m.inside)

    back : (o : Option ℕ) → bad_word ws ≡ o → ((i : ℕ) → i < length ws → T (laid_out i (get_or ws i 0))) → ((i : ℕ) → Mixed ws i → ⊥) →
        bad_word ws ≡ none
    back none e f g = e
    back (some i) e f g =
        absurd (⊎_elim (λ p. subst T p (f i (lowest_word ws i e).inside)) (g i) (clash_found ws i e))
