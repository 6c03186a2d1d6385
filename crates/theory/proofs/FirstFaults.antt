-- The place of a refusal is that of the lowest or first thing at fault. Assumes nothing.
use Prim.Native.Nat.{ℕ, zero, suc, ◌+◌, ◌≤◌, ◌<◌}
use mathlib.Core.Path.{◌≡◌, refl, sym, ap, ◌∙◌, subst}
use mathlib.Core.Bool.{Bool, true, false}
use mathlib.Core.Option.{Option, none, some}
use mathlib.Core.Logic.{◌⊎◌, inl, inr}
use mathlib.Core.List.{List, [], ◌∷◌, ◌++◌, append_assoc, append-nil}
use native.Mathlib.Nat.{le_of_suc-le-suc, not-suc-le-zero, zero-add}
use native.Mathlib.Omega.{arith}
use native.Mathlib.Decide.{dec_lt}
use borrow.Author.Tests.{ltb-true, ltb-false, leb-true, leb-false}
use lib.Dec.{T, leb, ltb}
use lib.ListN.{length, get_or, take}
use Rattle.theory.specs.Form.{good_word, bad_from, bad_word}
use Rattle.theory.specs.Layout.{lawful_node, bad_node_from, bad_term}
use Rattle.theory.specs.Refusal.{too_many, outside_from, bad_assumption}
use Rattle.theory.specs.Places.{LowestWord, FirstOutside, LowestNode}
use Rattle.theory.proofs.Tests.{none_some}
use Rattle.theory.proofs.Forms.{snoc_length}

-- the words after some that passed: the k-th of them is the lowest at fault
record LowestFrom (before ws : List ℕ) (i : ℕ) : Type 0 where
  k : ℕ
  is : i ≡ length before + k
  inside : k < length ws
  breaks : good_word (before ++ take k ws) (get_or ws k 0) ≡ false
  passed : (j : ℕ) → j < k → T (good_word (before ++ take j ws) (get_or ws j 0))

lowest_from : (before ws : List ℕ) (i : ℕ) → bad_from before ws ≡ some i → LowestFrom before ws i
unfolding bad_from
lowest_from before [] i e = absurd (none_some e)
lowest_from before (w ∷ ws) i e = go (good_word before w) refl e (lowest_from (before ++ (w ∷ [])) ws i)
  where
    go : (b : Bool) → good_word before w ≡ b →
        ◌≡◌ {A = Option ℕ} (elim b [ true ↦ bad_from (before ++ (w ∷ [])) ws | false ↦ some (length before) ]) (some i) →
        (bad_from (before ++ (w ∷ [])) ws ≡ some i → LowestFrom (before ++ (w ∷ [])) ws i) → LowestFrom before (w ∷ ws) i
    go true p e ih = let r = ih e in record {
      k = suc r.k;
      is = omega (arith, r.is, snoc_length before w);
      inside = omega (arith, r.inside);
      breaks = ap (λ (ns : List ℕ). good_word ns (get_or ws r.k 0)) (sym (append_assoc before (w ∷ []) (take r.k ws))) ∙ r.breaks;
      passed = earlier r;
    }
      where
        earlier : (r : LowestFrom (before ++ (w ∷ [])) ws i) (j : ℕ) → j < suc r.k →
            T (good_word (before ++ take j (w ∷ ws)) (get_or (w ∷ ws) j 0))
        earlier r zero h = subst T (sym (ap (λ (ns : List ℕ). good_word ns w) (append-nil before) ∙ p)) tt
        earlier r (suc j) h = subst (λ (ns : List ℕ). T (good_word ns (get_or ws j 0))) (append_assoc before (w ∷ []) (take j ws))
            (r.passed j (le_of_suc-le-suc h))
    go false p e ih = record {
      k = 0;
      is = let q : length before ≡ i = cc in omega arith;
      inside = omega arith;
      breaks = ap (λ (ns : List ℕ). good_word ns w) (append-nil before) ∙ p;
      passed = λ j h. absurd (not-suc-le-zero h);
    }

-- 2 names the lowest word at fault
pub lowest_word : (ws : List ℕ) (i : ℕ) → bad_word ws ≡ some i → LowestWord ws i
unfolding bad_word
lowest_word ws i e =
    let r = lowest_from [] ws i e in
    let p : r.k ≡ i = omega (arith, r.is) in
    subst (LowestWord ws) p (record { inside = r.inside; breaks = r.breaks; before = r.passed })

-- the indices after some that are below the count
record OutsideFrom (count from : ℕ) (hs : List ℕ) (i : ℕ) : Type 0 where
  k : ℕ
  is : i ≡ from + k
  first : FirstOutside count hs k

outside_from_lem : (count from : ℕ) (hs : List ℕ) (i : ℕ) → outside_from count from hs ≡ some i → OutsideFrom count from hs i
unfolding outside_from
outside_from_lem count from [] i e = absurd (none_some e)
outside_from_lem count from (a ∷ hs) i e = go (ltb a count) refl e (outside_from_lem count (suc from) hs i)
  where
    go : (b : Bool) → ltb a count ≡ b →
        ◌≡◌ {A = Option ℕ} (elim b [ true ↦ outside_from count (suc from) hs | false ↦ some from ]) (some i) →
        (outside_from count (suc from) hs ≡ some i → OutsideFrom count (suc from) hs i) → OutsideFrom count from (a ∷ hs) i
    go true p e ih = let r = ih e in record {
      k = suc r.k;
      is = omega (arith, r.is);
      first = record { inside = omega (arith, r.first.inside); outside = r.first.outside; before = earlier r };
    }
      where
        earlier : (r : OutsideFrom count (suc from) hs i) (j : ℕ) → j < suc r.k → get_or (a ∷ hs) j 0 < count
        earlier r zero h = ltb-true a count p
        earlier r (suc j) h = r.first.before j (le_of_suc-le-suc h)
    go false p e ih = record {
      k = 0;
      is = let q : from ≡ i = cc in omega arith;
      first = record { inside = omega arith; outside = ltb-false a count p; before = λ j h. absurd (not-suc-le-zero h) };
    }

-- 3 names 64 where there are more, or else the first index not below the count
pub first_assumption : (count : ℕ) (hs : List ℕ) (i : ℕ) → bad_assumption count hs ≡ some i →
    ((64 < length hs) × (i ≡ 64)) ⊎ ((length hs ≤ 64) × FirstOutside count hs i)
unfolding bad_assumption too_many
first_assumption count hs i e = go (leb (length hs) 64) refl e
  where
    go : (b : Bool) → leb (length hs) 64 ≡ b → ◌≡◌ {A = Option ℕ} (elim (elim b as (λ y. Option ℕ) [ true ↦ none | false ↦ some 64 ]) [
      | some j ↦ some j
      | none ↦ outside_from count 0 hs
    ]) (some i) → ((64 < length hs) × (i ≡ 64)) ⊎ ((length hs ≤ 64) × FirstOutside count hs i)
    go true p e =
        let r = outside_from_lem count 0 hs i e in
        let q : r.k ≡ i = omega (arith, r.is) in
        inr (leb-true (length hs) 64 p, subst (FirstOutside count hs) q r.first)
    go false p e = inl (leb-false (length hs) 64 p, let q : 64 ≡ i = cc in sym q)

module _ (names : List (List ℕ)) (count : ℕ) (t : List ℕ) where
  -- k nodes from node m on, all before it lawful
  lowest_node_from : (m k i : ℕ) → ((j : ℕ) → j < m → T (lawful_node names count t j)) → bad_node_from names count t m k ≡ some i →
      LowestNode names count t (m + k) i
  unfolding bad_node_from
  lowest_node_from m zero i h e = absurd (none_some e)
  lowest_node_from m (suc k) i h e = go (lawful_node names count t m) refl e (lowest_node_from (suc m) k i)
    where
      go : (b : Bool) → lawful_node names count t m ≡ b →
          ◌≡◌ {A = Option ℕ} (elim b [ true ↦ bad_node_from names count t (suc m) k | false ↦ some m ]) (some i) →
          (((j : ℕ) → j < suc m → T (lawful_node names count t j)) → bad_node_from names count t (suc m) k ≡ some i →
          LowestNode names count t (suc m + k) i) → LowestNode names count t (m + suc k) i
      go true p e ih =
          subst (λ (n : ℕ). LowestNode names count t n i) (let q : suc m + k ≡ m + suc k = omega arith in q)
          (ih (λ j l. next j l (dec_lt j m)) e)
        where
          next : (j : ℕ) → j < suc m → Dec (j < m) → T (lawful_node names count t j)
          next j l (yes a) = h j a
          next j l (no a) =
              let q : m ≡ j = omega arith in subst (λ (n : ℕ). T (lawful_node names count t n)) q (subst T (sym p) tt)
      go false p e ih =
          let q : m ≡ i = cc in
          subst (LowestNode names count t (m + suc k)) q (record { inside = omega arith; breaks = p; before = h })

  -- 13 names the lowest node that breaks the layout, or the node count for a root that is none
  pub lowest_node : (nodes root i : ℕ) → bad_term names count t nodes root ≡ some i →
      LowestNode names count t nodes i ⊎ ((bad_node_from names count t 0 nodes ≡ none) × (nodes ≤ root) × (i ≡ nodes))
  unfolding bad_term
  lowest_node nodes root i e = go (bad_node_from names count t 0 nodes) refl e
    where
      place : (b : Bool) → ltb root nodes ≡ b → ◌≡◌ {A = Option ℕ} (elim b [ true ↦ none | false ↦ some nodes ]) (some i) →
          (nodes ≤ root) × (i ≡ nodes)
      place true p e = absurd (none_some e)
      place false p e = (ltb-false root nodes p, let q : nodes ≡ i = cc in sym q)

      go : (o : Option ℕ) → bad_node_from names count t 0 nodes ≡ o → ◌≡◌ {A = Option ℕ} (elim o [
        | some j ↦ some j
        | none ↦ elim (ltb root nodes) [ true ↦ none | false ↦ some nodes ]
      ]) (some i) → LowestNode names count t nodes i ⊎ ((bad_node_from names count t 0 nodes ≡ none) × (nodes ≤ root) × (i ≡ nodes))
      go (some j) p e =
          let q : j ≡ i = cc in
          inl (subst (λ (n : ℕ). LowestNode names count t n i) (zero-add nodes)
          (lowest_node_from 0 nodes i (λ j l. absurd (not-suc-le-zero l)) (p ∙ ap some q)))
      go none p e = let r = place (ltb root nodes) refl e in inr (p, r.0, r.1)
