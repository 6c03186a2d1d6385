-- What a house file that decodes holds: counts within their bounds, so that the program's claim has the right sizes. Assumes nothing.
use Prim.Native.Nat.{ℕ, zero, suc, ◌*◌, ◌≤◌}
use mathlib.Core.Path.{◌≡◌, refl, sym, ap, ◌∙◌, subst}
use mathlib.Core.Bool.{Bool, true, false}
use mathlib.Core.Option.{Option, none, some}
use mathlib.Core.List.{List, [], ◌∷◌, ◌++◌}
use native.Mathlib.Omega.{arith}
use lib.Dec.{T, leb, eqb, leb→le, le→leb, eqb→eq}
use lib.ListN.{length, replicate, length-replicate}
use Rattle.theory.specs.NameText.{padded}
use Rattle.theory.specs.Layout.{node_width}
use Rattle.theory.specs.Refusal.{formula_sizes, term_sizes, highest_level, is_some, work_sizes}
use Rattle.theory.specs.Call.{right_sizes}
use Rattle.theory.specs.File.{cut_bytes, cut_number, cut_numbers, cut_count, cut_section, formula_count, assumption_count, goal_count}
use Rattle.theory.specs.File.{Assumptions, cut_assumptions, File, cut_goals, cut_rules, decoded, claim_of}
use Rattle.theory.specs.Owed.{Bounds}
use Rattle.theory.proofs.Tests.{and_T, none_some}
use Rattle.theory.proofs.Fitted.{padded_length}

-- what was cut, where the whole is no fault
got : {A B : Type 0} (o : Option A) (k : A → Option B) (b : B) → ◌≡◌ {A = Option B} (elim o [ none ↦ none | some a ↦ k a ]) (some b) →
    (a : A) × (o ≡ some a) × (k a ≡ some b)
got none k b e = absurd (none_some e)
got (some a) k b e = (a, refl, e)

-- a test that was made on the way
made : {A : Type 0} (t : Bool) (a b : A) → ◌≡◌ {A = Option A} (elim t [ true ↦ some a | false ↦ none ]) (some b) → T t × (a ≡ b)
made true a b e = (tt, cc)
made false a b e = absurd (none_some e)

-- a count is lawful
count_lawful : (lawful : ℕ → Bool) (bs : List ℕ) (p : ℕ × List ℕ) → cut_count lawful bs ≡ some p → T (lawful p.0)
unfolding cut_count
count_lawful lawful bs p e =
    let g = got (cut_number 2 bs) (λ (q : ℕ × List ℕ). elim (lawful q.0) [ true ↦ some q | false ↦ none ]) p e in
    let m = made (lawful g.0.0) g.0 p g.2 in
    subst (λ (q : ℕ × List ℕ). T (lawful q.0)) m.1 m.0

-- as many numbers as are asked for
numbers_many : (k n : ℕ) (bs : List ℕ) (q : List ℕ × List ℕ) → cut_numbers k n bs ≡ some q → length q.0 ≡ n
unfolding cut_numbers
numbers_many k zero bs q e =
    let p : ◌≡◌ {A = List ℕ × List ℕ} ([], bs) q = cc in ap (λ (r : List ℕ × List ℕ). length r.0) (sym p)
numbers_many k (suc n) bs q e =
    let g = got (cut_number k bs)
    (λ (p : ℕ × List ℕ). elim (cut_numbers k n p.1) [ none ↦ none | some r ↦ some (p.0 ∷ r.0, r.1) ]) q e in
    let h = got (cut_numbers k n g.0.1) (λ (r : List ℕ × List ℕ). some (g.0.0 ∷ r.0, r.1)) q g.2 in
    let p : ◌≡◌ {A = List ℕ × List ℕ} (g.0.0 ∷ h.0.0, h.0.1) q = cc h.2 in
    ap (λ (r : List ℕ × List ℕ). length r.0) (sym p) ∙ ap suc (numbers_many k n g.0.1 h.0 h.1)

section_lawful : (lawful : ℕ → Bool) (k : ℕ) (bs : List ℕ) (p : List ℕ × List ℕ) → cut_section lawful k bs ≡ some p →
    T (lawful (length p.0))
unfolding cut_section
section_lawful lawful k bs p e =
    let g = got (cut_count lawful bs) (λ (q : ℕ × List ℕ). cut_numbers k q.0 q.1) p e in
    subst (λ (n : ℕ). T (lawful n)) (sym (numbers_many k g.0.0 g.0.1 p g.2)) (count_lawful lawful bs g.0 g.1)

-- an index for each assumption
indices_many : (n : ℕ) (bs : List ℕ) (a : Assumptions) → cut_assumptions n bs ≡ some a → length a.indices ≡ n
unfolding cut_assumptions
indices_many zero bs a e =
    let p : ◌≡◌ {A = Assumptions} (record { indices = []; text = []; rest = bs }) a = cc in
    ap (λ (b : Assumptions). length b.indices) (sym p)
indices_many (suc n) bs a e =
    let g = got (cut_number 2 bs) after_index a e in
    let h = got (cut_number 1 g.0.1) (after_size g.0) a g.2 in
    let k = got (cut_bytes h.0.0 h.0.1) (after_name g.0 h.0) a h.2 in
    let m = got (cut_assumptions n k.0.1) (whole g.0 h.0 k.0) a k.2 in
    omega (arith, indexed g.0 h.0 k.0 m.0 m.2, indices_many n k.0.1 m.0 m.1)
  where
    whole : ℕ × List ℕ → ℕ × List ℕ → List ℕ × List ℕ → Assumptions → Option Assumptions
    whole index size name more = some (record {
      indices = index.0 ∷ more.indices;
      text = size.0 ∷ (name.0 ++ more.text);
      rest = more.rest;
    })

    after_name : ℕ × List ℕ → ℕ × List ℕ → List ℕ × List ℕ → Option Assumptions
    after_name index size name = elim (cut_assumptions n name.1) [ none ↦ none | some more ↦ whole index size name more ]

    after_size : ℕ × List ℕ → ℕ × List ℕ → Option Assumptions
    after_size index size = elim (cut_bytes size.0 size.1) [ none ↦ none | some name ↦ after_name index size name ]

    after_index : ℕ × List ℕ → Option Assumptions
    after_index index = elim (cut_number 1 index.1) [ none ↦ none | some size ↦ after_size index size ]

    indexed : (index size : ℕ × List ℕ) (name : List ℕ × List ℕ) (more : Assumptions) → whole index size name more ≡ some a →
        length a.indices ≡ suc (length more.indices)
    indexed index size name more q =
        let r : ◌≡◌ {A = Assumptions} (record {
          indices = index.0 ∷ more.indices;
          text = size.0 ∷ (name.0 ++ more.text);
          rest = more.rest;
        }) a = cc in
        ap (λ (b : Assumptions). length b.indices) (sym r)

goals_bounded : (words : List ℕ) (more : Assumptions) (x : File) → length words ≤ 4096 → length more.indices ≤ 64 →
    cut_goals words more ≡ some x → Bounds x
unfolding cut_goals goal_count
goals_bounded words more x h k e =
    let file : List ℕ × List ℕ → File = λ goals.
    record { words = words; indices = more.indices; text = more.text; goals = goals.0 } in
    let g = got (cut_section goal_count 2 more.rest)
    (λ (goals : List ℕ × List ℕ). elim (eqb (length goals.1) 0) [ true ↦ some (file goals) | false ↦ none ]) x e in
    let m = made (eqb (length g.0.1) 0) (file g.0) x g.2 in
    subst Bounds m.1 (record {
      words = h;
      indices = k;
      goals = eqb→eq (length g.0.0) 1 (section_lawful goal_count 2 more.rest g.0 g.1);
    })

rules_bounded : (words bs : List ℕ) (x : File) → length words ≤ 4096 → cut_rules words bs ≡ some x → Bounds x
unfolding cut_rules assumption_count
rules_bounded words bs x h e =
    let g = got (cut_count assumption_count bs)
    (λ (p : ℕ × List ℕ). elim (cut_assumptions p.0 p.1) [ none ↦ none | some more ↦ cut_goals words more ]) x e in
    let m = got (cut_assumptions g.0.0 g.0.1) (cut_goals words) x g.2 in
    let n : length m.0.indices ≡ g.0.0 = indices_many g.0.0 g.0.1 m.0 m.1 in
    let l : g.0.0 ≤ 64 = leb→le g.0.0 64 (count_lawful assumption_count bs g.0 g.1) in
    goals_bounded words m.0 x h (omega arith) m.2

pub file_bounded : (bs : List ℕ) (x : File) → decoded bs ≡ some x → Bounds x
unfolding decoded formula_count
file_bounded bs x e = go (leb (length bs) 32768) e
  where
    go : (b : Bool) → ◌≡◌ {A = Option File} (elim b [
      | false ↦ none
      | true ↦ elim (cut_section formula_count 4 bs) [ none ↦ none | some p ↦ cut_rules p.0 p.1 ]
    ]) (some x) → Bounds x
    go true e =
        let g = got (cut_section formula_count 4 bs) (λ (p : List ℕ × List ℕ). cut_rules p.0 p.1) x e in
        rules_bounded g.0.0 g.0.1 x (leb→le (length g.0.0) 4096 (section_lawful formula_count 4 bs g.0 g.1)) g.2
    go false e = absurd (none_some e)

-- the program's claim has the right sizes
pub file_sizes : (x : File) (goal : ℕ) → Bounds x → T (right_sizes (claim_of x goal))
unfolding right_sizes claim_of formula_sizes term_sizes work_sizes highest_level is_some
file_sizes x goal b =
    let w : length (padded 4096 x.words) ≡ 4096 = padded_length x.words 4096 b.words in
    and_T (formula_sizes (length (padded 4096 x.words)) (length x.words)) _
    (and_T (leb (length (padded 4096 x.words)) 16384) _ (le→leb (length (padded 4096 x.words)) 16384 (omega arith))
    (le→leb (length x.words) (length (padded 4096 x.words)) (omega (arith, b.words))))
    (and_T (term_sizes (length {A = ℕ} (replicate (4096 * node_width) 0))) (work_sizes 16384 1000000)
    (subst (λ (n : ℕ). T (term_sizes n)) (sym (length-replicate {A = ℕ} (4096 * node_width) 0)) tt) tt)
