-- From refusals to facts: a claim that no test of 1 to 5 refuses has what the search's theorems ask for. Assumes nothing.
use Prim.Native.Nat.{ℕ, suc, ◌*◌, ◌%◌, ◌≤◌, ◌<◌}
use mathlib.Core.Path.{◌≡◌, refl, sym, ◌∙◌}
use mathlib.Core.Bool.{Bool, true, false, ◌&&◌}
use mathlib.Core.Option.{Option, none, some}
use mathlib.Core.List.{List, [], ◌∷◌, map}
use native.Mathlib.Omega.{arith}
use lib.Dec.{T, leb, ltb, eqb, leb→le, le→leb, ltb→lt, eqb→eq}
use lib.ListN.{length, take, length-map}
use lib.Seq.{length-take-le}
use Rattle.theory.specs.Form.{Book, shape, bad_word}
use Rattle.theory.specs.NameText.{bad_name}
use Rattle.theory.specs.Layout.{node_width}
use Rattle.theory.specs.Written.{AllIn}
use Rattle.theory.specs.Refusal.{Fault, Sizes, BadFormula, BadAssumption, BadNames, BadGoal, Refused, fault_at, or_else, unless}
use Rattle.theory.specs.Refusal.{formula_sizes, term_sizes, highest_level, is_some, work_sizes, too_many, outside_from, bad_assumption}
use Rattle.theory.specs.Refusal.{bad_goal}
use Rattle.theory.specs.Call.{Claim, right_sizes, given_words, given_book, refusal}
use Rattle.theory.specs.Owed.{Passes}
use Rattle.theory.proofs.Tests.{and_left, and_right, none_some, some_none}
use Rattle.theory.proofs.Words.{decodes}
use Rattle.theory.proofs.LawfulNames.{good_names}

-- two tests of which none refuses
pub or_none : (a b : Option Refused) → or_else a b ≡ none → (a ≡ none) × (b ≡ none)
unfolding or_else
or_none none b e = (refl, e)
or_none (some r) b e = absurd (some_none e)

pub none_or : (a b : Option Refused) → a ≡ none → b ≡ none → or_else a b ≡ none
unfolding or_else
none_or none b p q = q
none_or (some r) b p q = p

-- what is refused does not pass
pub not_both : {r : Refused} (o : Option Refused) → o ≡ none → o ≡ some r → ⊥
not_both o p q = none_some (sym p ∙ q)

-- no place, no fault
pub fault_none : (f : Fault) (o : Option ℕ) → fault_at f o ≡ none → o ≡ none
unfolding fault_at
fault_none f none e = refl
fault_none f (some i) e = absurd (some_none e)

pub none_fault : (f : Fault) (o : Option ℕ) → o ≡ none → fault_at f o ≡ none
unfolding fault_at
none_fault f none e = refl
none_fault f (some i) e = absurd (some_none e)

-- a test that holds has no place
pub unless_none : (b : Bool) → unless b ≡ none → T b
unfolding unless
unless_none true e = tt
unless_none false e = absurd (some_none e)

pub none_unless : (b : Bool) → T b → unless b ≡ none
unfolding unless
none_unless true t = refl
none_unless false t = absurd t

-- at most 64 assumptions
pub not_many : (n : ℕ) → too_many n ≡ none → n ≤ 64
unfolding too_many
not_many n e = go (leb n 64) (leb→le n 64) e
  where
    go : (b : Bool) → (T b → n ≤ 64) → ◌≡◌ {A = Option ℕ} (elim b [ true ↦ none | false ↦ some 64 ]) none → n ≤ 64
    go true f e = f tt
    go false f e = absurd (some_none e)

pub few_enough : (n : ℕ) → n ≤ 64 → too_many n ≡ none
unfolding too_many
few_enough n h = go (leb n 64) (le→leb n 64 h)
  where
    go : (b : Bool) → T b → ◌≡◌ {A = Option ℕ} (elim b [ true ↦ none | false ↦ some 64 ]) none
    go true t = refl
    go false t = absurd t

-- each index is below the count
inside : (ws : Book) (count : ℕ) → length ws ≡ count → (i : ℕ) (hs : List ℕ) → outside_from count i hs ≡ none → AllIn ws hs
unfolding outside_from
inside ws count p i [] e = tt
inside ws count p i (a ∷ hs) e = go (ltb a count) (ltb→lt a count) (inside ws count p (suc i) hs) e
  where
    go : (b : Bool) → (T b → a < count) → (outside_from count (suc i) hs ≡ none → AllIn ws hs) →
        ◌≡◌ {A = Option ℕ} (elim b [ true ↦ outside_from count (suc i) hs | false ↦ some i ]) none → (a < length ws) × AllIn ws hs
    go true f g e = (let h : a < count = f tt in omega arith, g e)
    go false f g e = absurd (some_none e)

assumptions_pass : (ws : Book) (count : ℕ) → length ws ≡ count → (hs : List ℕ) → bad_assumption count hs ≡ none →
    (length hs ≤ 64) × AllIn ws hs
unfolding bad_assumption
assumptions_pass ws count p hs e = go (too_many (length hs)) refl e
  where
    go : (o : Option ℕ) → too_many (length hs) ≡ o → ◌≡◌ {A = Option ℕ} (elim o [ some i ↦ some i | none ↦ outside_from count 0 hs ]) none →
        (length hs ≤ 64) × AllIn ws hs
    go none q e = (not_many (length hs) q, inside ws count p 0 hs e)
    go (some i) q e = absurd (some_none e)

-- the sizes of row 1, one slice after another
pub formula_sizes_lem : (room count : ℕ) → T (formula_sizes room count) → (room ≤ 16384) × (count ≤ room)
unfolding formula_sizes
formula_sizes_lem room count t = (
  leb→le room 16384 (and_left (leb room 16384) (leb count room) t),
  leb→le count room (and_right (leb room 16384) (leb count room) t),
)

term_sizes_lem : (room : ℕ) → T (term_sizes room) → (room % node_width ≡ 0) × (room ≤ 16384 * node_width)
unfolding term_sizes
term_sizes_lem room t = (
  eqb→eq (room % node_width) 0 (and_left (eqb (room % node_width) 0) (leb room (16384 * node_width)) t),
  leb→le room (16384 * node_width) (and_right (eqb (room % node_width) 0) (leb room (16384 * node_width)) t),
)

records_pass : (n : ℕ) → T (is_some (highest_level n)) → n ≡ 16384
unfolding highest_level is_some
records_pass n t = go (eqb n 16384) (eqb→eq n 16384) t
  where
    go : (b : Bool) → (T b → n ≡ 16384) → T (is_some (elim b [ true ↦ some 63 | false ↦ none ])) → n ≡ 16384
    go true f t = f tt
    go false f t = absurd t

work_sizes_lem : (records steps : ℕ) → T (work_sizes records steps) → (records ≡ 16384) × (steps ≤ 1000000)
unfolding work_sizes
work_sizes_lem records steps t = (
  records_pass records (and_left (is_some (highest_level records)) (leb steps 1000000) t),
  leb→le steps 1000000 (and_right (is_some (highest_level records)) (leb steps 1000000) t),
)

module _ (x : Claim) where
  pub formula_part : T (right_sizes x) → T (formula_sizes (length x.words) x.count)
  unfolding right_sizes
  formula_part t = and_left (formula_sizes (length x.words) x.count) _ t

  rest_part : T (right_sizes x) → T (term_sizes (length x.terms) && work_sizes x.records x.step_limit)
  unfolding right_sizes
  rest_part t = and_right (formula_sizes (length x.words) x.count) _ t

  pub term_part : T (right_sizes x) → T (term_sizes (length x.terms))
  term_part t = and_left (term_sizes (length x.terms)) (work_sizes x.records x.step_limit) (rest_part t)

  pub work_part : T (right_sizes x) → T (work_sizes x.records x.step_limit)
  work_part t = and_right (term_sizes (length x.terms)) (work_sizes x.records x.step_limit) (rest_part t)

  -- a claim that is not refused passes
  pub passes : refusal x ≡ none → Passes x
  unfolding refusal given_words given_book bad_goal
  passes e =
      let a = or_none _ _ e in
      let b = or_none _ _ a.1 in
      let c = or_none _ _ b.1 in
      let d = or_none _ _ c.1 in
      let t : T (right_sizes x) = unless_none (right_sizes x) (fault_none Sizes _ a.0) in
      let f = formula_sizes_lem (length x.words) x.count (formula_part t) in
      let n = term_sizes_lem (length x.terms) (term_part t) in
      let w = work_sizes_lem x.records x.step_limit (work_part t) in
      let k : length (take x.count x.words) ≡ x.count = length-take-le x.count x.words f.1 in
      let m : length (map shape (take x.count x.words)) ≡ x.count = length-map (take x.count x.words) shape ∙ k in
      let v : bad_word (given_words x) ≡ none = fault_none BadFormula _ b.0 in
      let h = assumptions_pass (given_book x) x.count m x.assumed (fault_none BadAssumption _ c.0) in
      let named : bad_name (length x.assumed) x.text ≡ none = fault_none BadNames _ d.0 in
      let j : x.goal < x.count = ltb→lt x.goal x.count (unless_none _ (fault_none BadGoal _ d.1)) in
      record {
        sizes = t;
        few_words = f.0;
        given = f.1;
        counted = k;
        whole_nodes = n.0;
        few_terms = n.1;
        records = w.0;
        few_steps = w.1;
        words = v;
        good = decodes (given_words x) v;
        book = m;
        few = h.0;
        ins = h.1;
        names = named;
        named = (good_names (length x.assumed) x.text named).count;
        distinct = (good_names (length x.assumed) x.text named).lawful.distinct;
        goal = omega arith;
      }
