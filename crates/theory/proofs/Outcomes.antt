-- What a decided outcome promises: the returned term derives the goal, or a countermodel stands against it. Assumes nothing.
use Prim.Native.Nat.{ℕ, suc, ◌≤◌, ◌<◌, zero-le}
use mathlib.Core.Path.{◌≡◌, sym, ap, ◌∙◌, subst}
use mathlib.Core.Bool.{Bool, true, false}
use mathlib.Core.Option.{none}
use mathlib.Core.Logic.{◌≢◌}
use mathlib.Core.List.{List, [], ◌∷◌, ◌++◌, map, map-append, append_assoc}
use native.Mathlib.Omega.{arith}
use lib.ListN.{length, take, replicate}
use lib.Seq.{take_at}
use Rattle.theory.specs.Form.{form, shape, word}
use Rattle.theory.specs.Term.{Node, Term, term, Derives, AllNamesHave}
use Rattle.theory.specs.Names.{skipped, bytes_of, GoodName}
use Rattle.theory.specs.NameText.{names_in, padded}
use Rattle.theory.specs.Layout.{nodes_in}
use Rattle.theory.specs.World.{model_of, ForcesEach, first_world}
use Rattle.theory.specs.Kripke.{Lawful, frame, forces}
use Rattle.theory.specs.Written.{assumptions}
use Rattle.theory.specs.Meter.{Lack, Steps, Names, Formulas, Terms, Contexts, Levels}
use Rattle.theory.specs.Refusal.{Fault, Sizes, BadFormula, BadAssumption, BadNames, BadGoal, NoRoom, BadTerm, BadFile}
use Rattle.theory.specs.Refusal.{fault_number, lack_number}
use Rattle.theory.specs.Call.{Claim, search_limits, given_words, given_book, refusal, searched, Outcome, After, records_after, unchanged}
use Rattle.theory.specs.Call.{numbers, called}
use Rattle.theory.specs.Owed.{FitIn, Lent, Passes}
use Rattle.theory.proofs.Forms.{ext_length}
use Rattle.theory.proofs.Words.{encodes}
use Rattle.theory.proofs.Finite.{countermodel}
use Rattle.theory.proofs.Verdict.{unprovable}
use Rattle.theory.proofs.NamesApart.{names_apart}
use Rattle.theory.proofs.Room.{Kept}
use Rattle.theory.proofs.Passing.{not_both, passes}
use Rattle.theory.proofs.Called.{Proves, Fails, RunsShort, Told, t_proved, t_unprovable, t_shortage, t_refused, told}
use Rattle.theory.proofs.Slices.{ProvedWithin, proved_within, failed_within, short_within, proved_state, proved_words, proved_clear}
use Rattle.theory.proofs.Slices.{back_clear, back_front, steps_at_limit}
use Rattle.theory.proofs.LayoutLaws.{unruled}
use Rattle.theory.proofs.Returned.{sound_search, nodes_decode, term_decode, names_returned}

module _ (x : Claim) where
  -- the term that comes back derives the goal from the assumptions
  pub proved_derives : {r n u f t : ℕ} → Proves x r n u f t →
      Derives (assumptions (given_book x) 0 x.assumed)
      (term (map shape (take f (called x).words)) (nodes_in (called x).terms t) r) (form (given_book x) x.goal)
  proved_derives h = subst (λ (s : Term). Derives (assumptions (given_book x) 0 x.assumed) s (form (given_book x) x.goal))
      (sym (term_decode x h)) (sound_search x h).4

  -- its root is one of its nodes
  pub proved_root : {r n u f t : ℕ} → Proves x r n u f t → r < t
  proved_root {r} {n} {u} {f} {t} h = omega (arith, (sound_search x h).0, h.terms)

  -- the given words stand where they stood
  pub proved_given : {r n u f t : ℕ} → Proves x r n u f t → take x.count (called x).words ≡ given_words x
  unfolding padded given_book
  proved_given h =
      let p : Passes x = passes x h.passed in
      let k : Kept (search_limits x) (given_book x) h.state = proved_state x h in
      ap (take x.count) (proved_words x h
      ∙ ap (padded (length x.words)) (ap (map word) k.is ∙ map-append word (given_book x) k.more
      ∙ ap (λ (ws : List ℕ). ws ++ map word k.more) (encodes (given_words x) p.words)))
      ∙ ap (take x.count) (append_assoc (given_words x) (map word k.more) _) ∙ take_at (given_words x) _ x.count p.counted

  module _ {n u f t : ℕ} (h : Fails x n u f t) where
    p : Passes x
    p = passes x h.passed

    -- the tree that the search saw is a model of the assumptions and not of the goal
    pub failed_model : Lawful (frame (model_of h.tree)) ×
        ForcesEach (model_of h.tree) (first_world h.tree) (map (form (given_book x)) x.assumed) ×
        ¬ forces (frame (model_of h.tree)) (form (given_book x) x.goal) (first_world h.tree)
    unfolding searched
    failed_model =
        countermodel (search_limits x) (names_in x.text) (suc x.step_limit) (given_book x) x.assumed x.goal p.good p.ins
        p.goal u n h.tree h.is

    -- no term of any size derives the goal
    pub failed_none : (s : Term) → Derives (assumptions (given_book x) 0 x.assumed) s (form (given_book x) x.goal) → ⊥
    unfolding searched
    failed_none =
        unprovable (search_limits x) (names_in x.text) (suc x.step_limit) (given_book x) x.assumed x.goal p.good p.ins
        p.goal u n h.tree h.is

unruled_names : (P : ℕ → Type 0) (ns : List Node) → AllNamesHave P ns → AllNamesHave P (unruled ns)
unruled_names P [] h = tt
unruled_names P (n ∷ ns) h = (h.0, unruled_names P ns h.1)

-- names: two of a proved term or of the assumptions have equal bytes only if their numbers are equal
module _ (x : Claim) {r n u f t : ℕ} (h : Proves x r n u f t) where
  pub named_within : AllNamesHave (GoodName (skipped (names_in x.text)) (length x.assumed) u) (nodes_in (called x).terms t)
  named_within =
      subst (AllNamesHave (GoodName (skipped (names_in x.text)) (length x.assumed) u)) (sym (nodes_decode x h))
      (unruled_names (GoodName (skipped (names_in x.text)) (length x.assumed) u) h.state.nodes (names_returned x h))

  pub named_apart : (y z : ℕ) → GoodName (skipped (names_in x.text)) (length x.assumed) u y →
      GoodName (skipped (names_in x.text)) (length x.assumed) u z → bytes_of (names_in x.text) y ≡ bytes_of (names_in x.text) z →
      y ≡ z
  named_apart y z a b e =
      let p : Passes x = passes x h.passed in
      names_apart (names_in x.text) u (omega (arith, p.named, p.few)) p.distinct y z
      (subst (λ (k : ℕ). GoodName (skipped (names_in x.text)) k u y) (sym p.named) a)
      (subst (λ (k : ℕ). GoodName (skipped (names_in x.text)) k u z) (sym p.named) b) e

-- every number that comes back is within what was lent
pub numbers_fit : (x : Claim) → FitIn x (called x).outcome
numbers_fit x = go (told x)
  where
    go : {o : Outcome} → Told x o → FitIn x o
    go (t_proved {r} {n} {u} {f} {t} h) =
        let w : ProvedWithin x n u f t = proved_within x h in
        let given : x.count ≤ f =
        omega (arith, (passes x h.passed).book, ext_length (sound_search x h).1, h.formulas) in
        (w.steps, w.indices, given, w.formulas, proved_root x h, w.terms)
    go (t_unprovable h) = let w = failed_within x h in (w.0, w.1, h.formulas, h.terms)
    go (t_shortage h) = short_within x h
    go (t_refused h) = tt

-- of the numbers that come back: steps, indices and fills are within what was lent
pub numbers_lent : (x : Claim) → Lent x (numbers (called x).outcome)
unfolding numbers
numbers_lent x = go (told x)
  where
    go : {o : Outcome} → Told x o → Lent x (numbers o)
    go (t_proved {r} {n} {u} {f} {t} h) =
        let w : ProvedWithin x n u f t = proved_within x h in
        record { steps = w.steps; indices = w.indices; formulas = w.formulas; terms = w.terms }
    go (t_unprovable {n} {u} {f} {t} h) =
        let w = failed_within x h in
        record {
          steps = w.0;
          indices = w.1;
          formulas = omega (arith, h.formulas, (passes x h.passed).given);
          terms = omega (arith, h.terms);
        }
    go (t_shortage h) = record { steps = short_within x h; indices = zero-le; formulas = zero-le; terms = zero-le }
    go (t_refused h) = record { steps = zero-le; indices = zero-le; formulas = zero-le; terms = zero-le }

-- 6 is a shortage of steps and nothing else, and comes with the limit
pub number_six : (x : Claim) → (numbers (called x).outcome).number ≡ 6 → (numbers (called x).outcome).steps ≡ x.step_limit
unfolding numbers fault_number lack_number
number_six x = go (told x)
  where
    no_fault : (f : Fault) → fault_number f ≢ 6
    no_fault Sizes e = omega arith
    no_fault BadFormula e = omega arith
    no_fault BadAssumption e = omega arith
    no_fault BadNames e = omega arith
    no_fault BadGoal e = omega arith
    no_fault NoRoom e = omega arith
    no_fault BadTerm e = omega arith
    no_fault BadFile e = omega arith

    lack : (l : Lack) {n : ℕ} → lack_number l ≡ 6 → RunsShort x l n → n ≡ x.step_limit
    lack Steps e h = steps_at_limit x h
    lack Names e h = absurd (let z : ⊥ = omega arith in z)
    lack Formulas e h = absurd (let z : ⊥ = omega arith in z)
    lack Terms e h = absurd (let z : ⊥ = omega arith in z)
    lack Contexts e h = absurd (let z : ⊥ = omega arith in z)
    lack Levels e h = absurd (let z : ⊥ = omega arith in z)

    go : {o : Outcome} → Told x o → (numbers o).number ≡ 6 → (numbers o).steps ≡ x.step_limit
    go (t_proved h) e = absurd (let z : ⊥ = omega arith in z)
    go (t_unprovable h) e = absurd (let z : ⊥ = omega arith in z)
    go (t_shortage {l} h) e = lack l e h
    go (t_refused {f} h) e = absurd (no_fault f e)

-- the given words stand where they stood, whatever the outcome
pub given_stands : (x : Claim) → take x.count (called x).words ≡ given_words x
unfolding unchanged given_words
given_stands x = go (told x)
  where
    go : {o : Outcome} → Told x o → take x.count (called x).words ≡ given_words x
    go (t_proved h) = proved_given x h
    go (t_unprovable h) = back_front x h.passed _ h.after
    go (t_shortage h) = back_front x h.passed _ h.after
    go (t_refused h) = ap (λ (a : After). take x.count a.words) h.after

-- every record is zero after a search
pub records_after_lem : (x : Claim) {R : Type 0} (z : R) (rs : List R) → refusal x ≡ none →
    records_after z (called x) rs ≡ replicate (length rs) z
unfolding records_after
records_after_lem x {R} z rs e = ap (λ (b : Bool). elim b as (λ y. List R) [ true ↦ replicate (length rs) z | false ↦ rs ]) (go (told x))
  where
    go : {o : Outcome} → Told x o → (called x).cleared ≡ true
    go (t_proved h) = (proved_clear x h).records
    go (t_unprovable h) = (back_clear x h.passed _ h.after).records
    go (t_shortage h) = (back_clear x h.passed _ h.after).records
    go (t_refused h) = absurd (not_both (refusal x) e h.is)
