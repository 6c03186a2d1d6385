-- A claim that is lent more has the same Proved or Unprovable outcome. Assumes nothing.
use Prim.Native.Nat.{ℕ, ◌*◌, ◌≤◌}
use mathlib.Core.Path.{◌≡◌, refl, sym, ap, ◌∙◌, subst}
use mathlib.Core.Option.{Option, none}
use mathlib.Core.Logic.{◌≢◌}
use mathlib.Core.List.{List, map}
use native.Mathlib.Nat.{le_refl}
use native.Mathlib.Omega.{arith}
use lib.ListN.{length, take}
use Rattle.theory.specs.Form.{shape, bad_word}
use Rattle.theory.specs.NameText.{names_in, bad_name}
use Rattle.theory.specs.Layout.{node_width}
use Rattle.theory.specs.Meter.{Roomier, State, Answer, found, failed}
use Rattle.theory.specs.World.{Tree}
use Rattle.theory.specs.Log.{IsShort, is_short}
use Rattle.theory.specs.Written.{Answers}
use Rattle.theory.specs.Refusal.{Sizes, BadFormula, BadAssumption, BadNames, BadGoal, Refused, fault_at, or_else, highest_level}
use Rattle.theory.specs.Refusal.{bad_assumption, bad_goal}
use Rattle.theory.specs.Call.{Claim, right_sizes, given_words, refusal, or_zero, search_limits, given_book, searched, Outcome, proved}
use Rattle.theory.specs.Call.{unprovable, After, given_back, answered, called}
use Rattle.theory.specs.Owed.{Grown, Decided, is_proved, is_unprovable}
use Rattle.theory.proofs.Written.{roomier_answer}
use Rattle.theory.proofs.Passing.{or_none, none_or, none_fault, none_unless, passes}
use Rattle.theory.proofs.Called.{passed_call, search_answers, only_answer, Proves, Fails, proves, fails}
use Rattle.theory.proofs.Slices.{front_words, front_terms}

-- the tests 2 to 5, which do not look at the room
later : List ℕ → ℕ → List ℕ → List ℕ → ℕ → Option Refused
later ws count hs text goal =
    or_else (fault_at BadFormula (bad_word ws)) (or_else (fault_at BadAssumption (bad_assumption count hs))
    (or_else (fault_at BadNames (bad_name (length hs) text)) (fault_at BadGoal (bad_goal count goal))))

-- what is found or failed is no shortage
found_long : {a : Answer} → IsShort a → (t : ℕ) (s : State) → a ≢ found t s
found_long is_short t s p = absurd (let z : ◌≡◌ {A = ℕ} 0 1 = cc in omega arith)

failed_long : {a : Answer} → IsShort a → (u n : ℕ) (m : Tree) → a ≢ failed u n m
failed_long is_short u n m p = absurd (let z : ◌≡◌ {A = ℕ} 0 1 = cc in omega arith)

module _ {x y : Claim} (g : Grown x y) where
  -- a claim that passes passes with more room
  grown_passes : refusal x ≡ none → refusal y ≡ none
  unfolding refusal later
  grown_passes e =
      none_or _ _ (none_fault Sizes _ (none_unless (right_sizes y) g.sizes))
      (subst (λ (o : Option Refused). o ≡ none) same (or_none _ _ e).1)
    where
      same : later (given_words x) x.count x.assumed x.text x.goal ≡
          later (given_words y) y.count y.assumed y.text y.goal
      same = cc (g.words, g.count, g.assumed, g.text, g.goal)

  grown_limits : refusal x ≡ none → Roomier (search_limits x) (search_limits y)
  unfolding search_limits
  grown_limits e = record {
    steps = g.steps;
    names = le_refl 4096;
    formulas = g.formulas;
    terms = omega (arith, g.terms);
    contexts = le_refl 256;
    levels = subst (λ (n : ℕ). or_zero (highest_level x.records) ≤ or_zero (highest_level n))
        ((passes x e).records ∙ sym (passes y (grown_passes e)).records) (le_refl (or_zero (highest_level x.records)));
  }

  -- the search of the roomier claim gives the same answer
  grown_search : refusal x ≡ none → {a : Answer} → searched x ≡ a → ¬ IsShort a → searched y ≡ a
  unfolding given_book
  grown_search e {a} p n = only_answer y
      (subst (λ (h : ℕ). Answers (search_limits y) (names_in y.text) (given_book y) y.assumed h a) g.goal
      (subst (λ (hs : List ℕ). Answers (search_limits y) (names_in y.text) (given_book y) hs x.goal a) g.assumed
      (subst (λ (ws : List ℕ). Answers (search_limits y) (names_in y.text) (map shape ws) x.assumed x.goal a) g.words
      (subst (λ (ts : List ℕ). Answers (search_limits y) (names_in ts) (given_book x) x.assumed x.goal a) g.text
      (roomier_answer (grown_limits e) (search_answers x p) n)))))

  grown_proves : {r n u f t : ℕ} → Proves x r n u f t → Proves y r n u f t
  grown_proves {r} h =
      let e : refusal y ≡ none = grown_passes h.passed in
      let p : searched y ≡ found r h.state = grown_search h.passed h.is (λ i. found_long i r h.state refl) in
      record {
        passed = e;
        state = h.state;
        is = p;
        after = passed_call y e ∙ ap (answered y) p;
        steps = h.steps;
        used = h.used;
        formulas = h.formulas;
        terms = h.terms;
      }

  -- Proved stays Proved, with the same numbers, words and nodes
  proved_grown : {r n u f t : ℕ} → Proves x r n u f t → (called y).outcome ≡ proved r n u f t
  unfolding answered
  proved_grown {r} h =
      let k = grown_proves h in
      ap (λ (a : After). a.outcome) k.after ∙ cc (k.steps, k.used, k.formulas, k.terms)

  pub fronts_grown : {r n u f t : ℕ} → (called x).outcome ≡ proved r n u f t →
      (take f (called y).words ≡ take f (called x).words) ×
      (take (t * node_width) (called y).terms ≡ take (t * node_width) (called x).terms)
  unfolding grown_proves
  fronts_grown e =
      let h = proves x e in
      (front_words y (grown_proves h) ∙ sym (front_words x h), front_terms y (grown_proves h) ∙ sym (front_terms x h))

  -- Unprovable stays Unprovable
  failed_grown : {n u f t : ℕ} → Fails x n u f t → (called y).outcome ≡ unprovable n u f t
  unfolding answered given_back
  failed_grown {n} {u} h =
      let p : searched y ≡ failed u n h.tree = grown_search h.passed h.is (λ i. failed_long i u n h.tree refl) in
      ap (λ (a : After). a.outcome) (passed_call y (grown_passes h.passed) ∙ ap (answered y) p)
      ∙ cc (h.formulas, h.terms, g.count)

  -- a Proved or Unprovable outcome stays as it is
  pub grown_call : Decided (called x).outcome → (called y).outcome ≡ (called x).outcome
  grown_call d = go d refl
    where
      go : {o : Outcome} → Decided o → (called x).outcome ≡ o → (called y).outcome ≡ (called x).outcome
      go is_proved e = proved_grown (proves x e) ∙ sym e
      go is_unprovable e = failed_grown (fails x e) ∙ sym e
