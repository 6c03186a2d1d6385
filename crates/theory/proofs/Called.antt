-- The whole call told by its search: never unfinished, a refusal or an answer, and what an outcome says of the search. Assumes nothing.
use Prim.Native.Nat.{ℕ, suc}
use mathlib.Core.Path.{◌≡◌, refl, sym, ap, ◌∙◌, subst}
use mathlib.Core.Option.{Option, none, some}
use mathlib.Core.Logic.{◌≢◌}
use native.Mathlib.Nat.{le_refl}
use lib.ListN.{length}
use Rattle.theory.specs.NameText.{names_in}
use Rattle.theory.specs.World.{Tree}
use Rattle.theory.specs.Meter.{Lack, State, Answer, found, failed, short, unfinished}
use Rattle.theory.specs.Log.{Logged, read_off}
use Rattle.theory.specs.Written.{Answers, Logs}
use Rattle.theory.specs.Refusal.{Fault, Refused}
use Rattle.theory.specs.Call.{Claim, refusal, search_limits, given_book, searched, Outcome, proved, unprovable, shortage, refused}
use Rattle.theory.specs.Call.{After, given_back, unchanged, answered, called}
use Rattle.theory.proofs.Steps.{steps_suffice}
use Rattle.theory.proofs.Written.{one_answer, has_log, exact_answer}
use Rattle.theory.specs.Owed.{Passes}
use Rattle.theory.proofs.Passing.{passes}

module _ (x : Claim) where
  -- the step limit bounds the depth
  pub never_unfinished : searched x ≢ unfinished
  unfolding searched search_limits
  never_unfinished =
      steps_suffice (search_limits x) (names_in x.text) (suc x.step_limit) x.step_limit refl (le_refl (suc x.step_limit))
      (given_book x) x.assumed x.goal

  -- a call is a refusal that changes nothing, or an answer
  pub passed_call : refusal x ≡ none → called x ≡ answered x (searched x)
  unfolding called
  passed_call e = ap (λ (o : Option Refused). elim o as (λ y. After) [ none ↦ answered x (searched x) | some r ↦ unchanged x r ]) e

  pub refused_call : {r : Refused} → refusal x ≡ some r → called x ≡ unchanged x r
  unfolding called
  refused_call e = ap (λ (o : Option Refused). elim o as (λ y. After) [ none ↦ answered x (searched x) | some r ↦ unchanged x r ]) e

  -- the search's answer under the call's limits
  pub search_answers : {a : Answer} → searched x ≡ a → Answers (search_limits x) (names_in x.text) (given_book x) x.assumed x.goal a
  unfolding searched
  search_answers {a} e = record { depth = suc x.step_limit; is = e; finished = λ p. never_unfinished (e ∙ p) }

  pub only_answer : {a : Answer} → Answers (search_limits x) (names_in x.text) (given_book x) x.assumed x.goal a → searched x ≡ a
  only_answer h = one_answer (search_answers refl) h

  -- the answer is read off the log of the search without limits
  pub logged_call : refusal x ≡ none → (l : Logged) × Logs (names_in x.text) (given_book x) x.assumed x.goal l
  logged_call e =
      let p : Passes x = passes x e in has_log (names_in x.text) (given_book x) x.assumed x.goal p.good p.ins p.goal

  pub read_search : (l : Logged) → Logs (names_in x.text) (given_book x) x.assumed x.goal l →
      searched x ≡ read_off (search_limits x) l
  read_search l h = only_answer (exact_answer (search_limits x) h)

  pub read_call : refusal x ≡ none → (l : Logged) → Logs (names_in x.text) (given_book x) x.assumed x.goal l →
      called x ≡ answered x (read_off (search_limits x) l)
  read_call e l h = passed_call e ∙ ap (answered x) (read_search l h)

-- a proved claim: its search found a term
pub record Proves (x : Claim) (r n u f t : ℕ) : Type 0 where
  pub passed : refusal x ≡ none
  pub state : State
  pub is : searched x ≡ found r state
  pub after : called x ≡ answered x (found r state)
  pub steps : state.steps ≡ n
  pub used : state.used ≡ u
  pub formulas : length state.words ≡ f
  pub terms : length state.nodes ≡ t

-- an unprovable claim: its search failed
pub record Fails (x : Claim) (n u f t : ℕ) : Type 0 where
  pub passed : refusal x ≡ none
  pub tree : Tree
  pub is : searched x ≡ failed u n tree
  pub after : called x ≡ given_back x (unprovable n u f t)
  pub formulas : f ≡ x.count
  pub terms : t ≡ 0

-- a shortage: its search ran short
pub record RunsShort (x : Claim) (l : Lack) (n : ℕ) : Type 0 where
  pub passed : refusal x ≡ none
  pub is : searched x ≡ short l n
  pub after : called x ≡ given_back x (shortage l n)

-- a refused claim
pub record IsRefused (x : Claim) (f : Fault) (i : ℕ) : Type 0 where
  pub is : refusal x ≡ some (record { fault = f; place = i })
  pub after : called x ≡ unchanged x (record { fault = f; place = i })

-- every call is one of the four
pub data Told (x : Claim) : Outcome → Type 0 where
  t_proved : {r n u f t : ℕ} → Proves x r n u f t → Told x (proved r n u f t)
  t_unprovable : {n u f t : ℕ} → Fails x n u f t → Told x (unprovable n u f t)
  t_shortage : {l : Lack} {n : ℕ} → RunsShort x l n → Told x (shortage l n)
  t_refused : {f : Fault} {i : ℕ} → IsRefused x f i → Told x (refused f i)

pub told : (x : Claim) → Told x (called x).outcome
unfolding answered given_back unchanged
told x = start (refusal x) refl
  where
    answer : refusal x ≡ none → (a : Answer) → searched x ≡ a → Told x (answered x a).outcome
    answer e (found t s) p = t_proved (record {
      passed = e;
      state = s;
      is = p;
      after = passed_call x e ∙ ap (answered x) p;
      steps = refl;
      used = refl;
      formulas = refl;
      terms = refl;
    })
    answer e (failed u n m) p =
        t_unprovable (record { passed = e; tree = m; is = p; after = passed_call x e ∙ ap (answered x) p; formulas = refl; terms = refl })
    answer e (short l n) p = t_shortage (record { passed = e; is = p; after = passed_call x e ∙ ap (answered x) p })
    answer e unfinished p = absurd (never_unfinished x p)

    start : (o : Option Refused) → refusal x ≡ o → Told x (called x).outcome
    start none e = subst (λ (a : After). Told x a.outcome) (sym (passed_call x e)) (answer e (searched x) refl)
    start (some r) e = subst (λ (a : After). Told x a.outcome) (sym (refused_call x e))
        (t_refused (record { is = e; after = refused_call x e }))

module _ (x : Claim) where
  pub proves : {r n u f t : ℕ} → (called x).outcome ≡ proved r n u f t → Proves x r n u f t
  proves e = go (subst (Told x) e (told x))
    where
      go : {r n u f t : ℕ} → Told x (proved r n u f t) → Proves x r n u f t
      go (t_proved h) = h

  pub fails : {n u f t : ℕ} → (called x).outcome ≡ unprovable n u f t → Fails x n u f t
  fails e = go (subst (Told x) e (told x))
    where
      go : {n u f t : ℕ} → Told x (unprovable n u f t) → Fails x n u f t
      go (t_unprovable h) = h

  pub runs_short : {l : Lack} {n : ℕ} → (called x).outcome ≡ shortage l n → RunsShort x l n
  runs_short e = go (subst (Told x) e (told x))
    where
      go : {l : Lack} {n : ℕ} → Told x (shortage l n) → RunsShort x l n
      go (t_shortage h) = h

  pub is_refused : {f : Fault} {i : ℕ} → (called x).outcome ≡ refused f i → IsRefused x f i
  is_refused e = go (subst (Told x) e (told x))
    where
      go : {f : Fault} {i : ℕ} → Told x (refused f i) → IsRefused x f i
      go (t_refused h) = h
