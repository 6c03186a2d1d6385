-- The whole call: a refused claim changes nothing, and what `closing` leaves of any other is what theory's call leaves. Assumes nothing.
use Prim.Native.Nat.{ℕ, ◌-◌, ◌≤◌}
use mathlib.Core.Path.{◌≡◌, refl, sym, ap, ap₂, ◌∙◌, subst}
use mathlib.Core.Bool.{Bool, true, false}
use mathlib.Core.Option.{Option, none, some, some-injective}
use mathlib.Core.List.{List, map}
use native.Mathlib.Omega.{arith}
use lib.ListN.{length, take, replicate}
use Rattle.theory.specs.Form.{word, bad_word}
use Rattle.theory.specs.NameText.{padded, bad_name}
use Rattle.std.specs.Prelude.{Ok, Err}
use Rattle.theory.specs.Refusal as R
use Rattle.theory.specs.Refusal.{lack_number, fault_at, or_else, unless, bad_assumption, bad_goal}
use Rattle.theory.specs.Meter as M
use Rattle.theory.specs.Call as C
use Rattle.theory.specs.Call.{Claim, After, right_sizes, given_words, refusal, records_after, given_back, unchanged, answered, numbers, called}
use Rattle.theory.specs.Call.{proved, unprovable, shortage, refused}
use Rattle.theory.proofs.Passing.{passes}
use Rattle.theory.proofs.Called.{passed_call, refused_call, is_refused}
use Rattle.refusal.specs.declared.Refusal.{Refusal}
use Rattle.refusal.specs.declared.Refusal.TheVariants as OfInput
use Rattle.refusal.specs.Table.{refusal_of, refused_by}
use Rattle.meter.specs.declared.Limit.{Limit}
use Rattle.meter.specs.declared.Limit.TheVariants.{Steps, Names, Formulas, Terms, Contexts, Levels}
use Rattle.meter.specs.Moves.{Answer, limit_of, number_of}
use Rattle.context.specs.Area.{Rec, zeroed}
use Rattle.search_laws.specs.Reading.{Lent}
use Rattle.search_laws.specs.Keeping as Keeping
use Rattle.search_laws.specs.Keeping.{Same, Within, state_of}
use Rattle.search_laws.specs.Meaning.{Says, says_found, says_failed, says_short}
use Rattle.search_laws.proofs.Same.{take_same}
use Rattle.search_laws.proofs.Charge.{words_many}
use Rattle.call.specs.declared.Verdict.TheVariants.{Proved, Unprovable}
use Rattle.call.specs.declared.NoAnswer.TheVariants.{Short, Refused}
use Rattle.call.specs.Outcomes.{Outcome, lack_of, outcome_of, numbers_of, keeps, words_kept, numbers_kept, outcome_for}
use Rattle.call.specs.Start.{first_state, limits_in, Ends}
use Rattle.call.specs.Whole.{Called}
use Rattle.call.proofs.Given.{words_back}

-- a limit by theory's name: its number is the table's, and it has one name in the code
lack_numbers : (l : Limit) → number_of l ≡ lack_number (lack_of l)
unfolding lack_of lack_number
lack_numbers Steps = refl
lack_numbers Names = refl
lack_numbers Formulas = refl
lack_numbers Terms = refl
lack_numbers Contexts = refl
lack_numbers Levels = refl

pub lack_back : (l : Limit) → limit_of (lack_of l) ≡ l
unfolding lack_of limit_of
lack_back Steps = refl
lack_back Names = refl
lack_back Formulas = refl
lack_back Terms = refl
lack_back Contexts = refl
lack_back Levels = refl

pub lack_limit : (l : M.Lack) → lack_of (limit_of l) ≡ l
unfolding lack_of limit_of
lack_limit M.Steps = refl
lack_limit M.Names = refl
lack_limit M.Formulas = refl
lack_limit M.Terms = refl
lack_limit M.Contexts = refl
lack_limit M.Levels = refl

-- the outcome's numbers are those of theory's
pub numbers_of_lem : (o : Outcome) → numbers_of o ≡ numbers (outcome_of o)
unfolding numbers_of outcome_of numbers
numbers_of_lem (Ok (Proved r s)) = refl
numbers_of_lem (Ok (Unprovable s)) = refl
numbers_of_lem (Err (Short l n)) = rw (lack_numbers l)
numbers_of_lem (Err (Refused r)) = refl

-- so an outcome that is theory's has theory's numbers
numbers_as : (o : Outcome) {p : C.Outcome} → outcome_of o ≡ p → numbers_of o ≡ numbers p
numbers_as o e = numbers_of_lem o ∙ ap numbers e

-- no other outcome is the same one of theory's: what was broken, and the outcome, by theory's names for them
unfoldable pub broken : R.Fault → ℕ → Refusal
broken R.BadFormula i = OfInput.BadFormula i
broken R.BadAssumption i = OfInput.BadAssumption i
broken R.BadNames i = OfInput.BadNames i
broken R.BadGoal i = OfInput.BadGoal i
broken R.BadTerm i = OfInput.BadTerm i
broken _ i = OfInput.Sizes

pub broken_back : (r : Refusal) → broken (refusal_of r).fault (refusal_of r).place ≡ r
unfolding broken
broken_back OfInput.Sizes = refl
broken_back (OfInput.BadFormula i) = refl
broken_back (OfInput.BadAssumption i) = refl
broken_back (OfInput.BadNames i) = refl
broken_back (OfInput.BadGoal i) = refl
broken_back (OfInput.BadTerm i) = refl

unfoldable pub back : C.Outcome → Outcome
back (proved r n u f t) = Ok (Proved r (record { steps = n; indices = u; formulas = f; terms = t }))
back (unprovable n u f t) = Ok (Unprovable (record { steps = n; indices = u; formulas = f; terms = t }))
back (shortage l n) = Err (Short (limit_of l) n)
back (refused f i) = Err (Refused (broken f i))

back_is : (o : Outcome) → back (outcome_of o) ≡ o
unfolding back outcome_of
back_is (Ok (Proved r s)) = refl
back_is (Ok (Unprovable s)) = refl
back_is (Err (Short l n)) = rw (lack_back l)
back_is (Err (Refused r)) = rw (broken_back r)

-- a claim is refused only for what the code has a name for
abbrev Named : R.Refused → Type 0
Named r = refusal_of (broken r.fault r.place) ≡ r

named_first : {later : Option R.Refused} {r : R.Refused} (f : R.Fault) → ((i : ℕ) → Named (record { fault = f; place = i })) →
    (later ≡ some r → Named r) → (o : Option ℕ) → or_else (fault_at f o) later ≡ some r → Named r
unfolding or_else fault_at
named_first f here h none e = h e
named_first {r = r} f here h (some i) e = subst Named (some-injective _ r e) (here i)

named : (x : Claim) {r : R.Refused} → refusal x ≡ some r → Named r
unfolding refusal or_else fault_at unless broken
named x {r} = sizes (right_sizes x)
  where
    goal : (o : Option ℕ) → fault_at R.BadGoal o ≡ some r → Named r
    goal none e = cc
    goal (some i) e = subst Named (some-injective _ r e) refl

    sizes : (b : Bool) → or_else (fault_at R.Sizes (unless b))
        (or_else (fault_at R.BadFormula (bad_word (given_words x)))
        (or_else (fault_at R.BadAssumption (bad_assumption x.count x.assumed))
        (or_else (fault_at R.BadNames (bad_name (length x.assumed) x.text)) (fault_at R.BadGoal (bad_goal x.count x.goal))))) ≡ some r → Named r
    sizes true e =
        named_first R.BadFormula (λ i. refl)
        (named_first R.BadAssumption (λ i. refl)
        (named_first R.BadNames (λ i. refl) (goal (bad_goal x.count x.goal)) (bad_name (length x.assumed) x.text))
        (bad_assumption x.count x.assumed))
        (bad_word (given_words x)) e
    sizes false e = subst Named (some-injective _ r e) refl

-- so each outcome that theory's call comes to is one of the code's, with theory's numbers
pub refused_back : (x : Claim) {f : R.Fault} {i : ℕ} → (called x).outcome ≡ refused f i →
    refusal_of (broken f i) ≡ record { fault = f; place = i }
refused_back x e = named x (is_refused x e).is

pub outcome_back : (x : Claim) → outcome_of (back (called x).outcome) ≡ (called x).outcome
unfolding outcome_of back
outcome_back x = go (called x).outcome refl
  where
    go : (o : C.Outcome) → (called x).outcome ≡ o → outcome_of (back o) ≡ o
    go (proved r n u f t) e = refl
    go (unprovable n u f t) e = refl
    go (shortage l n) e = ap (λ (k : M.Lack). shortage k n) (lack_limit l)
    go (refused f i) e = ap (λ (r : R.Refused). refused r.fault r.place) (refused_back x e)

pub numbers_back : (x : Claim) → numbers_of (back (called x).outcome) ≡ numbers (called x).outcome
numbers_back x = numbers_as (back (called x).outcome) (outcome_back x)

pub outcome_once : (o o' : Outcome) → outcome_of o ≡ outcome_of o' → o ≡ o'
outcome_once o o' e = sym (back_is o) ∙ ap back e ∙ back_is o'

-- the tests of the code say what theory's refusal is: passed, there is none
pub tested_passed : (x : Claim) {z : Unit {0}} → refused_by (Ok z) ≡ refusal x → refusal x ≡ none
tested_passed x e = sym e

-- a refused claim: what it breaks and the place, and every slice as it was
pub called_refused : (x : Claim) (w : List Rec) {r : Refusal} → refused_by (Err r) ≡ refusal x →
    Called x w (Err (Refused r)) x.words x.terms w
unfolding outcome_of unchanged records_after
called_refused x w {r} e =
    let a = sym (refused_call x (sym e)) in
    let is = ap (λ (v : After). v.outcome) a in
    record {
      outcome = is;
      numbers = numbers_as (Err (Refused r)) is;
      words = ap (λ (v : After). v.words) a;
      terms = ap (λ (v : After). v.terms) a;
      records = ap (λ (v : After). records_after zeroed v w) a;
    }

-- nothing kept, all zero
none_kept : (n : ℕ) (t : List ℕ) → length t ≡ n → padded (length t) (take 0 t) ≡ replicate n 0
unfolding padded
none_kept n t e = ap (λ (i : ℕ). replicate i 0) (let p : length t - 0 ≡ n = omega arith in p)

-- what `closing` leaves of the answer r and the lists y, held against theory's answer a
record Closed (x : Claim) (w : List Rec) (r : Answer) (y : Lent) (a : M.Answer) : Type 0 where
  pub outcome : outcome_of (outcome_for x.count r) ≡ (answered x a).outcome
  pub words : padded (length y.words) (take (words_kept x.count r) y.words) ≡ (answered x a).words
  pub terms : padded (length y.numbers) (take (numbers_kept r) y.numbers) ≡ (answered x a).terms
  pub records : replicate (length y.records) zeroed ≡ records_after zeroed (answered x a) w

module _ (x : Claim) (w : List Rec) (y : Lent) (given : Same 0 x.count x.words y.words)
    (long : length y.numbers ≡ length x.terms) (records : length y.records ≡ length w) where
  -- the given words, then zeros
  given_back_lem : padded (length y.words) (take x.count y.words) ≡ padded (length x.words) (given_words x)
  unfolding given_words
  given_back_lem = ap₂ padded given.long (take_same given)

  closed : {r : Answer} {a : M.Answer} → Says y r a → Within (limits_in x) (state_of r) → Keeping.After y (first_state x.count 0) r →
      Closed x w r y a
  unfolding outcome_for outcome_of words_kept numbers_kept answered given_back records_after
  closed (says_found {f} {S} sh) wi af = record {
    outcome = ap₂ (λ (n u : ℕ). proved f.node n u f.state.formulas f.state.terms) (sym sh.steps) (sym sh.used)
        ∙ ap₂ (λ (k t : ℕ). proved f.node S.steps S.used k t) (sym (words_many sh)) (sym sh.many);
    words = ap₂ padded given.long
        (sym (words_back y.words f.state.formulas (omega (arith, wi.in_formulas, given.long)) af.laid)
        ∙ ap (map word) (sym sh.words));
    terms = ap₂ padded long (sym sh.nodes);
    records = ap (λ (n : ℕ). replicate n zeroed) records;
  }
  closed (says_failed {s} {u} {n} K eu en) wi af = record {
    outcome = ap₂ (λ (n u : ℕ). unprovable n u x.count 0) (sym en) (sym eu);
    words = given_back_lem;
    terms = none_kept (length x.terms) y.numbers long;
    records = ap (λ (n : ℕ). replicate n zeroed) records;
  }
  closed (says_short {k} {n} {s} l ek en) wi af = record {
    outcome = ap₂ shortage (ap lack_of ek ∙ lack_limit l) (sym en);
    words = given_back_lem;
    terms = none_kept (length x.terms) y.numbers long;
    records = ap (λ (n : ℕ). replicate n zeroed) records;
  }

module _ (x : Claim) (w : List Rec) {r : Answer} {y : Lent} (ends : Ends x w r y) where
  -- a found term's nodes are no more than a slice has room for
  pub ends_keeps : refusal x ≡ none → keeps r
  ends_keeps e = go r ends.within.in_terms
    where
      go : (r : Answer) → (state_of r).terms ≤ (limits_in x).terms → keeps r
      go (Ok found) k = omega (arith, (passes x e).few_terms)
      go (Err missed) k = tt

  -- a claim that is not refused: what `closing` leaves is what theory's call leaves
  pub called_closed : refusal x ≡ none →
      Called x w (outcome_for x.count r) (padded (length y.words) (take (words_kept x.count r) y.words))
      (padded (length y.numbers) (take (numbers_kept r) y.numbers)) (replicate (length y.records) zeroed)
  called_closed e =
      let c = closed x w y ends.given ends.numbers ends.records ends.says ends.within ends.after in
      let a = sym (passed_call x e ∙ ap (answered x) ends.is) in
      let is = c.outcome ∙ ap (λ (v : After). v.outcome) a in
      record {
        outcome = is;
        numbers = numbers_as (outcome_for x.count r) is;
        words = c.words ∙ ap (λ (v : After). v.words) a;
        terms = c.terms ∙ ap (λ (v : After). v.terms) a;
        records = c.records ∙ ap (λ (v : After). records_after zeroed v w) a;
      }

-- what equals an outcome and slices that satisfy the contract satisfies it
pub called_same : {x : Claim} {w : List Rec} {o o' : Outcome} {f t f' t' : List ℕ} {v v' : List Rec} → Called x w o' f' t' v' → o ≡ o' →
    f ≡ f' → t ≡ t' → v ≡ v' → Called x w o f t v
called_same c a b d e = record {
  outcome = ap outcome_of a ∙ c.outcome;
  numbers = ap numbers_of a ∙ c.numbers;
  words = b ∙ c.words;
  terms = d ∙ c.terms;
  records = e ∙ c.records;
}

-- no second outcome satisfies the contract
pub called_once : {x : Claim} {w : List Rec} {o o' : Outcome} {f t f' t' : List ℕ} {v v' : List Rec} → Called x w o f t v →
    Called x w o' f' t' v' → (o ≡ o') × (f ≡ f') × (t ≡ t') × (v ≡ v')
called_once c d = (
  outcome_once _ _ (c.outcome ∙ sym d.outcome),
  c.words ∙ sym d.words,
  c.terms ∙ sym d.terms,
  c.records ∙ sym d.records,
)
