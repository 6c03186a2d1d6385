-- What each refusal of a call says: the test that refused is the first that does. Assumes nothing.
use Prim.Native.Nat.{ℕ}
use mathlib.Core.Path.{◌≡◌, refl, ap, subst}
use mathlib.Core.Bool.{Bool, true, false}
use mathlib.Core.Option.{Option, none, some}
use borrow.Author.Tests.{ltb-false}
use lib.Dec.{T, ltb}
use lib.ListN.{length}
use Rattle.theory.specs.Form.{bad_word}
use Rattle.theory.specs.NameText.{bad_name}
use Rattle.theory.specs.Refusal.{Fault, Sizes, BadFormula, BadAssumption, BadNames, BadGoal, Refused, fault_at, or_else, unless}
use Rattle.theory.specs.Refusal.{bad_assumption, bad_goal}
use Rattle.theory.specs.Call.{Claim, right_sizes, given_words, refusal}
use Rattle.theory.specs.Owed.{Faulty}
use Rattle.theory.proofs.Tests.{none_some, true_of}
use Rattle.theory.proofs.Passing.{fault_none, unless_none}

-- the first of two tests refuses, or it passes and the second does
data Either (a b : Option Refused) (r : Refused) : Type 0 where
  first : a ≡ some r → Either a b r
  second : a ≡ none → b ≡ some r → Either a b r

either : (a b : Option Refused) (r : Refused) → or_else a b ≡ some r → Either a b r
unfolding or_else
either none b r e = second refl e
either (some s) b r e = first e

-- a fault at a place is that fault there
fault_at_lem : (g : Fault) (o : Option ℕ) (r : Refused) → fault_at g o ≡ some r → (g ≡ r.fault) × (o ≡ some r.place)
unfolding fault_at
fault_at_lem g none r e = absurd (none_some e)
fault_at_lem g (some j) r e =
    let q : ◌≡◌ {A = Refused} (record { fault = g; place = j }) r = cc in
    (ap (λ (s : Refused). s.fault) q, ap (λ (s : Refused). some s.place) q)

-- a test that fails has place 0
unless_at : (b : Bool) (i : ℕ) → unless b ≡ some i → (b ≡ false) × (i ≡ 0)
unfolding unless
unless_at true i e = absurd (none_some e)
unless_at false i e = (refl, cc)

-- of right sizes, the lowest faulty word is refused, whatever is tested after
pub word_refused : (b : Bool) {o : Option ℕ} {i : ℕ} (rest : Option Refused) → T b → o ≡ some i →
    or_else (fault_at Sizes (unless b)) (or_else (fault_at BadFormula o) rest) ≡ some (record { fault = BadFormula; place = i })
unfolding or_else fault_at unless
word_refused b rest t e = rw (true_of b t, e)

-- a refused claim breaks what its fault says, where its place says
pub refused_says : (x : Claim) (r : Refused) → refusal x ≡ some r → Faulty x r.fault r.place
unfolding refusal bad_goal
refused_says x r e = sizes (either _ _ r e)
  where
    at : (f : Fault) → f ≡ r.fault → Faulty x f r.place → Faulty x r.fault r.place
    at f p h = subst (λ (g : Fault). Faulty x g r.place) p h

    names : T (right_sizes x) → bad_word (given_words x) ≡ none → bad_assumption x.count x.assumed ≡ none →
        Either (fault_at BadNames (bad_name (length x.assumed) x.text)) (fault_at BadGoal (bad_goal x.count x.goal)) r →
        Faulty x r.fault r.place
    names t w a (first q) = let p = fault_at_lem BadNames _ r q in at BadNames p.0 (t, w, a, p.1)
    names t w a (second n q) =
        let p = fault_at_lem BadGoal _ r q in
        let u = unless_at (ltb x.goal x.count) r.place p.1 in
        at BadGoal p.0 (t, w, a, fault_none BadNames _ n, ltb-false x.goal x.count u.0, u.1)

    assumptions : T (right_sizes x) → bad_word (given_words x) ≡ none →
        Either (fault_at BadAssumption (bad_assumption x.count x.assumed))
        (or_else (fault_at BadNames (bad_name (length x.assumed) x.text)) (fault_at BadGoal (bad_goal x.count x.goal))) r →
        Faulty x r.fault r.place
    assumptions t w (first q) = let p = fault_at_lem BadAssumption _ r q in at BadAssumption p.0 (t, w, p.1)
    assumptions t w (second n q) = names t w (fault_none BadAssumption _ n) (either _ _ r q)

    words : T (right_sizes x) → Either (fault_at BadFormula (bad_word (given_words x)))
        (or_else (fault_at BadAssumption (bad_assumption x.count x.assumed))
        (or_else (fault_at BadNames (bad_name (length x.assumed) x.text)) (fault_at BadGoal (bad_goal x.count x.goal)))) r →
        Faulty x r.fault r.place
    words t (first q) = let p = fault_at_lem BadFormula _ r q in at BadFormula p.0 (t, p.1)
    words t (second n q) = assumptions t (fault_none BadFormula _ n) (either _ _ r q)

    sizes : Either (fault_at Sizes (unless (right_sizes x))) (or_else (fault_at BadFormula (bad_word (given_words x)))
        (or_else (fault_at BadAssumption (bad_assumption x.count x.assumed))
        (or_else (fault_at BadNames (bad_name (length x.assumed) x.text)) (fault_at BadGoal (bad_goal x.count x.goal))))) r →
        Faulty x r.fault r.place
    sizes (first q) = let p = fault_at_lem Sizes _ r q in at Sizes p.0 (unless_at (right_sizes x) r.place p.1)
    sizes (second n q) = words (unless_none (right_sizes x) (fault_none Sizes _ n)) (either _ _ r q)
