-- Tests joined by && and ||, taken apart and put together; and that none is no some. Assumes nothing.
use mathlib.Core.Bool.{Bool, true, false, ◌&&◌, ◌||◌}
use mathlib.Core.Path.{◌≡◌, refl, sym, subst}
use mathlib.Core.Option.{Option, none, some}
use mathlib.Core.Logic.{◌⊎◌, inl, inr}
use lib.Dec.{T}

-- a conjunction, put together and taken apart
pub and_T : (a b : Bool) → T a → T b → T (a && b)
and_T true true x y = tt
and_T true false x y = y
and_T false b x y = x

pub and_left : (a b : Bool) → T (a && b) → T a
and_left true b t = tt
and_left false b t = t

pub and_right : (a b : Bool) → T (a && b) → T b
and_right true b t = t
and_right false b t = absurd t

-- a disjunction, taken apart and put together
pub or_cases : (a b : Bool) → T (a || b) → T a ⊎ T b
or_cases true b t = inl tt
or_cases false b t = inr t

pub or_left : (a b : Bool) → T a → T (a || b)
or_left true b t = tt
or_left false b t = absurd t

pub or_right : (a b : Bool) → T b → T (a || b)
or_right true b t = tt
or_right false b t = t

-- a test that holds is true
pub true_of : (b : Bool) → T b → b ≡ true
true_of true t = refl
true_of false t = absurd t

-- none is no some
Some : {A : Type 0} → Option A → Type 0
Some none = ⊥
Some (some x) = Unit {0}

pub none_some : {A : Type 0} {x : A} → none ≡ some x → ⊥
unfolding Some
none_some {A} {x} e = subst Some (sym e) tt

pub some_none : {A : Type 0} {x : A} → some x ≡ none → ⊥
unfolding Some
some_none e = subst Some e tt
