-- The kinds of formulas by their numbers in document 01. Assumes nothing.
use Rattle.std.specs.Prelude.{ℕ, zero, suc, Bool, true, false}
use Rattle.formula.specs.declared.Kind.{Kind}
use Rattle.formula.specs.declared.Kind.TheVariants.{True, False, Atom, And, Or, Impl, ForAll, Exists, Unknown}

-- "Kinds: 0 True, 1 False, 2 Atom, 3 And, 4 Or, 5 Impl, 6 ForAll, 7 Exists"
unfoldable pub kind_named : ℕ → Kind
kind_named zero = True
kind_named (suc zero) = False
kind_named (suc (suc zero)) = Atom
kind_named (suc (suc (suc zero))) = And
kind_named (suc (suc (suc (suc zero)))) = Or
kind_named (suc (suc (suc (suc (suc zero))))) = Impl
kind_named (suc (suc (suc (suc (suc (suc zero)))))) = ForAll
kind_named (suc (suc (suc (suc (suc (suc (suc zero))))))) = Exists
kind_named (suc (suc (suc (suc (suc (suc (suc (suc k)))))))) = Unknown (suc (suc (suc (suc (suc (suc (suc (suc k))))))))

-- and back
abbrev pub number_of : Kind → ℕ
number_of True = 0
number_of False = 1
number_of Atom = 2
number_of And = 3
number_of Or = 4
number_of Impl = 5
number_of ForAll = 6
number_of Exists = 7
number_of (Unknown k) = k

-- "A leaf (2, 6, 7)"
abbrev pub is_leaf : Kind → Bool
is_leaf True = false
is_leaf False = false
is_leaf Atom = true
is_leaf And = false
is_leaf Or = false
is_leaf Impl = false
is_leaf ForAll = true
is_leaf Exists = true
is_leaf (Unknown k) = false
