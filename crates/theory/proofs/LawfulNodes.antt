-- What passes 13: a node is judged by its numbers, and one that passes is the six numbers of its piece. Assumes nothing.
use Prim.Native.Nat.{ℕ, zero, suc, ◌+◌, ◌-◌, ◌*◌, ◌≤◌, ◌<◌}
use mathlib.Core.Path.{◌≡◌, refl, sym, ap, ap₂, ◌∙◌, subst}
use mathlib.Core.Bool.{Bool, true, false, ◌&&◌, not}
use mathlib.Core.Option.{Option, none, some}
use mathlib.Core.List.{List, [], ◌∷◌, ◌++◌}
use native.Mathlib.Nat.{zero-add, add-suc, suc-add}
use native.Mathlib.Omega.{arith}
use lib.Dec.{T, ltb, eqb→eq}
use borrow.Author.Tests.{lt-ltb, le-ltb, le-leb, lt-leb}
use lib.ListN.{length, get_or, take, drop}
use lib.Seq.{take-add, drop-drop}
use Rattle.theory.specs.Term.{six_of, six}
use Rattle.theory.specs.Layout.{node_width, Field, name, child, formula, unused, fields_of, lawful_name, lawful_field, lawful_fields}
use Rattle.theory.specs.Layout.{lawful_node, bad_node_from, bad_term, piece_of, piece_at, nodes_from, nodes_in, in_numbers}
use Rattle.theory.specs.Names.{skipped, among, spell}
use Rattle.theory.specs.NameText.{last_index}
use Rattle.theory.proofs.Tests.{and_left, and_right}
use Rattle.theory.proofs.LayoutLaws.{numbers_at, numbers_cut, piece_numbers}

-- fields judged over their numbers
abbrev pub lawful_numbers : List (List ℕ) → ℕ → ℕ → List Field → List ℕ → Bool
lawful_numbers names count i [] xs = true
lawful_numbers names count i (f ∷ fs) [] = false
lawful_numbers names count i (f ∷ fs) (x ∷ xs) = lawful_field names count i f x && lawful_numbers names count i fs xs

-- a node judged over its numbers, the kind first
abbrev pub lawful_six : List (List ℕ) → ℕ → ℕ → List ℕ → Bool
lawful_six names count i [] = false
lawful_six names count i (k ∷ xs) = elim (fields_of k) [ none ↦ false | some fs ↦ lawful_numbers names count i fs xs ]

-- reading the fields one by one judges the same numbers
fields_numbers : (names : List (List ℕ)) (count i : ℕ) (t : List ℕ) (at : ℕ) (fs : List Field) →
    lawful_fields names count i t at fs ≡ lawful_numbers names count i fs (numbers_at t at (length fs))
unfolding lawful_fields
fields_numbers names count i t at [] = refl
fields_numbers names count i t at (f ∷ fs) =
    ap (λ (b : Bool). lawful_field names count i f (get_or t at 0) && b) (fields_numbers names count i t (suc at) fs)

-- every kind has five fields
Five : Option (List Field) → Type 0
Five none = Unit {0}
Five (some fs) = length fs ≡ 5

five : (k : ℕ) → Five (fields_of k)
unfolding fields_of Five
five zero = refl
five (suc zero) = refl
five (suc (suc zero)) = refl
five (suc (suc (suc zero))) = refl
five (suc (suc (suc (suc zero)))) = refl
five (suc (suc (suc (suc (suc zero))))) = refl
five (suc (suc (suc (suc (suc (suc zero)))))) = tt
five (suc (suc (suc (suc (suc (suc (suc zero))))))) = refl
five (suc (suc (suc (suc (suc (suc (suc (suc zero)))))))) = refl
five (suc (suc (suc (suc (suc (suc (suc (suc (suc zero))))))))) = refl
five (suc (suc (suc (suc (suc (suc (suc (suc (suc (suc zero)))))))))) = refl
five (suc (suc (suc (suc (suc (suc (suc (suc (suc (suc (suc zero))))))))))) = refl
five (suc (suc (suc (suc (suc (suc (suc (suc (suc (suc (suc (suc zero)))))))))))) = refl
five (suc (suc (suc (suc (suc (suc (suc (suc (suc (suc (suc (suc (suc k))))))))))))) = tt

-- a node is judged by the numbers that stand there
pub node_numbers : (names : List (List ℕ)) (count : ℕ) (t : List ℕ) (i : ℕ) →
    lawful_node names count t i ≡ lawful_six names count i (numbers_at t (i * node_width) node_width)
unfolding lawful_node Five
node_numbers names count t i = go (fields_of (get_or t (i * node_width) 0)) (five (get_or t (i * node_width) 0))
  where
    at : ℕ
    at = suc (i * node_width)

    go : (o : Option (List Field)) → Five o →
        ◌≡◌ {A = Bool} (elim o [ none ↦ false | some fs ↦ lawful_fields names count i t at fs ])
        (elim o [ none ↦ false | some fs ↦ lawful_numbers names count i fs (numbers_at t at 5) ])
    go none h = refl
    go (some fs) h =
        fields_numbers names count i t at fs ∙ ap (λ (n : ℕ). lawful_numbers names count i fs (numbers_at t at n)) h

-- the numbers that the kind leaves unused are 0
abbrev ZeroIn : Field → ℕ → Type 0
ZeroIn name x = Unit {0}
ZeroIn child x = Unit {0}
ZeroIn formula x = Unit {0}
ZeroIn unused x = x ≡ 0

abbrev Zeros : List Field → List ℕ → Type 0
Zeros [] xs = Unit {0}
Zeros (f ∷ fs) [] = Unit {0}
Zeros (f ∷ fs) (x ∷ xs) = ZeroIn f x × Zeros fs xs

abbrev ZerosOf : Option (List Field) → List ℕ → Type 0
ZerosOf none xs = ⊥
ZerosOf (some fs) xs = Zeros fs xs

-- as a field that passes says
zero_in : (names : List (List ℕ)) (count i : ℕ) (f : Field) (x : ℕ) → T (lawful_field names count i f x) → ZeroIn f x
unfolding lawful_field
zero_in names count i name x h = tt
zero_in names count i child x h = tt
zero_in names count i formula x h = tt
zero_in names count i unused x h = eqb→eq x 0 h

zeros : (names : List (List ℕ)) (count i : ℕ) (fs : List Field) (xs : List ℕ) → T (lawful_numbers names count i fs xs) → Zeros fs xs
zeros names count i [] xs h = tt
zeros names count i (f ∷ fs) [] h = tt
zeros names count i (f ∷ fs) (x ∷ xs) h =
    let a : Bool = lawful_field names count i f x in
    let b : Bool = lawful_numbers names count i fs xs in
    (zero_in names count i f x (and_left a b h), zeros names count i fs xs (and_right a b h))

zeros_of : (names : List (List ℕ)) (count i k : ℕ) (xs : List ℕ) → T (lawful_six names count i (k ∷ xs)) → ZerosOf (fields_of k) xs
zeros_of names count i k xs h = go (fields_of k) h
  where
    go : (o : Option (List Field)) → T (elim o [ none ↦ false | some fs ↦ lawful_numbers names count i fs xs ]) → ZerosOf o xs
    go none h = h
    go (some fs) h = zeros names count i fs xs h

-- so six numbers of a kind are those of its piece
six_of_zeros : (k a b c d e : ℕ) → ZerosOf (fields_of k) (a ∷ b ∷ c ∷ d ∷ e ∷ []) →
    six_of (piece_of k a b c d e) ≡ k ∷ a ∷ b ∷ c ∷ d ∷ e ∷ []
unfolding six_of piece_of fields_of
six_of_zeros zero a b c d e z = cc
six_of_zeros (suc zero) a b c d e z = cc
six_of_zeros (suc (suc zero)) a b c d e z = cc
six_of_zeros (suc (suc (suc zero))) a b c d e z = cc
six_of_zeros (suc (suc (suc (suc zero)))) a b c d e z = cc
six_of_zeros (suc (suc (suc (suc (suc zero))))) a b c d e z = cc
six_of_zeros (suc (suc (suc (suc (suc (suc zero)))))) a b c d e z = absurd z
six_of_zeros (suc (suc (suc (suc (suc (suc (suc zero))))))) a b c d e z = cc
six_of_zeros (suc (suc (suc (suc (suc (suc (suc (suc zero)))))))) a b c d e z = cc
six_of_zeros (suc (suc (suc (suc (suc (suc (suc (suc (suc zero))))))))) a b c d e z = cc
six_of_zeros (suc (suc (suc (suc (suc (suc (suc (suc (suc (suc zero)))))))))) a b c d e z = cc
six_of_zeros (suc (suc (suc (suc (suc (suc (suc (suc (suc (suc (suc zero))))))))))) a b c d e z = cc
six_of_zeros (suc (suc (suc (suc (suc (suc (suc (suc (suc (suc (suc (suc zero)))))))))))) a b c d e z = cc
six_of_zeros (suc (suc (suc (suc (suc (suc (suc (suc (suc (suc (suc (suc (suc k))))))))))))) a b c d e z = absurd z

-- a node that passes is the six numbers of what it says
pub passing_six : (names : List (List ℕ)) (count : ℕ) (t : List ℕ) (i : ℕ) → T (lawful_node names count t i) →
    six_of (piece_at t (i * node_width)) ≡ numbers_at t (i * node_width) node_width
unfolding piece_at
passing_six names count t i h =
    let at : ℕ = i * node_width in
    let x : ℕ → ℕ = λ (j : ℕ). get_or t j 0 in
    let xs : List ℕ = numbers_at t (suc at) 5 in
    ap six_of (piece_numbers t at)
    ∙ six_of_zeros (x at) (x (suc at)) (x (suc (suc at))) (x (suc (suc (suc at)))) (x (suc (suc (suc (suc at)))))
    (x (suc (suc (suc (suc (suc at))))))
    (zeros_of names count i (x at) xs (subst T (node_numbers names count t i) h))

-- a lawful node is passed over
pub next_node : (names : List (List ℕ)) (count : ℕ) (t : List ℕ) (i k : ℕ) → lawful_node names count t i ≡ true →
    bad_node_from names count t i (suc k) ≡ bad_node_from names count t (suc i) k
unfolding bad_node_from
next_node names count t i k e = rw (e, bad_node_from)

-- the lowest bad node is none only where the first passes and the rest has none
pub first_passes : (names : List (List ℕ)) (count : ℕ) (t : List ℕ) (i k : ℕ) → bad_node_from names count t i (suc k) ≡ none →
    T (lawful_node names count t i) × (bad_node_from names count t (suc i) k ≡ none)
unfolding bad_node_from
first_passes names count t i k e = go (lawful_node names count t i) e
  where
    go : (b : Bool) → ◌≡◌ {A = Option ℕ} (elim b [ true ↦ bad_node_from names count t (suc i) k | false ↦ some i ]) none →
        T b × (bad_node_from names count t (suc i) k ≡ none)
    go true e = (tt, e)
    go false e = absurd (let z : ◌≡◌ {A = ℕ} 0 1 = cc in omega arith)

passing_from : (names : List (List ℕ)) (count : ℕ) (t : List ℕ) (i k : ℕ) → bad_node_from names count t i k ≡ none →
    (i + k) * node_width ≤ length t → in_numbers (nodes_from t i k) ≡ take (k * node_width) (drop (i * node_width) t)
unfolding nodes_from in_numbers six
passing_from names count t i zero e h = refl
passing_from names count t i (suc k) e h =
    let at : ℕ = i * node_width in
    let p : T (lawful_node names count t i) × (bad_node_from names count t (suc i) k ≡ none) = first_passes names count t i k e in
    let next : suc i * node_width ≡ at + node_width = omega arith in
    let all : node_width + k * node_width ≡ suc k * node_width = omega arith in
    ap₂ ◌++◌ (passing_six names count t i p.0 ∙ numbers_cut t at node_width (omega (arith, add-suc i k)))
    (passing_from names count t (suc i) k p.1 (omega (arith, add-suc i k, suc-add i k))
    ∙ ap (λ (n : ℕ). take (k * node_width) (drop n t)) next
    ∙ ap (take (k * node_width)) (sym (drop-drop node_width at t)))
    ∙ sym (take-add node_width (k * node_width) (drop at t))
    ∙ ap (λ (n : ℕ). take n (drop at t)) all

-- nodes that pass are, as numbers, the numbers that stand there
pub passing_numbers : (names : List (List ℕ)) (count : ℕ) (t : List ℕ) (n : ℕ) → bad_node_from names count t 0 n ≡ none →
    n * node_width ≤ length t → in_numbers (nodes_in t n) ≡ take (n * node_width) t
unfolding nodes_in
passing_numbers names count t n e h = passing_from names count t 0 n e (rw zero-add h)

-- the names: an assumption's number, an index past the last, and an index that may be skipped
pub low_name : (names : List (List ℕ)) (x : ℕ) → x < 64 → lawful_name names x ≡ ltb x (length names)
unfolding lawful_name
low_name names x h = rw (lt-ltb x 64 h, lawful_name)

pub far_name : (names : List (List ℕ)) (x : ℕ) → 64 ≤ x → last_index < x - 64 → lawful_name names x ≡ false
unfolding lawful_name
far_name names x h l = rw (le-ltb x 64 h, lawful_name) (rw (lt-leb (x - 64) last_index l))

pub high_name : (names : List (List ℕ)) (x : ℕ) → 64 ≤ x → x - 64 ≤ last_index →
    lawful_name names x ≡ not (among (spell (x - 64)) (skipped names))
unfolding lawful_name
high_name names x h l = rw (le-ltb x 64 h, lawful_name) (rw (le-leb (x - 64) last_index l))

-- the three outcomes of 13: a bad node, a root that is none, and nothing to refuse
pub node_refused : (names : List (List ℕ)) (count : ℕ) (t : List ℕ) (nodes root i : ℕ) → bad_node_from names count t 0 nodes ≡ some i →
    bad_term names count t nodes root ≡ some i
unfolding bad_term
node_refused names count t nodes root i e = rw (e, bad_term)

pub root_refused : (names : List (List ℕ)) (count : ℕ) (t : List ℕ) (nodes root : ℕ) → bad_node_from names count t 0 nodes ≡ none →
    nodes ≤ root → bad_term names count t nodes root ≡ some nodes
unfolding bad_term
root_refused names count t nodes root e h = rw (e, bad_term) (rw (le-ltb root nodes h))

pub term_passes : (names : List (List ℕ)) (count : ℕ) (t : List ℕ) (nodes root : ℕ) → bad_node_from names count t 0 nodes ≡ none →
    root < nodes → bad_term names count t nodes root ≡ none
unfolding bad_term
term_passes names count t nodes root e h = rw (e, bad_term) (rw (lt-ltb root nodes h))
