-- Nodes as numbers and numbers as nodes: each is the other's inverse where the layout is kept. Assumes nothing.
use Prim.Native.Nat.{ℕ, zero, suc, ◌+◌, ◌*◌, ◌≤◌, ◌<◌}
use mathlib.Core.Path.{◌≡◌, refl, sym, ap, ap₂, ◌∙◌}
use mathlib.Core.List.{List, [], ◌∷◌, ◌++◌, map, append_assoc}
use native.Mathlib.Nat.{add-zero, add-suc, suc-add}
use native.Mathlib.Omega.{arith}
use lib.ListN.{length, get_or, take, drop, length-append}
use lib.Seq.{drop-cons, get_or_at}
use Rattle.theory.specs.Term.{Piece, ident, pair, fst, snd, fn, app, inl, inr, case, abort, asc, unit}
use Rattle.theory.specs.Term.{Node, node, assumed, six_of, six}
use Rattle.theory.specs.Layout.{node_width, piece_of, piece_at, nodes_from, nodes_in, in_numbers}
use Rattle.theory.proofs.Forms.{snoc_length}

-- a node has as many numbers as its width
pub six_length : (p : Piece) → length (six_of p) ≡ node_width
unfolding six_of
six_length (ident x) = refl
six_length (pair s t) = refl
six_length (fst t) = refl
six_length (snd t) = refl
six_length (fn x t) = refl
six_length (app s t) = refl
six_length (inl t) = refl
six_length (inr t) = refl
six_length (case h x s y t) = refl
six_length (abort t) = refl
six_length (asc t a) = refl
six_length unit = refl

-- the six numbers of a piece say that piece
pub six_back : (p : Piece) → piece_at (six_of p) 0 ≡ p
unfolding six_of piece_at piece_of
six_back (ident x) = refl
six_back (pair s t) = refl
six_back (fst t) = refl
six_back (snd t) = refl
six_back (fn x t) = refl
six_back (app s t) = refl
six_back (inl t) = refl
six_back (inr t) = refl
six_back (case h x s y t) = refl
six_back (abort t) = refl
six_back (asc t a) = refl
six_back unit = refl

-- six numbers that agree say the same
pub pieces_agree : (t u : List ℕ) (i j : ℕ) → ((k : ℕ) → k < node_width → get_or t (k + i) 0 ≡ get_or u (k + j) 0) → piece_at t i ≡
    piece_at u j
unfolding piece_at
pieces_agree t u i j h =
    let a : 0 + i ≡ i = omega arith in
    let b : 0 + j ≡ j = omega arith in
    cc (h 0 (omega arith), h 1 (omega arith), h 2 (omega arith), h 3 (omega arith), h 4 (omega arith), h 5 (omega arith))

-- nodes side by side are their numbers side by side
pub in_numbers_append : (ns ms : List Node) → in_numbers (ns ++ ms) ≡ in_numbers ns ++ in_numbers ms
unfolding in_numbers
in_numbers_append [] ms = refl
in_numbers_append (n ∷ ns) ms =
    ap (λ (r : List ℕ). six n ++ r) (in_numbers_append ns ms)
    ∙ sym (append_assoc (six n) (in_numbers ns) (in_numbers ms))

pub in_numbers_length : (ns : List Node) → length (in_numbers ns) ≡ length ns * node_width
unfolding in_numbers six
in_numbers_length [] = refl
in_numbers_length (n ∷ ns) =
    length-append (six n) (in_numbers ns) ∙ ap₂ ◌+◌ (six_length n.piece) (in_numbers_length ns) ∙ omega arith

-- one node more, decoded from the front, is one node more at the back
pub nodes_snoc : (t : List ℕ) (i k : ℕ) → nodes_from t i (suc k) ≡ nodes_from t i k ++
    (node assumed (piece_at t ((i + k) * node_width)) ∷ [])
unfolding nodes_from
nodes_snoc t i zero = ap (λ (m : ℕ). node assumed (piece_at t (m * node_width)) ∷ []) (sym (add-zero i))
nodes_snoc t i (suc k) =
    ap (λ (ns : List Node). node assumed (piece_at t (i * node_width)) ∷ ns)
    (nodes_snoc t (suc i) k
    ∙ ap (λ (m : ℕ). nodes_from t (suc i) k ++ (node assumed (piece_at t (m * node_width)) ∷ [])) (suc-add i k ∙ sym (add-suc i k)))

-- numbers that agree below the end of the nodes say the same nodes
pub nodes_agree : (t u : List ℕ) (i k : ℕ) → ((j : ℕ) → j < (i + k) * node_width → get_or t j 0 ≡ get_or u j 0) →
    nodes_from t i k ≡ nodes_from u i k
unfolding nodes_from
nodes_agree t u i zero h = refl
nodes_agree t u i (suc k) h =
    ap₂ (λ (p : Piece) (ns : List Node). node assumed p ∷ ns)
    (pieces_agree t u (i * node_width) (i * node_width) (λ j l. h (j + i * node_width) (omega (arith, add-suc i k))))
    (nodes_agree t u (suc i) k (λ j l. h j (omega (arith, add-suc i k, suc-add i k))))

-- n numbers from a place on
abbrev pub numbers_at : List ℕ → ℕ → ℕ → List ℕ
numbers_at t at zero = []
numbers_at t at (suc n) = get_or t at 0 ∷ numbers_at t (suc at) n

-- the numbers that stand from a place on, cut out of the list
pub numbers_cut : (t : List ℕ) (at n : ℕ) → at + n ≤ length t → numbers_at t at n ≡ take n (drop at t)
numbers_cut t at zero h = refl
numbers_cut t at (suc n) h =
    rw (drop-cons t at 0 (omega arith)) (ap (λ (r : List ℕ). get_or t at 0 ∷ r) (numbers_cut t (suc at) n (omega (arith, add-suc at n))))

-- and what stands between two parts
pub numbers_between : (before xs after : List ℕ) (n : ℕ) → length before ≡ n → numbers_at (before ++ (xs ++ after)) n (length xs) ≡ xs
numbers_between before [] after n e = refl
numbers_between before (x ∷ xs) after n e =
    ap₂ (λ (y : ℕ) (ys : List ℕ). y ∷ ys) (get_or_at before x (xs ++ after) 0 n e)
    (ap (λ (t : List ℕ). numbers_at t (suc n) (length xs)) (sym (append_assoc before (x ∷ []) (xs ++ after)))
    ∙ numbers_between (before ++ (x ∷ [])) xs after (suc n) (snoc_length before x ∙ ap suc e))

-- a node says what its numbers say
pub piece_numbers : (t : List ℕ) (at : ℕ) → piece_at t at ≡ piece_at (numbers_at t at node_width) 0
unfolding piece_at
piece_numbers t at =
    let one : 1 + at ≡ suc at = omega arith in
    let two : 2 + at ≡ suc (suc at) = omega arith in
    let three : 3 + at ≡ suc (suc (suc at)) = omega arith in
    let four : 4 + at ≡ suc (suc (suc (suc at))) = omega arith in
    let five : 5 + at ≡ suc (suc (suc (suc (suc at)))) = omega arith in
    cc

-- so where the six numbers of a piece stand, it says that piece
pub piece_there : (before after : List ℕ) (p : Piece) (n : ℕ) → length before ≡ n → piece_at (before ++ (six_of p ++ after)) n ≡ p
piece_there before after p n e =
    piece_numbers (before ++ (six_of p ++ after)) n
    ∙ ap (λ (k : ℕ). piece_at (numbers_at (before ++ (six_of p ++ after)) n k) 0) (sym (six_length p))
    ∙ ap (λ (xs : List ℕ). piece_at xs 0) (numbers_between before (six_of p) after n e)
    ∙ six_back p

-- a part in the middle, seen from where it begins
pub parts_here : (before a b after : List ℕ) → before ++ ((a ++ b) ++ after) ≡ before ++ (a ++ (b ++ after))
parts_here before a b after = ap (λ (r : List ℕ). before ++ r) (append_assoc a b after)

-- and from where it ends
pub parts_there : (before a b after : List ℕ) → before ++ ((a ++ b) ++ after) ≡ (before ++ a) ++ (b ++ after)
parts_there before a b after = parts_here before a b after ∙ sym (append_assoc before a (b ++ after))

-- the end of node i is where node i + 1 begins
pub past_node : (before : List ℕ) (p : Piece) (i : ℕ) → length before ≡ i * node_width → length (before ++ six_of p) ≡ suc i * node_width
past_node before p i e = length-append before (six_of p) ∙ ap₂ ◌+◌ e (six_length p) ∙ omega arith

-- nodes without the rules that made them
abbrev pub unruled : List Node → List Node
unruled = map (λ n. node assumed n.piece)

nodes_from_lem : (ns : List Node) (before after : List ℕ) (i : ℕ) → length before ≡ i * node_width →
    nodes_from (before ++ (in_numbers ns ++ after)) i (length ns) ≡ unruled ns
unfolding nodes_from in_numbers six
nodes_from_lem [] before after i e = refl
nodes_from_lem (n ∷ ns) before after i e =
    let here : _ = parts_here before (six n) (in_numbers ns) after in
    let there : _ = parts_there before (six n) (in_numbers ns) after in
    ap₂ (λ (p : Piece) (ms : List Node). node assumed p ∷ ms)
    (ap (λ (t : List ℕ). piece_at t (i * node_width)) here ∙ piece_there before (in_numbers ns ++ after) n.piece (i * node_width) e)
    (ap (λ (t : List ℕ). nodes_from t (suc i) (length ns)) there
    ∙ nodes_from_lem ns (before ++ six n) after (suc i) (past_node before n.piece i e))

-- the numbers of nodes, whatever follows them, say those nodes; the rules are lost
pub numbers_nodes : (ns : List Node) (after : List ℕ) → nodes_in (in_numbers ns ++ after) (length ns) ≡ unruled ns
unfolding nodes_in
numbers_nodes ns after = nodes_from_lem ns [] after 0 refl
