-- What the one writer of a node does to the nodes that the numbers say. Assumes nothing.
use Prim.Native.Nat.{ℕ, suc, ◌+◌, ◌*◌, ◌/◌, ◌≤◌, ◌<◌}
use mathlib.Core.Path.{◌≡◌, sym, ap, ap₂, ◌∙◌}
use mathlib.Core.Logic.{◌≢◌}
use mathlib.Core.List.{List, [], ◌∷◌, ◌++◌, map, append-nil}
use native.Mathlib.Nat.{add_comm, zero-add}
use native.Mathlib.Decide.{dec_lt}
use native.Mathlib.Omega.{arith}
use lib.ListN.{length, get_or, take}
use Rattle.theory.specs.Term.{Piece, ident, pair, fst, snd, fn, app, inl, inr, case, abort, asc, unit, Node, node, assumed, Rule}
use Rattle.theory.specs.Term.{NodeIn, NamesHave, six_of, six}
use Rattle.theory.specs.Layout.{node_width, piece_at, nodes_in, in_numbers}
use Rattle.theory.proofs.LayoutLaws.{six_length, six_back, pieces_agree, in_numbers_append, nodes_snoc, nodes_agree}
use Rattle.proof_term.specs.Put.{low, put_node}
use Rattle.proof_term.proofs.PutLaws.{put_here, put_lower, put_higher, put_upto}

-- 16 bits hold each number of a piece
abbrev pub Fitting : Piece → Type 0
Fitting p = map low (six_of p) ≡ six_of p

-- six small numbers are their own 16 bits
six_small : (k a b c d e : ℕ) → (k < 65536) × (a < 65536) × (b < 65536) × (c < 65536) × (d < 65536) × (e < 65536) →
    map low (k ∷ a ∷ b ∷ c ∷ d ∷ e ∷ []) ≡ k ∷ a ∷ b ∷ c ∷ d ∷ e ∷ []
six_small k a b c d e h =
    let small : (x : ℕ) → x < 65536 → low x ≡ x = λ x l. omega arith in
    cc (small k h.0, small a h.1, small b h.2, small c h.3, small d h.4, small e h.5)

-- children and formulas below 65,536 make small numbers, where the names are
pub fitting : (m i : ℕ) (p : Piece) → m ≤ 65536 → i ≤ 65536 → NodeIn m i p → NamesHave (λ x. x < 65536) p → Fitting p
unfolding six_of
fitting m i (ident x) a b h n = six_small 0 x 0 0 0 0 (omega arith)
fitting m i (pair s t) a b h n = six_small 1 s t 0 0 0 (omega arith)
fitting m i (fst t) a b h n = six_small 2 t 0 0 0 0 (omega arith)
fitting m i (snd t) a b h n = six_small 3 t 0 0 0 0 (omega arith)
fitting m i (fn x t) a b h n = six_small 4 x t 0 0 0 (omega arith)
fitting m i (app s t) a b h n = six_small 5 s t 0 0 0 (omega arith)
fitting m i (inl t) a b h n = six_small 7 t 0 0 0 0 (omega arith)
fitting m i (inr t) a b h n = six_small 8 t 0 0 0 0 (omega arith)
fitting m i (case g x s y t) a b h n = six_small 9 g x s y t (omega arith)
fitting m i (abort t) a b h n = six_small 10 t 0 0 0 0 (omega arith)
fitting m i (asc t f) a b h n = six_small 11 t f 0 0 0 (omega arith)
fitting m i unit a b h n = six_small 12 0 0 0 0 0 (omega arith)

module _ (t : List ℕ) (n : ℕ) (p : Piece) (room : n < length t / node_width) (fits : Fitting p) where
  -- the written node says the piece
  pub put_piece : piece_at (put_node t n (six_of p)) (n * node_width) ≡ p
  put_piece =
      pieces_agree (put_node t n (six_of p)) (six_of p) (n * node_width) 0
      (λ k h.
      ap (λ (j : ℕ). get_or (put_node t n (six_of p)) j 0) (add_comm k (n * node_width))
      ∙ put_here t n (six_of p) k (omega (arith, six_length p)) room (omega (arith, six_length p))
      ∙ ap (λ (xs : List ℕ). get_or xs k 0) fits
      ∙ ap (λ (j : ℕ). get_or (six_of p) j 0) (omega arith))
      ∙ six_back p

  -- the numbers up to its end are those of the nodes before it and its own
  pub put_grows : (ns : List Node) (r : Rule) → take (n * node_width) t ≡ in_numbers ns →
      take (suc n * node_width) (put_node t n (six_of p)) ≡ in_numbers (ns ++ (node r p ∷ []))
  unfolding in_numbers six
  put_grows ns r e =
      put_upto t n (six_of p) (six_length p) room
      ∙ ap₂ ◌++◌ e (fits ∙ sym (append-nil (six_of p)))
      ∙ sym (in_numbers_append ns (node r p ∷ []))

-- another node stays what it was
pub put_other : (t : List ℕ) (n : ℕ) (p : Piece) (m : ℕ) → m ≢ n →
    piece_at (put_node t n (six_of p)) (m * node_width) ≡ piece_at t (m * node_width)
put_other t n p m d =
    pieces_agree (put_node t n (six_of p)) t (m * node_width) (m * node_width) (λ k h. side k h (dec_lt m n))
  where
    side : (k : ℕ) → k < node_width → Dec (m < n) → get_or (put_node t n (six_of p)) (k + m * node_width) 0 ≡ get_or t
        (k + m * node_width) 0
    side k h (yes l) = put_lower t n (six_of p) (k + m * node_width) (omega arith)
    side k h (no g) = put_higher t n (six_of p) (k + m * node_width) (omega (arith, six_length p)) (omega arith)

-- the nodes before it too
pub put_nodes_lem : (t : List ℕ) (n : ℕ) (p : Piece) (k : ℕ) → k ≤ n → nodes_in (put_node t n (six_of p)) k ≡ nodes_in t k
unfolding nodes_in
put_nodes_lem t n p k h =
    nodes_agree (put_node t n (six_of p)) t 0 k (λ j l. put_lower t n (six_of p) j (omega arith))

-- and with it they are one more
pub put_node_lem : (t : List ℕ) (n : ℕ) (p : Piece) → n < length t / node_width → Fitting p →
    nodes_in (put_node t n (six_of p)) (suc n) ≡ nodes_in t n ++ (node assumed p ∷ [])
unfolding nodes_in
put_node_lem t n p room fits =
    nodes_snoc (put_node t n (six_of p)) 0 n
    ∙ ap₂ (λ (ns : List Node) (q : Piece). ns ++ (node assumed q ∷ [])) (put_nodes_lem t n p n (omega arith))
    (ap (λ (k : ℕ). piece_at (put_node t n (six_of p)) (k * node_width)) (zero-add n) ∙ put_piece t n p room fits)
