-- Nodes written out of order: a node below others may be written after them. Assumes nothing.
use Prim.Native.Nat.{ℕ, suc, ◌+◌, ◌*◌, ◌/◌, ◌≤◌, ◌<◌}
use mathlib.Core.Path.{◌≡◌, refl, sym, ap, ◌∙◌}
use mathlib.Core.List.{List, [], ◌∷◌, map}
use native.Mathlib.Decide.{dec_lt}
use native.Mathlib.Omega.{arith}
use lib.ListN.{length, set, length-map}
use lib.Seq.{sets, set_comm}
use Rattle.theory.specs.Term.{Piece, six_of}
use Rattle.theory.specs.Layout.{node_width}
use Rattle.theory.proofs.LayoutLaws.{six_length}
use Rattle.proof_term.specs.Put.{low, put_node}
use Rattle.proof_term.proofs.PutLaws.{put_length, put_room, put_no_room}
use Rattle.search_laws.specs.Reading.{put_nodes}

-- a store below a run of stores
set_earlier : (l : List ℕ) (j v : ℕ) (i : ℕ) (vs : List ℕ) → j < i → set (sets l i vs) j v ≡ sets (set l j v) i vs
set_earlier l j v i [] h = refl
set_earlier l j v i (a ∷ vs) h =
    set_earlier (set l i a) j v (suc i) vs (omega arith)
    ∙ ap (λ (k : List ℕ). sets k (suc i) vs) (set_comm l i j a v (λ e. omega arith))

-- a run of stores below another
sets_earlier : (l : List ℕ) (j : ℕ) (xs : List ℕ) (i : ℕ) (vs : List ℕ) → j + length xs ≤ i →
    sets (sets l i vs) j xs ≡ sets (sets l j xs) i vs
sets_earlier l j [] i vs h = refl
sets_earlier l j (x ∷ xs) i vs h =
    ap (λ (k : List ℕ). sets k (suc j) xs) (set_earlier l j x i vs (omega arith))
    ∙ sets_earlier (set l j x) (suc j) xs i vs (omega arith)

-- a node below another
put_earlier : (t : List ℕ) (k n : ℕ) (xs ys : List ℕ) → k < n → length xs ≤ node_width →
    put_node (put_node t n ys) k xs ≡ put_node (put_node t k xs) n ys
put_earlier t k n xs ys h few = go (dec_lt n (length t / node_width))
  where
    same : (m : ℕ) (zs : List ℕ) → length (put_node t m zs) / node_width ≡ length t / node_width
    same m zs = ap (λ (c : ℕ). c / node_width) (put_length t m zs)

    go : Dec (n < length t / node_width) → put_node (put_node t n ys) k xs ≡ put_node (put_node t k xs) n ys
    go (yes room) =
        put_room (put_node t n ys) k xs (omega (arith, same n ys))
        ∙ ap (λ (l : List ℕ). sets l (k * node_width) (map low xs)) (put_room t n ys room)
        ∙ sets_earlier t (k * node_width) (map low xs) (n * node_width) (map low ys) (omega (arith, length-map xs low))
        ∙ ap (λ (l : List ℕ). sets l (n * node_width) (map low ys)) (sym (put_room t k xs (omega arith)))
        ∙ sym (put_room (put_node t k xs) n ys (omega (arith, same k xs)))
    go (no full) =
        ap (λ (l : List ℕ). put_node l k xs) (put_no_room t n ys (omega arith))
        ∙ sym (put_no_room (put_node t k xs) n ys (omega (arith, same k xs)))

-- a node below some others
pub put_last : (t : List ℕ) (k n : ℕ) (p : Piece) (ps : List Piece) → k < n →
    put_node (put_nodes t n ps) k (six_of p) ≡ put_nodes (put_node t k (six_of p)) n ps
unfolding put_nodes
put_last t k n p [] h = refl
put_last t k n p (r ∷ ps) h =
    put_last (put_node t n (six_of r)) k (suc n) p ps (omega arith)
    ∙ ap (λ (l : List ℕ). put_nodes l (suc n) ps) (put_earlier t k n (six_of p) (six_of r) h (omega (arith, six_length p)))
