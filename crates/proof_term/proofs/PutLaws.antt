-- What the one writer of a node does to a list of numbers: laws over any number of fields up to the width of a node. Assumes nothing.
use Prim.Native.Nat.{ℕ, zero, suc, ◌+◌, ◌-◌, ◌*◌, ◌/◌, ◌≤◌, ◌<◌}
use mathlib.Core.Path.{◌≡◌, refl, sym, ap, ap₂, ◌∙◌}
use mathlib.Core.Bool.{Bool, true, false}
use mathlib.Core.List.{List, [], ◌∷◌, ◌++◌, map}
use native.Mathlib.Nat.{add-suc, add-zero, suc-add}
use native.Mathlib.Omega.{arith}
use lib.Dec.{ltb}
use lib.ListN.{length, get_or, get_or-map, take, drop, set, length-set, length-append, length-map}
use lib.Seq.{sets, length-sets, sets-eq, get_or-set_same, get_or-set_other, take-set-le, drop-set-lt}
use lib.Seq.{get_or-take, get_or-drop, take_at, take_all, length-take-le, paste}
use borrow.Author.Tests.{lt-ltb, le-ltb}
use Rattle.std.proofs.lemmas.List.Edits.{paste_more}
use Rattle.theory.specs.Layout.{node_width}
use Rattle.proof_term.specs.Put.{low, put_node}

-- with room for the node its numbers are stored, without it nothing is
pub put_room : (t : List ℕ) (n : ℕ) (xs : List ℕ) → n < length t / node_width → put_node t n xs ≡ sets t (n * node_width) (map low xs)
unfolding put_node
put_room t n xs h = rw (lt-ltb n (length t / node_width) h, put_node)

pub put_no_room : (t : List ℕ) (n : ℕ) (xs : List ℕ) → length t / node_width ≤ n → put_node t n xs ≡ t
unfolding put_node
put_no_room t n xs h = rw (le-ltb n (length t / node_width) h, put_node)

-- a loop that stores the low bits of six numbers over a node's place
module _ (t : List ℕ) (n : ℕ) (xs : List ℕ) (h : n < length t / node_width) (w : length xs ≡ node_width) where
  pub store_more : (k v : ℕ) → k < node_width → v ≡ low (get_or xs k 0) →
      set (paste t (n * node_width) (map low xs) k) (n * node_width + k) v ≡ paste t (n * node_width) (map low xs) (k + 1)
  store_more k v l e =
      ap (set (paste t (n * node_width) (map low xs) k) (n * node_width + k)) (e ∙ sym (get_or-map low xs k 0))
      ∙ paste_more t (n * node_width) (map low xs) k 0 (omega arith) (rw (length-map, w) l)

  pub put_laid : (k : ℕ) → k ≡ node_width → paste t (n * node_width) (map low xs) k ≡ put_node t n xs
  put_laid k e =
      let ys : List ℕ = map low xs in
      let long : k ≡ length ys = e ∙ sym w ∙ sym (length-map xs low) in
      ap (paste t (n * node_width) ys) long
      ∙ ap (λ (zs : List ℕ). take (n * node_width) t ++ zs ++ drop (n * node_width + length ys) t) (take_all (length ys) ys (omega arith))
      ∙ sym (put_room t n xs h ∙ sets-eq ys t (n * node_width) (omega arith))

-- what holds of a list and of the list after a run of stores holds after a node is written, room or not
either : (P : List ℕ → Type 0) (t : List ℕ) (n : ℕ) (xs : List ℕ) → P t → P (sets t (n * node_width) (map low xs)) → P (put_node t n xs)
unfolding put_node
either P t n xs a b = go (ltb n (length t / node_width))
  where
    go : (r : Bool) → P (elim r [ true ↦ sets t (n * node_width) (map low xs) | false ↦ t ])
    go true = b
    go false = a

-- a run of stores from i on changes nothing below i
take_sets : (m : ℕ) (vs l : List ℕ) (i : ℕ) → m ≤ i → take m (sets l i vs) ≡ take m l
take_sets m [] l i h = refl
take_sets m (v ∷ vs) l i h = take_sets m vs (set l i v) (suc i) (omega arith) ∙ take-set-le m l i v h

-- nor from its end on
drop_sets : (m : ℕ) (vs l : List ℕ) (i : ℕ) → i + length vs ≤ m → drop m (sets l i vs) ≡ drop m l
drop_sets m [] l i h = refl
drop_sets m (v ∷ vs) l i h =
    drop_sets m vs (set l i v) (suc i) (omega (arith, add-suc i (length vs))) ∙ drop-set-lt m l i v (omega (arith, add-suc i (length vs)))

-- number by number below i
sets_before : (vs l : List ℕ) (i j : ℕ) → j < i → get_or (sets l i vs) j 0 ≡ get_or l j 0
sets_before [] l i j h = refl
sets_before (v ∷ vs) l i j h = sets_before vs (set l i v) (suc i) j (omega arith) ∙ get_or-set_other l i j v 0 (λ e. omega arith)

-- and the number at place j of the run is the one stored there
get_d_sets : (vs l : List ℕ) (i j : ℕ) → j < length vs → i + j < length l → get_or (sets l i vs) (i + j) 0 ≡ get_or vs j 0
get_d_sets [] l i j h k = absurd (omega arith)
get_d_sets (v ∷ vs) l i zero h k =
    ap (λ (m : ℕ). get_or (sets (set l i v) (suc i) vs) m 0) (add-zero i)
    ∙ sets_before vs (set l i v) (suc i) i (omega arith)
    ∙ get_or-set_same l i v 0 (omega arith)
get_d_sets (v ∷ vs) l i (suc j) h k =
    ap (λ (m : ℕ). get_or (sets (set l i v) (suc i) vs) m 0) (add-suc i j ∙ sym (suc-add i j))
    ∙ get_d_sets vs (set l i v) (suc i) j (omega arith) (rw length-set (omega arith))

-- a written node keeps the length
pub put_length : (t : List ℕ) (n : ℕ) (xs : List ℕ) → length (put_node t n xs) ≡ length t
put_length t n xs = either (λ (u : List ℕ). length u ≡ length t) t n xs refl (length-sets t (n * node_width) (map low xs))

-- and every number before it
pub put_before : (t : List ℕ) (n : ℕ) (xs : List ℕ) (m : ℕ) → m ≤ n * node_width → take m (put_node t n xs) ≡ take m t
put_before t n xs m h = either (λ (u : List ℕ). take m u ≡ take m t) t n xs refl (take_sets m (map low xs) t (n * node_width) h)

-- and every number after it
pub put_after : (t : List ℕ) (n : ℕ) (xs : List ℕ) (m : ℕ) → length xs ≤ node_width → suc n * node_width ≤ m →
    drop m (put_node t n xs) ≡ drop m t
put_after t n xs m w h =
    either (λ (u : List ℕ). drop m u ≡ drop m t) t n xs refl (drop_sets m (map low xs) t (n * node_width) (rw length-map (omega arith)))

-- number by number
pub put_lower : (t : List ℕ) (n : ℕ) (xs : List ℕ) (i : ℕ) → i < n * node_width → get_or (put_node t n xs) i 0 ≡ get_or t i 0
put_lower t n xs i h =
    sym (get_or-take (n * node_width) (put_node t n xs) i 0 h)
    ∙ ap (λ (u : List ℕ). get_or u i 0) (put_before t n xs (n * node_width) (omega arith))
    ∙ get_or-take (n * node_width) t i 0 h

pub put_higher : (t : List ℕ) (n : ℕ) (xs : List ℕ) (i : ℕ) → length xs ≤ node_width → suc n * node_width ≤ i →
    get_or (put_node t n xs) i 0 ≡ get_or t i 0
put_higher t n xs i w h =
    let k : ℕ = suc n * node_width in
    let e : k + (i - k) ≡ i = omega arith in
    ap (λ (j : ℕ). get_or (put_node t n xs) j 0) (sym e)
    ∙ sym (get_or-drop k (put_node t n xs) (i - k) 0)
    ∙ ap (λ (u : List ℕ). get_or u (i - k) 0) (put_after t n xs k w (omega arith))
    ∙ get_or-drop k t (i - k) 0
    ∙ ap (λ (j : ℕ). get_or t j 0) e

-- what the numbers of the node are
pub put_here : (t : List ℕ) (n : ℕ) (xs : List ℕ) (j : ℕ) → length xs ≤ node_width → n < length t / node_width → j < length xs →
    get_or (put_node t n xs) (n * node_width + j) 0 ≡ get_or (map low xs) j 0
put_here t n xs j w h k =
    ap (λ (u : List ℕ). get_or u (n * node_width + j) 0) (put_room t n xs h)
    ∙ get_d_sets (map low xs) t (n * node_width) j (rw length-map k) (omega arith)

-- the numbers up to the end of the node
pub put_upto : (t : List ℕ) (n : ℕ) (xs : List ℕ) → length xs ≡ node_width → n < length t / node_width →
    take (suc n * node_width) (put_node t n xs) ≡ take (n * node_width) t ++ map low xs
put_upto t n xs w h =
    let ys : List ℕ = map low xs in
    let l : length ys ≡ node_width = length-map xs low ∙ w in
    let front : List ℕ = take (n * node_width) t ++ ys in
    let size : length front ≡ suc n * node_width =
    length-append (take (n * node_width) t) ys ∙ ap₂ ◌+◌ (length-take-le (n * node_width) t (omega arith)) l ∙ omega arith in
    ap (take (suc n * node_width)) (put_room t n xs h ∙ sets-eq ys t (n * node_width) (omega arith))
    ∙ take_at front (drop (n * node_width + length ys) t) (suc n * node_width) size
