-- What the writers of words and nodes leave, store by store. Assumes nothing.
use Prim.Native.Nat.{ℕ, suc, ◌+◌, ◌%◌, ◌<◌}
use mathlib.Core.Path.{◌≡◌, sym, ap, ap₂, ◌∙◌}
use mathlib.Core.List.{List, [], ◌∷◌, ◌++◌, map}
use native.Mathlib.Omega.{arith}
use native.Mathlib.Nat.{mod-eq_of_lt}
use lib.ListN.{length, length-map, get_or, take}
use lib.Seq.{length-take-le}
use Rattle.std.specs.Prelude.{Ok}
use Rattle.theory.specs.Form.{is_imp, word, pack}
use Rattle.std.proofs.lemmas.List.{map_more}
use Rattle.theory.specs.Term.{Piece, six_of}
use Rattle.proof_term.specs.declared.Node.{Node}
use Rattle.proof_term.specs.Kinds.{piece_of}
use Rattle.proof_term.specs.Put.{put_node}
use Rattle.meter.specs.declared.State.{State}
use Rattle.meter.specs.declared.Limits.{Limits}
use Rattle.meter.specs.Moves.{spent}
use Rattle.search_laws.specs.Reading.{put_nodes}
use Rattle.search_laws.specs.Closing.{Closes, closes_node}
use Rattle.search_laws.proofs.Write.{put_same}

-- fields that have their width are packed as they are
pub arrow_word : (a b : ℕ) → a < 16384 → b < 16384 → pack (5 % 16) (a % 16384) (b % 16384) ≡ word (is_imp a b)
unfolding word
arrow_word a b ha hb = ap₂ (λ (l r : ℕ). pack 5 l r) (mod-eq_of_lt ha) (mod-eq_of_lt hb)

-- nodes leave as many numbers as there were
pub put_long : (t : List ℕ) (n : ℕ) (ps : List Piece) {t1 : List ℕ} → t1 ≡ put_nodes t n ps → length t1 ≡ length t
put_long t n ps e = ap length e ∙ (put_same t n ps).long

-- nodes after nodes
pub put_append : (t : List ℕ) (n : ℕ) (ps rs : List Piece) → put_nodes (put_nodes t n ps) (n + length ps) rs ≡ put_nodes t n (ps ++ rs)
unfolding put_nodes
put_append t n [] rs = ap (λ (k : ℕ). put_nodes t k rs) (let e : n + 0 ≡ n = omega arith in e)
put_append t n (p ∷ ps) rs =
    ap (λ (k : ℕ). put_nodes (put_nodes t n (p ∷ ps)) k rs) (let e : n + suc (length ps) ≡ suc n + length ps = omega arith in e)
    ∙ put_append (put_node t n (six_of p)) (suc n) ps rs

-- one node more
pub put_more : (t : List ℕ) (n k : ℕ) (nodes : List Node) {t1 t2 : List ℕ} (d : Node) → k < length nodes →
    t1 ≡ put_nodes t n (map piece_of (take k nodes)) → t2 ≡ put_node t1 (n + k) (six_of (piece_of (get_or nodes k d))) →
    t2 ≡ put_nodes t n (map piece_of (take (k + 1) nodes))
unfolding put_nodes
put_more t n k nodes {t1} {t2} d h e1 e2 =
    let ps : List Piece = map piece_of (take k nodes) in
    let x : Node = get_or nodes k d in
    let many : length ps ≡ k = length-map (take k nodes) piece_of ∙ length-take-le k nodes (omega arith) in
    e2 ∙ ap₂ (λ (u : List ℕ) (i : ℕ). put_node u (n + i) (six_of (piece_of x))) e1 (sym many)
    ∙ put_append t n ps (piece_of x ∷ []) ∙ ap (put_nodes t n) (sym (map_more piece_of nodes k d h))

-- the last node of a rule
pub close_is : {m : Limits} {t t1 : List ℕ} {s s1 : State} {p : Piece} → s.terms < m.terms →
    t1 ≡ put_node t s.terms (six_of p) → s1 ≡ spent s s.indices 0 1 → Closes m t s p (Ok (record { node = s.terms; state = s1 })) t1
unfolding put_nodes
close_is {m} {t} {t1} {s} {s1} {p} h et es =
    let put : t1 ≡ put_nodes t s.terms (p ∷ []) = et in
    rw (es, put) (closes_node (omega arith))
