-- What a search makes passes 13. Assumes nothing.
use Prim.Native.Nat.{ℕ, suc, ◌+◌, ◌-◌, ◌*◌, ◌≤◌, ◌<◌}
use mathlib.Core.Path.{◌≡◌, refl, sym, ap, ◌∙◌}
use mathlib.Core.Bool.{true, ◌&&◌}
use mathlib.Core.Option.{none}
use mathlib.Core.List.{List, [], ◌∷◌, ◌++◌}
use native.Mathlib.Omega.{arith}
use lib.Dec.{ltb}
use borrow.Author.Tests.{lt-ltb}
use lib.ListN.{length}
use Rattle.theory.specs.Term.{Piece, ident, pair, fst, snd, fn, app, inl, inr, case, abort, asc, unit, six_of, six}
use Rattle.theory.specs.Term.{Node, NodeIn, NodesFrom, NamesHave, AllNamesHave}
use Rattle.theory.specs.Layout.{node_width, fields_of, lawful_name, lawful_field}
use Rattle.theory.specs.Layout.{lawful_node, bad_node_from, bad_term, in_numbers}
use Rattle.theory.specs.Names.{GoodName, of_assumption, generated, skipped}
use Rattle.theory.proofs.LayoutLaws.{numbers_at, numbers_between, six_length}
use Rattle.theory.proofs.LayoutLaws.{parts_here, parts_there, past_node}
use Rattle.theory.proofs.LawfulNodes.{lawful_six, node_numbers, next_node, low_name, high_name, term_passes}

-- one child in range, and two fields in range
one_below : (x n : ℕ) → x < n → (ltb x n && true) ≡ true
one_below x n h = rw (lt-ltb x n h)

two_below : (x n y k : ℕ) → x < n → y < k → (ltb x n && (ltb y k && true)) ≡ true
two_below x n y k h l = rw (lt-ltb x n h, lt-ltb y k l)

-- a piece whose children, formula and names are in range is lawful
module _ (names : List (List ℕ)) (P : ℕ → Type 0) (good : (x : ℕ) → P x → lawful_name names x ≡ true) (m i : ℕ) where
  piece_lawful : (p : Piece) → NodeIn m i p → NamesHave P p → lawful_six names m i (six_of p) ≡ true
  unfolding six_of fields_of lawful_field
  piece_lawful (ident x) h n = rw (good x n)
  piece_lawful (pair s t) h n = two_below s i t i h.0 h.1
  piece_lawful (fst t) h n = one_below t i h
  piece_lawful (snd t) h n = one_below t i h
  piece_lawful (fn x t) h n = rw (good x n) (one_below t i h)
  piece_lawful (app s t) h n = two_below s i t i h.0 h.1
  piece_lawful (inl t) h n = one_below t i h
  piece_lawful (inr t) h n = one_below t i h
  piece_lawful (case g x s y t) h n = rw (lt-ltb g i h.0, good x n.0, lt-ltb s i h.1, good y n.1, lt-ltb t i h.2)
  piece_lawful (abort t) h n = one_below t i h
  piece_lawful (asc t f) h n = two_below t i f m h.0 h.1
  piece_lawful unit h n = refl

-- nodes of such pieces have no bad one among them
module _ (names : List (List ℕ)) (P : ℕ → Type 0) (good : (x : ℕ) → P x → lawful_name names x ≡ true) (m : ℕ) where
  node_passes : (before after : List ℕ) (p : Piece) (i : ℕ) → length before ≡ i * node_width → NodeIn m i p → NamesHave P p →
      lawful_node names m (before ++ (six_of p ++ after)) i ≡ true
  node_passes before after p i e h n =
      node_numbers names m (before ++ (six_of p ++ after)) i
      ∙ ap (λ (k : ℕ). lawful_six names m i (numbers_at (before ++ (six_of p ++ after)) (i * node_width) k)) (sym (six_length p))
      ∙ ap (lawful_six names m i) (numbers_between before (six_of p) after (i * node_width) e)
      ∙ piece_lawful names P good m i p h n

  nodes_pass : (ns : List Node) (before after : List ℕ) (i : ℕ) → length before ≡ i * node_width → NodesFrom m i ns → AllNamesHave P ns →
      bad_node_from names m (before ++ (in_numbers ns ++ after)) i (length ns) ≡ none
  unfolding bad_node_from in_numbers six
  nodes_pass [] before after i e h n = refl
  nodes_pass (x ∷ ns) before after i e h n =
      let t : List ℕ = before ++ ((six x ++ in_numbers ns) ++ after) in
      next_node names m t i (length ns)
      (ap (λ (u : List ℕ). lawful_node names m u i) (parts_here before (six x) (in_numbers ns) after)
      ∙ node_passes before (in_numbers ns ++ after) x.piece i e h.0 n.0)
      ∙ ap (λ (u : List ℕ). bad_node_from names m u (suc i) (length ns)) (parts_there before (six x) (in_numbers ns) after)
      ∙ nodes_pass ns (before ++ six x) after (suc i) (past_node before x.piece i e) h.1 n.1

-- a name that a search may use is lawful: an assumption's number below 64, or an index below 4,096 that is not skipped
good_lawful : (names : List (List ℕ)) (h u x : ℕ) → h ≤ length names → h ≤ 64 → u ≤ 4096 → GoodName (skipped names) h u x →
    lawful_name names x ≡ true
good_lawful names h u x a b c (of_assumption l) = low_name names x (omega arith) ∙ lt-ltb x (length names) (omega arith)
good_lawful names h u x a b c (generated {g} l free) =
    let e : 64 + g - 64 ≡ g = omega arith in
    high_name names (64 + g) (omega arith) (omega arith) ∙ rw (e, free)

-- what a search made passes 13, whatever stands after its nodes
pub made_nodes_pass : (names : List (List ℕ)) (h u m : ℕ) (ns : List Node) (after : List ℕ) (root : ℕ) →
    h ≤ length names → h ≤ 64 → u ≤ 4096 → NodesFrom m 0 ns → AllNamesHave (GoodName (skipped names) h u) ns → root < length ns →
    bad_term names m (in_numbers ns ++ after) (length ns) root ≡ none
made_nodes_pass names h u m ns after root a b c inside good l =
    term_passes names m (in_numbers ns ++ after) (length ns) root
    (nodes_pass names (GoodName (skipped names) h u) (λ x g. good_lawful names h u x a b c g) m ns [] after 0 refl inside good) l
