-- From refusal 13 to facts: nodes that pass refer to nodes before them and to given formulas, and their names are good. Assumes nothing.
use Prim.Native.Nat.{ℕ, zero, suc, ◌+◌, ◌-◌, ◌*◌, ◌≤◌, ◌<◌}
use mathlib.Core.Path.{◌≡◌, refl, sym, subst}
use mathlib.Core.Bool.{Bool, true, false, ◌&&◌, not}
use mathlib.Core.Option.{Option, none, some}
use mathlib.Core.List.{List, [], ◌∷◌}
use native.Mathlib.Omega.{arith}
use lib.Dec.{T, leb, ltb, leb→le, ltb→lt, nltb→le}
use lib.ListN.{length, get_or}
use Rattle.theory.specs.Term.{Piece, NodeIn, NodesFrom, NamesHave, AllNamesHave}
use Rattle.theory.specs.Names.{spell, among, skipped, GoodName, of_assumption, generated}
use Rattle.theory.specs.NameText.{last_index}
use Rattle.theory.specs.Layout.{node_width, Field, name, child, formula, unused, fields_of, lawful_name, lawful_field, lawful_fields}
use Rattle.theory.specs.Layout.{lawful_node, bad_node_from, bad_term, piece_of, piece_at, nodes_from, nodes_in}
use Rattle.theory.proofs.Tests.{and_left, and_right}
use Rattle.theory.proofs.LayoutLaws.{piece_numbers}
use Rattle.theory.proofs.LawfulNodes.{first_passes}

-- a test that is refused fails
not-T→false : (b : Bool) → T (not b) → b ≡ false
not-T→false true t = absurd t
not-T→false false t = refl

module _ (names : List (List ℕ)) where
  abbrev Lawful : ℕ → Type 0
  Lawful x = GoodName (skipped names) (length names) (suc last_index) x

  lawful_name_lem : (x : ℕ) → T (lawful_name names x) → Lawful x
  unfolding lawful_name
  lawful_name_lem x t = go (ltb x 64) refl t
    where
      made : T (leb (x - 64) last_index && not (among (spell (x - 64)) (skipped names))) → Lawful (64 + (x - 64))
      made t =
          let low : x - 64 ≤ last_index = leb→le (x - 64) last_index (and_left (leb (x - 64) last_index) _ t) in
          generated {g = x - 64} (omega arith)
          (not-T→false (among (spell (x - 64)) (skipped names)) (and_right (leb (x - 64) last_index) _ t))

      go : (b : Bool) → ltb x 64 ≡ b →
          T (elim b [
            | true ↦ ltb x (length names)
            | false ↦ leb (x - 64) last_index && not (among (spell (x - 64)) (skipped names))
          ]) → Lawful x
      go true e t = of_assumption (ltb→lt x (length names) t)
      go false e t =
          let high : 64 ≤ x = nltb→le x 64 (subst (λ (b : Bool). T (not b)) (sym e) tt) in
          let back : 64 + (x - 64) ≡ x = omega arith in
          subst Lawful back (made t)

  module _ (count i : ℕ) (t : List ℕ) where
    -- what a lawful field says, and the fields from a place on
    abbrev Fact : Field → ℕ → Type 0
    Fact name x = Lawful x
    Fact child x = x < i
    Fact formula x = x < count
    Fact unused x = Unit {0}

    abbrev Facts : ℕ → List Field → Type 0
    Facts at [] = Unit {0}
    Facts at (f ∷ fs) = Fact f (get_or t at 0) × Facts (suc at) fs

    fact : (f : Field) (x : ℕ) → T (lawful_field names count i f x) → Fact f x
    unfolding lawful_field
    fact name x p = lawful_name_lem x p
    fact child x p = ltb→lt x i p
    fact formula x p = ltb→lt x count p
    fact unused x p = tt

    facts : (at : ℕ) (fs : List Field) → T (lawful_fields names count i t at fs) → Facts at fs
    unfolding lawful_fields
    facts at [] p = tt
    facts at (f ∷ fs) p =
        let now : Bool = lawful_field names count i f (get_or t at 0) in
        let rest : Bool = lawful_fields names count i t (suc at) fs in
        (fact f (get_or t at 0) (and_left now rest p), facts (suc at) fs (and_right now rest p))

    abbrev piece_from : ℕ → ℕ → Piece
    piece_from k at =
        piece_of k (get_or t at 0) (get_or t (suc at) 0) (get_or t (suc (suc at)) 0) (get_or t (suc (suc (suc at))) 0)
        (get_or t (suc (suc (suc (suc at)))) 0)

    -- the kinds one by one
    lawful_piece : (k at : ℕ) → T (elim (fields_of k) as (λ o. Bool) [ none ↦ false | some fs ↦ lawful_fields names count i t at fs ]) →
        NodeIn count i (piece_from k at) × NamesHave Lawful (piece_from k at)
    unfolding fields_of piece_of
    lawful_piece zero at p = let f = facts at _ p in (tt, f.0)
    lawful_piece (suc zero) at p = let f = facts at _ p in ((f.0, f.1.0), tt)
    lawful_piece (suc (suc zero)) at p = let f = facts at _ p in (f.0, tt)
    lawful_piece (suc (suc (suc zero))) at p = let f = facts at _ p in (f.0, tt)
    lawful_piece (suc (suc (suc (suc zero)))) at p = let f = facts at _ p in (f.1.0, f.0)
    lawful_piece (suc (suc (suc (suc (suc zero))))) at p = let f = facts at _ p in ((f.0, f.1.0), tt)
    lawful_piece (suc (suc (suc (suc (suc (suc zero)))))) at p = absurd p
    lawful_piece (suc (suc (suc (suc (suc (suc (suc zero))))))) at p = let f = facts at _ p in (f.0, tt)
    lawful_piece (suc (suc (suc (suc (suc (suc (suc (suc zero)))))))) at p = let f = facts at _ p in (f.0, tt)
    lawful_piece (suc (suc (suc (suc (suc (suc (suc (suc (suc zero))))))))) at p =
        let f = facts at _ p in ((f.0, f.1.1.0, f.1.1.1.1.0), (f.1.0, f.1.1.1.0))
    lawful_piece (suc (suc (suc (suc (suc (suc (suc (suc (suc (suc zero)))))))))) at p = let f = facts at _ p in (f.0, tt)
    lawful_piece (suc (suc (suc (suc (suc (suc (suc (suc (suc (suc (suc zero))))))))))) at p = let f = facts at _ p in ((f.0, f.1.0), tt)
    lawful_piece (suc (suc (suc (suc (suc (suc (suc (suc (suc (suc (suc (suc k)))))))))))) at p = (tt, tt)

-- one node
node_pass : (names : List (List ℕ)) (count : ℕ) (t : List ℕ) (i : ℕ) → T (lawful_node names count t i) →
    NodeIn count i (piece_at t (i * node_width)) × NamesHave (Lawful names) (piece_at t (i * node_width))
unfolding lawful_node piece_at
node_pass names count t i p =
    subst (λ (n : Piece). NodeIn count i n × NamesHave (Lawful names) n) (sym (piece_numbers t (i * node_width)))
    (lawful_piece names count i t (get_or t (i * node_width) 0) (suc (i * node_width)) p)

nodes_pass_from : (names : List (List ℕ)) (count : ℕ) (t : List ℕ) (i k : ℕ) → bad_node_from names count t i k ≡ none →
    NodesFrom count i (nodes_from t i k) × AllNamesHave (Lawful names) (nodes_from t i k)
unfolding nodes_from
nodes_pass_from names count t i zero e = (tt, tt)
nodes_pass_from names count t i (suc k) e =
    let p = first_passes names count t i k e in
    let here = node_pass names count t i p.0 in
    let more = nodes_pass_from names count t (suc i) k p.1 in
    ((here.0, more.0), (here.1, more.1))

-- nodes and a root that pass 13
pub nodes_pass : (names : List (List ℕ)) (count : ℕ) (t : List ℕ) (nodes root : ℕ) → bad_term names count t nodes root ≡ none →
    NodesFrom count 0 (nodes_in t nodes) × AllNamesHave (GoodName (skipped names) (length names) (suc last_index)) (nodes_in t nodes) ×
    (root < nodes)
unfolding bad_term nodes_in
nodes_pass names count t nodes root e = nodes_first (bad_node_from names count t 0 nodes) refl e
  where
    root_low : (b : Bool) → ltb root nodes ≡ b → ◌≡◌ {A = Option ℕ} (elim b [ true ↦ none | false ↦ some nodes ]) none → root < nodes
    root_low true p e = ltb→lt root nodes (subst T (sym p) tt)
    root_low false p e = absurd (let z : ◌≡◌ {A = ℕ} 0 1 = cc in omega arith)

    nodes_first : (o : Option ℕ) → bad_node_from names count t 0 nodes ≡ o →
        ◌≡◌ {A = Option ℕ} (elim o [ some i ↦ some i | none ↦ elim (ltb root nodes) [ true ↦ none | false ↦ some nodes ] ]) none →
        NodesFrom count 0 (nodes_from t 0 nodes) × AllNamesHave (Lawful names) (nodes_from t 0 nodes) × (root < nodes)
    nodes_first none p e =
        let v = nodes_pass_from names count t 0 nodes p in
        (v.0, v.1, root_low (ltb root nodes) refl e)
    nodes_first (some i) p e = absurd (let z : ◌≡◌ {A = ℕ} 0 1 = cc in omega arith)
