-- The piece of the term at a node, by the node's six numbers, and its fields, which lie below it. Assumes nothing.
use Prim.Native.Nat.{ℕ, zero, suc, ◌+◌, ◌-◌, ◌*◌, ◌/◌, ◌≤◌, ◌<◌}
use mathlib.Core.Path.{◌≡◌, refl, sym, ap, ap₂, subst, ◌∙◌}
use mathlib.Core.Option.{Option, none, some}
use mathlib.Core.List.{List, [], ◌∷◌, map}
use native.Mathlib.Numerals.{add-one}
use native.Mathlib.Omega.{arith}
use lib.ListN.{length, get_or, drop, drop_of_length-le, get_or-map}
use Rattle.theory.specs.Term.{Piece, blank, NodeIn}
use Rattle.theory.specs.Names.{bytes_of}
use Rattle.theory.specs.Layout.{node_width, Field, name, child, formula, unused, fields_of, piece_of, piece_at, nodes_from, nodes_in}
use Rattle.theory.specs.Text.{bytes}
use Rattle.theory.proofs.TextByNode.{piece_text, piece_depth, text_by_node, depth_by_node, node_at, node_in}
use Rattle.std.proofs.Common.{Some, None}
use Rattle.std.proofs.Common as std
use Rattle.std.proofs.lemmas.List.{nil_from_length}
use Rattle.proof_term.specs.declared.Field as declared_field
use Rattle.proof_term.specs.declared.Field.TheVariants.{Name}
use Rattle.proof_term.specs.declared.Fields.{Fields}
use Rattle.proof_term.specs.Kinds.{field_as, fields_as, keyword, keyword_as, Settles}
use Rattle.house_text.specs.Laid.{joined}
use Rattle.house_text.specs.Pieces.{up_to, book, nodes, Given, FieldIn, term_piece, field_piece}
use Rattle.house_text.proofs.Levels.{Whole}
use Rattle.house_text.proofs.NodePieces.{formula_text, formula_depth, child_text, child_depth}
use Rattle.house_text.proofs.NodePieces.{fields_piece, shown, shown_fields, shown_piece}
use Rattle.house_text.proofs.NodePieces.{front_piece, front_next, front_rest}

-- fields that all refer to formulas below m and nodes below n
abbrev FieldsIn : ℕ → ℕ → List Field → List ℕ → Type 0
FieldsIn m n [] xs = Unit {0}
FieldsIn m n (f ∷ fs) [] = Unit {0}
FieldsIn m n (f ∷ fs) (x ∷ xs) = FieldIn m n f x × FieldsIn m n fs xs

abbrev HeldIn : ℕ → ℕ → Option (List Field) → List ℕ → Type 0
HeldIn m n none xs = Unit {0}
HeldIn m n (some fs) xs = FieldsIn m n fs xs

-- the kinds one by one
held_in : (m i k a b c d e : ℕ) → NodeIn m i (piece_of k a b c d e) → HeldIn m i (fields_of k) (a ∷ b ∷ c ∷ d ∷ e ∷ [])
unfolding piece_of fields_of
held_in m i zero a b c d e h = (tt, (tt, (tt, (tt, (tt, tt)))))
held_in m i (suc zero) a b c d e h = (h.0, (h.1, (tt, (tt, (tt, tt)))))
held_in m i (suc (suc zero)) a b c d e h = (h, (tt, (tt, (tt, (tt, tt)))))
held_in m i (suc (suc (suc zero))) a b c d e h = (h, (tt, (tt, (tt, (tt, tt)))))
held_in m i (suc (suc (suc (suc zero)))) a b c d e h = (tt, (h, (tt, (tt, (tt, tt)))))
held_in m i (suc (suc (suc (suc (suc zero))))) a b c d e h = (h.0, (h.1, (tt, (tt, (tt, tt)))))
held_in m i (suc (suc (suc (suc (suc (suc zero)))))) a b c d e h = tt
held_in m i (suc (suc (suc (suc (suc (suc (suc zero))))))) a b c d e h = (h, (tt, (tt, (tt, (tt, tt)))))
held_in m i (suc (suc (suc (suc (suc (suc (suc (suc zero)))))))) a b c d e h = (h, (tt, (tt, (tt, (tt, tt)))))
held_in m i (suc (suc (suc (suc (suc (suc (suc (suc (suc zero))))))))) a b c d e h = (h.0, (tt, (h.1, (tt, (h.2, tt)))))
held_in m i (suc (suc (suc (suc (suc (suc (suc (suc (suc (suc zero)))))))))) a b c d e h = (h, (tt, (tt, (tt, (tt, tt)))))
held_in m i (suc (suc (suc (suc (suc (suc (suc (suc (suc (suc (suc zero))))))))))) a b c d e h = (h.0, (h.1, (tt, (tt, (tt, tt)))))
held_in m i (suc (suc (suc (suc (suc (suc (suc (suc (suc (suc (suc (suc zero)))))))))))) a b c d e h = (tt, (tt, (tt, (tt, (tt, tt)))))
held_in m i (suc (suc (suc (suc (suc (suc (suc (suc (suc (suc (suc (suc (suc k))))))))))))) a b c d e h = tt

-- one of them
field_in : (m n j : ℕ) (fs : List Field) (xs : List ℕ) → j < length fs → j < length xs → FieldsIn m n fs xs →
    FieldIn m n (get_or fs j name) (get_or xs j 0)
field_in m n zero [] xs h k g = absurd (omega arith)
field_in m n zero (f ∷ fs) [] h k g = absurd (omega arith)
field_in m n zero (f ∷ fs) (x ∷ xs) h k g = g.0
field_in m n (suc j) [] xs h k g = absurd (omega arith)
field_in m n (suc j) (f ∷ fs) [] h k g = absurd (omega arith)
field_in m n (suc j) (f ∷ fs) (x ∷ xs) h k g = field_in m n j fs xs (omega arith) (omega arith) g.1

-- a kind that is not refused has five
abbrev many : Option (List Field) → ℕ
many none = 5
many (some fs) = length fs

five_fields : (k : ℕ) → many (fields_of k) ≡ 5
unfolding fields_of
five_fields zero = refl
five_fields (suc zero) = refl
five_fields (suc (suc zero)) = refl
five_fields (suc (suc (suc zero))) = refl
five_fields (suc (suc (suc (suc zero)))) = refl
five_fields (suc (suc (suc (suc (suc zero))))) = refl
five_fields (suc (suc (suc (suc (suc (suc zero)))))) = refl
five_fields (suc (suc (suc (suc (suc (suc (suc zero))))))) = refl
five_fields (suc (suc (suc (suc (suc (suc (suc (suc zero)))))))) = refl
five_fields (suc (suc (suc (suc (suc (suc (suc (suc (suc zero))))))))) = refl
five_fields (suc (suc (suc (suc (suc (suc (suc (suc (suc (suc zero)))))))))) = refl
five_fields (suc (suc (suc (suc (suc (suc (suc (suc (suc (suc (suc zero))))))))))) = refl
five_fields (suc (suc (suc (suc (suc (suc (suc (suc (suc (suc (suc (suc zero)))))))))))) = refl
five_fields (suc (suc (suc (suc (suc (suc (suc (suc (suc (suc (suc (suc (suc k))))))))))))) = refl

-- what a field's call counts for, between the node that it belongs to and the child that it may be
abbrev pub weight : Field → ℕ → ℕ
weight name x = 0
weight child x = x + x + 2
weight formula x = 0
weight unused x = 0

-- a field of node i of n nodes
field_falls : (m i n : ℕ) (f : Field) (x : ℕ) → i < n → FieldIn m i f x → (weight f x < i + i + 1) × FieldIn m n f x
field_falls m i n name x h g = (omega arith, tt)
field_falls m i n child x h g = (omega arith, omega arith)
field_falls m i n formula x h g = (omega arith, omega arith)
field_falls m i n unused x h g = (omega arith, tt)

nodes_long : (t : List ℕ) (j k : ℕ) → length (nodes_from t j k) ≡ k
unfolding nodes_from
nodes_long t j zero = refl
nodes_long t j (suc k) = ap suc (nodes_long t (suc j) k)

-- node i, of which the kind k is read
pub record NodeRead (words terms : List ℕ) (i k : ℕ) : Type 0 where
  pub given : Given words terms
  pub inside : i < length terms / node_width
  pub kind : k ≡ get_or terms (i * node_width) 0

pub node_read : {words terms : List ℕ} {i k : ℕ} → Given words terms → i < length terms / node_width →
    k ≡ get_or terms (i * node_width) 0 → NodeRead words terms i k
node_read g h e = record { given = g; inside = h; kind = e }

-- a number of a node, and the five of its fields
abbrev number_at : List ℕ → ℕ → ℕ → ℕ
number_at terms i j = get_or terms (i * node_width + j) 0

abbrev pub numbers_of : List ℕ → ℕ → List ℕ
numbers_of terms i = number_at terms i 1 ∷ number_at terms i 2 ∷ number_at terms i 3 ∷ number_at terms i 4 ∷ number_at terms i 5 ∷ []

number_is : (terms : List ℕ) (i j : ℕ) → j < 5 → get_or (numbers_of terms i) j 0 ≡ get_or terms (i * node_width + 1 + j) 0
number_is terms i zero h = ap (λ (m : ℕ). get_or terms m 0) (omega arith)
number_is terms i (suc zero) h = ap (λ (m : ℕ). get_or terms m 0) (omega arith)
number_is terms i (suc (suc zero)) h = ap (λ (m : ℕ). get_or terms m 0) (omega arith)
number_is terms i (suc (suc (suc zero))) h = ap (λ (m : ℕ). get_or terms m 0) (omega arith)
number_is terms i (suc (suc (suc (suc zero)))) h = ap (λ (m : ℕ). get_or terms m 0) (omega arith)
number_is terms i (suc (suc (suc (suc (suc j))))) h = absurd (omega arith)

-- the fields as the definitions have them
abbrev pub layout_of : Fields → List Field
layout_of f = map field_as f.held

layout_five : {r : std.Option Fields} {k : ℕ} {f : Fields} → Settles r k → r ≡ Some f → length (layout_of f) ≡ 5
layout_five {r} {k} {f} h s = ap many (sym (ap fields_as s) ∙ h.layout) ∙ five_fields k

module _ {words terms : List ℕ} {i k : ℕ} (n : NodeRead words terms i k) where
  in_nodes : i < length (nodes terms)
  unfolding nodes_in
  in_nodes = subst (λ (m : ℕ). i < m) (sym (nodes_long terms 0 (length terms / node_width))) n.inside

  abbrev said : Piece
  said = piece_of k (number_at terms i 1) (number_at terms i 2) (number_at terms i 3) (number_at terms i 4) (number_at terms i 5)

  seen : (get_or (nodes terms) i blank).piece ≡ said
  unfolding piece_at
  seen =
      let number : (j : ℕ) → get_or terms (j + i * node_width) 0 ≡ number_at terms i j = λ j. ap (λ (m : ℕ). get_or terms m 0)
      (omega arith) in
      let kind : k ≡ get_or terms (i * node_width) 0 = n.kind in
      node_at terms (length terms / node_width) i n.inside ∙ cc (number 1, number 2, number 3, number 4, number 5)

  -- a field of a node lies below it
  pub field_below : {r : std.Option Fields} {f : Fields} → Settles r k → r ≡ Some f → (j : ℕ) → j < 5 →
      let what : Field = field_as (get_or f.held j Name) in
      let x : ℕ = get_or terms (i * node_width + 1 + j) 0 in
      (weight what x < i + i + 1) × FieldIn (length words) (length terms / node_width) what x
  field_below {r} {f} h s j l =
      let m : ℕ = length words in
      let here : NodeIn m i said = subst (NodeIn m i) seen (node_in m (nodes terms) n.given.lawful i in_nodes) in
      let all : FieldsIn m i (layout_of f) (numbers_of terms i) =
      subst (λ (o : Option (List Field)). HeldIn m i o (numbers_of terms i)) (sym h.layout ∙ ap fields_as s)
      (held_in m i k (number_at terms i 1) (number_at terms i 2) (number_at terms i 3) (number_at terms i 4) (number_at terms i 5) here) in
      let one : FieldIn m i (get_or (layout_of f) j name) (get_or (numbers_of terms i) j 0) =
      field_in m i j (layout_of f) (numbers_of terms i) (omega (arith, layout_five h s)) (omega arith) all in
      field_falls m i (length terms / node_width) (field_as (get_or f.held j Name)) (get_or terms (i * node_width + 1 + j) 0) n.inside
      (subst (λ (x : ℕ). FieldIn m i (field_as (get_or f.held j Name)) x) (number_is terms i j l)
      (subst (λ (w : Field). FieldIn m i w (get_or (numbers_of terms i) j 0)) (get_or-map field_as f.held j Name) one))

  module _ (names : List (List ℕ)) (levels : ℕ) (some_left : levels ≡ 0 → ⊥) where
    -- the depth and the text of what a node says
    abbrev depths : Piece → ℕ
    depths = piece_depth (child_depth words terms names) (formula_depth words terms names)

    abbrev texts : Piece → List ℕ
    texts = piece_text names (child_text words terms names) (formula_text words terms names)

    -- a piece that is that of the node's numbers is that of the term
    by_node : {p : Option (List ℕ)} → Whole p (suc (levels - 1)) (depths said) (texts said) → p ≡ term_piece words terms names levels i
    unfolding term_piece
    by_node {p} w =
        let more : suc (levels - 1) ≡ levels = omega arith in
        let depth : depths said ≡ child_depth words terms names i =
        sym (depth_by_node (book words) (nodes terms) (length words) n.given.lawful i in_nodes ∙ ap depths seen) in
        let text : texts said ≡ child_text words terms names i =
        sym (text_by_node (book words) (nodes terms) names (length words) n.given.lawful i in_nodes ∙ ap texts seen) in
        w.is ∙ ap (λ (m : ℕ). up_to m (depths said) (texts said)) more ∙ ap₂ (up_to levels) depth text

    abbrev shown_as : Option (List Field) → List ℕ → Option (List ℕ)
    shown_as =
        shown words terms names (levels - 1) (number_at terms i 1) (number_at terms i 2) (number_at terms i 3) (number_at terms i 4)
        (number_at terms i 5)

    -- the fields and the keyword that the one decision gave
    decided_piece : (o : Option (List Field)) (w : List ℕ) → fields_of k ≡ o → keyword k ≡ w →
        shown_as o w ≡ term_piece words terms names levels i
    decided_piece o w h z =
        ap₂ shown_as (sym h) (sym z)
        ∙ by_node (shown_piece words terms names (levels - 1) (number_at terms i 1) (number_at terms i 2) (number_at terms i 3)
        (number_at terms i 4) (number_at terms i 5) k)

    pub refused_piece : {r : std.Option Fields} → Settles r k → r ≡ None → some (bytes "()") ≡ term_piece words terms names levels i
    refused_piece h s = decided_piece none (keyword k) (sym h.layout ∙ ap fields_as s) refl

    module _ {r : std.Option Fields} {f : Fields} (h : Settles r k) (s : r ≡ Some f) where
      -- an Ident, which has no keyword
      pub name_piece : length f.keyword.now ≡ 0 → some (bytes_of names (number_at terms i 1)) ≡ term_piece words terms names levels i
      name_piece z =
          decided_piece (some (layout_of f)) [] (sym h.layout ∙ ap fields_as s)
          (sym h.printing ∙ ap keyword_as s ∙ nil_from_length f.keyword.now z)

      -- any other kind: its keyword and the pieces of its first fields, and the others behind them
      abbrev pub laid_front : ℕ → Option (List ℕ)
      laid_front j = front_piece words terms names (levels - 1) (some f.keyword.now) (layout_of f) (numbers_of terms i) j

      pub rest_piece : 0 < length f.keyword.now → (j : ℕ) →
          joined (laid_front j) (fields_piece words terms names (levels - 1) (drop j (layout_of f)) (drop j (numbers_of terms i))) ≡
          term_piece words terms names levels i
      rest_piece z j =
          front_rest words terms names (levels - 1) j (some f.keyword.now) (layout_of f) (numbers_of terms i)
          (omega (arith, layout_five h s))
          ∙ shown_fields words terms names (levels - 1) (number_at terms i 1) (number_at terms i 2) (number_at terms i 3)
          (number_at terms i 4) (number_at terms i 5) (layout_of f) f.keyword.now z
          ∙ decided_piece (some (layout_of f)) f.keyword.now (sym h.layout ∙ ap fields_as s) (sym h.printing ∙ ap keyword_as s)

      -- one field more
      pub field_next : (j : ℕ) → j < 5 →
          joined (laid_front j) (field_piece words terms names (levels - 1) (field_as (get_or f.held j Name))
          (get_or terms (i * node_width + 1 + j) 0)) ≡ laid_front (j + 1)
      field_next j l =
          ap₂ (λ (w : Field) (x : ℕ). joined (laid_front j) (field_piece words terms names (levels - 1) w x))
          (sym (get_or-map field_as f.held j Name)) (sym (number_is terms i j l))
          ∙ sym (front_next words terms names (levels - 1) j (some f.keyword.now) (layout_of f) (numbers_of terms i)
          (omega (arith, layout_five h s)) (omega arith))
          ∙ ap laid_front (sym (add-one j))

      -- the bracket behind all of them
      pub last_piece : 0 < length f.keyword.now → (j : ℕ) → j ≡ 5 →
          joined (laid_front j) (some (bytes ")")) ≡ term_piece words terms names levels i
      last_piece z j e =
          let few : length (layout_of f) ≤ 5 = omega (arith, layout_five h s) in
          let none_left : drop 5 (layout_of f) ≡ [] = drop_of_length-le (layout_of f) few in
          ap (λ (m : ℕ). joined (laid_front m) (some (bytes ")"))) e
          ∙ ap (λ (fs : List Field). joined (laid_front 5) (fields_piece words terms names (levels - 1) fs (drop 5 (numbers_of terms i))))
          (sym none_left)
          ∙ rest_piece z 5

-- the piece of the field that the match found, at the number that was read
pub piece_told : (words terms : List ℕ) (names : List (List ℕ)) (levels : ℕ) {x y : ℕ} {f h : declared_field.Field} → f ≡ h → x ≡ y →
    field_piece words terms names levels (field_as h) x ≡ field_piece words terms names levels (field_as f) y
piece_told words terms names levels e r =
    ap₂ (λ (k : declared_field.Field) (n : ℕ). field_piece words terms names levels (field_as k) n) (sym e) r
