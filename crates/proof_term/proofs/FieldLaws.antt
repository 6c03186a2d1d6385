-- How the code's judgement of a node says what the definitions say. Assumes nothing.
use Prim.Native.Nat.{ℕ, suc, ◌+◌, ◌*◌}
use mathlib.Core.Path.{◌≡◌, refl, sym, ap, ap₂, ◌∙◌}
use mathlib.Core.Bool.{Bool, false, ◌&&◌}
use mathlib.Core.Option.{none, some}
use mathlib.Core.List.{List, [], ◌∷◌, map}
use native.Mathlib.Omega.{arith}
use lib.ListN.{get_or}
use Rattle.std.specs.Prelude.{Some, None}
use Rattle.std.specs.declared.option.Option.{Option}
use Rattle.std.specs.List.{list_all, enumerate_from}
use Rattle.theory.specs.Layout.{node_width, fields_of, lawful_field, lawful_fields, lawful_node}
use Rattle.proof_term.specs.declared.Field.{Field}
use Rattle.proof_term.specs.declared.Fields.{Fields}
use Rattle.proof_term.specs.Kinds.{field_as, fields_as, Settles}

module _ (names : List (List ℕ)) (count : ℕ) (t : List ℕ) (i : ℕ) where
  -- a kind that is refused breaks the layout
  pub kind_refused : {r : Option Fields} {k : ℕ} → Settles r k → k ≡ get_or t (i * node_width) 0 → r ≡ None →
      false ≡ lawful_node names count t i
  unfolding lawful_node
  kind_refused e h f =
      let q : fields_of (get_or t (i * node_width) 0) ≡ none = ap fields_of (sym h) ∙ sym e.layout ∙ ap fields_as f in
      rw (q, lawful_node)

  -- what the code tests of a field and its place among the five
  abbrev pub field_kept : ℕ × Field → Bool
  field_kept p = lawful_field names count i (field_as p.1) (get_or t (i * node_width + 1 + p.0) 0)

  fields_judged : (fs : List Field) (k : ℕ) → list_all field_kept (enumerate_from k fs) ≡
      lawful_fields names count i t (suc (i * node_width + k)) (map field_as fs)
  unfolding lawful_fields
  fields_judged [] k = refl
  fields_judged (f ∷ fs) k =
      ap₂ ◌&&◌ (ap (λ (j : ℕ). lawful_field names count i (field_as f) (get_or t j 0)) (omega arith))
      (fields_judged fs (k + 1) ∙ ap (λ (j : ℕ). lawful_fields names count i t j (map field_as fs)) (omega arith))

  -- a kind that is not refused keeps the layout where its five fields do
  pub node_judged : {r : Option Fields} {k : ℕ} {f : Fields} → Settles r k → k ≡ get_or t (i * node_width) 0 → r ≡ Some f →
      list_all field_kept (enumerate_from 0 f.held) ≡ lawful_node names count t i
  unfolding lawful_node
  node_judged {r} {k} {f} h l e =
      let q : fields_of (get_or t (i * node_width) 0) ≡ some (map field_as f.held) =
      ap fields_of (sym l) ∙ sym h.layout ∙ ap fields_as e in
      rw (q, lawful_node) (fields_judged f.held 0 ∙ ap (λ (j : ℕ). lawful_fields names count i t j (map field_as f.held)) (omega arith))
