-- The piece of a node by its kind: a name, or a keyword and its fields. Assumes nothing.
use Prim.Native.Nat.{ℕ, zero, suc, ◌-◌, ◌≤◌, ◌<◌}
use mathlib.Core.Path.{◌≡◌, refl, sym, ◌∙◌}
use mathlib.Core.Option.{Option, none, some}
use mathlib.Core.List.{List, [], ◌∷◌, ◌++◌}
use native.Mathlib.Omega.{arith}
use borrow.Author.Tests.{lt-ltb, le-ltb}
use lib.ListN.{length, get_or, drop}
use Rattle.theory.specs.Form.{form}
use Rattle.theory.specs.Term.{Term, Ident, Pair, Fst, Snd, Fn, App, Inl, Inr, Case, Abort, Asc, Unit', term}
use Rattle.theory.specs.Names.{spell, bytes_of}
use Rattle.theory.specs.Layout.{Field, name, fields_of, piece_of}
use Rattle.theory.specs.Text.{bytes, form_text, term_text}
use Rattle.theory.specs.Writer.{form_depth, term_depth}
use Rattle.theory.proofs.TextByNode.{piece_text, piece_depth}
use Rattle.proof_term.specs.Kinds.{keyword}
use Rattle.house_text.specs.Laid.{joined}
use Rattle.house_text.specs.Pieces.{up_to, book, nodes, form_piece, term_piece, field_piece}
use Rattle.house_text.proofs.Laying.{joined_assoc}
use Rattle.house_text.proofs.Levels.{Whole, whole, above, alone, before_it, behind_it, beside, too_deep}

-- the bytes of a name, by the side that it stands on
pub assumed_bytes : (names : List (List ℕ)) (x : ℕ) → x < 64 → get_or names x [] ≡ bytes_of names x
unfolding bytes_of
assumed_bytes names x h = rw (lt-ltb x 64 h, bytes_of)

pub generated_bytes : (names : List (List ℕ)) (x : ℕ) → 64 ≤ x → spell (x - 64) ≡ bytes_of names x
unfolding bytes_of
generated_bytes names x h = rw (le-ltb x 64 h, bytes_of)

-- every term has a node
term_deep : (t : Term) → 0 < term_depth t
unfolding term_depth
term_deep (Ident x) = omega arith
term_deep (Pair s t) = omega arith
term_deep (Fst t) = omega arith
term_deep (Snd t) = omega arith
term_deep (Fn x t) = omega arith
term_deep (App s t) = omega arith
term_deep (Inl t) = omega arith
term_deep (Inr t) = omega arith
term_deep (Case h x s y t) = omega arith
term_deep (Abort t) = omega arith
term_deep (Asc t A) = omega arith
term_deep Unit' = omega arith

module _ (words terms : List ℕ) (names : List (List ℕ)) where
  abbrev pub formula_text : ℕ → List ℕ
  formula_text a = form_text (form (book words) a)

  abbrev pub formula_depth : ℕ → ℕ
  formula_depth a = form_depth (form (book words) a)

  abbrev pub child_text : ℕ → List ℕ
  child_text a = term_text names (term (book words) (nodes terms) a)

  abbrev pub child_depth : ℕ → ℕ
  child_depth a = term_depth (term (book words) (nodes terms) a)

  -- no level is left for a term
  pub no_term : (levels i : ℕ) → levels ≡ 0 → none ≡ term_piece words terms names levels i
  unfolding term_piece
  no_term levels i e =
      let t : Term = term (book words) (nodes terms) i in
      sym (too_deep levels (term_depth t) (term_text names t) (omega (arith, term_deep t)))

  -- the fields of a node, one behind another, and a bracket
  abbrev pub fields_piece : ℕ → List Field → List ℕ → Option (List ℕ)
  fields_piece l [] xs = some (bytes ")")
  fields_piece l (f ∷ fs) [] = some (bytes ")")
  fields_piece l (f ∷ fs) (x ∷ xs) = joined (field_piece words terms names l f x) (fields_piece l fs xs)

  module _ (l a b c d e : ℕ) where
    -- a node by what its kind's fields hold and its keyword: a name alone, or the keyword and the fields. A refused kind says nothing
    abbrev pub shown : Option (List Field) → List ℕ → Option (List ℕ)
    shown none w = some (bytes "()")
    shown (some fs) [] = some (bytes_of names a)
    shown (some fs) (x ∷ w) = joined (some (x ∷ w)) (fields_piece l fs (a ∷ b ∷ c ∷ d ∷ e ∷ []))

    pub shown_fields : (fs : List Field) (w : List ℕ) → 0 < length w →
        joined (some w) (fields_piece l fs (a ∷ b ∷ c ∷ d ∷ e ∷ [])) ≡ shown (some fs) w
    shown_fields fs [] n = absurd (omega arith)
    shown_fields fs (x ∷ w) n = refl

    -- a child, and a formula, behind a space
    abbrev child_piece : (x : ℕ) →
        Whole (joined (some (bytes " ")) (up_to l (child_depth x) (child_text x))) l (child_depth x) (bytes " " ++ child_text x)
    child_piece x = before_it (bytes " ") (whole l (child_depth x) (child_text x))

    abbrev ascribed_piece : (x : ℕ) →
        Whole (joined (some (bytes " ")) (up_to l (formula_depth x) (formula_text x))) l (formula_depth x) (bytes " " ++ formula_text x)
    ascribed_piece x = before_it (bytes " ") (whole l (formula_depth x) (formula_text x))

    -- the kinds one by one
    pub shown_piece : (k : ℕ) →
        Whole (shown (fields_of k) (keyword k)) (suc l) (piece_depth child_depth formula_depth (piece_of k a b c d e))
        (piece_text names child_text formula_text (piece_of k a b c d e))
    unfolding keyword fields_of piece_of field_piece form_piece term_piece joined bytes
    shown_piece zero = alone l (bytes_of names a)
    shown_piece (suc zero) = above (before_it (keyword 1) (beside (child_piece a) (behind_it (child_piece b) (bytes ")"))))
    shown_piece (suc (suc zero)) = above (before_it (keyword 2) (behind_it (child_piece a) (bytes ")")))
    shown_piece (suc (suc (suc zero))) = above (before_it (keyword 3) (behind_it (child_piece a) (bytes ")")))
    shown_piece (suc (suc (suc (suc zero)))) =
        above (before_it (keyword 4) (before_it (bytes " " ++ bytes_of names a) (behind_it (child_piece b) (bytes ")"))))
    shown_piece (suc (suc (suc (suc (suc zero))))) =
        above (before_it (keyword 5) (beside (child_piece a) (behind_it (child_piece b) (bytes ")"))))
    shown_piece (suc (suc (suc (suc (suc (suc zero)))))) = alone l (bytes "()")
    shown_piece (suc (suc (suc (suc (suc (suc (suc zero))))))) = above (before_it (keyword 7) (behind_it (child_piece a) (bytes ")")))
    shown_piece (suc (suc (suc (suc (suc (suc (suc (suc zero)))))))) = above (before_it (keyword 8) (behind_it (child_piece a) (bytes ")")))
    shown_piece (suc (suc (suc (suc (suc (suc (suc (suc (suc zero))))))))) =
        above (before_it (keyword 9) (beside (child_piece a) (before_it (bytes " " ++ bytes_of names b)
        (beside (child_piece c) (before_it (bytes " " ++ bytes_of names d) (behind_it (child_piece e) (bytes ")")))))))
    shown_piece (suc (suc (suc (suc (suc (suc (suc (suc (suc (suc zero)))))))))) =
        above (before_it (keyword 10) (behind_it (child_piece a) (bytes ")")))
    shown_piece (suc (suc (suc (suc (suc (suc (suc (suc (suc (suc (suc zero))))))))))) =
        above (before_it (keyword 11) (beside (child_piece a) (behind_it (ascribed_piece b) (bytes ")"))))
    shown_piece (suc (suc (suc (suc (suc (suc (suc (suc (suc (suc (suc (suc zero)))))))))))) = alone l (bytes "()")
    shown_piece (suc (suc (suc (suc (suc (suc (suc (suc (suc (suc (suc (suc (suc k))))))))))))) = alone l (bytes "()")

  -- a text, and the pieces of the first n fields behind it
  unfoldable pub front_piece : ℕ → Option (List ℕ) → List Field → List ℕ → ℕ → Option (List ℕ)
  front_piece l p fs xs zero = p
  front_piece l p [] xs (suc n) = p
  front_piece l p (f ∷ fs) [] (suc n) = p
  front_piece l p (f ∷ fs) (x ∷ xs) (suc n) = front_piece l (joined p (field_piece words terms names l f x)) fs xs n

  pub front_next : (l n : ℕ) (p : Option (List ℕ)) (fs : List Field) (xs : List ℕ) → n < length fs → n < length xs →
      front_piece l p fs xs (suc n) ≡
      joined (front_piece l p fs xs n) (field_piece words terms names l (get_or fs n name) (get_or xs n 0))
  unfolding front_piece
  front_next l zero p [] xs h k = absurd (omega arith)
  front_next l zero p (f ∷ fs) [] h k = absurd (omega arith)
  front_next l zero p (f ∷ fs) (x ∷ xs) h k = refl
  front_next l (suc n) p [] xs h k = absurd (omega arith)
  front_next l (suc n) p (f ∷ fs) [] h k = absurd (omega arith)
  front_next l (suc n) p (f ∷ fs) (x ∷ xs) h k =
      front_next l n (joined p (field_piece words terms names l f x)) fs xs (omega arith) (omega arith)

  -- behind them the other fields' pieces are laid
  pub front_rest : (l n : ℕ) (p : Option (List ℕ)) (fs : List Field) (xs : List ℕ) → length fs ≤ length xs →
      joined (front_piece l p fs xs n) (fields_piece l (drop n fs) (drop n xs)) ≡ joined p (fields_piece l fs xs)
  unfolding front_piece
  front_rest l zero p fs xs h = refl
  front_rest l (suc n) p [] xs h = refl
  front_rest l (suc n) p (f ∷ fs) [] h = absurd (omega arith)
  front_rest l (suc n) p (f ∷ fs) (x ∷ xs) h =
      front_rest l n (joined p (field_piece words terms names l f x)) fs xs (omega arith)
      ∙ joined_assoc p (field_piece words terms names l f x) (fields_piece l fs xs)
