-- From the laid text to what the writer hands back. Assumes nothing.
use Prim.Native.Nat.{ℕ, ◌-◌, ◌≤◌}
use mathlib.Core.Path.{◌≡◌, refl, sym, ap, ◌∙◌}
use mathlib.Core.Bool.{Bool, true, false}
use mathlib.Core.Option.{Option, none, some}
use mathlib.Core.List.{List, ◌++◌}
use native.Mathlib.Omega.{arith}
use borrow.Author.Tests.{leb-true}
use lib.Dec.{leb}
use lib.ListN.{length, take, replicate}
use lib.Seq.{length-take-le}
use Rattle.theory.specs.Term.{Term, term}
use Rattle.theory.specs.NameText.{names_in, padded, Written, emptied, fitted}
use Rattle.theory.specs.Refusal.{Refused}
use Rattle.theory.specs.Text.{term_text}
use Rattle.theory.specs.Writer.{Draft, writer_refusal, drafted, term_depth, text_fitted, not_written, written}
use Rattle.theory.proofs.Cleared.{padded_take}
use Rattle.theory.proofs.Fitted.{Front, whole, whole_front, emptied_front}
use Rattle.std.proofs.Common.{Some, None}
use Rattle.std.proofs.Common as std
use Rattle.std.specs.Option.{unwrap_or, ok_or}
use Rattle.identifier_generator.specs.Handed.{Hands, size_in, number_in}
use Rattle.identifier_generator.proofs.Handing.{hands_nothing, hands_text}
use Rattle.house_text.specs.declared.TextRefusal.TheVariants.{NoRoom}
use Rattle.house_text.specs.Drafted.{number_of, place_of}
use Rattle.house_text.specs.Laid.{within, front_in, Laid}
use Rattle.house_text.specs.Pieces.{up_to, book, nodes, term_piece}
use Rattle.house_text.proofs.Laying.{front_at, joined_front}

-- what a text is handed back as, or 12 where there is none
abbrev handed_back : ℕ → Option (List ℕ) → Written
handed_back room none = emptied 12 room
handed_back room (some x) = whole x room

-- a text that is short enough, of a tree that is not too deep
text_fitted_lem : (names : List (List ℕ)) (t : Term) (room : ℕ) →
    text_fitted names t room ≡ handed_back room (within room (up_to 1024 (term_depth t) (term_text names t)))
unfolding text_fitted fitted within up_to
text_fitted_lem names t room = go (leb (term_depth t) 1024)
  where
    short : (b : Bool) → elim b as (λ c. Written) [ true ↦ whole (term_text names t) room | false ↦ emptied 12 room ] ≡
        handed_back room (elim b as (λ c. Option (List ℕ)) [ true ↦ some (term_text names t) | false ↦ none ])
    short true = refl
    short false = refl

    go : (b : Bool) → elim b as (λ c. Written) [ true ↦ fitted (term_text names t) room | false ↦ emptied 12 room ] ≡
        handed_back room (within room (elim b as (λ c. Option (List ℕ)) [ true ↦ some (term_text names t) | false ↦ none ]))
    go true = short (leb (length (term_text names t)) room)
    go false = refl

module _ (words terms : List ℕ) (names : List (List ℕ)) (root : ℕ) (b : List ℕ) where
  abbrev text : Written
  text = text_fitted names (term (book words) (nodes terms) root) (length b)

  -- what stands in front of the end is what is handed back
  handed : {b₁ : List ℕ} {r : std.Option ℕ} → Laid (term_piece words terms names 1024 root) b 0 b₁ r →
      text ≡ handed_back (length b) (front_in b₁ r)
  unfolding term_piece
  handed {b₁} {r} g =
      text_fitted_lem names (term (book words) (nodes terms) root) (length b)
      ∙ ap (handed_back (length b)) (sym (g.front ∙ ap (within (length b)) (joined_front b (term_piece words terms names 1024 root))))

  -- the text is cleared behind its end, or all of the buffer where there is no end
  pub hands_laid : (r : std.Option ℕ) {b₁ b₂ : List ℕ} → Laid (term_piece words terms names 1024 root) b 0 b₁ r →
      b₂ ≡ take (unwrap_or r 0) b₁ ++ replicate (length b₁ - unwrap_or r 0) 0 →
      Hands text (size_in (ok_or r NoRoom)) (number_in number_of (ok_or r NoRoom)) b₂
  hands_laid None {b₁} {b₂} g z =
      let all : length b₁ - 0 ≡ length b = omega (arith, g.long) in
      hands_nothing 12 (length b) (handed g) (z ∙ ap (λ (n : ℕ). replicate n 0) all)
  hands_laid (Some end) {b₁} {b₂} g z =
      let inside : end ≤ length b₁ = omega (arith, g.inside (omega arith), g.long) in
      hands_text (take end b₁) (length b) (handed g ∙ ap (handed_back (length b)) (front_at b₁ end inside))
      (sym (length-take-le end b₁ inside)) (z ∙ padded_take b₁ end ∙ ap (λ (n : ℕ). padded n (take end b₁)) g.long)

-- whether it has room or not, nothing is refused at a place
pub no_place : (r : std.Option ℕ) → number_in place_of (ok_or r NoRoom) ≡ 0
no_place None = refl
no_place (Some end) = refl

-- a text is handed back at place 0, as the front of its buffer
fitted_front : (x : List ℕ) (room : ℕ) → ((fitted x room).place ≡ 0) × Front (fitted x room)
unfolding fitted emptied
fitted_front x room = go (leb (length x) room) refl
  where
    go : (b : Bool) → leb (length x) room ≡ b →
        ((elim b as (λ c. Written) [ true ↦ whole x room | false ↦ emptied 12 room ]).place ≡ 0)
        × Front (elim b as (λ c. Written) [ true ↦ whole x room | false ↦ emptied 12 room ])
    go true e = (refl, whole_front x room (leb-true (length x) room e))
    go false e = (refl, emptied_front 12 room)

pub text_front : (names : List (List ℕ)) (t : Term) (room : ℕ) → ((text_fitted names t room).place ≡ 0) × Front (text_fitted names t room)
unfolding text_fitted emptied
text_front names t room = go (leb (term_depth t) 1024)
  where
    go : (b : Bool) →
        ((elim b as (λ c. Written) [ true ↦ fitted (term_text names t) room | false ↦ emptied 12 room ]).place ≡ 0)
        × Front (elim b as (λ c. Written) [ true ↦ fitted (term_text names t) room | false ↦ emptied 12 room ])
    go true = fitted_front (term_text names t) room
    go false = (refl, emptied_front 12 room)

-- what is written is the front of the buffer, whether it is refused or not
pub written_front : (x : Draft) → Front (written x)
unfolding written not_written
written_front x = go (writer_refusal x)
  where
    go : (o : Option Refused) →
        Front (elim o as (λ c. Written) [
          | none ↦ text_fitted (names_in x.text) (drafted x) (length x.buffer)
          | some r ↦ not_written x r
        ])
    go none = (text_front (names_in x.text) (drafted x) (length x.buffer)).1
    go (some r) = record { long = omega arith; front = refl }
