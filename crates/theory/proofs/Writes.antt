-- The writer's call: when it writes and when it answers 12, that its buffer keeps its length, and that it takes what a search returned.
-- Assumes nothing.
use Prim.Native.Nat.{ℕ, ◌*◌, ◌≤◌, ◌<◌}
use mathlib.Core.Path.{◌≡◌, refl, sym, ap, ◌∙◌, subst}
use mathlib.Core.Bool.{Bool, true, false}
use mathlib.Core.Option.{Option, none, some}
use mathlib.Core.Logic.{◌⊎◌, inl, inr}
use mathlib.Core.List.{List, []}
use native.Mathlib.Omega.{arith}
use native.Mathlib.Decide.{dec_le}
use borrow.Author.Tests.{leb-true, le-leb, lt-leb}
use lib.Dec.{T, leb, le→leb}
use lib.ListN.{length, replicate, length-replicate}
use Rattle.theory.specs.NameText.{names_in, padded, Written, emptied, fitted, last_index, name_alone}
use Rattle.theory.specs.Names.{spell}
use Rattle.theory.specs.Layout.{node_width}
use Rattle.theory.specs.Text.{term_text}
use Rattle.theory.specs.Refusal.{Sizes, BadFormula, BadAssumption, BadNames, BadTerm, Refused, formula_sizes, term_sizes, node_sizes}
use Rattle.theory.specs.Writer.{term_depth, Draft, draft_after, writer_refusal, drafted, text_fitted, not_written, written}
use Rattle.theory.specs.Call.{Claim, called}
use Rattle.theory.specs.Owed.{Passes}
use Rattle.theory.proofs.Tests.{and_T}
use Rattle.theory.proofs.Fitted.{Front, whole, whole_front, emptied_front, padded_length}
use Rattle.theory.proofs.Passing.{none_or, none_fault, none_unless, few_enough, term_part, passes}
use Rattle.theory.proofs.Called.{Proves}
use Rattle.theory.proofs.Slices.{ProvedWithin, proved_within, lengths}
use Rattle.theory.proofs.Returned.{words_pass, nodes_pass}

-- a text that fits is written, and zeros after it
text_fits : (text : List ℕ) (room : ℕ) → length text ≤ room → fitted text room ≡ whole text room
unfolding fitted
text_fits text room h = rw (le-leb (length text) room h, fitted)

text_long : (text : List ℕ) (room : ℕ) → room < length text → fitted text room ≡ emptied 12 room
unfolding fitted
text_long text room h = rw (lt-leb (length text) room h, fitted)

module _ (x : Draft) where
  -- a draft is refused, which changes nothing, or its text is fitted into the buffer
  pub passed_draft : writer_refusal x ≡ none → written x ≡ text_fitted (names_in x.text) (drafted x) (length x.buffer)
  unfolding written
  passed_draft e = rw (e, written)

  pub refused_draft : {r : Refused} → writer_refusal x ≡ some r → written x ≡ not_written x r
  unfolding written
  refused_draft e = rw (e, written)

  module _ (e : writer_refusal x ≡ none) where
    -- a text that is neither too deep nor too long is written
    pub writes : term_depth (drafted x) ≤ 1024 → length (term_text (names_in x.text) (drafted x)) ≤ length x.buffer →
        written x ≡ record {
          number = 0;
          place = 0;
          part = term_text (names_in x.text) (drafted x);
          buffer = padded (length x.buffer) (term_text (names_in x.text) (drafted x));
        }
    unfolding text_fitted
    writes h k = passed_draft e ∙ rw (le-leb (term_depth (drafted x)) 1024 h, text_fitted)
        (text_fits (term_text (names_in x.text) (drafted x)) (length x.buffer) k)

    pub too_deep : 1024 < term_depth (drafted x) → written x ≡ emptied 12 (length x.buffer)
    unfolding text_fitted
    too_deep h = passed_draft e ∙ rw (lt-leb (term_depth (drafted x)) 1024 h, text_fitted)

    pub too_long : length x.buffer < length (term_text (names_in x.text) (drafted x)) → written x ≡ emptied 12 (length x.buffer)
    unfolding text_fitted
    too_long h = passed_draft e ∙ go (leb (term_depth (drafted x)) 1024)
      where
        go : (b : Bool) → ◌≡◌ {A = Written} (elim b [
          | true ↦ fitted (term_text (names_in x.text) (drafted x)) (length x.buffer)
          | false ↦ emptied 12 (length x.buffer)
        ]) (emptied 12 (length x.buffer))
        go true = text_long (term_text (names_in x.text) (drafted x)) (length x.buffer) h
        go false = refl

    -- and so there is no third way out
    pub writes_or_12 : ((written x).number ≡ 0) ⊎ ((written x).number ≡ 12)
    unfolding emptied
    writes_or_12 = go (dec_le (term_depth (drafted x)) 1024) (dec_le (length (term_text (names_in x.text) (drafted x))) (length x.buffer))
      where
        go : Dec (term_depth (drafted x) ≤ 1024) → Dec (length (term_text (names_in x.text) (drafted x)) ≤ length x.buffer) →
            ((written x).number ≡ 0) ⊎ ((written x).number ≡ 12)
        go (yes h) (yes k) = inl (ap (λ (w : Written). w.number) (writes h k))
        go (yes h) (no k) = inr (ap (λ (w : Written). w.number) (too_long (omega arith)))
        go (no h) k = inr (ap (λ (w : Written). w.number) (too_deep (omega arith)))

-- a text in a buffer of that room leaves it as long
fitted_length : (text : List ℕ) (room : ℕ) → length (fitted text room).buffer ≡ room
unfolding fitted emptied
fitted_length text room = go (leb (length text) room) refl
  where
    go : (b : Bool) → leb (length text) room ≡ b → length (elim b as (λ z. Written) [
      | true ↦ record { number = 0; place = 0; part = text; buffer = padded room text }
      | false ↦ record { number = 12; place = 0; part = []; buffer = replicate room 0 }
    ]).buffer ≡ room
    go true e = padded_length text room (leb-true (length text) room e)
    go false e = length-replicate room 0

pub name_length : (i room : ℕ) → length (name_alone i room).buffer ≡ room
unfolding name_alone emptied
name_length i room = go (leb i last_index)
  where
    go : (b : Bool) → length (elim b as (λ z. Written) [ true ↦ fitted (spell i) room | false ↦ emptied 7 room ]).buffer ≡ room
    go true = fitted_length (spell i) room
    go false = length-replicate room 0

-- the writer's buffer keeps its length
pub buffer_length : (x : Draft) → length (written x).buffer ≡ length x.buffer
unfolding text_fitted not_written emptied
buffer_length x = start (writer_refusal x) refl
  where
    text : (b : Bool) → length (elim b as (λ z. Written) [
      | true ↦ fitted (term_text (names_in x.text) (drafted x)) (length x.buffer)
      | false ↦ emptied 12 (length x.buffer)
    ]).buffer ≡ length x.buffer
    text true = fitted_length (term_text (names_in x.text) (drafted x)) (length x.buffer)
    text false = length-replicate (length x.buffer) 0

    start : (o : Option Refused) → writer_refusal x ≡ o → length (written x).buffer ≡ length x.buffer
    start none e = ap (λ (w : Written). length w.buffer) (passed_draft x e) ∙ text (leb (term_depth (drafted x)) 1024)
    start (some r) e = ap (λ (w : Written). length w.buffer) (refused_draft x e)

-- the written part is the front of the buffer
fitted_front : (text : List ℕ) (room : ℕ) → Front (fitted text room)
unfolding fitted
fitted_front text room = go (leb (length text) room) refl
  where
    go : (b : Bool) → leb (length text) room ≡ b → Front (elim b as (λ z. Written) [ true ↦ whole text room | false ↦ emptied 12 room ])
    go true e = whole_front text room (leb-true (length text) room e)
    go false e = emptied_front 12 room

pub written_front : (x : Draft) → Front (written x)
unfolding text_fitted not_written
written_front x = start (writer_refusal x) refl
  where
    text : (b : Bool) → Front (elim b as (λ z. Written) [
      | true ↦ fitted (term_text (names_in x.text) (drafted x)) (length x.buffer)
      | false ↦ emptied 12 (length x.buffer)
    ])
    text true = fitted_front (term_text (names_in x.text) (drafted x)) (length x.buffer)
    text false = emptied_front 12 (length x.buffer)

    start : (o : Option Refused) → writer_refusal x ≡ o → Front (written x)
    start none e = subst Front (sym (passed_draft x e)) (text (leb (term_depth (drafted x)) 1024))
    start (some r) e = subst Front (sym (refused_draft x e)) (record { long = omega arith; front = refl })

-- what a proved call leaves is refused by none of the writer's tests
pub draft_passes : (x : Claim) {r n u f t : ℕ} → Proves x r n u f t → (buffer : List ℕ) → writer_refusal (draft_after x r f t buffer) ≡ none
unfolding writer_refusal draft_after formula_sizes node_sizes
draft_passes x {r} {n} {u} {f} {t} h buffer =
    let p : Passes x = passes x h.passed in
    let w : ProvedWithin x n u f t = proved_within x h in
    let a : length (called x).words ≡ length x.words = (lengths x).0 in
    let b : length (called x).terms ≡ length x.terms = (lengths x).1 in
    none_or _ _ (none_fault Sizes _ (none_unless _
    (and_T (formula_sizes (length (called x).words) f) (node_sizes (length (called x).terms) t)
    (and_T (leb (length (called x).words) 16384) (leb f (length (called x).words))
    (le→leb (length (called x).words) 16384 (omega (arith, p.few_words)))
    (le→leb f (length (called x).words) (omega (arith, w.formulas))))
    (and_T (term_sizes (length (called x).terms)) (leb (t * node_width) (length (called x).terms))
    (subst (λ (k : ℕ). T (term_sizes k)) (sym b) (term_part x p.sizes))
    (le→leb (t * node_width) (length (called x).terms) (omega (arith, w.terms)))))))
    (none_or _ _ (none_fault BadFormula _ (words_pass x h))
    (none_or _ _ (none_fault BadAssumption _ (few_enough (length x.assumed) p.few))
    (none_or _ _ (none_fault BadNames _ p.names) (none_fault BadTerm _ (nodes_pass x h)))))
