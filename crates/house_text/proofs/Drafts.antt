-- A draft that passes its tests gives the writer words and nodes to go by; one that is refused is left as it is. Assumes nothing.
use Prim.Native.Nat.{ℕ, zero, suc, ◌+◌, ◌*◌, ◌/◌, ◌≤◌, ◌<◌}
use mathlib.Core.Path.{◌≡◌, refl, sym, ap, ap₂, subst, ◌∙◌}
use mathlib.Core.Option.{Option, none, some}
use mathlib.Core.List.{List, ◌∷◌}
use native.Mathlib.Omega.{arith}
use lib.Dec.{leb, leb→le}
use lib.ListN.{length, get_or, take}
use lib.Seq.{length-take-le, get_or-take}
use Rattle.theory.specs.Term.{Node, NodesFrom, node, assumed, term}
use Rattle.theory.specs.NameText.{names_in, Written}
use Rattle.theory.specs.Layout.{node_width, piece_at, nodes_from, nodes_in}
use Rattle.theory.specs.Refusal.{Refused, fault_number, formula_sizes, term_sizes, node_sizes}
use Rattle.theory.specs.Writer.{Draft, writer_refusal, drafted, text_fitted, not_written, written}
use Rattle.theory.proofs.Passing.{formula_sizes_lem}
use Rattle.theory.proofs.Tests.{and_left, and_right}
use Rattle.theory.proofs.Words.{decodes}
use Rattle.theory.proofs.WriterPass.{Drafted, draft_passes}
use Rattle.identifier_generator.specs.Handed.{Hands}
use Rattle.house_text.specs.Pieces.{book, nodes, Given}
use Rattle.house_text.proofs.WholeText.{text_front}

-- the nodes of a front that holds them all
piece_taken : (t : List ℕ) (m at : ℕ) → at + node_width ≤ m → piece_at (take m t) at ≡ piece_at t at
unfolding piece_at
piece_taken t m at h =
    let number : (j : ℕ) → j < m → get_or (take m t) j 0 ≡ get_or t j 0 = λ j l. get_or-take m t j 0 l in
    cc (
      number at (omega arith),
      number (1 + at) (omega arith),
      number (2 + at) (omega arith),
      number (3 + at) (omega arith),
      number (4 + at) (omega arith),
      number (5 + at) (omega arith),
    )

nodes_taken : (t : List ℕ) (m j k : ℕ) → (j + k) * node_width ≤ m → nodes_from (take m t) j k ≡ nodes_from t j k
unfolding nodes_from
nodes_taken t m j zero h = refl
nodes_taken t m j (suc k) h =
    ap₂ {C = List Node} (λ p ns. node assumed p ∷ ns) (piece_taken t m (j * node_width) (omega arith))
    (nodes_taken t m (suc j) k (omega arith))

module _ (x : Draft) where
  abbrev by_refusal : Option Refused → Written
  by_refusal o = elim o [
    | none ↦ text_fitted (names_in x.text) (drafted x) (length x.buffer)
    | some r ↦ not_written x r
  ]

  -- a refused draft
  pub refused_hands : (r : Refused) → some r ≡ writer_refusal x →
      Hands (written x) 0 (fault_number r.fault) x.buffer × (r.place ≡ (written x).place)
  unfolding written not_written
  refused_hands r e =
      let as_refused : by_refusal (some r) ≡ written x = ap by_refusal e in (
        record {
          size_is = ap (λ (w : Written). length w.part) as_refused;
          number_is = ap (λ (w : Written). w.number) as_refused;
          buffer_is = ap (λ (w : Written). w.buffer) as_refused;
        },
        ap (λ (w : Written). w.place) as_refused,
      )

  module _ (passed : writer_refusal x ≡ none) where
    given : Drafted x
    given = draft_passes x passed

    abbrev words : List ℕ
    words = take x.count x.words

    abbrev numbers : List ℕ
    numbers = take (x.nodes * node_width) x.terms

    -- the words and the numbers are there
    pub words_there : x.count ≤ length x.words
    words_there =
        (formula_sizes_lem (length x.words) x.count
        (and_left (formula_sizes (length x.words) x.count) (node_sizes (length x.terms) x.nodes) given.sizes)).1

    pub numbers_there : x.nodes * node_width ≤ length x.terms
    unfolding node_sizes
    numbers_there =
        leb→le (x.nodes * node_width) (length x.terms)
        (and_right (term_sizes (length x.terms)) (leb (x.nodes * node_width) (length x.terms))
        (and_right (formula_sizes (length x.words) x.count) (node_sizes (length x.terms) x.nodes) given.sizes))

    many : length numbers / node_width ≡ x.nodes
    many = omega (arith, length-take-le (x.nodes * node_width) x.terms numbers_there)

    same_nodes : nodes numbers ≡ nodes_in x.terms x.nodes
    unfolding nodes_in
    same_nodes =
        ap (nodes_from numbers 0) many ∙ nodes_taken x.terms (x.nodes * node_width) 0 x.nodes (omega arith)

    pub parts_given : Given words numbers
    parts_given = record {
      formulas = record { good = decodes words given.words };
      lawful =
          subst (λ (n : ℕ). NodesFrom n 0 (nodes numbers)) (sym (length-take-le x.count x.words words_there))
          (subst (NodesFrom x.count 0) (sym same_nodes) given.nodes);
    }

    pub root_there : x.root < length numbers / node_width
    root_there = omega (arith, many, given.root)

    as_text : text_fitted (names_in x.text) (term (book words) (nodes numbers) x.root) (length x.buffer) ≡ written x
    unfolding written drafted
    as_text =
        ap (λ (ns : List Node). text_fitted (names_in x.text) (term (book words) ns x.root) (length x.buffer)) same_nodes
        ∙ ap by_refusal (sym passed)

    -- a draft that passes
    pub passed_hands : {size number : ℕ} {buffer : List ℕ} →
        Hands (text_fitted (names_in x.text) (term (book words) (nodes numbers) x.root) (length x.buffer)) size number buffer →
        Hands (written x) size number buffer
    passed_hands {size} {number} {buffer} h = subst (λ (w : Written). Hands w size number buffer) as_text h

    pub passed_place : 0 ≡ (written x).place
    passed_place =
        sym (text_front (names_in x.text) (term (book words) (nodes numbers) x.root) (length x.buffer)).0
        ∙ ap (λ (w : Written). w.place) as_text
