-- What a proved call returns decodes to what its search found, and so its term derives the goal. Assumes nothing.
use Prim.Native.Nat.{ℕ, suc, ◌≤◌, ◌<◌}
use mathlib.Core.Path.{◌≡◌, refl, sym, ap, ap₂, ◌∙◌, subst}
use mathlib.Core.Option.{none}
use mathlib.Core.List.{List, [], ◌∷◌, ◌++◌, map, map-append}
use native.Mathlib.Omega.{arith}
use lib.ListN.{length, get_or, take}
use Rattle.theory.specs.Form.{Book, form, Good, shape, word, bad_word, Ext}
use Rattle.theory.specs.Term.{Term, Node, Unit', term_of, grow_terms, term, Derives, NodesFrom, AllNamesHave}
use Rattle.theory.specs.NameText.{names_in, padded}
use Rattle.theory.specs.Names.{skipped, GoodName}
use Rattle.theory.specs.Meter.{fits}
use Rattle.theory.specs.Layout.{bad_term, nodes_in, in_numbers}
use Rattle.theory.specs.Written.{assumptions}
use Rattle.theory.specs.Call.{Claim, search_limits, given_words, given_book, searched, called}
use Rattle.theory.proofs.Words.{encodes, AllPack, shape_word}
use Rattle.theory.proofs.Alike.{AllImply}
use Rattle.theory.proofs.WordsPass.{later_pack, found_words_pass}
use Rattle.theory.proofs.LayoutLaws.{unruled, numbers_nodes}
use Rattle.theory.proofs.MadeNodes.{made_nodes_pass}
use Rattle.theory.proofs.Named.{names_good}
use Rattle.theory.proofs.Main.{sound}
use Rattle.theory.proofs.Room.{Kept}
use Rattle.theory.specs.Owed.{Passes}
use Rattle.theory.proofs.Passing.{passes}
use Rattle.theory.proofs.Called.{Proves}
use Rattle.theory.proofs.Slices.{proved_state, proved_within, starts_within, proved_terms, front_words}

-- the words of shapes that they can hold say these shapes
words_back : (vs : Book) → AllPack vs → map shape (map word vs) ≡ vs
words_back [] p = refl
words_back (v ∷ vs) p = ap₂ ◌∷◌ (shape_word v p.0) (words_back vs p.1)

-- words that pass, and implications after their shapes
book_back : (ws : List ℕ) (vs : Book) → bad_word ws ≡ none → AllImply vs → Good (map shape ws ++ vs) → length (map shape ws ++ vs) ≤ 16384 →
    map shape (map word (map shape ws ++ vs)) ≡ map shape ws ++ vs
book_back ws vs p i g h =
    ap (map shape) (map-append word (map shape ws) vs) ∙ map-append shape (map word (map shape ws)) (map word vs)
    ∙ ap₂ ◌++◌ (ap (map shape) (encodes ws p)) (words_back vs (later_pack ws vs i g h).1)

-- a term's tree does not tell the rules
unruled_grow : (ws : Book) (done : List Term) (ns : List Node) → grow_terms ws done (unruled ns) ≡ grow_terms ws done ns
unfolding grow_terms
unruled_grow ws done [] = refl
unruled_grow ws done (n ∷ ns) = unruled_grow ws (done ++ (term_of ws done n.piece ∷ [])) ns

unruled_term : (ws : Book) (ns : List Node) (i : ℕ) → term ws (unruled ns) i ≡ term ws ns i
unfolding term
unruled_term ws ns i = ap (λ (ts : List Term). get_or ts i Unit') (unruled_grow ws [] ns)

module _ (x : Claim) {r n u f t : ℕ} (h : Proves x r n u f t) where
  p : Passes x
  p = passes x h.passed

  -- what the search's theorems say of what it found
  pub sound_search : (r < length h.state.nodes) × Ext (given_book x) h.state.words × Good h.state.words ×
      NodesFrom (length h.state.words) 0 h.state.nodes ×
      Derives (assumptions (given_book x) 0 x.assumed) (term h.state.words h.state.nodes r) (form (given_book x) x.goal)
  unfolding searched
  sound_search =
      sound (search_limits x) (names_in x.text) (suc x.step_limit) (given_book x) x.assumed x.goal p.good p.ins p.goal
      p.few r h.state h.is

  few_words : length h.state.words ≤ 16384
  few_words = omega (arith, h.formulas, (proved_within x h).formulas, p.few_words)

  -- the returned words decode to the words that were found
  pub words_decode : map shape (take f (called x).words) ≡ h.state.words
  unfolding given_book
  words_decode =
      let k : Kept (search_limits x) (given_book x) h.state = proved_state x h in
      ap (map shape) (front_words x h)
      ∙ subst (λ (b : Book). map shape (map word b) ≡ b) (sym k.is)
      (book_back (given_words x) k.more p.words k.imply (subst Good k.is sound_search.2)
      (subst (λ (b : Book). length b ≤ 16384) k.is few_words))

  -- and they pass 2
  pub words_pass : bad_word (take f (called x).words) ≡ none
  unfolding searched given_book search_limits
  words_pass =
      ap bad_word (front_words x h)
      ∙ found_words_pass (search_limits x) (names_in x.text) (suc x.step_limit) (given_words x) x.assumed x.goal p.words p.ins
      p.goal (starts_within x h.passed) (length x.words) refl p.few_words r h.state h.is

  -- the returned numbers decode to the nodes that were found
  pub nodes_decode : nodes_in (called x).terms t ≡ unruled h.state.nodes
  unfolding padded
  nodes_decode =
      ap (λ (ts : List ℕ). nodes_in ts t) (proved_terms x h)
      ∙ ap (λ (k : ℕ). nodes_in (padded (length x.terms) (in_numbers h.state.nodes)) k) (sym h.terms)
      ∙ numbers_nodes h.state.nodes _

  -- so the returned term is the term that was found
  pub term_decode : term (map shape (take f (called x).words)) (nodes_in (called x).terms t) r ≡
      term h.state.words h.state.nodes r
  term_decode =
      ap₂ (λ (ws : Book) (ns : List Node). term ws ns r) words_decode nodes_decode ∙ unruled_term h.state.words h.state.nodes r

  -- the names in the returned nodes are good
  pub names_returned : AllNamesHave (GoodName (skipped (names_in x.text)) (length x.assumed) u) h.state.nodes
  unfolding searched search_limits fits
  names_returned =
      subst (λ (k : ℕ). AllNamesHave (GoodName (skipped (names_in x.text)) (length x.assumed) k) h.state.nodes) h.used
      (names_good (search_limits x) (names_in x.text) (suc x.step_limit) (given_book x) x.assumed x.goal tt r h.state
      h.is).0

  -- and they pass 13 in the slice that comes back
  pub nodes_pass : bad_term (names_in x.text) f (called x).terms t r ≡ none
  unfolding padded
  nodes_pass =
      subst (λ (m : ℕ). bad_term (names_in x.text) m (called x).terms t r ≡ none) h.formulas
      (subst (λ (ts : List ℕ). bad_term (names_in x.text) (length h.state.words) ts t r ≡ none) (sym (proved_terms x h))
      (subst (λ (k : ℕ). bad_term (names_in x.text) (length h.state.words)
      (padded (length x.terms) (in_numbers h.state.nodes)) k r ≡ none) h.terms
      (made_nodes_pass (names_in x.text) (length x.assumed) u (length h.state.words) h.state.nodes _ r
      (omega (arith, p.named)) p.few (proved_within x h).indices sound_search.3 names_returned sound_search.0)))
