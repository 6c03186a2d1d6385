-- The places that refusals name: the lowest or first thing that is at fault, and all before it in order. Assumes nothing.
use Rattle.std.specs.Prelude.{ℕ, zero, suc, ◌≤◌, ◌<◌, ◌≡◌, false, ◌≢◌, List, [], T, length, get_or, take}
use Rattle.std.proofs.Math.Option.{none, some}
use Rattle.theory.specs.Form.{is_leaf, shape, good_word, bad_word}
use Rattle.theory.specs.NameText.{cut_entry, names_in, lawful_after}
use Rattle.theory.specs.Layout.{lawful_node}
use Rattle.theory.specs.WellFormed.{LeafKind}

-- 2: "lowest word that breaks the layout", or whose leaf symbol stands lower under another leaf kind
pub record LowestWord (ws : List ℕ) (i : ℕ) : Type 0 where
  pub inside : i < length ws
  pub breaks : good_word (take i ws) (get_or ws i 0) ≡ false
  pub before : (j : ℕ) → j < i → T (good_word (take j ws) (get_or ws j 0))

-- the leaf symbol of word i "stands at a lower index under another leaf kind"
pub record Mixed (ws : List ℕ) (i : ℕ) : Type 0 where
  pub lower : ℕ
  pub symbol : ℕ
  pub kind : ℕ
  pub other : ℕ
  pub inside : i < length ws
  pub below : lower < i
  pub here : shape (get_or ws i 0) ≡ is_leaf kind symbol
  pub there : shape (get_or ws lower 0) ≡ is_leaf other symbol
  pub leaf : LeafKind kind
  pub leaf_there : LeafKind other
  pub differ : kind ≢ other

-- the lowest faulty word is word i or one below it
pub record BadUpTo (ws : List ℕ) (i : ℕ) : Type 0 where
  pub place : ℕ
  pub not_above : place ≤ i
  pub is : bad_word ws ≡ some place

-- 3: "the first index not below the count"
pub record FirstOutside (count : ℕ) (hs : List ℕ) (i : ℕ) : Type 0 where
  pub inside : i < length hs
  pub outside : count ≤ get_or hs i 0
  pub before : (j : ℕ) → j < i → get_or hs j 0 < count

-- the text after k entries
unfoldable pub after_entries : ℕ → List ℕ → List ℕ
after_entries zero text = text
after_entries (suc k) text = elim (cut_entry text) [ none ↦ [] | some p ↦ after_entries k p.1 ]

-- what can be wrong with name i of a text that must have so many: it is cut or missing; it is not lawful after those before it; or all
-- names are there, and text is left
pub data NameFault (count : ℕ) (text : List ℕ) (i : ℕ) : Type 0 where
  missing : i < count → length (names_in text) ≡ i → NameFault count text i
  unlawful : i < count → i < length (names_in text) → lawful_after (take i (names_in text)) (get_or (names_in text) i []) ≡ false →
      NameFault count text i
  surplus : i ≡ count → after_entries count text ≢ [] → NameFault count text i

-- 4: "place: first faulty name", and "surplus name text after the last name faults at the place equal to the count"
pub record FirstFaulty (count : ℕ) (text : List ℕ) (i : ℕ) : Type 0 where
  pub fault : NameFault count text i
  pub before : (j : ℕ) → j < i → (j < length (names_in text)) × T (lawful_after (take j (names_in text)) (get_or (names_in text) j []))

-- 13: "lowest node that breaks the layout"
pub record LowestNode (names : List (List ℕ)) (count : ℕ) (t : List ℕ) (nodes i : ℕ) : Type 0 where
  pub inside : i < nodes
  pub breaks : lawful_node names count t i ≡ false
  pub before : (j : ℕ) → j < i → T (lawful_node names count t j)
