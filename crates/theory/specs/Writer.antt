-- The call that writes the house text of a term: what it is lent, its refusals, and what its buffer holds afterwards. Assumes nothing.
use Rattle.std.specs.Prelude.{ℕ, suc, true, false, ◌&&◌, List, [], map, length, take, leb}
use Rattle.std.proofs.Math.Option.{Option, none, some}
use Rattle.theory.specs.Form.{Form, top, bot, leaf, and, or, imp, shape, bad_word}
use Rattle.theory.specs.Term.{Term, Ident, Pair, Fst, Snd, Fn, App, Inl, Inr, Case, Abort, Asc, Unit', term}
use Rattle.theory.specs.NameText.{names_in, bad_name, Written, emptied, fitted}
use Rattle.theory.specs.Layout.{nodes_in, bad_term}
use Rattle.theory.specs.Refusal.{Sizes, BadFormula, BadAssumption, BadNames, BadTerm, Refused, fault_at, or_else, unless, fault_number}
use Rattle.theory.specs.Refusal.{formula_sizes, node_sizes, too_many}
use Rattle.theory.specs.Call.{Claim, called}
use Rattle.theory.specs.Text.{term_text}

unfoldable pub larger : ℕ → ℕ → ℕ
larger m n = elim (leb m n) [ true ↦ n | false ↦ m ]

-- the nodes on the longest path from the root, the root among them
unfoldable pub form_depth : Form → ℕ
form_depth top = 1
form_depth bot = 1
form_depth (leaf k s) = 1
form_depth (and A B) = suc (larger (form_depth A) (form_depth B))
form_depth (or A B) = suc (larger (form_depth A) (form_depth B))
form_depth (imp A B) = suc (larger (form_depth A) (form_depth B))

-- "ascribed formulas included"
unfoldable pub term_depth : Term → ℕ
term_depth (Ident x) = 1
term_depth (Pair s t) = suc (larger (term_depth s) (term_depth t))
term_depth (Fst t) = suc (term_depth t)
term_depth (Snd t) = suc (term_depth t)
term_depth (Fn x t) = suc (term_depth t)
term_depth (App s t) = suc (larger (term_depth s) (term_depth t))
term_depth (Inl t) = suc (term_depth t)
term_depth (Inr t) = suc (term_depth t)
term_depth (Case h x s y t) = suc (larger (term_depth h) (larger (term_depth s) (term_depth t)))
term_depth (Abort t) = suc (term_depth t)
term_depth (Asc t A) = suc (larger (term_depth t) (form_depth A))
term_depth Unit' = 1

-- what the writer is lent: formula words and how many are given, the number of assumptions and their names' text, term numbers, how many
-- nodes are given, the root, and a buffer
pub record Draft : Type 0 where
  pub words : List ℕ
  pub count : ℕ
  pub assumptions : ℕ
  pub text : List ℕ
  pub terms : List ℕ
  pub nodes : ℕ
  pub root : ℕ
  pub buffer : List ℕ

-- what a proved call leaves, handed to the writer with a buffer
unfoldable pub draft_after : Claim → ℕ → ℕ → ℕ → List ℕ → Draft
draft_after x root formulas nodes buffer = record {
  words = (called x).words;
  count = formulas;
  assumptions = length x.assumed;
  text = x.text;
  terms = (called x).terms;
  nodes = nodes;
  root = root;
  buffer = buffer;
}

-- "The text writer tests 1, 2, 3 (the count alone), 4, 13, 12 in that order"
unfoldable pub writer_refusal : Draft → Option Refused
writer_refusal x =
    or_else (fault_at Sizes (unless (formula_sizes (length x.words) x.count && node_sizes (length x.terms) x.nodes)))
    (or_else (fault_at BadFormula (bad_word (take x.count x.words)))
    (or_else (fault_at BadAssumption (too_many x.assumptions))
    (or_else (fault_at BadNames (bad_name x.assumptions x.text))
    (fault_at BadTerm (bad_term (names_in x.text) x.count x.terms x.nodes x.root)))))

-- the tree of the term that is written
unfoldable pub drafted : Draft → Term
drafted x = term (map shape (take x.count x.words)) (nodes_in x.terms x.nodes) x.root

-- 12: "text longer than the lent buffer, or over 1,024 nodes on a path from the root"
unfoldable pub text_fitted : List (List ℕ) → Term → ℕ → Written
text_fitted names t room =
    elim (leb (term_depth t) 1024) [ true ↦ fitted (term_text names t) room | false ↦ emptied 12 room ]

-- "13 changes nothing and returns its place", and so do 1 to 4
unfoldable pub not_written : Draft → Refused → Written
not_written x r = record { number = fault_number r.fault; place = r.place; part = []; buffer = x.buffer }

-- the call
unfoldable pub written : Draft → Written
written x =
    elim (writer_refusal x) [
      | none ↦ text_fitted (names_in x.text) (drafted x) (length x.buffer)
      | some r ↦ not_written x r
    ]
