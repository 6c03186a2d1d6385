-- What the text writer is lent, where it refuses nothing but 12: a well-formed tree, which the written text determines. Assumes nothing.
use Prim.Native.Nat.{ℕ, suc, ◌≤◌, ◌<◌}
use mathlib.Core.Path.{◌≡◌, refl, sym, ap, ◌∙◌, subst}
use mathlib.Core.Bool.{Bool, true, false, ◌&&◌}
use mathlib.Core.Option.{Option, none, some}
use mathlib.Core.List.{List, map}
use native.Mathlib.Omega.{arith}
use lib.Dec.{T, leb}
use lib.ListN.{length, take}
use Rattle.theory.specs.Form.{shape, bad_word}
use Rattle.theory.specs.Term.{Term, NodesFrom, AllNamesHave}
use Rattle.theory.specs.Names.{skipped, GoodName}
use Rattle.theory.specs.NameText.{names_in, last_index, Written, padded, emptied, fitted}
use Rattle.theory.specs.Layout.{nodes_in}
use Rattle.theory.specs.Refusal.{Fault, Sizes, BadFormula, BadAssumption, BadNames, BadGoal, NoRoom, BadTerm, BadFile, fault_number}
use Rattle.theory.specs.Refusal.{Refused, formula_sizes, node_sizes}
use Rattle.theory.specs.WellFormed.{WellNamed}
use Rattle.theory.specs.Text.{term_text}
use Rattle.theory.specs.Writer.{Draft, writer_refusal, drafted, term_depth, text_fitted, not_written, written}
use Rattle.theory.proofs.Passing.{or_none, fault_none, unless_none, not_many}
use Rattle.theory.proofs.LawfulNames.{Lawful, good_names}
use Rattle.theory.proofs.NodesPass.{nodes_pass}
use Rattle.theory.proofs.TreesPass.{forms_pass, terms_pass}
use Rattle.theory.proofs.TermText.{text_determines}

-- the names that a draft's term may use
abbrev pub Allowed : Draft → ℕ → Type 0
Allowed x n = GoodName (skipped (names_in x.text)) (length (names_in x.text)) (suc last_index) n

-- what a draft has that passes 1, 2, 3, 4 and 13
pub record Drafted (x : Draft) : Type 0 where
  pub sizes : T (formula_sizes (length x.words) x.count && node_sizes (length x.terms) x.nodes)
  pub words : bad_word (take x.count x.words) ≡ none
  pub few : x.assumptions ≤ 64
  pub names : Lawful (names_in x.text)
  pub named : length (names_in x.text) ≡ x.assumptions
  pub nodes : NodesFrom x.count 0 (nodes_in x.terms x.nodes)
  pub allowed : AllNamesHave (Allowed x) (nodes_in x.terms x.nodes)
  pub root : x.root < x.nodes

pub draft_passes : (x : Draft) → writer_refusal x ≡ none → Drafted x
unfolding writer_refusal
draft_passes x e =
    let a = or_none _ _ e in
    let b = or_none _ _ a.1 in
    let c = or_none _ _ b.1 in
    let d = or_none _ _ c.1 in
    let n = good_names x.assumptions x.text (fault_none BadNames _ d.0) in
    let t = nodes_pass (names_in x.text) x.count x.terms x.nodes x.root (fault_none BadTerm _ d.1) in
    record {
      sizes = unless_none _ (fault_none Sizes _ a.0);
      words = fault_none BadFormula _ b.0;
      few = not_many x.assumptions (fault_none BadAssumption _ c.0);
      names = n.lawful;
      named = n.count;
      nodes = t.0;
      allowed = t.1;
      root = t.2;
    }

-- its tree is well-formed
pub drafted_named : (x : Draft) → Drafted x → WellNamed (Allowed x) (drafted x)
unfolding drafted
drafted_named x g =
    let ws : List ℕ = take x.count x.words in
    terms_pass (Allowed x) (map shape ws) (forms_pass ws g.words) (nodes_in x.terms x.nodes) g.allowed x.root

-- 0 is no refusal's number
no_refusal : (f : Fault) → fault_number f ≡ 0 → ⊥
unfolding fault_number
no_refusal Sizes e = omega arith
no_refusal BadFormula e = omega arith
no_refusal BadAssumption e = omega arith
no_refusal BadNames e = omega arith
no_refusal BadGoal e = omega arith
no_refusal NoRoom e = omega arith
no_refusal BadTerm e = omega arith
no_refusal BadFile e = omega arith

fitted_part : (text : List ℕ) (room : ℕ) → (fitted text room).number ≡ 0 → (fitted text room).part ≡ text
unfolding fitted emptied
fitted_part text room = go (leb (length text) room)
  where
    holds : Bool → Written
    holds b = elim b [
      | true ↦ record { number = 0; place = 0; part = text; buffer = padded room text }
      | false ↦ emptied 12 room
    ]

    go : (b : Bool) → (holds b).number ≡ 0 → (holds b).part ≡ text
    go true e = refl
    go false e = absurd (let z : 12 ≡ 0 = e in omega arith)

text_part : (names : List (List ℕ)) (t : Term) (room : ℕ) → (text_fitted names t room).number ≡ 0 →
    (text_fitted names t room).part ≡ term_text names t
unfolding text_fitted emptied
text_part names t room = go (leb (term_depth t) 1024)
  where
    holds : Bool → Written
    holds b = elim b [ true ↦ fitted (term_text names t) room | false ↦ emptied 12 room ]

    go : (b : Bool) → (holds b).number ≡ 0 → (holds b).part ≡ term_text names t
    go true e = fitted_part (term_text names t) room e
    go false e = absurd (let z : 12 ≡ 0 = e in omega arith)

-- number 0: nothing is refused, and the part is the term's text
pub written_text : (x : Draft) → (written x).number ≡ 0 →
    (writer_refusal x ≡ none) × ((written x).part ≡ term_text (names_in x.text) (drafted x))
unfolding written not_written
written_text x = go (writer_refusal x)
  where
    holds : Option Refused → Written
    holds o = elim o [ none ↦ text_fitted (names_in x.text) (drafted x) (length x.buffer) | some r ↦ not_written x r ]

    go : (o : Option Refused) → (holds o).number ≡ 0 → (o ≡ none) × ((holds o).part ≡ term_text (names_in x.text) (drafted x))
    go none e = (refl, text_part (names_in x.text) (drafted x) (length x.buffer) e)
    go (some r) e = absurd (no_refusal r.fault e)

-- terms over the same names whose written texts are equal are equal
pub written_determines : (x y : Draft) → x.text ≡ y.text → (written x).number ≡ 0 → (written y).number ≡ 0 →
    (written x).part ≡ (written y).part → drafted x ≡ drafted y
written_determines x y n a b e =
    let g = draft_passes x (written_text x a).0 in
    let h = draft_passes y (written_text y b).0 in
    let back : WellNamed (Allowed x) (drafted y) =
    subst (λ (t : List ℕ). WellNamed (GoodName (skipped (names_in t)) (length (names_in t)) (suc last_index)) (drafted y)) (sym n)
    (drafted_named y h) in
    text_determines (names_in x.text) (suc last_index) (subst (λ (k : ℕ). k ≤ 64) (sym g.named) g.few) g.names.distinct
    (λ i l. subst T (sym (g.names.spelled i l)) tt) (drafted x) (drafted y) (drafted_named x g) back
    (sym (written_text x a).1 ∙ e ∙ (written_text y b).1 ∙ ap (λ (t : List ℕ). term_text (names_in t) (drafted y)) (sym n))
