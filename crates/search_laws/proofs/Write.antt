-- Nodes written at the fill are the next nodes, and implications written at the fill the next words. Assumes nothing.
use Prim.Native.Nat.{ℕ, suc, ◌+◌, ◌*◌, ◌<◌, ◌≤◌}
use mathlib.Core.Path.{◌≡◌, refl, sym, ap, ap₂, ◌∙◌, subst}
use mathlib.Core.List.{List, [], ◌∷◌, ◌++◌, append_assoc, append-nil}
use native.Mathlib.Omega.{arith}
use native.Mathlib.Numerals.{add-one}
use lib.ListN.{length, get_or, set, take, length-append}
use lib.Seq.{get_or-set_same, length-take-le}
use lib.Dec.{T}
use borrow.Author.Count.{below_more}
use Rattle.theory.specs.Form.{Shape, is_imp, shape, Book, word, good_word}
use Rattle.theory.specs.Term.{Piece, Rule, Node, node, by, six_of}
use Rattle.theory.specs.Layout.{node_width, in_numbers}
use Rattle.theory.proofs.Words.{shape_word, plain_passes}
use Rattle.proof_term.specs.Put.{put_node}
use Rattle.proof_term.proofs.PutLaws.{put_length, put_lower}
use Rattle.proof_term.proofs.NodeLaws.{Fitting, put_grows}
use Rattle.search_laws.specs.Tables.{upto}
use Rattle.search_laws.specs.Reading.{shape_at, book, put_nodes}
use Rattle.search_laws.specs.Keeping.{Same, Laid}
use Rattle.search_laws.proofs.Same.{same_refl, same_trans, same_less, same_set, book_same, laid_same}

-- 16 bits hold each number of the nodes
abbrev pub AllFit : List Piece → Type 0
AllFit [] = Unit {0}
AllFit (p ∷ ps) = Fitting p × AllFit ps

pub put_same : (t : List ℕ) (n : ℕ) (ps : List Piece) → Same 0 (n * node_width) t (put_nodes t n ps)
unfolding put_nodes
put_same t n [] = same_refl
put_same t n (p ∷ ps) =
    same_trans (record { long = put_length t n (six_of p); at = put_lower t n (six_of p) })
    (same_less (omega arith) (put_same (put_node t n (six_of p)) (suc n) ps))

-- the numbers below the fill grow by those of the nodes
pub put_more : (r : Rule) (t : List ℕ) (n : ℕ) (ps : List Piece) (ns : List Node) → AllFit ps → (n + length ps) * node_width ≤ length t →
    in_numbers ns ≡ take (n * node_width) t → in_numbers (ns ++ by r ps) ≡ take ((n + length ps) * node_width) (put_nodes t n ps)
unfolding put_nodes
put_more r t n [] ns s h e =
    ap in_numbers (append-nil ns) ∙ e ∙ ap (λ (k : ℕ). take (k * node_width) t) (let p : n ≡ n + 0 = omega arith in p)
put_more r t n (p ∷ ps) ns s h e =
    ap in_numbers (sym (append_assoc ns (node r p ∷ []) (by r ps)))
    ∙ put_more r (put_node t n (six_of p)) (suc n) ps (ns ++ (node r p ∷ [])) s.1 (omega (arith, put_length t n (six_of p)))
    (sym (put_grows t n p (omega arith) s.0 ns r (sym e)))
    ∙ ap (λ (k : ℕ). take (k * node_width) (put_nodes (put_node t n (six_of p)) (suc n) ps))
    (let e : suc n + length ps ≡ n + suc (length ps) = omega arith in e)

-- the words grew by ws at the fill nf
pub record Words (f : List ℕ) (nf : ℕ) (ws : Book) (f1 : List ℕ) : Type 0 where
  pub same : Same 0 nf f f1
  pub books : book f1 (nf + length ws) ≡ book f nf ++ ws
  pub laid : Laid f nf → Laid f1 (nf + length ws)

pub words_none : {f : List ℕ} {nf : ℕ} → Words f nf [] f
words_none {f} {nf} =
    let e : nf ≡ nf + 0 = omega arith in
    record { same = same_refl; books = ap (book f) (sym e) ∙ sym (append-nil (book f nf)); laid = subst (λ (n : ℕ). Laid f n) e }

book_suc : (f : List ℕ) (n : ℕ) → book f (suc n) ≡ book f n ++ (shape_at f n ∷ [])
unfolding book upto
book_suc f n = refl

-- an implication written at the fill
pub words_imp : {f : List ℕ} {nf a b : ℕ} {f1 : List ℕ} → f1 ≡ set f nf (word (is_imp a b)) → a < nf → b < nf → nf < length f →
    nf < 16384 → Words f nf (is_imp a b ∷ []) f1
unfolding shape_at
words_imp {f} {nf} {a} {b} {f1} e ha hb room few =
    let w : ℕ = word (is_imp a b) in
    let same : Same 0 nf f f1 = subst (Same 0 nf f) (sym e) (same_set f nf w (omega arith)) in
    let at : get_or f1 nf 0 ≡ w = ap (λ (g : List ℕ). get_or g nf 0) e ∙ get_or-set_same f nf w 0 room in
    let good : T (good_word (take nf f1) (get_or f1 nf 0)) =
    let n : length (take nf f1) ≡ nf = length-take-le nf f1 (omega (arith, same.long)) in
    subst (λ (n : ℕ). T (good_word (take nf f1) n)) (sym at)
    (plain_passes (take nf f1) (is_imp a b) (omega arith, omega arith) tt (omega arith, omega arith)) in
    record {
      same = same;
      books = ap (book f1) (add-one nf) ∙ book_suc f1 nf
          ∙ ap₂ (λ (ws : Book) (sh : Shape). ws ++ (sh ∷ [])) (book_same same)
          (ap shape at ∙ shape_word (is_imp a b) (omega arith, omega arith));
      laid = λ ly. below_more (λ (i : ℕ). T (good_word (take i f1) (get_or f1 i 0))) nf (laid_same same ly) good;
    }

-- one after the other
pub words_then : {f f1 f2 : List ℕ} {nf : ℕ} {ws vs : Book} → Words f nf ws f1 → Words f1 (nf + length ws) vs f2 → Words f nf (ws ++ vs) f2
words_then {f} {f1} {f2} {nf} {ws} {vs} x y =
    let e : nf + length ws + length vs ≡ nf + length (ws ++ vs) = omega (arith, length-append ws vs) in
    record {
      same = same_trans x.same (same_less (omega arith) y.same);
      books = ap (book f2) (sym e) ∙ y.books ∙ ap (λ (b : Book). b ++ vs) x.books ∙ append_assoc (book f nf) ws vs;
      laid = λ ly. subst (λ (n : ℕ). Laid f2 n) e (y.laid (x.laid ly));
    }
