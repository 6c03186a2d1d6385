-- The start beside the Rust's, and so the whole: verdict and named term are the Rust's, or it panics past index 363. Assumes nothing.
use Prim.Native.Nat.{ℕ, suc, ◌+◌, ◌≤◌, ◌<◌, zero-le, suc-le-suc}
use mathlib.Core.Path.{◌≡◌, refl, sym, ap, ap₂, ◌∙◌, subst}
use mathlib.Core.Bool.{Bool, true, false}
use mathlib.Core.Logic.{◌≢◌}
use mathlib.Core.List.{List, [], ◌∷◌, map, append-nil}
use native.Mathlib.Nat.{zero-add, suc_inj}
use native.Mathlib.Omega.{arith}
use lib.ListN.{length, get_or}
use lib.Dec.{leb}
use borrow.Author.Tests.{leb-true, leb-false}
use Rattle.theory.specs.Form.{Form, Book, form, Good}
use Rattle.theory.specs.Term.{ident}
use Rattle.theory.specs.Names.{skipped}
use Rattle.theory.specs.Meter.{limited, Limits, Entry, State, Answer, found, failed, short, unfinished, by_right}
use Rattle.theory.specs.Log.{IsShort, is_short}
use Rattle.theory.specs.Search.{entry, run, idents, pushed, first, given, whole, prove}
use Rattle.theory.specs.Written.{AllIn, Answers}
use Rattle.theory.specs.RustTerm as Rust
use Rattle.theory.specs.RustTerm.{TypeJudgment, judgment}
use Rattle.theory.specs.RustProver.{Returned, overflow, panicked, unended, called, assumed, prove_with_assumptions}
use Rattle.theory.specs.RustCall.{paired, Returns, unless_past, in_rust}
use Rattle.theory.proofs.Forms.{At, at_form}
use Rattle.theory.proofs.Charges.{noded, at_nodes}
use Rattle.theory.proofs.Depth.{one_reading}
use Rattle.theory.proofs.Derive.{Sane}
use Rattle.theory.proofs.Main.{idents_length, idents_at, idents_in}
use Rattle.theory.proofs.NamesApart.{given_bytes}
use Rattle.theory.proofs.RustSame.{Follows, term_at, Stands, stands_ident, Mirror, mirror_none, mirror_more, SameFrom, same_found}
use Rattle.theory.proofs.RustSame.{same_failed, same_short, same_unfinished}
use Rattle.theory.proofs.RustSearch.{run_same}

-- the Rust's loop over the assumptions pushes them on the ordered context
onto : List (List ℕ × Form) → List TypeJudgment → List TypeJudgment
onto [] O = O
onto (a ∷ as') O = onto as' (judgment a.1 (Rust.Ident a.0) ∷ O)

assumed_onto : (as' : List (List ℕ × Form)) (O : List TypeJudgment) (G : Form) →
    assumed as' (record { unordered_ctx = []; ordered_ctx = O; goal = G }) ≡ record
    { unordered_ctx = []; ordered_ctx = onto as' O; goal = G }
unfolding assumed onto
assumed_onto [] O G = refl
assumed_onto (a ∷ as') O G = assumed_onto as' (judgment a.1 (Rust.Ident a.0) ∷ O) G

-- its forbidden names are the assumptions'
names_of : (ns : List (List ℕ)) (As : List Form) → length ns ≡ length As → map (λ (a : List ℕ × Form). a.0) (paired ns As) ≡ ns
unfolding paired
names_of [] As p = refl
names_of (n ∷ ns) [] p = absurd (let z : ⊥ = omega arith in z)
names_of (n ∷ ns) (A ∷ As) p = ap (λ (ms : List (List ℕ)). n ∷ ms) (names_of ns As (suc_inj p))

-- and no word is reserved
skipped_names : (names : List (List ℕ)) → skipped names ≡ names
unfolding skipped
skipped_names names = append-nil names

map_length : (ws : Book) (hs : List ℕ) → length (map (form ws) hs) ≡ length hs
map_length ws [] = refl
map_length ws (a ∷ hs) = ap suc (map_length ws hs)

-- what the Rust comes to from a new generator on
past : {u : ℕ} {r r₀ : Returned} → Follows 0 u r r₀ → r ≡ unless_past u r₀
unfolding unless_past
past {u} {r} {r₀} f = go (leb u 364) refl
  where
    go : (b : Bool) → leb u 364 ≡ b → r ≡ elim b as (λ z. Returned) [ true ↦ r₀ | false ↦ panicked overflow ]
    go true p = f.on (leb-true u 364 p)
    go false p = f.over zero-le (leb-false u 364 p)

module _ (L : Limits) (names : List (List ℕ)) (ws : Book) (hs : List ℕ) (g : ℕ) (good : Good ws) (ins : AllIn ws hs)
    (in_g : g < length ws) (as_many : length names ≡ length hs) (few : length hs ≤ 64) where
  -- the state after the assumptions' Idents
  start : State
  start = noded (given ws) (idents 0 hs)

  sane₀ : Sane start
  unfolding start given
  sane₀ = record { words = good; nodes = idents_in (length ws) hs 0 0 }

  -- assumption j stands at node j under its own name
  stands₀ : (j : ℕ) → j < length hs → Stands names start j (Rust.Ident (get_or names j []))
  unfolding start given
  stands₀ j h = stands_ident names sane₀
      (record {
        inside = omega (arith, idents_length hs 0);
        node = idents_at hs 0 j h ∙ ap ident (zero-add j);
      })
      (given_bytes names (omega arith) j (omega arith))

  at₀ : (k : ℕ) → k < length ws → At start.words k (form ws k)
  unfolding start given
  at₀ k h = at_form ws k h

  -- the pushed records beside the pushed assumptions
  pushed_mirror : (ns : List (List ℕ)) (hs' : List ℕ) (i : ℕ) {os : List Entry} {O : List TypeJudgment} → AllIn ws hs' →
      length ns ≡ length hs' → ((j : ℕ) → j < length hs' → Stands names start (i + j) (Rust.Ident (get_or ns j []))) →
      Mirror names start os O → Mirror names start (pushed i hs' os) (onto (paired ns (map (form ws) hs')) O)
  unfolding pushed entry onto paired
  pushed_mirror [] [] i a p f r = r
  pushed_mirror [] (h ∷ hs') i a p f r = absurd (let z : ⊥ = omega arith in z)
  pushed_mirror (n ∷ ns) [] i a p f r = absurd (let z : ⊥ = omega arith in z)
  pushed_mirror (n ∷ ns) (h ∷ hs') i a p f r =
      pushed_mirror ns hs' (suc i) a.1 (suc_inj p)
      (λ j l. subst (λ (k : ℕ). Stands names start k (Rust.Ident (get_or ns j []))) (let e : i + suc j ≡ suc i + j = omega arith in e)
      (f (suc j) (suc-le-suc l)))
      (mirror_more (record {
        formula = at₀ h a.0;
        proof = subst (λ (k : ℕ). Stands names start k (Rust.Ident n)) (let e : i + 0 ≡ i = omega arith in e) (f 0 (suc-le-suc zero-le));
      }) r)

  -- what the Rust is asked
  abbrev asks : ℕ → Returned
  asks d = prove_with_assumptions d (form ws g) (paired names (map (form ws) hs))

  same_at : (d : ℕ) → SameFrom names start 0 (prove L names d ws hs g) (asks d)
  unfolding prove whole given first prove_with_assumptions start
  same_at d =
      let As : List Form = map (form ws) hs in
      let n : length names ≡ length As = as_many ∙ sym (map_length ws hs) in
      at_nodes L (λ a b. SameFrom names start 0 a (asks d)) (idents 0 hs) (given ws) _
      (λ s. run (limited L) (skipped names) d by_right (first hs g) s) same_short
      (λ p. subst (λ (r : Returned). SameFrom names start 0 (run (limited L) (skipped names) d by_right (first hs g) start) r)
      (sym (ap₂ (λ (ns : List (List ℕ)) (Q : Rust.Sequent). called ns d by_right Q 0)
      (names_of names As n ∙ sym (skipped_names names)) (assumed_onto (paired names As) [] (form ws g))))
      (run_same L (skipped names) names d by_right (first hs g) start
      (record { unordered_ctx = []; ordered_ctx = onto (paired names As) []; goal = form ws g }) sane₀
      (record {
        unordered = mirror_none;
        ordered = pushed_mirror names hs 0 ins as_many
            (λ j h. subst (λ (k : ℕ). Stands names start k (Rust.Ident (get_or names j []))) (sym (zero-add j)) (stands₀ j h)) mirror_none;
        goal = at_form ws g in_g;
      }) tt))

  -- at every depth from which on the search ends
  settled : {a : Answer} (x : Answers L names ws hs g a) (d : ℕ) → x.depth ≤ d → prove L names d ws hs g ≡ a
  settled x d h = sym (one_reading L names x.depth d h ws hs g (λ p. x.finished (sym x.is ∙ p))) ∙ x.is

  -- an answer that is no shortage is what the Rust returns
  pub search_same : {a : Answer} → Answers L names ws hs g a → ¬ IsShort a →
      Returns (form ws g) (paired names (map (form ws) hs)) (in_rust names a)
  unfolding in_rust term_at
  search_same {a} x n = record {
    depth = x.depth;
    is = λ d h. go a n x.finished (subst (λ (b : Answer). SameFrom names start 0 b (asks d)) (settled x d h) (same_at d));
  }
    where
      go : (b : Answer) → ¬ IsShort b → b ≢ unfinished → {r : Returned} → SameFrom names start 0 b r → r ≡ in_rust names b
      go (found t s) n f (same_found g v i p) = past p
      go (failed u m K) n f (same_failed v p) = past p
      go (short l m) n f same_short = absurd (n is_short)
      go unfinished n f same_unfinished = absurd (f refl)

-- the Rust returns one thing only
pub returns_one : {prop : Form} {as' : List (List ℕ × Form)} {r r' : Returned} → Returns prop as' r → Returns prop as' r' → r ≡ r'
returns_one x y =
    sym (x.is (x.depth + y.depth) (omega arith)) ∙ y.is (x.depth + y.depth) (omega arith)

-- an answer that is no shortage and is finished is a return
unless_ends : (u : ℕ) (r : Returned) → r ≢ unended → unless_past u r ≢ unended
unfolding unless_past
unless_ends u r n = go (leb u 364)
  where
    go : (b : Bool) → elim b as (λ z. Returned) [ true ↦ r | false ↦ panicked overflow ] ≢ unended
    go true p = n p
    go false p = let z : ◌≡◌ {A = ℕ} 0 1 = cc in omega arith

pub in_rust_ends : (names : List (List ℕ)) (a : Answer) → ¬ IsShort a → a ≢ unfinished → in_rust names a ≢ unended
unfolding in_rust
in_rust_ends names (found t s) n f = unless_ends s.used _ (λ p. let z : ◌≡◌ {A = ℕ} 0 1 = cc in omega arith)
in_rust_ends names (failed u m K) n f = unless_ends u _ (λ p. let z : ◌≡◌ {A = ℕ} 0 1 = cc in omega arith)
in_rust_ends names (short l m) n f = absurd (n is_short)
in_rust_ends names unfinished n f = absurd (f refl)
