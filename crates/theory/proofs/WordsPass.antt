-- The words that a search leaves pass 2. Assumes nothing.
use Prim.Native.Nat.{ℕ, suc, ◌+◌, ◌≤◌, ◌<◌}
use mathlib.Core.Path.{◌≡◌, sym, ap, ◌∙◌, subst}
use mathlib.Core.Option.{none}
use mathlib.Core.List.{List, [], ◌∷◌, ◌++◌, map, map-append}
use native.Mathlib.Nat.{le_trans, zero-add}
use native.Mathlib.Omega.{arith}
use lib.Dec.{leb→le, T}
use lib.ListN.{length, length-append, length-map}
use Rattle.theory.specs.Form.{Shape, Book, shape, word, Below, Good, GoodFrom, bad_word}
use Rattle.theory.specs.Meter.{Bound, up_to, fits, Limits, State, found, Within}
use Rattle.theory.specs.Search.{given, prove}
use Rattle.theory.specs.Written.{AllIn}
use Rattle.theory.proofs.Forms.{good_rest}
use Rattle.theory.proofs.Words.{decodes, encodes, Packs, AllPack, Plain, AllPlain, words_pass, passes_append}
use Rattle.theory.proofs.Alike.{Implies, implies, AllImply}
use Rattle.theory.proofs.Room.{found_kept}
use Rattle.theory.proofs.Main.{grown}

-- implications in a good book of at most 16,384 words: their fields are indices, so they have 14 bits
implications_pack : (n : ℕ) (vs : Book) → AllImply vs → GoodFrom n vs → n + length vs ≤ 16384 → AllPack vs
implications_pack n [] i g h = tt
implications_pack n (v ∷ vs) i g h = (one v i.0 g.0, implications_pack (suc n) vs i.1 g.1 (omega arith))
  where
    one : (v : Shape) → Implies v → Below n v → Packs v
    one v implies b = (omega (arith, b.0), omega (arith, b.1))

-- an implication is no leaf
implications_plain : (vs : Book) → AllImply vs → AllPlain vs
implications_plain [] i = tt
implications_plain (v ∷ vs) i = (one v i.0, implications_plain vs i.1)
  where
    one : (v : Shape) → Implies v → Plain v
    one v implies = tt

-- implications after the shapes of words
pub later_pack : (ws : List ℕ) (vs : Book) → AllImply vs → Good (map shape ws ++ vs) → length (map shape ws ++ vs) ≤ 16384 →
    GoodFrom (length ws) vs × AllPack vs
later_pack ws vs i g h =
    let tail : GoodFrom (length ws) vs =
    subst (λ (n : ℕ). GoodFrom n vs) (zero-add (length (map shape ws)) ∙ length-map ws shape) (good_rest (map shape ws) 0 vs g) in
    let few : length ws + length vs ≤ 16384 = omega (arith, h, length-append (map shape ws) vs, length-map ws shape) in
    (tail, implications_pack (length ws) vs i tail few)

-- words that pass, and a good book that has implications after their shapes
appended_pass : (ws : List ℕ) (vs : Book) → bad_word ws ≡ none → AllImply vs → Good (map shape ws ++ vs) →
    length (map shape ws ++ vs) ≤ 16384 → bad_word (map word (map shape ws ++ vs)) ≡ none
unfolding bad_word
appended_pass ws vs p i g h =
    let r = later_pack ws vs i g h in
    ap bad_word (map-append word (map shape ws) vs ∙ ap (λ (xs : List ℕ). xs ++ map word vs) (encodes ws p))
    ∙ passes_append [] ws (map word vs) p (words_pass ws vs r.1 (implications_plain vs i) r.0)

-- the words of what is found pass, where the given ones do and at most 16,384 are allowed
pub found_words_pass : (L : Limits) (names : List (List ℕ)) (d : ℕ) (ws hs : List ℕ) (g : ℕ) → bad_word ws ≡ none →
    AllIn (map shape ws) hs → g < length (map shape ws) → Within L (given (map shape ws)) →
    (m : ℕ) → L.formulas ≡ up_to m → m ≤ 16384 → (t : ℕ) (s : State) → prove L names d (map shape ws) hs g ≡ found t s →
    bad_word (map word s.words) ≡ none
unfolding fits
found_words_pass L names d ws hs g p ins in_g start m e few t s f =
    let k = found_kept L (map shape ws) names d hs g start t s f in
    let r = grown L names d (map shape ws) hs g (decodes ws p) ins in_g t s f in
    let n : length s.words ≤ m =
    leb→le (length s.words) m (subst (λ (b : Bound). T (fits b (length s.words))) e k.within.formulas) in
    subst (λ (b : Book). bad_word (map word b) ≡ none) (sym k.is)
    (appended_pass ws k.more p k.imply (subst Good k.is r.1)
    (subst (λ (b : Book). length b ≤ 16384) k.is (le_trans n few)))
